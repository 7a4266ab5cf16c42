-- What a hand-out lists next is what the model marks next. Assumes nothing.
use Rattle.std.specs.Prelude.{Some}
use Prim.Native.Nat.{ℕ, zero, suc, ◌*◌, ◌/◌, ◌%◌, ◌≤◌, ◌<◌}
use mathlib.Core.Path.{◌≡◌, refl, sym, ap, subst, ◌∙◌}
use mathlib.Core.Logic.{◌⊎◌, inl, inr, ⊎_elim}
use mathlib.Core.Bool.{Bool, true, false, ◌&&◌, ◌||◌, not}
use mathlib.Core.List.Memᴰ
use mathlib.Core.List.{List, [], ◌∷◌, ◌++◌, Memᴰ}
use native.Mathlib.Omega.{arith}
use native.Mathlib.Decide.{ℕ_discrete}
use lib.Dec.{leb, eqb}
use lib.ListN.{get_or}
use Rattle.paper.specs.Logic.{implies}
use Rattle.paper.specs.Instance.{instance_ok}
use Rattle.paper.specs.Deps.{covers}
use Rattle.paper.specs.declared.Record.{Record}
use Rattle.rules.specs.Seen.{Records}
use Rattle.rules.specs.Step.{is_committed}
use Rattle.rules.specs.Order.{instance, everywhere, covers_in, reaches_in, reaches, waits_for, is_settled, is_marked, candidate, next_out}
use Rattle.rules.specs.Order.{marked as with-mark}
use Rattle.safety.specs.Run.{State, replaced, marked}
use Rattle.reach.proofs.Tests.{tf, bool, and_l, and_r, and_in, not-not, not-true, or_cases, eqb-eq, eqb_same, eqb-false, leb-le, leb-in}
use Rattle.safety.proofs.Hist.{commit_vote}
use Rattle.safety.proofs.Sys.{upd, upd-cases}
use Rattle.safety.proofs.Value.{Value}
use Rattle.safety.proofs.Star.{Star, here, on, star-trans}
use Rattle.safety.proofs.Older.{le_refl}
use Rattle.safety.proofs.Inv.HandOut.{Ready, m-mark}
use Rattle.safety.proofs.Rel.{status_number, status-eq, Rel}
use Rattle.safety.proofs.Case.{Case, copies, code, code-owner, code-number, Cover, range, in-range}
use Rattle.safety.proofs.Sim.{newest, newest-more, at-saved, Tie, Next}
use Rattle.safety.proofs.Instances.{at_first}
use Rattle.reach.proofs.Instances.{every-at, every_in}
use Rattle.reach.proofs.Reach.{InRange, inrange, hop-of, reach-one, reach-on}

module _ {C : Case} {x : State} (tie : Tie C x) (c : ℕ) (lc : c < copies C) where
  open C use {F, s, fit}
  open tie use {G, M, reach, rels, msgs, none, mark-in, in-mark, listed}

  abbrev N : ℕ
  N = copies C

  abbrev t : Records
  t = x.tables c

  abbrev Edge : ℕ → ℕ → Type 0
  Edge b d = Cover C ((G b).now c).value d

  abbrev In : ℕ → Type 0
  In J = InRange N s t (J % 8) (J / 8)

  abbrev Found : ℕ → ℕ → Bool
  Found J K = reaches N s t (J % 8) (J / 8) (K % 8) (K / 8)

  deps-at : (J : ℕ) → ((G J).now c).value.deps ≡ (t (J % 8) (J / 8)).vote.deps
  deps-at J = ap (λ (v : Value). v.deps) (rels c J lc).value

  -- an edge of the model to another instance is one of the table, and the other way round
  edge_in : (J K : ℕ) → (J ≡ K → ⊥) → Edge J K → covers_in N s t (J % 8) (J / 8) (K % 8) (K / 8) ≡ true
  unfolding covers_in covers
  edge_in J K ne e = and_in _ _ (in-range N s (K % 8) (K / 8) e.owner e.first e.last)
      (and_in _ _ (and_in (not (eqb (K % 8) (J % 8) && eqb (K / 8) (J / 8))) _ (rw apart refl) (leb-in 1 (K / 8) e.first))
      (leb-in (K / 8) (get_or (t (J % 8) (J / 8)).vote.deps (K % 8) 0) (rw (← (deps-at J)) e.far)))
    where
      apart : (eqb (K % 8) (J % 8) && eqb (K / 8) (J / 8)) ≡ false
      apart = not-true (eqb (K % 8) (J % 8) && eqb (K / 8) (J / 8)) (λ h. ne (let a : K % 8 ≡ J % 8 = eqb-eq _ _ (and_l _ (eqb (K / 8) (J / 8)) h) in let b : K / 8 ≡ J / 8 = eqb-eq _ _ (and_r (eqb (K % 8) (J % 8)) _ h) in omega arith))

  edge-out : (J o j : ℕ) → covers_in N s t (J % 8) (J / 8) o j ≡ true → Edge J (code o j) × (o < N)
  unfolding covers_in covers
  edge-out J o j h =
      let (a, b, d) = range N s o j (and_l _ (covers (J % 8) (J / 8) (t (J % 8) (J / 8)).vote.deps o j) h) in
      let f : j ≤ get_or (t (J % 8) (J / 8)).vote.deps o 0 = leb-le j (get_or (t (J % 8) (J / 8)).vote.deps o 0) (and_r (not (eqb o (J % 8) && eqb j (J / 8)) && leb 1 j) _ (and_r (instance_ok N s o j) _ h)) in
      (record { owner = rw (code-owner o j (omega arith)) a; first = rw (code-number o j (omega arith)) b; last = rw (code-number o j (omega arith)) d; far = rw (code-owner o j (omega arith), code-number o j (omega arith), deps-at J) f }, a)

  in-of : (J K : ℕ) → Edge J K → In K
  in-of J K e = inrange e.owner e.first e.last

  -- the search finds only what is reached
  found-star : (f J o j : ℕ) → reaches_in f N s t (J % 8) (J / 8) o j ≡ true → Star Edge J (code o j)
  unfolding reaches_in
  found-star zero J o j h = on here (edge-out J o j h).0
  found-star (suc f) J o j h = ⊎_elim (λ e. on here (edge-out J o j e).0)
      (λ (q, i, a, e, y). let (g, lq) = edge-out J q i e in
      star-trans (on here g) (found-star f (code q i) o j (rw (code-owner q i (omega arith), code-number q i (omega arith)) y)))
      (hop-of N s t f (J % 8) (J / 8) o j h)

  pub found-reach : (J K : ℕ) → Found J K ≡ true → Star Edge J K
  unfolding reaches
  found-reach J K h = let e : code (K % 8) (K / 8) ≡ K = omega arith in rw e at (found-star (N * s) J (K % 8) (K / 8) h)

  star-in : (I K : ℕ) → In I → Star Edge I K → In K
  star-in I K i here = i
  star-in I K i (on {b = b} p e) = in-of b K e

  -- and all of it
  found_back : (I b K : ℕ) → In I → Star Edge I b → (b ≡ K) ⊎ ((Found b K ≡ true) × In b) → (I ≡ K) ⊎ (Found I K ≡ true)
  found_back I b K i here (inl e) = inl e
  found_back I b K i here (inr e) = inr e.0
  found_back I b K i (on {b = d} p e) h = found_back I d K i p (go (ℕ_discrete d b) h)
    where
      ind : In d
      ind = star-in I d i p

      go : Dec (d ≡ b) → (b ≡ K) ⊎ ((Found b K ≡ true) × In b) → (d ≡ K) ⊎ ((Found d K ≡ true) × In d)
      go (yes q) (inl z) = inl (q ∙ z)
      go (yes q) (inr z) = inr (rw q z.0, ind)
      go (no q) (inl z) = inr (reach-one N s t (d % 8) (d / 8) (K % 8) (K / 8) (edge_in d K (λ w. q (w ∙ sym z)) (rw z at e)), ind)
      go (no q) (inr z) = inr (reach-on N s t (d % 8) (d / 8) (b % 8) (b / 8) (K % 8) (K / 8) ind z.1 (edge_in d b q e) z.0, ind)

  pub reach-found : (I K : ℕ) → In I → Star Edge I K → (I ≡ K) ⊎ (Found I K ≡ true)
  reach-found I K i p = found_back I K K i p (inl refl)

  committed-in : (K : ℕ) → is_committed (t (K % 8) (K / 8)) ≡ true → ((G K).now c).status ≡ commit_vote
  committed-in K e = status-eq ((G K).now c).status commit_vote ((rels c K lc).status ∙ eqb-eq _ 4 e)

  in-committed : (K : ℕ) → ((G K).now c).status ≡ commit_vote → is_committed (t (K % 8) (K / 8)) ≡ true
  in-committed K e = eqb_same (t (K % 8) (K / 8)).vote.status 4 (sym (rels c K lc).status ∙ ap status_number e)

  -- a committed record lies in range
  committed-range : (K : ℕ) → ((G K).now c).status ≡ commit_vote → In K
  committed-range K e = go (bool (instance_ok N s (K % 8) (K / 8)))
    where
      go : (instance_ok N s (K % 8) (K / 8) ≡ true) ⊎ (instance_ok N s (K % 8) (K / 8) ≡ false) → In K
      go (inl h) = let (a, b, d) = range N s (K % 8) (K / 8) h in inrange a b d
      go (inr h) = absurd (omega (arith, (rels c K lc).status, ap status_number e, none c (K % 8) (K / 8) (λ z. tf (instance_ok N s (K % 8) (K / 8)) z.1 h)))

  abbrev Rd : ℕ → Type 0
  Rd I = Ready C G (M c) c I

  settled_at : (I : ℕ) → is_settled N s t (I % 8) (I / 8) ≡ true → (K : ℕ) → In K → (I ≡ K) ⊎ (Found I K ≡ true) → ((G K).now c).status ≡ commit_vote
  unfolding is_settled waits_for
  settled_at I h K (inrange a b d) r = committed-in K (go (bool (is_committed (t (K % 8) (K / 8)))))
    where
      self-or : (I ≡ K) ⊎ (Found I K ≡ true) → ((eqb (K % 8) (I % 8) && eqb (K / 8) (I / 8)) || Found I K) ≡ true
      self-or (inl e) = rw (eqb_same (K % 8) (I % 8) (ap (λ (z : ℕ). z % 8) (sym e)), eqb_same (K / 8) (I / 8) (ap (λ (z : ℕ). z / 8) (sym e))) refl
      self-or (inr e) = rw e (or-true (eqb (K % 8) (I % 8) && eqb (K / 8) (I / 8)))
        where
          or-true : (z : Bool) → (z || true) ≡ true
          or-true true = refl
          or-true false = refl

      go : (is_committed (t (K % 8) (K / 8)) ≡ true) ⊎ (is_committed (t (K % 8) (K / 8)) ≡ false) → is_committed (t (K % 8) (K / 8)) ≡ true
      go (inl e) = e
      go (inr e) = tf (waits_for N s t (I % 8) (I / 8) (K % 8) (K / 8)) (rw (self-or r, e) refl) (not-not _ (every-at N s (λ o j. not (waits_for N s t (I % 8) (I / 8) o j)) h (K % 8) (K / 8) a b d))

  pub candidate-ready : (I : ℕ) → In I → candidate N s t (I % 8) (I / 8) ≡ true → Rd I
  unfolding candidate
  candidate-ready I i h = record {
    settled = λ K p. settled_at I is-settled K (star-in I K i p) (reach-found I K i p);
    fresh = λ m. tf (is_marked (t (I % 8) (I / 8))) (in-mark c I m) (not-not _ (and_r (is_settled N s t (I % 8) (I / 8)) _ (and_l _ ev h)));
    done = λ K p. done K (star-in I K i p) (reach-found I K i p) (bool (Found K I));
  }
    where
      all : ℕ → ℕ → Bool
      all o j = implies (reaches N s t (I % 8) (I / 8) o j && not (reaches N s t o j (I % 8) (I / 8))) (is_marked (t o j))

      ev : Bool
      ev = everywhere N s all

      is-settled : is_settled N s t (I % 8) (I / 8) ≡ true
      is-settled = and_l _ (not (is_marked (t (I % 8) (I / 8)))) (and_l _ ev h)

      done : (K : ℕ) → In K → (I ≡ K) ⊎ (Found I K ≡ true) → (Found K I ≡ true) ⊎ (Found K I ≡ false) → Star Edge K I ⊎ Memᴰ K (M c)
      done K k (inl e) b = inl (rw e here)
      done K k (inr e) (inl b) = inl (found-reach K I b)
      done K (inrange u v w) (inr e) (inr b) = inr (mark-in c K (by (every-at N s all (and_r (is_settled N s t (I % 8) (I / 8) && not (is_marked (t (I % 8) (I / 8)))) _ h) (K % 8) (K / 8) u v w)))
        where
          by : implies (Found I K && not (Found K I)) (is_marked (t (K % 8) (K / 8))) ≡ true → is_marked (t (K % 8) (K / 8)) ≡ true
          by z = rw (e, b) at z

  pub ready-candidate : (I : ℕ) → Rd I → In I × (candidate N s t (I % 8) (I / 8) ≡ true)
  unfolding candidate is_settled waits_for
  ready-candidate I rd = (i, and_in _ _ (and_in _ _ settled unmarked) (every_in N s (λ o j. implies (reaches N s t (I % 8) (I / 8) o j && not (reaches N s t o j (I % 8) (I / 8))) (is_marked (t o j))) marks))
    where
      i : In I
      i = committed-range I (rd.settled I here)

      unmarked : not (is_marked (t (I % 8) (I / 8))) ≡ true
      unmarked = rw (not-true (is_marked (t (I % 8) (I / 8))) (λ e. rd.fresh (mark-in c I e))) refl

      -- at an instance o.j, in range
      at : (o j : ℕ) → o < N → (P : ℕ → ℕ → Type 0) → P (code o j % 8) (code o j / 8) → P o j
      at o j l P p = rw (code-owner o j (omega arith), code-number o j (omega arith)) at p

      settled : everywhere N s (λ o j. not (waits_for N s t (I % 8) (I / 8) o j)) ≡ true
      settled = every_in N s (λ o j. not (waits_for N s t (I % 8) (I / 8) o j)) (λ o j lo l1 ls.
          at o j lo (λ o j. not (waits_for N s t (I % 8) (I / 8) o j) ≡ true) (go (code o j) (bool (waits_for N s t (I % 8) (I / 8) (code o j % 8) (code o j / 8)))))
        where
          go : (K : ℕ) → (waits_for N s t (I % 8) (I / 8) (K % 8) (K / 8) ≡ true) ⊎ (waits_for N s t (I % 8) (I / 8) (K % 8) (K / 8) ≡ false) → not (waits_for N s t (I % 8) (I / 8) (K % 8) (K / 8)) ≡ true
          go K (inr e) = rw e refl
          go K (inl e) = tf (is_committed (t (K % 8) (K / 8)))
              (in-committed K (rd.settled K (⊎_elim (λ z. same K z) (λ z. found-reach I K z) (or_cases (eqb (K % 8) (I % 8) && eqb (K / 8) (I / 8)) (Found I K) (and_l _ (not (is_committed (t (K % 8) (K / 8)))) e)))))
              (not-not _ (and_r ((eqb (K % 8) (I % 8) && eqb (K / 8) (I / 8)) || Found I K) _ e))
            where
              same : (K : ℕ) → (eqb (K % 8) (I % 8) && eqb (K / 8) (I / 8)) ≡ true → Star Edge I K
              same K z =
                  let a : K % 8 ≡ I % 8 = eqb-eq _ _ (and_l _ (eqb (K / 8) (I / 8)) z) in
                  let b : K / 8 ≡ I / 8 = eqb-eq _ _ (and_r (eqb (K % 8) (I % 8)) _ z) in
                  let q : K ≡ I = omega arith in
                  rw q here

      marks : (o j : ℕ) → o < N → 1 ≤ j → j ≤ s → implies (reaches N s t (I % 8) (I / 8) o j && not (reaches N s t o j (I % 8) (I / 8))) (is_marked (t o j)) ≡ true
      marks o j lo l1 ls = at o j lo (λ o j. implies (reaches N s t (I % 8) (I / 8) o j && not (reaches N s t o j (I % 8) (I / 8))) (is_marked (t o j)) ≡ true)
          (go (code o j) (Found I (code o j)) refl (Found (code o j) I) refl)
        where
          go : (K : ℕ) (a : Bool) → Found I K ≡ a → (b : Bool) → Found K I ≡ b → implies (a && not b) (is_marked (t (K % 8) (K / 8))) ≡ true
          go K false e b f = refl
          go K true e true f = refl
          go K true e false f = ⊎_elim (λ z. back z) (λ z. in-mark c K z) (rd.done K p)
            where
              p : Star Edge I K
              p = found-reach I K e

              back : Star Edge K I → is_marked (t (K % 8) (K / 8)) ≡ true
              back z = ⊎_elim (λ q. tf (Found K I) (rw q (rw q at e)) f) (λ q. tf (Found K I) q f) (reach-found K I (star-in I K i p) z)

  -- the mark that is saved is the one that the model sets
  pub mark-next : (o j : ℕ) → next_out N s t ≡ Some (instance o j) → Next tie (marked x c o j)
  unfolding next_out
  mark-next o j e =
      let (lo, l1, l2, cd, lw) = at_first N (omega arith) (candidate N s t) s 1 o j e in
      go lo l1 (omega arith) cd lw
    where
      I : ℕ
      I = code o j

      go : o < N → 1 ≤ j → j ≤ s → candidate N s t o j ≡ true → ((q m : ℕ) → q < N → 1 ≤ m → candidate N s t q m ≡ true → I ≤ code q m) → Next tie (marked x c o j)
      go lo l1 ls cd lw = record {
        tie = record {
          G = G;
          M = M2;
          reach = m-mark c I (reach) (candidate-ready I i (rw (owner-is, number_is) cd)) lowest;
          rels = λ q J lq. at-saved (λ (y : Record). Rel F q y ((G J).now q)) x.tables c o j (with-mark (t o j)) q (J % 8) (J / 8)
              (λ h. let h2 : Rel F q (t o j) ((G J).now q) = subst (λ (y : Record). Rel F q y ((G J).now q)) (λ k. x.tables (h.0 k) (h.1 k) (h.2 k)) (rels q J lq) in rel-marked h2)
              (λ h. rels q J lq);
          msgs = msgs;
          none = λ q p i h. at-saved (λ (y : Record). y.vote.status ≡ 0) x.tables c o j (with-mark (t o j)) q p i
              (λ z. absurd (h (rw z.0 lc, rw (z.1, z.2) (in-range N s o j lo l1 ls)))) (λ z. none q p i h);
          mark-in = λ q J. at-saved (λ (y : Record). is_marked y ≡ true → Memᴰ J (M2 q)) x.tables c o j (with-mark (t o j)) q (J % 8) (J / 8)
              (λ h m. rw h.0 (rw M2-c (Memᴰ.head (here-is J h.1 h.2)))) (λ h m. more q J (mark-in q J m));
          in-mark = λ q J m. at-saved (λ (y : Record). is_marked y ≡ true) x.tables c o j (with-mark (t o j)) q (J % 8) (J / 8)
              (λ h. refl) (λ h. in-mark q J (less q J h m));
          listed = λ q. list q (ℕ_discrete q c);
        };
        grow = λ J q. le_refl ((G J).now q);
      }
        where
          o8 : o < 8
          o8 = omega (arith, lo)

          owner-is : I % 8 ≡ o
          owner-is = code-owner o j o8

          number_is : I / 8 ≡ j
          number_is = code-number o j o8

          i : In I
          i = inrange (rw owner-is lo) (rw number_is l1) (rw number_is ls)

          M2 : ℕ → List ℕ
          M2 = upd M c (I ∷ M c)

          M2-c : M2 c ≡ I ∷ M c
          M2-c = upd-cases (λ (y : List ℕ). y ≡ I ∷ M c) M c (I ∷ M c) c (λ z. refl) (λ z. absurd (z refl))

          here-is : (J : ℕ) → J % 8 ≡ o → J / 8 ≡ j → J ≡ I
          here-is J a b = omega arith

          lowest : (K : ℕ) → Rd K → I ≤ K
          lowest K rd = go2 (ready-candidate K rd)
            where
              go2 : In K × (candidate N s t (K % 8) (K / 8) ≡ true) → I ≤ K
              go2 (inrange a b d, k) = let z : code (K % 8) (K / 8) ≡ K = omega arith in rw z at (lw (K % 8) (K / 8) a b k)

          rel-marked : {q J : ℕ} → Rel F q (t o j) ((G J).now q) → Rel F q (with-mark (t o j)) ((G J).now q)
          rel-marked r = record { joined = r.joined; voted = r.voted; status = r.status; value = r.value; len = r.len; phase = r.phase; small = r.small; bound = r.bound; got = r.got; size = r.size; lens = r.lens; told = r.told; added = r.added; self = r.self }

          more : (q J : ℕ) → Memᴰ J (M q) → Memᴰ J (M2 q)
          more q J m = upd-cases (λ (y : List ℕ). Memᴰ J y) M c (I ∷ M c) q (λ z. Memᴰ.tail (rw z at m)) (λ z. m)

          less : (q J : ℕ) → ((q ≡ c) × (J % 8 ≡ o) × (J / 8 ≡ j) → ⊥) → Memᴰ J (M2 q) → Memᴰ J (M q)
          less q J h = upd-cases (λ (y : List ℕ). Memᴰ J y → Memᴰ J (M q)) M c (I ∷ M c) q
              (λ z m. ⊎_elim (λ a. absurd (h (z, rw a owner-is, rw a number_is))) (λ a. rw z a) (Memᴰ.cases_cons m)) (λ z m. m)

          list : (q : ℕ) → Dec (q ≡ c) → M2 q ≡ newest [] (replaced x.marks c (x.marks c ++ (o, j) ∷ []) q)
          list q (yes z) = rw (eqb_same q c z) (rw z (M2-c ∙ ap (λ (y : List ℕ). I ∷ y) (listed c) ∙ sym (newest-more [] (x.marks c) o j)))
          list q (no z) = rw (eqb-false q c z) (upd-cases (λ (y : List ℕ). y ≡ newest [] (x.marks q)) M c (I ∷ M c) q (λ w. absurd (z w)) (λ w. listed q))
