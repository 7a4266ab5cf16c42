-- A search by high-water marks finds what is reached, and nothing else but where it starts. Assumes nothing.
use Prim.Native.Nat.{ℕ, zero, suc, ◌+◌, ◌-◌, ◌*◌, ◌≤◌, ◌<◌}
use mathlib.Core.Path.{◌≡◌, refl, sym, ap, ◌∙◌}
use mathlib.Core.Logic.{inl, inr, ⊎_elim}
use mathlib.Core.Bool.{Bool, true, false, ◌&&◌, ◌||◌, not}
use mathlib.Core.List.{List}
use native.Mathlib.Omega.{arith}
use native.Mathlib.Nat.{eq-or-lt_of_le}
use native.Mathlib.Decide.{dec_le, ℕ_discrete}
use lib.Dec.{leb, eqb, ltb}
use lib.ListN.{length, get_or, set, length-set}
use lib.Seq.{get_or-set_same, get_or-set_other}
use Rattle.paper.specs.Instance.{instance_ok}
use Rattle.paper.specs.Deps.{covers}
use Rattle.rules.specs.Seen.{Records}
use Rattle.rules.specs.Order.{covers_in, reaches_in, reaches}
use Rattle.reach.specs.High.{Inst, entry_of, Fit, Few, Comes, Explored, itself, Highs}
use Rattle.reach.proofs.Tests.{tf, and_l, and_r, and_in, eqb-eq, eqb_same, leb-le, leb-in, leb-gt, ltb-lt, ltb-in, not-true}
use Rattle.reach.proofs.Reach.{InRange, inrange, hop-of, reach-one, reach-on, reach-trans}

-- how many instances are unvisited
unfoldable pub unvisited : ℕ → ℕ → List ℕ → ℕ
unvisited zero s m = 0
unvisited (suc n) s m = (s - get_or m n 0) + unvisited n s m

pub unvisited-kept : (n s : ℕ) (m r : List ℕ) → ((i : ℕ) → get_or m i 0 ≤ get_or r i 0) → unvisited n s r ≤ unvisited n s m
unfolding unvisited
unvisited-kept zero s m r k = omega arith
unvisited-kept (suc n) s m r k = omega (arith, k n, unvisited-kept n s m r k)

-- one mark is raised
module _ (m : List ℕ) (q x : ℕ) (l : q < length m) (e : x ≡ get_or m q 0 + 1) where
  pub raised-same : get_or (set m q x) q 0 ≡ x
  raised-same = get_or-set_same m q x 0 l

  pub raised-other : (i : ℕ) → (i ≡ q → ⊥) → get_or (set m q x) i 0 ≡ get_or m i 0
  raised-other i d = get_or-set_other m q i x 0 d

  pub raised-kept : (i : ℕ) → get_or m i 0 ≤ get_or (set m q x) i 0
  raised-kept i = go (ℕ_discrete i q)
    where
      go : Dec (i ≡ q) → get_or m i 0 ≤ get_or (set m q x) i 0
      go (yes d) = rw (d, raised-same) (omega arith)
      go (no d) = rw (raised-other i d) (omega arith)

  pub raised-few : (n s : ℕ) → Few n s m → x ≤ s → Few n s (set m q x)
  raised-few n s f h i li = go (ℕ_discrete i q)
    where
      go : Dec (i ≡ q) → get_or (set m q x) i 0 ≤ s
      go (yes d) = rw (d, raised-same) h
      go (no d) = rw (raised-other i d) (f i li)

  pub unvisited-raised : (n s : ℕ) → q < n → x ≤ s → unvisited n s (set m q x) < unvisited n s m
  unfolding unvisited
  unvisited-raised zero s h k = absurd (omega arith)
  unvisited-raised (suc n) s h k = go (ℕ_discrete q n) (λ l. unvisited-raised n s l k)
    where
      go : Dec (q ≡ n) → (q < n → unvisited n s (set m q x) < unvisited n s m) → unvisited (suc n) s (set m q x) < unvisited (suc n) s m
      go (yes d) more =
          let a : get_or (set m q x) n 0 ≡ x = rw (← d) raised-same in
          let b : get_or m n 0 + 1 ≡ x = rw (← d) (sym e) in
          omega (arith, unvisited-kept n s m (set m q x) raised-kept)
      go (no d) more =
          let a : get_or (set m q x) n 0 ≡ get_or m n 0 = raised-other n (λ y. d (sym y)) in
          omega (arith, more (omega arith))

  -- what is new is the instance that was raised to
  pub raised-new : (o j : ℕ) → get_or m o 0 < j → j ≤ get_or (set m q x) o 0 → (o ≡ q) × (j ≡ x)
  raised-new o j a b = go (ℕ_discrete o q)
    where
      go : Dec (o ≡ q) → (o ≡ q) × (j ≡ x)
      go (yes d) =
          let u : get_or (set m q x) o 0 ≡ x = rw d raised-same in
          let v : get_or m o 0 + 1 ≡ x = rw d (sym e) in
          (d, omega arith)
      go (no d) = absurd (omega (arith, raised-other o d))

module _ (n s : ℕ) (t : Records) where
  instance-ok : (o j : ℕ) → Inst n s o j → instance_ok n s o j ≡ true
  unfolding instance_ok
  instance-ok o j i = and_in _ _ (ltb-in o n i.owner) (and_in _ _ (leb-in 1 j i.first) (leb-in j s i.last))

  -- an entry covers
  pub covers-by : (p k o j : ℕ) → Inst n s o j → ((o ≡ p) × (j ≡ k) → ⊥) → j ≤ entry_of t p k o → covers_in n s t p k o j ≡ true
  unfolding covers_in covers
  covers-by p k o j i d l =
      and_in _ _ (instance-ok o j i)
      (and_in _ _ (and_in _ _ (ap not (not-true (eqb o p && eqb j k) (λ e. d (eqb-eq o p (and_l (eqb o p) (eqb j k) e), eqb-eq j k (and_r (eqb o p) (eqb j k) e))))) (leb-in 1 j i.first)) (leb-in j (entry_of t p k o) l))

  pub covers-is : (p k o j : ℕ) → covers_in n s t p k o j ≡ true → Inst n s o j × (j ≤ entry_of t p k o)
  unfolding covers_in covers instance_ok
  covers-is p k o j h =
      let a = and_l (instance_ok n s o j) _ h in
      let b = and_r (instance_ok n s o j) _ h in
      let c = and_r (ltb o n) (leb 1 j && leb j s) a in (
        record { owner = ltb-lt o n (and_l (ltb o n) (leb 1 j && leb j s) a); first = leb-le 1 j (and_l (leb 1 j) (leb j s) c); last = leb-le j s (and_r (leb 1 j) (leb j s) c) },
        leb-le j (entry_of t p k o) (and_r (not (eqb o p && eqb j k) && leb 1 j) _ b),
      )

  range : (o j : ℕ) → Inst n s o j → InRange n s t o j
  range o j i = inrange i.owner i.first i.last

  -- what an entry names comes, and so does what comes from there
  pub comes-on : (p k q x o j : ℕ) → Inst n s p k → Inst n s q x → x ≤ entry_of t p k q → Comes n s t q x o j → Comes n s t p k o j
  comes-on p k q x o j ip iq l h = go (ℕ_discrete q p) (ℕ_discrete x k)
    where
      apart : ((q ≡ p) × (x ≡ k) → ⊥) → Comes n s t p k o j
      apart d =
          let c = covers-by p k q x iq d l in
          ⊎_elim (λ (e : (o ≡ q) × (j ≡ x)). inr (rw (e.0, e.1) (reach-one n s t p k q x c)))
          (λ (e : reaches n s t q x o j ≡ true). inr (reach-on n s t p k q x o j (range p k ip) (range q x iq) c e))
          h

      go : Dec (q ≡ p) → Dec (x ≡ k) → Comes n s t p k o j
      go (yes a) (yes b) = rw (a, b) at h
      go (yes a) (no b) = apart (λ e. b e.1)
      go (no a) b = apart (λ e. a e.0)

  pub comes-trans : (p k q x o j : ℕ) → Inst n s p k → Inst n s q x → Comes n s t p k q x → Comes n s t q x o j → Comes n s t p k o j
  comes-trans p k q x o j ip iq g h =
      ⊎_elim (λ (e : (q ≡ p) × (x ≡ k)). rw (e.0, e.1) at h)
      (λ (e : reaches n s t p k q x ≡ true).
      ⊎_elim (λ (f : (o ≡ q) × (j ≡ x)). inr (rw (f.0, f.1) e))
      (λ (f : reaches n s t q x o j ≡ true). inr (reach-trans n s t p k q x o j (range p k ip) (range q x iq) e f)) h)
      g

  module _ (p k : ℕ) where
    pub explore-start : (m : List ℕ) → Few n s m → Explored n s t p k 0 m m
    explore-start m f = record {
      long = refl;
      kept = λ i. omega arith;
      few = f;
      holds = λ i l. absurd (omega arith);
      closed = λ o j l a b. absurd (omega arith);
      from = λ o j l a b. absurd (omega arith);
    }

    -- what owner q's entry names was visited
    pub explore-skip : (q q' : ℕ) (m r : List ℕ) → Explored n s t p k q m r → q + 1 ≡ q' → entry_of t p k q ≤ get_or r q 0 → Explored n s t p k q' m r
    explore-skip q q' m r e z h = record {
      long = e.long;
      kept = e.kept;
      few = e.few;
      holds = λ i l. ⊎_elim (λ (d : i ≡ q). rw d h) (λ (d : i < q). e.holds i d) (eq-or-lt_of_le {n = i} {m = q} (omega arith));
      closed = e.closed;
      from = e.from;
    }

    -- owner q's mark was raised to x, and q.x searched
    pub explore-more : (q x : ℕ) (m r u : List ℕ) → Inst n s p k → Fit n s t → Explored n s t p k q m r → q < n → q < length r → x ≡ get_or r q 0 + 1
        → x ≤ entry_of t p k q → Explored n s t q x n (set r q x) u → Explored n s t p k q m u
    explore-more q x m r u ip fit e lq lr ex le v =
        let iq : Inst n s q x = record { owner = lq; first = omega arith; last = omega (arith, fit p k ip q lq) } in
        let up : (i : ℕ) → get_or r i 0 ≤ get_or u i 0 = λ i. omega (arith, raised-kept r q x lr ex i, v.kept i) in
        record {
          long = v.long ∙ length-set r q x ∙ e.long;
          kept = λ i. omega (arith, e.kept i, up i);
          few = v.few;
          holds = λ i l. omega (arith, e.holds i l, up i);
          closed = λ o j lo a b i li. by-age o j b
              (λ (y : j ≤ get_or r o 0). omega (arith, e.closed o j lo a y i li, up i))
              (λ y z. rw (y, z) (v.holds i li))
              (λ (y : get_or (set r q x) o 0 < j). v.closed o j lo y b i li);
          from = λ o j lo a b. by-age o j b
              (λ (y : j ≤ get_or r o 0). e.from o j lo a y)
              (λ y z. comes-on p k q x o j ip iq le (inl (y, z)))
              (λ (y : get_or (set r q x) o 0 < j). comes-on p k q x o j ip iq le (v.from o j lo y b));
        }
      where
        -- visited before, raised to, or visited since
        by-age : {A : Type 0} (o j : ℕ) → j ≤ get_or u o 0 → (j ≤ get_or r o 0 → A) → (o ≡ q → j ≡ x → A) → (get_or (set r q x) o 0 < j → A) → A
        by-age {A = A} o j b f g h = go (dec_le j (get_or r o 0)) (dec_le j (get_or (set r q x) o 0))
          where
            go : Dec (j ≤ get_or r o 0) → Dec (j ≤ get_or (set r q x) o 0) → A
            go (yes y) z = f y
            go (no y) (yes z) = let w = raised-new r q x lr ex o j (omega arith) z in g w.0 w.1
            go (no y) (no z) = h (omega arith)

    -- marks that hold what they mark hold what is reached
    pub stays : (f : ℕ → ℕ) → ((o j : ℕ) → Inst n s o j → j ≤ f o → (i : ℕ) → i < n → entry_of t o j i ≤ f i)
        → (g q x o j : ℕ) → ((i : ℕ) → i < n → entry_of t q x i ≤ f i) → reaches_in g n s t q x o j ≡ true → j ≤ f o
    unfolding reaches_in
    stays f c zero q x o j h e = let w = covers-is q x o j e in omega (arith, h o w.0.owner, w.1)
    stays f c (suc g) q x o j h e =
        ⊎_elim (λ (y : covers_in n s t q x o j ≡ true). let w = covers-is q x o j y in omega (arith, h o w.0.owner, w.1))
        (λ (a, b, i, y, z). let w = covers-is q x a b y in stays f c g a b o j (c a b w.0 (omega (arith, h a w.0.owner, w.1))) z)
        (hop-of n s t g q x o j e)

    -- marks that hold what is reached, and nothing but what comes
    pub highs-by : (f : ℕ → ℕ) → ((o j : ℕ) → Inst n s o j → reaches n s t p k o j ≡ true → j ≤ f o)
        → ((o j : ℕ) → Inst n s o j → j ≤ f o → Comes n s t p k o j) → Highs n s t p k f
    highs-by f u v o j i = go (itself p k o j) (reaches n s t p k o j) (leb j (f o)) refl refl refl
      where
        go : (a b c : Bool) → itself p k o j ≡ a → reaches n s t p k o j ≡ b → leb j (f o) ≡ c → (a || b) ≡ (a || c)
        go true b c x y w = refl
        go false true true x y w = refl
        go false false false x y w = refl
        go false true false x y w = absurd (omega (arith, leb-gt j (f o) w, u o j i y))
        go false false true x y w =
            ⊎_elim (λ (d : (o ≡ p) × (j ≡ k)). tf (itself p k o j) (and_in _ _ (eqb_same o p d.0) (eqb_same j k d.1)) x)
            (λ (d : reaches n s t p k o j ≡ true). tf (reaches n s t p k o j) d y)
            (v o j i (leb-le j (f o) w))

    -- a search from no mark
    pub explored-highs : (m r : List ℕ) → ((i : ℕ) → get_or m i 0 ≡ 0) → Explored n s t p k n m r → Highs n s t p k (λ o. get_or r o 0)
    unfolding reaches
    explored-highs m r z e = highs-by (λ o. get_or r o 0)
        (λ o j i y. stays (λ o. get_or r o 0) (λ o j i l. e.closed o j i.owner (zero-at o j i.first) l) (n * s) p k o j e.holds y)
        (λ o j i l. e.from o j i.owner (zero-at o j i.first) l)
      where
        zero-at : (o j : ℕ) → 1 ≤ j → get_or m o 0 < j
        zero-at o j l = omega (arith, z o)
