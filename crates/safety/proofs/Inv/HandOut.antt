-- Marks: copies mark interfering commits in the same order. Assumes nothing.
use Prim.Native.Nat.{ℕ, suc, ◌*◌, ◌≤◌, ◌<◌}
use Rattle.safety.proofs.Case.{Case, own, Req, Cover}
use Rattle.safety.proofs.Value.{Value, cmd, Interf}
use mathlib.Core.Path.{◌≡◌}
use mathlib.Core.Logic.{◌⊎◌, inl, inr, ⊎_elim}
use mathlib.Core.List.Memᴰ
use mathlib.Core.List.{List, [], ◌∷◌, Memᴰ}
use native.Mathlib.Omega.{arith}
use native.Mathlib.Decide.{dec_lt, ℕ_discrete}
use Rattle.safety.proofs.Hist.{commit_vote}
use Rattle.safety.proofs.Sys.{Rec, Msg, Sys, upd, upd-cases, push, Trans}
use Rattle.safety.proofs.Inv.{Reason, Inv}
use Rattle.safety.proofs.Inv.Keep.{up-com}
use Rattle.safety.proofs.Inv.Facts.{now-in}
use Rattle.safety.proofs.Inv.Good.{good, holds}
use Rattle.reach.proofs.Tests.{clash}
use Rattle.safety.proofs.Inv.Multi.{Guard, GReach, g-step, alone, agree, covered}
use Rattle.safety.proofs.Star.{Star, here, on, star-trans, star-map, star-map2}

module _ (C : Case) where
  open C use {F, pos}

  abbrev pub GR : (ℕ → Sys) → Type 0
  GR G = GReach C G

  abbrev pub Committed : (ℕ → Sys) → ℕ → Value → Type 0
  Committed G J v = Reason F (own C J) (G J) v

  same : (G : ℕ → Sys) → GR G → (J : ℕ) (v w : Value) → Committed G J v → Committed G J w → v ≡ w
  same G gr J v w x y = agree C gr J v w x y

  -- the edges of one copy's table, and of all commits
  abbrev pub Tab : (ℕ → Sys) → ℕ → ℕ → ℕ → Type 0
  Tab G p b c = Cover C ((G b).now p).value c

  abbrev pub All : (ℕ → Sys) → ℕ → ℕ → Type 0
  All G b c = (v : Value) × Committed G b v × Cover C v c

  abbrev pub Mem : ℕ → List ℕ → Type 0
  Mem I m = Memᴰ I m

  abbrev pub Settled : (ℕ → Sys) → ℕ → ℕ → Type 0
  Settled G p I = (K : ℕ) → Star (Tab G p) I K → ((G K).now p).status ≡ commit_vote

  pub record Ready (G : ℕ → Sys) (m : List ℕ) (p I : ℕ) : Type 0 where
    pub settled : Settled G p I
    pub fresh : Mem I m → ⊥
    pub done : (K : ℕ) → Star (Tab G p) I K → Star (Tab G p) K I ⊎ Mem K m

  -- a run with marks: the newest first
  pub data MReach : (ℕ → Sys) → (ℕ → List ℕ) → Type 0 where
    m-init : {G : ℕ → Sys} → GR G → MReach G (λ p. [])
    m-step : {G : ℕ → Sys} {M : ℕ → List ℕ} (I r : ℕ) (R : Rec) (ms : List Msg) → MReach G M → r < suc (2 * F)
        → Trans F (own C I) (Req C I) (G I) r ((G I).now r) R ms → Guard C G I r R
        → MReach (upd G I (push (G I) r R ms)) M
    m-mark : {G : ℕ → Sys} {M : ℕ → List ℕ} (p I : ℕ) → MReach G M → Ready G (M p) p I → ((K : ℕ) → Ready G (M p) p K → I ≤ K)
        → MReach G (upd M p (I ∷ M p))

  pub m-g : {G : ℕ → Sys} {M : ℕ → List ℕ} → MReach G M → GR G
  m-g (m-init g) = g
  m-g (m-step I r R ms h l t g) = g-step I r R ms (m-g h) l t g
  m-g (m-mark p I h a b) = m-g h

  -- what a mark leaves behind: m are the marks before it
  record Mark (G : ℕ → Sys) (I : ℕ) (m : List ℕ) : Type 0 where
    settled : (K : ℕ) → Star (All G) I K → (v : Value) × Committed G K v
    past : (K : ℕ) → Star (All G) I K → Star (All G) K I ⊎ Mem K m
    low : (K : ℕ) → Star (All G) I K → Star (All G) K I → K < I → Mem K m
    once : Mem I m → ⊥

  data Marks (G : ℕ → Sys) : List ℕ → Type 0 where
    nil : Marks G []
    cons : {I : ℕ} {m : List ℕ} → Mark G I m → Marks G m → Marks G (I ∷ m)

  -- growth of the commits
  module _ (G H : ℕ → Sys) (hr : GR H) (up : (K : ℕ) (v : Value) → Committed G K v → Committed H K v) where
    edge-up : (b c : ℕ) → All G b c → All H b c
    edge-up b c e = (e.0, up b e.0 e.1, e.2)

    star-up : {b c : ℕ} → Star (All G) b c → Star (All H) b c
    star-up p = star-map2 (λ b c q e. edge-up b c e) p

    star-down : {I K : ℕ} → ((L : ℕ) → Star (All G) I L → (v : Value) × Committed G L v) → Star (All H) I K → Star (All G) I K
    star-down {I} settled p = star-map (λ b c q e. let (v, x) = settled b q in
        (v, x, rw (same H hr b e.0 v e.1 (up b v x)) at e.2)) p

    mark-up : (I : ℕ) (m : List ℕ) → Mark G I m → Mark H I m
    mark-up I m k = record {
      settled = λ K p. let (v, x) = k.settled K (star-down k.settled p) in (v, up K v x);
      past = λ K p. ⊎_elim (λ q. inl (star-up q)) (λ q. inr q) (k.past K (star-down k.settled p));
      low = λ K p q l. let a = star-down k.settled p in k.low K a (star-down (λ L r. k.settled L (star-trans a r)) q) l;
      once = k.once;
    }

    marks-up : {m : List ℕ} → Marks G m → Marks H m
    marks-up nil = nil
    marks-up (cons k r) = cons (mark-up _ _ k) (marks-up r)

  -- a step only adds commits
  com-up : (G : ℕ → Sys) → GR G → (I r : ℕ) (R : Rec) (ms : List Msg)
      → Trans F (own C I) (Req C I) (G I) r ((G I).now r) R ms
      → (K : ℕ) (v : Value) → Committed G K v → Committed (upd G I (push (G I) r R ms)) K v
  com-up G gr I r R ms t K v x = upd-cases (λ (S : Sys). Reason F (own C K) S v) G I (push (G I) r R ms) K
      (λ e. rw e (up-com (G I) r R ms (good iv r t).older v (rw e at x))) (λ n. x)
    where
      iv : Inv F (own C I) (G I)
      iv = holds (alone C gr I)

  -- where I is settled at p, p's table shows what all commits show
  module _ (G : ℕ → Sys) (gr : GR G) (p I : ℕ) (st : Settled G p I) where
    com-at : (K : ℕ) → ((G K).now p).status ≡ commit_vote → Committed G K ((G K).now p).value
    com-at K e = iv.reasons p ((G K).now p) (now-in iv p (λ f. clash (cc))) e
      where
        iv : Inv F (own C K) (G K)
        iv = holds (alone C gr K)

    out : {K : ℕ} → Star (Tab G p) I K → Star (All G) I K
    out q = star-map2 (λ b c r e. (((G b).now p).value, com-at b (st b r), e)) q

    back : {K : ℕ} → Star (All G) I K → Star (Tab G p) I K
    back q = star-map (λ b c r e. rw (same G gr b e.0 ((G b).now p).value e.1 (com-at b (st b r))) at e.2) q

    on-settled : (K : ℕ) → Star (Tab G p) I K → Settled G p K
    on-settled K a L q = st L (star-trans a q)

  mem? : (I : ℕ) (m : List ℕ) → Dec (Mem I m)
  mem? I [] = no (λ k. Memᴰ.not-nil k)
  mem? I (J ∷ m) = go (ℕ_discrete I J) (mem? I m)
    where
      go : Dec (I ≡ J) → Dec (Mem I m) → Dec (Mem I (J ∷ m))
      go (yes e) d = yes (Memᴰ.head e)
      go (no n) (yes k) = yes (Memᴰ.tail k)
      go (no n) (no k) = no (λ h. ⊎_elim n k (Memᴰ.cases_cons h))

  mark-new : (G : ℕ → Sys) → GR G → (m : List ℕ) (p I : ℕ) → Ready G m p I → ((K : ℕ) → Ready G m p K → I ≤ K) → Mark G I m
  mark-new G gr m p I rd lw = record {
    settled = λ K q. (((G K).now p).value, com-at G gr p I st K (st K (back G gr p I st q)));
    past = λ K q. let a = back G gr p I st q in ⊎_elim (λ r. inl (out G gr p K (on-settled G gr p I st K a) r)) (λ r. inr r) (rd.done K a);
    low = λ K q r l. lowest K q r l (mem? K m);
    once = rd.fresh;
  }
    where
      st : Settled G p I
      st = rd.settled

      lowest : (K : ℕ) → Star (All G) I K → Star (All G) K I → K < I → Dec (Mem K m) → Mem K m
      lowest K q r l (yes k) = k
      lowest K q r l (no n) =
          let a = back G gr p I st q in
          let c = back G gr p K (on-settled G gr p I st K a) r in
          absurd (omega (
            arith,
            lw K (record {
              settled = on-settled G gr p I st K a;
              fresh = n;
              done = λ L d. ⊎_elim (λ e. inl (star-trans e a)) (λ e. inr e) (rd.done L (star-trans a d));
            }),
          ))

  all-marks : {G : ℕ → Sys} {M : ℕ → List ℕ} → MReach G M → (p : ℕ) → Marks G (M p)
  all-marks (m-init g) p = nil
  all-marks (m-step {G = G} I r R ms h l t g) p =
      marks-up G (upd G I (push (G I) r R ms)) (g-step I r R ms (m-g h) l t g) (com-up G (m-g h) I r R ms t) (all-marks h p)
  all-marks (m-mark {G = G} {M = M} q I h rd lw) p =
      upd-cases (λ (y : List ℕ). Marks G y) M q (I ∷ M q) p (λ e. cons (mark-new G (m-g h) (M q) q I rd lw) (all-marks h q)) (λ n. all-marks h p)

  -- I was marked before J
  pub data Before (I J : ℕ) : List ℕ → Type 0 where
    top : {m : List ℕ} → Mem I m → Before I J (J ∷ m)
    below : {K : ℕ} {m : List ℕ} → Before I J m → Before I J (K ∷ m)

  mark_of : (G : ℕ → Sys) (I : ℕ) {m : List ℕ} → Marks G m → Mem I m → (n : List ℕ) × Mark G I n × ((x : ℕ) → Mem x n → Mem x m)
  mark_of G I nil k = absurd (Memᴰ.not-nil k)
  mark_of G I (cons {I = J} {m = m} a r) k = go (mark_of G I r) (Memᴰ.cases_cons k)
    where
      go : (Mem I m → (n : List ℕ) × Mark G I n × ((x : ℕ) → Mem x n → Mem x m)) → (I ≡ J) ⊎ Mem I m → (n : List ℕ) × Mark G I n × ((x : ℕ) → Mem x n → Mem x (J ∷ m))
      go f (inl e) = (m, rw e a, λ x h. Memᴰ.tail h)
      go f (inr h) = let (n, b, c) = f h in (n, b, λ x g. Memᴰ.tail (c x g))

  earlier : (G : ℕ → Sys) (I J : ℕ) {m : List ℕ} → Marks G m → Before I J m → (n : List ℕ) × Mark G I n × (Mem J n → ⊥)
  earlier G I J (cons a r) (top k) = let (n, b, c) = mark_of G I r k in (n, b, λ h. a.once (c J h))
  earlier G I J (cons a r) (below k) = earlier G I J r k
  earlier G I J nil k = elim k [ ]

  -- no instance is marked twice
  pub never-twice : {G : ℕ → Sys} {M : ℕ → List ℕ} → MReach G M → (p I : ℕ) → Before I I (M p) → ⊥
  never-twice {G} h p I b = go (all-marks h p) b
    where
      go : {m : List ℕ} → Marks G m → Before I I m → ⊥
      go (cons a r) (top k) = a.once k
      go (cons a r) (below k) = go r k
      go nil k = elim k [ ]

  -- copies mark interfering commands in the same order
  pub same-order : {G : ℕ → Sys} {M : ℕ → List ℕ} → MReach G M → (p q I J : ℕ) → (I ≡ J → ⊥) → (v w : Value) → Committed G I v → Committed G J w → Interf (cmd v) (cmd w)
      → Before I J (M p) → Before J I (M q) → ⊥
  same-order {G} {M} h p q I J n v w x y it bp bq =
      let (a, ma, na) = earlier G I J (all-marks h p) bp in
      let (b, mb, nb) = earlier G J I (all-marks h q) bq in
      go a ma na b mb nb (covered C (m-g h) I J n v w x y it)
    where
      go : (a : List ℕ) → Mark G I a → (Mem J a → ⊥) → (b : List ℕ) → Mark G J b → (Mem I b → ⊥) → Cover C v J ⊎ Cover C w I → ⊥
      go a ma na b mb nb e = fin (both_ways e)
        where
          there : Star (All G) I J → Star (All G) J I
          there s = ⊎_elim (λ r. r) (λ k. absurd (na k)) (ma.past J s)

          back-again : Star (All G) J I → Star (All G) I J
          back-again s = ⊎_elim (λ r. r) (λ k. absurd (nb k)) (mb.past I s)

          both_ways : Cover C v J ⊎ Cover C w I → Star (All G) I J × Star (All G) J I
          both_ways (inl c) = let s : Star (All G) I J = on here (v, x, c) in (s, there s)
          both_ways (inr c) = let s : Star (All G) J I = on here (w, y, c) in (back-again s, s)

          fin : Star (All G) I J × Star (All G) J I → ⊥
          fin s = by (dec_lt I J)
            where
              by : Dec (I < J) → ⊥
              by (yes l) = nb (mb.low I s.1 s.0 l)
              by (no l) = na (ma.low J s.0 s.1 (omega (arith, n)))
