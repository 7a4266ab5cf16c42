-- The bounded search finds all that is reached: no way need be longer than there are instances. Assumes nothing.
use Prim.Native.Nat.{ℕ, zero, suc, ◌+◌, ◌-◌, ◌*◌, ◌≤◌, ◌<◌}
use mathlib.Core.Path.{◌≡◌, refl}
use mathlib.Core.Logic.{◌⊎◌, inl, inr, ⊎_elim}
use mathlib.Core.Bool.{Bool, true, false, ◌||◌, cond}
use native.Mathlib.Omega.{arith}
use Rattle.paper.specs.Logic.{implies}
use Rattle.rules.specs.Seen.{Records}
use Rattle.rules.specs.Order.{everywhere, covers_in, reaches_in, reaches}
use Rattle.reach.proofs.Tests.{clash, bool, or_cases}
use Rattle.reach.proofs.Instances.{every-at, every-not, some_at, some_in, total, total-le, total-lt}

or_l : (a b : Bool) → a ≡ true → (a || b) ≡ true
or_l a b e = rw e refl

or_r : (a b : Bool) → b ≡ true → (a || b) ≡ true
or_r true b e = refl
or_r false b e = e

through : (a b : Bool) → cond a b false ≡ true → (a ≡ true) × (b ≡ true)
through true b e = (refl, e)
through false b e = clash (cc)

implies-at : (a b : Bool) → implies a b ≡ true → a ≡ true → b ≡ true
implies-at true b h e = h
implies-at false b h e = clash (cc)

implies-not : (a b : Bool) → implies a b ≡ false → (a ≡ true) × (b ≡ false)
implies-not true b h = (refl, h)
implies-not false b h = clash (cc)

module _ (n s : ℕ) (t : Records) where
  pub data InRange (o j : ℕ) : Type 0 where
    inrange : o < n → 1 ≤ j → j ≤ s → InRange o j

  -- one more step: over an edge to an instance in range, and on from there
  abbrev Hop : ℕ → ℕ → ℕ → ℕ → ℕ → Type 0
  Hop f p k o j = (q : ℕ) × (i : ℕ) × InRange q i × (covers_in n s t p k q i ≡ true) × (reaches_in f n s t q i o j ≡ true)

  pub hop-of : (f p k o j : ℕ) → reaches_in (suc f) n s t p k o j ≡ true → (covers_in n s t p k o j ≡ true) ⊎ Hop f p k o j
  unfolding reaches_in
  hop-of f p k o j h = ⊎_elim (λ e. inl e)
      (λ e. let (q, i, a, b, c, d) = some_at n s (λ q i. cond (covers_in n s t p k q i) (reaches_in f n s t q i o j) false) e in
      let (x, y) = through (covers_in n s t p k q i) (reaches_in f n s t q i o j) d in
      inr (q, i, inrange a b c, x, y))
      (or_cases (covers_in n s t p k o j) _ h)

  of-direct : (f p k o j : ℕ) → covers_in n s t p k o j ≡ true → reaches_in f n s t p k o j ≡ true
  unfolding reaches_in
  of-direct zero p k o j e = e
  of-direct (suc f) p k o j e = or_l (covers_in n s t p k o j) _ e

  of-hop : (f p k o j : ℕ) → Hop f p k o j → reaches_in (suc f) n s t p k o j ≡ true
  unfolding reaches_in
  of-hop f p k o j (q, i, inrange a b c, x, y) =
      or_r (covers_in n s t p k o j) _ (some_in n s (λ q i. cond (covers_in n s t p k q i) (reaches_in f n s t q i o j) false) q i a b c (rw (x, y) refl))

  module _ (o j : ℕ) where
    abbrev R : ℕ → ℕ → ℕ → Bool
    R f p k = reaches_in f n s t p k o j

    up : (f p k : ℕ) → R f p k ≡ true → R (suc f) p k ≡ true
    unfolding reaches_in
    up zero p k h = of-direct 1 p k o j h
    up (suc f) p k h = ⊎_elim (λ e. of-direct (suc (suc f)) p k o j e) (λ (q, i, a, x, y). of-hop (suc f) p k o j (q, i, a, x, up f q i y)) (hop-of f p k o j h)

    -- one more step finds nothing new
    abbrev Stable : ℕ → Type 0
    Stable f = (p k : ℕ) → InRange p k → R (suc f) p k ≡ true → R f p k ≡ true

    stable-up : (f : ℕ) → Stable f → Stable (suc f)
    stable-up f st p k r h = ⊎_elim (λ e. of-direct (suc f) p k o j e) (λ (q, i, a, x, y). of-hop f p k o j (q, i, a, x, st q i a y)) (hop-of (suc f) p k o j h)

    stable-by : (f d : ℕ) → Stable f → Stable (f + d)
    stable-by f zero st = let e : f + 0 ≡ f = omega arith in rw e st
    stable-by f (suc d) st = let e : f + suc d ≡ suc (f + d) = omega arith in rw e (stable-up (f + d) (stable-by f d st))

    -- each step until then finds at least one more
    grows : (f : ℕ) → ((g : ℕ) × (g < f) × Stable g) ⊎ (f ≤ total n s (R f))
    grows zero = inr (omega arith)
    grows (suc f) = go (grows f) (bool (everywhere n s (λ p k. implies (R (suc f) p k) (R f p k))))
      where
        go : ((g : ℕ) × (g < f) × Stable g) ⊎ (f ≤ total n s (R f))
            → (everywhere n s (λ p k. implies (R (suc f) p k) (R f p k)) ≡ true) ⊎ (everywhere n s (λ p k. implies (R (suc f) p k) (R f p k)) ≡ false)
            → ((g : ℕ) × (g < suc f) × Stable g) ⊎ (suc f ≤ total n s (R (suc f)))
        go (inl (g, l, st)) e = inl (g, omega arith, st)
        go (inr l) (inl e) = inl (f, omega arith, st)
          where
            st : Stable f
            st p k (inrange a b c) h = implies-at _ _ (every-at n s (λ p k. implies (R (suc f) p k) (R f p k)) e p k a b c) h
        go (inr l) (inr e) =
            let (p, k, a, b, c, q) = every-not n s (λ p k. implies (R (suc f) p k) (R f p k)) e in
            let (x, y) = implies-not (R (suc f) p k) (R f p k) q in
            inr (omega (arith, total-lt n s (R f) (R (suc f)) (λ p k a b c. up f p k) p k a b c y x))

    stable : Stable (n * s)
    stable = go (grows (suc (n * s)))
      where
        go : ((g : ℕ) × (g < suc (n * s)) × Stable g) ⊎ (suc (n * s) ≤ total n s (R (suc (n * s)))) → Stable (n * s)
        go (inl (g, l, st)) = let e : g + (n * s - g) ≡ n * s = omega arith in rw e at (stable-by g (n * s - g) st)
        go (inr l) = absurd (omega (arith, total-le n s (R (suc (n * s)))))

  -- what is covered is reached, and so is what that reaches
  pub reach-one : (p k o j : ℕ) → covers_in n s t p k o j ≡ true → reaches n s t p k o j ≡ true
  unfolding reaches
  reach-one p k o j e = of-direct (n * s) p k o j e

  pub reach-on : (p k q i o j : ℕ) → InRange p k → InRange q i → covers_in n s t p k q i ≡ true → reaches n s t q i o j ≡ true → reaches n s t p k o j ≡ true
  unfolding reaches
  reach-on p k q i o j r a x y = stable o j p k r (of-hop (n * s) p k o j (q, i, a, x, y))

  trans-in : (f p k q i o j : ℕ) → InRange p k → InRange q i → reaches_in f n s t p k q i ≡ true → reaches n s t q i o j ≡ true → reaches n s t p k o j ≡ true
  unfolding reaches_in
  trans-in zero p k q i o j r a x y = reach-on p k q i o j r a x y
  trans-in (suc f) p k q i o j r a x y =
      ⊎_elim (λ e. reach-on p k q i o j r a e y) (λ (b, c, d, e, g). reach-on p k b c o j r d e (trans-in f b c q i o j d a g y)) (hop-of f p k q i x)

  pub reach-trans : (p k q i o j : ℕ) → InRange p k → InRange q i → reaches n s t p k q i ≡ true → reaches n s t q i o j ≡ true → reaches n s t p k o j ≡ true
  unfolding reaches
  reach-trans p k q i o j r a x y = trans-in (n * s) p k q i o j r a x y
