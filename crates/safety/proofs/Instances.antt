-- The first of the instances that pass a test. Assumes nothing.
use Rattle.std.specs.Prelude.{Option, Some}
use Prim.Native.Nat.{ℕ, zero, suc, ◌+◌, ◌≤◌, ◌<◌}
use mathlib.Core.Path.{◌≡◌, refl, sym, ap}
use mathlib.Core.Logic.{◌⊎◌, inl, inr, ⊎_elim}
use mathlib.Core.Bool.{Bool, true, false, cond}
use native.Mathlib.Omega.{arith}
use native.Mathlib.Nat.{eq-or-lt_of_le}
use Rattle.rules.specs.declared.Instance.{Instance}
use Rattle.rules.specs.Order.{instance, found, first_owner, first_number}
use Rattle.reach.proofs.Tests.{clash, tf}
use Rattle.safety.proofs.Case.{code}

-- the first instance that passes: it passes, and none that passes comes before it
module _ (n : ℕ) (n8 : n ≤ 8) (f : ℕ → ℕ → Bool) where
  abbrev Row : ℕ → ℕ → ℕ → ℕ → ℕ → Type 0
  Row k o j p i = (o ≤ p) × (p < o + k) × (i ≡ j) × (f p i ≡ true) × ((q : ℕ) → o ≤ q → f q j ≡ true → p ≤ q)

  of_at : (p i o j : ℕ) → ◌≡◌ {A = Option Instance} (Some (instance p i)) (Some (instance o j)) → (p ≡ o) × (i ≡ j)
  of_at p i o j e = (ap (λ (z : Option Instance). found z 0 (λ p i. p)) e, ap (λ (z : Option Instance). found z 0 (λ p i. i)) e)

  in_row : (k o j p i : ℕ) (later : Option Instance) → first_owner k o j f later ≡ Some (instance p i)
      → Row k o j p i ⊎ (((q : ℕ) → o ≤ q → q < o + k → f q j ≡ false) × (later ≡ Some (instance p i)))
  unfolding first_owner
  in_row zero o j p i later h = inr (λ q a b. absurd (omega arith), h)
  in_row (suc k) o j p i later h = go (f o j) refl h (in_row k (o + 1) j p i later)
    where
      go : (b : Bool) → f o j ≡ b → cond b (Some (instance o j)) (first_owner k (o + 1) j f later) ≡ Some (instance p i)
          → (first_owner k (o + 1) j f later ≡ Some (instance p i) → Row k (o + 1) j p i ⊎ (((q : ℕ) → o + 1 ≤ q → q < o + 1 + k → f q j ≡ false) × (later ≡ Some (instance p i))))
          → Row (suc k) o j p i ⊎ (((q : ℕ) → o ≤ q → q < o + suc k → f q j ≡ false) × (later ≡ Some (instance p i)))
      go true e h ih = let (a, b) = of_at o j p i h in inl (omega arith, omega arith, sym b, rw (← a, ← b) e, λ q l t. omega arith)
      go false e h ih = ⊎_elim
          (λ r. inl (omega (arith, r.0), omega (arith, r.1), r.2, r.3, λ q l t. r.4 q (not-o q l t) t))
          (λ r. inr (λ q a b. ⊎_elim (λ (z : o ≡ q). rw (← z) e) (λ (z : o < q). r.0 q (omega arith) (omega arith)) (eq-or-lt_of_le a), r.1))
          (ih h)
        where
          not-o : (q : ℕ) → o ≤ q → f q j ≡ true → o + 1 ≤ q
          not-o q l t = ⊎_elim (λ (z : o ≡ q). tf (f o j) (rw z t) e) (λ (z : o < q). omega arith) (eq-or-lt_of_le l)

  pub at_first : (k j p i : ℕ) → first_number k n j f ≡ Some (instance p i)
      → (p < n) × (j ≤ i) × (i < j + k) × (f p i ≡ true) × ((q m : ℕ) → q < n → j ≤ m → f q m ≡ true → code p i ≤ code q m)
  unfolding first_number
  at_first zero j p i h = clash (cc)
  at_first (suc k) j p i h = go (in_row n 0 j p i (first_number k n (j + 1) f) h) (at_first k (j + 1) p i)
    where
      go : Row n 0 j p i ⊎ (((q : ℕ) → 0 ≤ q → q < 0 + n → f q j ≡ false) × (first_number k n (j + 1) f ≡ Some (instance p i)))
          → (first_number k n (j + 1) f ≡ Some (instance p i) → (p < n) × (j + 1 ≤ i) × (i < j + 1 + k) × (f p i ≡ true) × ((q m : ℕ) → q < n → j + 1 ≤ m → f q m ≡ true → code p i ≤ code q m))
          → (p < n) × (j ≤ i) × (i < j + suc k) × (f p i ≡ true) × ((q m : ℕ) → q < n → j ≤ m → f q m ≡ true → code p i ≤ code q m)
      go (inl (a, b, c, e, r)) ih = (
        omega arith,
        omega arith,
        omega arith,
        e,
        λ q m lq lm t. ⊎_elim
            (λ (z : j ≡ m). let w : p ≤ q = r q (omega arith) (rw z t) in omega arith)
            (λ (z : j < m). omega arith)
            (eq-or-lt_of_le lm),
      )
      go (inr (none, h)) ih = let (a, b, c, e, r) = ih h in (
        a,
        omega arith,
        omega arith,
        e,
        λ q m lq lm t. ⊎_elim
            (λ (z : j ≡ m). tf (f q j) (rw z t) (none q (omega arith) (omega arith)))
            (λ (z : j < m). r q m lq (omega arith) t)
            (eq-or-lt_of_le lm),
      )
