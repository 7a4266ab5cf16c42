-- The largest value of those that pass a test, one place more. Assumes nothing.
use mathlib.Core.Path.{◌≡◌}
use mathlib.Core.Bool.{Bool, true, false, cond}
use Prim.Native.Nat.{ℕ, ◌+◌, max}
use native.Mathlib.Omega.{arith}
use Rattle.std.proofs.Common.{add-one}
use Rattle.std.proofs.lemmas.Bool.Decides.{nat_tests}
use Rattle.paper.specs.Deps.{larger}
use Rattle.rules.specs.Sets.{largest_below}

larger_max : (x t : ℕ) → max t x ≡ larger x t
larger_max x t = grind (arith, nat_tests)

larger_none : (t : ℕ) → t ≡ larger 0 t
larger_none t = grind (arith, nat_tests)

module _ (v : ℕ → Bool) (g : ℕ → ℕ) (q t : ℕ) where
  pub top_in : (x : ℕ) → v q ≡ true → x ≡ g q → t ≡ largest_below q (λ i. cond (v i) (g i) 0) → max t x ≡ largest_below (q + 1) (λ i. cond (v i) (g i) 0)
  unfolding largest_below
  top_in x h e p = rw (add-one, h, ← p, ← e) (larger_max x t)

  pub top_out : v q ≡ false → t ≡ largest_below q (λ i. cond (v i) (g i) 0) → t ≡ largest_below (q + 1) (λ i. cond (v i) (g i) 0)
  unfolding largest_below
  top_out h p = rw (add-one, h, ← p) (larger_none t)
