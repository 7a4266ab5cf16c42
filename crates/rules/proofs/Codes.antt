-- A code names the instance that it was made of. Assumes nothing.
use Prim.Native.Nat.{ℕ, ◌<◌}
use mathlib.Core.Path.{◌≡◌}
use native.Mathlib.Omega.{arith}
use Rattle.rules.specs.Order.{code_of, instance_of}

pub code-owner : (o j : ℕ) → j < 256 → (instance_of (code_of o j)).0 ≡ o
code-owner o j l = omega arith

pub code-number : (o j : ℕ) → j < 256 → (instance_of (code_of o j)).1 ≡ j
code-number o j l = omega arith
