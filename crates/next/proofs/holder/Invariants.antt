use mathlib.Core.Path.{◌≡◌}
use mathlib.Core.Bool.{true}
use Prim.Native.Nat.{ℕ, ◌-◌, ◌<◌}
use Rattle.reach.specs.High.{Inst}
use Rattle.next.specs.Slots.{lets}
use Rattle.next.proofs.holder.Given as goal

abbrev pub invariant-loop-q : goal.invariant-loop-q
invariant-loop-q l = (o j : ℕ) → Inst l.n l.s o j → o < l.q → lets l.h l.st l.p l.k o j ≡ true

abbrev pub decreases-loop-q : goal.decreases-loop-q
decreases-loop-q l = l.n - l.q
