use mathlib.Core.Path.{◌≡◌}
use Prim.Native.Nat.{◌*◌, ◌-◌}
use Rattle.next.specs.Slots.{Out}
use Rattle.next.proofs.row_past.Given as goal

abbrev pub invariant-loop-i : goal.invariant-loop-i
invariant-loop-i l = Out l.s l.st l.q l.i × (l.base ≡ 64 * l.q)

abbrev pub decreases-loop-i : goal.decreases-loop-i
decreases-loop-i l = l.s - l.i
