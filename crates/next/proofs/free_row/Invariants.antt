use mathlib.Core.Path.{◌≡◌}
use Prim.Native.Nat.{◌*◌, ◌-◌, ◌≤◌}
use Rattle.next.specs.Slots.{Freed}
use Rattle.next.proofs.free_row.Given as goal

abbrev pub invariant-loop-i : goal.invariant-loop-i
invariant-loop-i l = (l.from ≤ l.i) × (l.base ≡ 64 * l.q) × Freed l.st l.q l.from l.top l.initial.know l.know

abbrev pub decreases-loop-i : goal.decreases-loop-i
decreases-loop-i l = l.top - l.i
