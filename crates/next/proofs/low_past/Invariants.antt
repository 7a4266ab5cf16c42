use Prim.Native.Nat.{◌-◌}
use Rattle.next.specs.Slots.{Low}
use Rattle.next.proofs.low_past.Given as goal

abbrev pub invariant-loop-j : goal.invariant-loop-j
invariant-loop-j l = Low l.n l.s l.st l.j

abbrev pub decreases-loop-j : goal.decreases-loop-j
decreases-loop-j l = l.s - l.j
