use Prim.Native.Nat.{◌-◌}
use Rattle.next.specs.Slots.{Past}
use Rattle.next.proofs.pass_rows.Given as goal

abbrev pub invariant-loop-q : goal.invariant-loop-q
invariant-loop-q l = Past l.n l.s l.st l.past

abbrev pub decreases-loop-q : goal.decreases-loop-q
decreases-loop-q l = l.n - l.q
