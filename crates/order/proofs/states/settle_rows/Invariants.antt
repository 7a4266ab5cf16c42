use Prim.Native.Nat.{◌*◌, ◌-◌}
use Rattle.seen.specs.Records.{records_in}
use Rattle.order.specs.States.{States}
use Rattle.order.proofs.states.settle_rows.Given as goal

abbrev pub invariant-loop-o : goal.invariant-loop-o
invariant-loop-o l = States l.n l.s (records_in l.s l.t) (64 * l.o) l.st

abbrev pub decreases-loop-o : goal.decreases-loop-o
decreases-loop-o l = l.n - l.o
