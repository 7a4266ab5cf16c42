use Prim.Native.Nat.{◌+◌, ◌*◌, ◌-◌, ◌≤◌}
use Rattle.seen.specs.Records.{records_in}
use Rattle.order.specs.States.{States}
use Rattle.order.proofs.states.settle_row.Given as goal

abbrev pub invariant-loop-j : goal.invariant-loop-j
invariant-loop-j l = (1 ≤ l.j) × States l.n l.s (records_in l.s l.t) (64 * l.o + (l.j - 1)) l.st

abbrev pub decreases-loop-j : goal.decreases-loop-j
decreases-loop-j l = l.s + 1 - l.j
