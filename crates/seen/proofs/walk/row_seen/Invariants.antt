use Rattle.seen.proofs.Laws.{Left}
use Rattle.paper.specs.Command.{noop}
use Rattle.seen.specs.Sought.{asks}
use Rattle.seen.proofs.walk.row_seen.Given as goal

abbrev pub invariant-loop-left : goal.invariant-loop-left
invariant-loop-left l = Left (asks l.w) l.n l.s l.c l.o l.j noop l.p l.t l.left

abbrev pub decreases-loop-left : goal.decreases-loop-left
decreases-loop-left l = l.left
