use Rattle.paper.specs.Command.{noop}
use Rattle.seen.specs.Sought.{asks}
use Rattle.seen.proofs.Laws.{Done}
use Rattle.seen.proofs.walk.put_seen.Given as goal

abbrev pub invariant-loop-p : goal.invariant-loop-p
invariant-loop-p l = Done (asks l.w) l.n l.s l.c l.o l.j noop l.t l.p l.deps
