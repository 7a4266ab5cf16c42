use lib.ListN.{length}
use Rattle.journal.proofs.Put.{Putting}
use Rattle.journal.proofs.replaying.put_entries.Given as goal

abbrev pub invariant-loop-rest : goal.invariant-loop-rest
invariant-loop-rest l = Putting l.n l.s l.initial.t l.b l.t l.rest

abbrev pub decreases-loop-rest : goal.decreases-loop-rest
decreases-loop-rest l = length l.rest
