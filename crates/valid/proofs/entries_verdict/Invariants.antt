use Rattle.valid.proofs.Laws.{Left}
use Rattle.valid.proofs.entries_verdict.Given as goal

abbrev pub invariant-loop-i : goal.invariant-loop-i
invariant-loop-i l = Left l.n l.s l.d l.i
