use Rattle.pumxaqert.proofs.Laws.{Left}
use Rattle.pumxaqert.proofs.fields.first_unheld.Given as goal

abbrev pub invariant-loop-i : goal.invariant-loop-i
invariant-loop-i l = Left l.p l.f l.i
