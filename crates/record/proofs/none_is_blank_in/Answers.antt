use borrow.Author.Tests.{ne_eqb}
use Rattle.record.proofs.Front.{none-some}
use Rattle.record.proofs.none_is_blank_in.Goals as goal

pub returns-then-get-ne0 : goal.returns-then-get-ne0
returns-then-get-ne0 c = rw (ne_eqb c.get.result 0 c.if-get-ne0.true) (none-some _ c.get.ensures c.if-get-ne0.true)
