use mathlib.Core.Path.{◌∙◌}
use borrow.Author.Tests.{not-true, not-false}
use Rattle.pumxaqert.proofs.Laws.{misfit-kind, misfit-length, misfit-rest}
use Rattle.pumxaqert.proofs.fields.misfit.Goals as goal

pub returns-then-not-row : goal.returns-then-not-row
returns-then-not-row c = misfit-kind _ c.row_of-row.ensures (not-true _ c.if-not-row.true)

pub returns-then-not-carried_only : goal.returns-then-not-carried_only
returns-then-not-carried_only c = misfit-length _ c.row_of-row.ensures (not-false _ c.if-not-row.false) c.carried_only.ensures (c.if-not-carried_only.true)

pub returns : goal.returns
returns c = c.refusal_of.ensures ∙ misfit-rest _ c.row_of-row.ensures (not-false _ c.if-not-row.false) c.carried_only.ensures (c.if-not-carried_only.false) c.first_unheld.ensures
