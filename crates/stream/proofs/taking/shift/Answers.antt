use mathlib.Core.Path.{◌∙◌}
use Rattle.stream.proofs.Moves.{moved, in-front}
use Rattle.stream.proofs.taking.shift.Goals as goal

pub returns-then-p-ne0 : goal.returns-then-p-ne0
returns-then-p-ne0 c = c.copy_within.ensures.after ∙ moved _ _ c.requires

pub returns-else-p-ne0 : goal.returns-else-p-ne0
returns-else-p-ne0 c = in-front _ _ c.requires c.if-p-ne0.false
