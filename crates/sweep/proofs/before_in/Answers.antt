use mathlib.Core.Path.{◌∙◌}
use Rattle.sweep.proofs.Named.{before-first, before-later}
use Rattle.sweep.proofs.before_in.Goals as goal

pub returns-then-j-le1 : goal.returns-then-j-le1
returns-then-j-le1 c = c.no_deps.ensures ∙ before-first _ _ _ c.if-j-le1.true

pub returns : goal.returns
returns c = c.marks_at.ensures ∙ rw c.slot_of.ensures.0 (before-later _ _ _ c.if-j-le1.false)
