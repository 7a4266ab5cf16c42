use mathlib.Core.Path.{sym, ◌∙◌}
use Rattle.rows.proofs.Laws.{mark-is}
use Rattle.rows.proofs.mark_at.Goals as goal

pub returns : goal.returns
returns c =
    let a = c.args in
    c.get.ensures ∙ sym (mark-is a.h.now a.x a.o c.requires.1)
