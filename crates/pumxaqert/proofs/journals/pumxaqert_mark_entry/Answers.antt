use mathlib.Core.Path.{ap, ◌∙◌}
use Rattle.entries.specs.Writing.{entering_number, entering_length}
use Rattle.pumxaqert.proofs.journals.pumxaqert_mark_entry.Goals as goal

pub returns : goal.returns
returns c =
    let g = c.give_entered.ensures in
    let x = c.mark_entry.ensures in
    record { number = g.number ∙ ap entering_number x.answers; count = g.count ∙ ap entering_length x.answers; room = x.out }
