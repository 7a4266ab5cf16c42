use mathlib.Core.Path.{ap, ◌∙◌}
use Rattle.gate.specs.Events.{answer_number}
use Rattle.pumxaqert.specs.Flat.{answer_values}
use Rattle.pumxaqert.proofs.events.pumxaqert_recover.Goals as goal

pub returns : goal.returns
returns c = let g = c.give.ensures in
    let x = c.recover.ensures in
    record { number = g.number ∙ ap answer_number x.answers; values = g.values ∙ ap answer_values x.answers; table = x.table; room = x.room }
