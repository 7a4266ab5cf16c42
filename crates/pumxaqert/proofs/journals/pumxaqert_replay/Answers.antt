use mathlib.Core.Path.{ap, ◌∙◌}
use Rattle.entries.specs.Replay.{replaying_number, replaying_offset}
use Rattle.pumxaqert.proofs.journals.pumxaqert_replay.Goals as goal

pub returns : goal.returns
returns c =
    let g = c.give_replayed.ensures in
    let x = c.replay.ensures in
    record { number = g.number ∙ ap replaying_number x.answers; offset = g.offset ∙ ap replaying_offset x.answers; table = x.table }
