use mathlib.Core.Path.{ap, ◌∙◌}
use Rattle.record.specs.Part.{sound_part}
use Rattle.table.proofs.record_sound.Goals as goal

pub returns : goal.returns
returns c =
    let a = c.args in
    c.sound_part.ensures ∙ ap (sound_part a.n a.s a.c a.o) c.part.ensures.part
