use mathlib.Core.Path.{sym, ◌∙◌}
use Rattle.record.proofs.Quick.{idle-sound}
use Rattle.journal.proofs.entry.part_sound.Goals as goal

pub returns-then-idle_ok : goal.returns-then-idle_ok
returns-then-idle_ok c = sym (idle-sound _ _ _ _ _ (sym c.idle_ok.ensures ∙ c.if-idle_ok.true))
