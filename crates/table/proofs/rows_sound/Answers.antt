use mathlib.Core.Path.{sym, ◌∙◌}
use native.Mathlib.Omega.{arith}
use Rattle.table.proofs.Walk.{left-true, left_false, left-none}
use Rattle.table.proofs.rows_sound.Goals as goal

pub returns-then-not-sound_row : goal.returns-then-not-sound_row
returns-then-not-sound_row c = left_false _ _ c.loop-o.invariant c.loop-o-test.true (sym c.sound_row.ensures ∙ c.if-not-sound_row.true)

pub loop-o-preserved : goal.loop-o-preserved
loop-o-preserved c = left-true _ _ c.loop-o.invariant c.loop-o-test.true (sym c.sound_row.ensures ∙ c.if-not-sound_row.false)

pub returns : goal.returns
returns c = left-none _ _ c.loop-o.invariant (omega arith)
