use mathlib.Core.Path.{◌≡◌}
use Rattle.paper.specs.Logic.{all_below}
use Rattle.table.specs.Table.{sound_row}
use Rattle.table.proofs.rows_sound.Given as goal

abbrev pub invariant-loop-o : goal.invariant-loop-o
invariant-loop-o l = all_below l.n (sound_row l.n l.s l.c l.t) ≡ all_below l.o (sound_row l.n l.s l.c l.t)
