use Rattle.table.proofs.Walk.{RowLeft}
use Rattle.table.proofs.sound_row.Given as goal

abbrev pub invariant-loop-left : goal.invariant-loop-left
invariant-loop-left l = RowLeft l.n l.s l.c l.o l.t l.left

abbrev pub decreases-loop-left : goal.decreases-loop-left
decreases-loop-left l = l.left
