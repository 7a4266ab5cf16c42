use mathlib.Core.Path.{sym, ◌∙◌}
use native.Mathlib.Omega.{arith}
use Rattle.journal.proofs.Judged.{chart-start, chart-all}
use Rattle.journal.proofs.judging.chart.Goals as goal

pub loop-o-init : goal.loop-o-init
loop-o-init c = chart-start _ _ _ _ c.requires.long

pub chart_row-requires : goal.chart_row-requires
chart_row-requires c = let g = c.requires in record { copies = g.copies; numbers = g.numbers; table = g.table; owner = c.loop-o-test.true; charted = c.loop-o.invariant }

pub overflow_step-o : goal.overflow_step-o
overflow_step-o c = omega arith

pub loop-o-smaller : goal.loop-o-smaller
loop-o-smaller c = omega arith

pub loop-o-preserved : goal.loop-o-preserved
loop-o-preserved c = c.chart_row.ensures

pub shape_of-st : goal.shape_of-st
shape_of-st c = c.loop-o.invariant.long ∙ sym c.requires.long

pub returns : goal.returns
returns c = chart-all _ _ _ _ _ c.loop-o.invariant c.loop-o-test.false
