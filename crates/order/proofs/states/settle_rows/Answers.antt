use mathlib.Core.Path.{sym, ◌∙◌}
use native.Mathlib.Omega.{arith}
use Rattle.order.proofs.Stated.{states-start, states-all}
use Rattle.order.proofs.states.settle_rows.Goals as goal

pub loop-o-init : goal.loop-o-init
loop-o-init c = states-start _ _ _ _ c.requires.0.long

pub settle_row-requires : goal.settle_row-requires
settle_row-requires c = let g = c.requires in record { seen = record { sized = g.0.sized; charted = g.0.charted; prefixes = g.1 }; owner = c.loop-o-test.true; states = c.loop-o.invariant }

pub overflow_step-o : goal.overflow_step-o
overflow_step-o c = omega arith

pub loop-o-smaller : goal.loop-o-smaller
loop-o-smaller c = omega arith

pub loop-o-preserved : goal.loop-o-preserved
loop-o-preserved c = c.settle_row.ensures

pub shape_of-st : goal.shape_of-st
shape_of-st c = c.loop-o.invariant.long ∙ sym c.requires.0.long

pub returns : goal.returns
returns c = states-all _ _ _ _ _ c.requires.0.sized.numbers c.loop-o.invariant c.loop-o-test.false
