use mathlib.Core.Path.{sym, ◌∙◌}
use native.Mathlib.Omega.{arith}
use Rattle.next.proofs.Passed.{past_row}
use Rattle.next.proofs.pass_rows.Goals as goal

pub loop-q-init : goal.loop-q-init
loop-q-init c = c.requires

pub bounds-past-q : goal.bounds-past-q
bounds-past-q c = let g = c.loop-q.invariant in omega (arith, g.copies, g.long, c.loop-q-test.true)

pub row_past-z-requires : goal.row_past-z-requires
row_past-z-requires c = let g = c.loop-q.invariant in (g.numbers, omega (arith, g.copies, c.loop-q-test.true), g.states, rw c.from.ensures (g.rows _ c.loop-q-test.true))

pub overflow_cast-past : goal.overflow_cast-past
overflow_cast-past c = omega (arith, c.row_past-z.ensures.few, c.loop-q.invariant.numbers)

pub bounds-past-q-in-loop-q : goal.bounds-past-q-in-loop-q
bounds-past-q-in-loop-q c = let g = c.loop-q.invariant in omega (arith, g.copies, g.long, c.loop-q-test.true)

pub loop-q-preserved : goal.loop-q-preserved
loop-q-preserved c = past_row _ _ _ _ c.loop-q.invariant _ _ c.loop-q-test.true c.row_past-z.ensures

pub shape_of-past : goal.shape_of-past
shape_of-past c = c.loop-q.invariant.long ∙ sym c.requires.long

pub returns : goal.returns
returns c = c.loop-q.invariant
