use mathlib.Core.Path.{sym, ◌∙◌}
use native.Mathlib.Omega.{arith}
use lib.ListN.{length-set}
use Rattle.table.specs.Sizes.{Names}
use Rattle.journal.proofs.Judged.{chart-first, chart-more, chart-next}
use Rattle.journal.proofs.judging.chart_row.Goals as goal

pub loop-j-init : goal.loop-j-init
loop-j-init c = (omega arith, chart-first _ _ _ _ _ c.requires.charted)

pub slot_of-x-requires : goal.slot_of-x-requires
slot_of-x-requires c = let g = c.requires in (omega (arith, g.owner, g.copies), c.loop-j.invariant.0, omega (arith, g.numbers, c.loop-j-test.true))

pub status_of-requires : goal.status_of-requires
status_of-requires c = let g = c.requires in record { names = record { copies = g.copies; numbers = g.numbers; owner = g.owner; first = c.loop-j.invariant.0; last = c.loop-j-test.true }; long = g.table }

pub bounds-st-x : goal.bounds-st-x
bounds-st-x c = omega (arith, c.slot_of-x.ensures.1, c.loop-j.invariant.1.long)

pub overflow_step-j : goal.overflow_step-j
overflow_step-j c = omega arith

pub loop-j-smaller : goal.loop-j-smaller
loop-j-smaller c = omega arith

pub loop-j-preserved : goal.loop-j-preserved
loop-j-preserved c =
    let l = c in
    let g = c.requires in
    let i : Names _ _ _ _ = record { copies = g.copies; numbers = g.numbers; owner = g.owner; first = l.loop-j.invariant.0; last = c.loop-j-test.true } in
    (omega arith, chart-more _ _ _ _ _ _ _ _ i c.slot_of-x.ensures.0 l.loop-j.invariant.1 c.status_of.ensures)

pub shape_of-st : goal.shape_of-st
shape_of-st c = c.loop-j.invariant.1.long ∙ sym c.requires.charted.long

pub returns : goal.returns
returns c = chart-next _ _ _ _ _ _ c.loop-j.invariant.1 c.loop-j-test.false

pub shape_of-st-2 : goal.shape_of-st-2
shape_of-st-2 c = length-set c.loop-j.st c.slot_of-x.result c.status_of.result ∙ c.loop-j.invariant.1.long ∙ sym c.requires.charted.long

pub returns-2 : goal.returns-2
returns-2 c =
    let l = c in
    let g = c.requires in
    let i : Names _ _ _ _ = record { copies = g.copies; numbers = g.numbers; owner = g.owner; first = l.loop-j.invariant.0; last = c.loop-j-test.true } in
    chart-next _ _ _ _ _ _ (chart-more _ _ _ _ _ _ _ _ i c.slot_of-x.ensures.0 l.loop-j.invariant.1 c.status_of.ensures) (omega arith)
