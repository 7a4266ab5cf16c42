use mathlib.Core.Path.{sym, ◌∙◌}
use native.Mathlib.Omega.{arith}
use lib.ListN.{length-set}
use Rattle.reach.specs.High.{Inst}
use Rattle.order.proofs.Stated.{states-first, states-more, states-row}
use Rattle.order.proofs.states.settle_row.Goals as goal

pub loop-j-init : goal.loop-j-init
loop-j-init c = (omega arith, states-first _ _ _ _ _ c.requires.states)

pub slot_of-x-requires : goal.slot_of-x-requires
slot_of-x-requires c = let g = c.requires in (omega (arith, g.owner, g.seen.sized.copies), c.loop-j.invariant.0, omega (arith, g.seen.sized.numbers, c.loop-j-test.true))

pub state_of-requires : goal.state_of-requires
state_of-requires c = record { seen = c.requires.seen; inst = record { owner = c.requires.owner; first = c.loop-j.invariant.0; last = c.loop-j-test.true } }

pub bounds-st-x : goal.bounds-st-x
bounds-st-x c = omega (arith, c.slot_of-x.ensures.1, c.loop-j.invariant.1.long)

pub overflow_step-j : goal.overflow_step-j
overflow_step-j c = omega arith

pub loop-j-smaller : goal.loop-j-smaller
loop-j-smaller c = omega arith

pub loop-j-preserved : goal.loop-j-preserved
loop-j-preserved c =
    let l = c in
    let g = c.requires in
    let i : Inst _ _ _ _ = record { owner = g.owner; first = l.loop-j.invariant.0; last = c.loop-j-test.true } in
    (omega arith, states-more _ _ _ _ _ _ _ _ g.seen.sized.copies g.seen.sized.numbers i c.slot_of-x.ensures.0 l.loop-j.invariant.1 c.state_of.ensures)

pub shape_of-st : goal.shape_of-st
shape_of-st c = c.loop-j.invariant.1.long ∙ sym c.requires.states.long

pub returns : goal.returns
returns c = states-row _ _ _ _ _ _ c.requires.seen.sized.numbers c.loop-j.invariant.1 c.loop-j-test.false

pub shape_of-st-2 : goal.shape_of-st-2
shape_of-st-2 c = length-set c.loop-j.st c.slot_of-x.result c.state_of.result ∙ c.loop-j.invariant.1.long ∙ sym c.requires.states.long

pub returns-2 : goal.returns-2
returns-2 c =
    let l = c in
    let g = c.requires in
    let i : Inst _ _ _ _ = record { owner = g.owner; first = l.loop-j.invariant.0; last = c.loop-j-test.true } in
    states-row _ _ _ _ _ _ g.seen.sized.numbers (states-more _ _ _ _ _ _ _ _ g.seen.sized.copies g.seen.sized.numbers i c.slot_of-x.ensures.0 l.loop-j.invariant.1 c.state_of.ensures) (omega arith)
