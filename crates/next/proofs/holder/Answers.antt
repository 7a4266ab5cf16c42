use native.Mathlib.Omega.{arith}
use Rattle.next.proofs.Held.{row-span, lets-start, lets-more, held-some, held_none}
use Rattle.next.proofs.holder.Goals as goal

pub slot_of-x-requires : goal.slot_of-x-requires
slot_of-x-requires c =
    let g = c.requires in
    (omega (arith, g.inst.owner, g.lists.copies), g.inst.first, omega (arith, g.inst.last, g.lists.numbers))

pub loop-q-init : goal.loop-q-init
loop-q-init c = lets-start _ _ _ _ _ _ _ _ c.requires

pub bounds-past-q : goal.bounds-past-q
bounds-past-q c = let g = c.requires.passed in omega (arith, g.copies, g.long, c.loop-q-test.true)

pub start_of-start-requires : goal.start_of-start-requires
start_of-start-requires c =
    let g = c.requires.passed in
    (omega (arith, (g.rows _ c.loop-q-test.true).few, g.numbers, c.from.ensures), omega (arith, g.copies, c.loop-q-test.true))

pub mark_at-requires : goal.mark_at-requires
mark_at-requires c =
    let g = c.requires.lists in
    (record { long = g.marks; place = c.slot_of-x.ensures.1 }, omega (arith, g.copies, c.loop-q-test.true))

pub row_holder-held-requires : goal.row_holder-held-requires
row_holder-held-requires c =
    let g = c.requires in
    row-span _ _ _ _ _ _ g.lists g.inst _ c.loop-q-test.true c.slot_of-x.ensures.0 c.mark_at.ensures

pub returns-in-Some : goal.returns-in-Some
returns-in-Some c =
    let d = c in
    let l = d in
    let g = l.requires in
    held-some _ _ _ _ _ _ _ _ g _ _ _ _ _ _ d.loop-q-test.true l.slot_of-x.ensures.0
    d.mark_at.ensures d.from.ensures d.start_of-start.ensures d.row_holder-held.ensures l.loop-q.invariant _ c.in-Some.is

pub loop-q-preserved : goal.loop-q-preserved
loop-q-preserved c =
    let d = c in
    let l = d in
    let g = l.requires in
    lets-more _ _ _ _ _ _ _ _ g _ _ _ _ _ _ d.loop-q-test.true l.slot_of-x.ensures.0
    d.mark_at.ensures d.from.ensures d.start_of-start.ensures d.row_holder-held.ensures c.in_default.is l.loop-q.invariant

pub returns : goal.returns
returns c = held_none _ _ _ _ _ _ _ _ c.requires _ c.loop-q.invariant c.loop-q-test.false
