use mathlib.Core.Path.{sym, ◌∙◌}
use native.Mathlib.Omega.{arith}
use Rattle.next.proofs.Held.{row-span, freed-at, slot-in, known_more, known-ready, known-freed}
use Rattle.next.proofs.free.Goals as goal

pub slot_of-x-requires : goal.slot_of-x-requires
slot_of-x-requires c = let g = c.requires.asking in (omega (arith, g.inst.owner, g.going.lists.copies), g.inst.first, omega (arith, g.inst.last, g.going.lists.numbers))

pub offset_bounds-know-x : goal.offset_bounds-know-x
offset_bounds-know-x c = omega (arith, c.slot_of-x.ensures.1)

pub bounds-know-x : goal.bounds-know-x
bounds-know-x c = let g = c.requires.asking in slot-in _ _ _ _ _ _ g.going _ _ g.inst c.slot_of-x.ensures.0

pub loop-q-init : goal.loop-q-init
loop-q-init c = let g = c.requires in known_more _ _ _ _ _ _ g.asking.going _ _ _ _ g.asking.inst c.slot_of-x.ensures.0 (known-ready _ _ _ _ _ _ g.asking.going _ _ g.asking.inst g.ready)

pub bounds-past-q : goal.bounds-past-q
bounds-past-q c = let g = c.loop-q.invariant in omega (arith, g.passed.copies, g.passed.long, c.loop-q-test.true)

pub mark_at-requires : goal.mark_at-requires
mark_at-requires c = let l = c in (record { long = l.loop-q.invariant.lists.marks; place = l.slot_of-x.ensures.1 }, omega (arith, l.loop-q.invariant.lists.copies, c.loop-q-test.true))

pub free_row-requires : goal.free_row-requires
free_row-requires c =
    let l = c in
    let f = l in
    let a = f in
    let g = l.loop-q.invariant in
    let w = row-span _ _ _ _ _ _ g.lists a.requires.asking.inst _ c.loop-q-test.true f.slot_of-x.ensures.0 c.mark_at.ensures in
    (w.states, g.long, w.other, w.last)

pub loop-q-preserved : goal.loop-q-preserved
loop-q-preserved c =
    let d = c in
    let l = d in
    let f = l in
    let a = f in
    let w = freed-at a.args.h.now a.args.st.now a.args.past.now _ _ _ f.slot_of-x.ensures.0 d.mark_at.ensures d.from.ensures d.free_row.ensures in
    known-freed _ _ _ _ _ _ l.loop-q.invariant _ _ a.requires.asking.inst a.requires.ready _ _ d.loop-q-test.true w

pub shape_of-know : goal.shape_of-know
shape_of-know c = c.loop-q.invariant.long ∙ sym c.requires.asking.going.long

pub returns : goal.returns
returns c = c.loop-q.invariant
