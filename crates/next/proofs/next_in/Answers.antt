use mathlib.Core.Path.{refl, sym, ◌∙◌}
use native.Mathlib.Omega.{arith}
use Rattle.reach.proofs.First.{row-start, row_inst, row_on, row-end, row-hit, walk_none, row-none}
use Rattle.next.specs.Slots.{next_in}
use Rattle.next.proofs.Passed.{walk-low}
use Rattle.next.proofs.next_in.Goals as goal

pub pass_all-first-requires : goal.pass_all-first-requires
pass_all-first-requires c = c.requires.passed

pub overflow_add-first : goal.overflow_add-first
overflow_add-first c = let f = c in omega (arith, f.pass_all-first.ensures.low.few, f.pass_all-first.ensures.kept.numbers)

pub walk-init : goal.walk-init
walk-init c =
    let f = c in
    let g = f.requires in
    (refl, walk-low _ _ _ _ _ f.pass_all-first.ensures.low, record { lists = g.lists; long = g.long; known = g.known; passed = f.pass_all-first.ensures.kept })

pub loop-o-init : goal.loop-o-init
loop-o-init c = let w = c.walk.invariant in (w.0, row-start _ _ _ _ w.1 c.walk-test.true, w.2)

pub ready_in-requires : goal.ready_in-requires
ready_in-requires c = let l = c in record { going = l.loop-o.invariant.2; inst = row_inst _ _ _ _ _ l.loop-o.invariant.1 c.loop-o-test.true }

pub loop-o-preserved : goal.loop-o-preserved
loop-o-preserved c =
    let a = c in
    let l = a in
    (l.loop-o.invariant.0, row_on _ _ _ _ _ _ l.loop-o.invariant.1 a.loop-o-test.true refl (sym a.ready_in.ensures.says ∙ c.if-ready_in.false), a.ready_in.ensures.kept)

pub walk-preserved : goal.walk-preserved
walk-preserved c = let l = c in (l.loop-o.invariant.0, row-end _ _ _ _ _ _ l.loop-o.invariant.1 c.loop-o-test.false refl, l.loop-o.invariant.2)

pub shape_of-know : goal.shape_of-know
shape_of-know c = let w = c in w.walk.invariant.2.long ∙ sym w.requires.long

pub shape_of-past : goal.shape_of-past
shape_of-past c = let w = c in w.walk.invariant.2.passed.long ∙ sym w.requires.passed.long

pub returns : goal.returns
unfolding next_in
returns c = let w = c.walk.invariant in record { says = w.0 ∙ walk_none _ _ _ _ w.1 c.walk-test.false; kept = w.2 }

pub shape_of-know-then-ready_in : goal.shape_of-know-then-ready_in
shape_of-know-then-ready_in c =
    let a = c in
    let w = a in
    a.ready_in.ensures.kept.long ∙ sym w.requires.long

pub shape_of-past-then-ready_in : goal.shape_of-past-then-ready_in
shape_of-past-then-ready_in c =
    let a = c in
    let w = a in
    a.ready_in.ensures.kept.passed.long ∙ sym w.requires.passed.long

pub returns-then-ready_in : goal.returns-then-ready_in
unfolding next_in
returns-then-ready_in c =
    let a = c in
    let l = a in
    record { says = row-hit _ _ _ _ _ l.loop-o.invariant.1 a.loop-o-test.true (sym a.ready_in.ensures.says ∙ c.if-ready_in.true); kept = a.ready_in.ensures.kept }

pub shape_of-know-2 : goal.shape_of-know-2
shape_of-know-2 c =
    let l = c in
    let w = l in
    l.loop-o.invariant.2.long ∙ sym w.requires.long

pub shape_of-past-2 : goal.shape_of-past-2
shape_of-past-2 c =
    let l = c in
    let w = l in
    l.loop-o.invariant.2.passed.long ∙ sym w.requires.passed.long

pub returns-2 : goal.returns-2
unfolding next_in
returns-2 c = let l = c in record { says = l.loop-o.invariant.0 ∙ row-none _ _ _ _ _ l.loop-o.invariant.1 c.loop-o-test.false (omega arith); kept = l.loop-o.invariant.2 }
