use mathlib.Core.Path.{sym, ◌∙◌}
use native.Mathlib.Omega.{arith}
use Rattle.order.proofs.Listed.{listed_start, listed-full, found-inst, listed-on, listed-none}
use Rattle.order.proofs.hand_out.list_all.Goals as goal

pub returns-in_default : goal.returns-in_default
returns-in_default c =
    let r = listed-none _ _ _ _ _ _ _ _ _ _ _ c.loop-count.invariant (sym c.in_default.is ∙ c.next_in-found.ensures.says) in
    record { count = r.0; table = r.1.0; list = r.1.1 }

pub slot_of-x-requires : goal.slot_of-x-requires
slot_of-x-requires c =
    let l = c.loop-count.invariant in
    let i = found-inst _ _ _ _ _ _ _ _ _ _ _ l _ _ (sym c.in-Some.is ∙ c.next_in-found.ensures.says) in
    (omega (arith, i.owner, l.listing.going.lists.copies), i.first, omega (arith, i.last, l.listing.going.lists.numbers))

pub marked_in-requires : goal.marked_in-requires
marked_in-requires c =
    let l = c.loop-count.invariant in
    let i = found-inst _ _ _ _ _ _ _ _ _ _ _ l _ _ (sym c.in-Some.is ∙ c.next_in-found.ensures.says) in
    record {
      has = record {
        names = record { copies = l.listing.going.lists.copies; numbers = l.listing.going.lists.numbers; owner = i.owner; first = i.first; last = i.last };
        long = l.listing.long;
      };
      whole = l.listing.whole _ _ i;
    }

pub code_of-requires : goal.code_of-requires
code_of-requires c =
    let l = c.loop-count.invariant in
    let i = found-inst _ _ _ _ _ _ _ _ _ _ _ l _ _ (sym c.in-Some.is ∙ c.next_in-found.ensures.says) in
    (omega (arith, i.owner, l.listing.going.lists.copies), omega (arith, i.last, l.listing.going.lists.numbers))

pub loop-count-preserved : goal.loop-count-preserved
loop-count-preserved c =
    let d = c in
    let e = sym c.in-Some.is ∙ d.next_in-found.ensures.says in
    listed-on _ _ _ _ _ _ _ _ _ _ _ c.loop-count.invariant _ _ _ _ _ _ _ e c.loop-count-test.true c.slot_of-x.ensures.0 d.next_in-found.ensures.kept c.marked_in.ensures c.code_of.ensures

pub loop-count-init : goal.loop-count-init
loop-count-init c = listed_start _ _ _ _ _ _ _ _ c.requires

pub next_in-found-requires : goal.next_in-found-requires
next_in-found-requires c = c.loop-count.invariant.listing.going

pub shape_of-t-in_default : goal.shape_of-t-in_default
shape_of-t-in_default c = let l = c in l.loop-count.invariant.listing.long ∙ sym l.requires.long

pub shape_of-st-in_default : goal.shape_of-st-in_default
shape_of-st-in_default c = let l = c in l.loop-count.invariant.listing.stated.long ∙ sym l.requires.stated.long

pub shape_of-know-in_default : goal.shape_of-know-in_default
shape_of-know-in_default c = let l = c in c.next_in-found.ensures.kept.long ∙ sym l.requires.going.long

pub shape_of-past-in_default : goal.shape_of-past-in_default
shape_of-past-in_default c = let l = c in c.next_in-found.ensures.kept.passed.long ∙ sym l.requires.going.passed.long

pub shape_of-list-in_default : goal.shape_of-list-in_default
shape_of-list-in_default c = c.loop-count.invariant.long

pub bounds-st-x : goal.bounds-st-x
bounds-st-x c = omega (arith, c.slot_of-x.ensures.1, c.loop-count.invariant.listing.stated.long)

pub offset_bounds-list-count : goal.offset_bounds-list-count
offset_bounds-list-count c =
    let l = c in
    let g = l.well_formed.1.1.1.1.1.1.1.0 in
    omega (arith, c.loop-count-test.true, l.loop-count.invariant.long, g.0, g.1)

pub bounds-list-count : goal.bounds-list-count
bounds-list-count c = omega (arith, c.loop-count-test.true)

pub shape_of-t : goal.shape_of-t
shape_of-t c = let l = c in l.loop-count.invariant.listing.long ∙ sym l.requires.long

pub shape_of-st : goal.shape_of-st
shape_of-st c = let l = c in l.loop-count.invariant.listing.stated.long ∙ sym l.requires.stated.long

pub shape_of-know : goal.shape_of-know
shape_of-know c = let l = c in l.loop-count.invariant.listing.going.long ∙ sym l.requires.going.long

pub shape_of-past : goal.shape_of-past
shape_of-past c = let l = c in l.loop-count.invariant.listing.going.passed.long ∙ sym l.requires.going.passed.long

pub shape_of-list : goal.shape_of-list
shape_of-list c = c.loop-count.invariant.long

pub returns : goal.returns
returns c =
    let r = listed-full _ _ _ _ _ _ _ _ _ _ _ c.loop-count.invariant c.loop-count-test.false in
    record { count = r.0; table = r.1.0; list = r.1.1 }
