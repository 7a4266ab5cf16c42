use mathlib.Core.Path.{sym, ap, ◌∙◌}
use native.Mathlib.Omega.{arith}
use borrow.Author.Tests.{eqb-true, eqb-false}
use lib.ListN.{length, length-take, length-drop}
use Rattle.entries.specs.Entry.{entry_length}
use Rattle.journal.proofs.Put.{put-start, put-end, put_fit, put-room, put_on}
use Rattle.journal.proofs.replaying.put_entries.Goals as goal

pub loop-rest-init : goal.loop-rest-init
loop-rest-init c = put-start _ _ _ _ (λ i. omega (arith, c.type_inv.b i)) c.requires

pub put_entry-requires : goal.put_entry-requires
put_entry-requires c =
    let some = eqb-false (length c.loop-rest.rest.now) 0 (sym c.loop-rest-test.ensures) in
    record { fit = put_fit _ _ _ _ _ _ c.loop-rest.invariant (omega arith); held = c.loop-rest.invariant.held }

pub slice_bounds-rest-count : goal.slice_bounds-rest-count
slice_bounds-rest-count c =
    let some = eqb-false (length c.loop-rest.rest.now) 0 (sym c.loop-rest-test.ensures) in
    (put-room _ _ _ _ _ _ c.loop-rest.invariant (omega arith) (c.entry_length.ensures ∙ ap entry_length c.kind_in.ensures)).1

pub slice_bounds-rest-start : goal.slice_bounds-rest-start
slice_bounds-rest-start c =
    let some = eqb-false (length c.loop-rest.rest.now) 0 (sym c.loop-rest-test.ensures) in
    let r = put-room _ _ _ _ _ _ c.loop-rest.invariant (omega arith) (c.entry_length.ensures ∙ ap entry_length c.kind_in.ensures) in
    omega (arith, r.1)

pub loop-rest-smaller : goal.loop-rest-smaller
loop-rest-smaller c =
    let some = eqb-false (length c.loop-rest.rest.now) 0 (sym c.loop-rest-test.ensures) in
    let r = put-room _ _ _ _ _ _ c.loop-rest.invariant (omega arith) (c.entry_length.ensures ∙ ap entry_length c.kind_in.ensures) in
    simp (length-take, length-drop) (omega (arith, r.0, r.1))

pub loop-rest-preserved : goal.loop-rest-preserved
loop-rest-preserved c =
    let some = eqb-false (length c.loop-rest.rest.now) 0 (sym c.loop-rest-test.ensures) in
    put_on _ _ _ _ _ _ c.loop-rest.invariant (omega arith) c.put_entry.ensures (c.entry_length.ensures ∙ ap entry_length c.kind_in.ensures)

pub returns : goal.returns
returns c = put-end _ _ _ _ _ _ c.loop-rest.invariant (eqb-true (length c.loop-rest.rest.now) 0 (sym c.loop-rest-test.ensures))
