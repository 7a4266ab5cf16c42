use mathlib.Core.Path.{◌∙◌, ap}
use native.Mathlib.Omega.{arith}
use Rattle.journal.proofs.Judged.{walk_start, walk_end, walk-rests, walk-stops, walk-fit, walk-room, walk-on}
use Rattle.entries.specs.Entry.{entry_length}
use Rattle.journal.proofs.judging.walk.Goals as goal

pub loop-at-init : goal.loop-at-init
loop-at-init c = walk_start _ _ _ _ _ c.requires.long

pub note-requires : goal.note-requires
note-requires c =
    let e = rw c.in-Ok-Whole.field-0-is at c.in-Ok-Whole.ensures in
    (walk-fit _ _ _ _ _ _ _ c.loop-at.invariant c.loop-at-test.true c.requires.copies c.requires.numbers e, c.loop-at.invariant.long)

pub returns-in-Ok-Rest : goal.returns-in-Ok-Rest
returns-in-Ok-Rest c = let e = rw c.in-Ok-Rest.field-0-is at c.in-Ok-Rest.ensures in walk-rests _ _ _ _ _ _ _ c.loop-at.invariant c.loop-at-test.true e

pub returns-in-Err : goal.returns-in-Err
returns-in-Err c = walk-stops _ _ _ _ _ _ _ c.loop-at.invariant c.loop-at-test.true c.in-Err.ensures

pub loop-at-smaller : goal.loop-at-smaller
loop-at-smaller c =
    let e = rw c.in-Ok-Whole.field-0-is at c.in-Ok-Whole.ensures in
    let r = walk-room _ _ _ _ _ _ _ c.loop-at.invariant c.loop-at-test.true c.requires.copies c.requires.numbers e (c.entry_length-at.ensures ∙ ap entry_length c.kind_in.ensures) in
    omega (arith, r.0, r.1)

pub loop-at-preserved : goal.loop-at-preserved
loop-at-preserved c =
    let e = rw c.in-Ok-Whole.field-0-is at c.in-Ok-Whole.ensures in
    walk-on _ _ _ _ _ _ _ c.loop-at.invariant c.loop-at-test.true c.requires.copies c.requires.numbers e c.note.ensures (c.entry_length-at.ensures ∙ ap entry_length c.kind_in.ensures)

pub returns : goal.returns
returns c = walk_end _ _ _ _ _ _ _ c.loop-at.invariant c.loop-at-test.false
