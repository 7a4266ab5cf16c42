use mathlib.Core.Path.{sym, ◌∙◌}
use Rattle.entries.proofs.Lengths.{fit-head, fit-part, fit-slot}
use Rattle.journal.proofs.judging.note.Goals as goal

pub returns-then-not-has_record : goal.returns-then-not-has_record
returns-then-not-has_record c = rw (sym c.has_record.ensures ∙ c.if-not-has_record.true)

pub owner_in-requires : goal.owner_in-requires
owner_in-requires c = fit-head _ _ _ c.requires.0

pub number_in-requires : goal.number_in-requires
number_in-requires c = fit-head _ _ _ c.requires.0

pub slot_of-x-requires : goal.slot_of-x-requires
slot_of-x-requires c = fit-slot _ _ _ c.requires.0 c.owner_in.ensures c.number_in.ensures

pub part_in-requires : goal.part_in-requires
part_in-requires c = fit-part _ _ _ c.requires.0 (sym c.has_record.ensures ∙ c.if-not-has_record.false)

pub returns : goal.returns
returns c =
    let e = sym c.has_record.ensures ∙ c.if-not-has_record.false in
    rw (c.status_in.ensures, c.part_in.ensures.part, c.slot_of-x.ensures.0, c.number_in.ensures, c.owner_in.ensures, e)
