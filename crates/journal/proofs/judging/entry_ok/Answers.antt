use mathlib.Core.Path.{sym, ◌∙◌}
use Rattle.entries.proofs.Lengths.{fit-head, fit-part, fit-slot}
use Rattle.journal.proofs.judging.entry_ok.Goals as goal

pub owner_in-o-requires : goal.owner_in-o-requires
owner_in-o-requires c = fit-head _ _ _ c.requires.1

pub part_in-requires : goal.part_in-requires
part_in-requires c = fit-part _ _ _ c.requires.1 (sym c.has_record.ensures ∙ c.if-has_record.true)

pub returns-then-has_record : goal.returns-then-has_record
returns-then-has_record c = rw (c.part_sound.ensures, c.part_in.ensures.part, c.owner_in-o.ensures, sym c.has_record.ensures ∙ c.if-has_record.true)

pub number_in-requires : goal.number_in-requires
number_in-requires c = fit-head _ _ _ c.requires.1

pub slot_of-x-requires : goal.slot_of-x-requires
slot_of-x-requires c = fit-slot _ _ _ c.requires.1 c.owner_in-o.ensures c.number_in.ensures

pub returns : goal.returns
returns c = rw (c.slot_of-x.ensures.0, c.number_in.ensures, c.owner_in-o.ensures, sym c.has_record.ensures ∙ c.if-has_record.false)
