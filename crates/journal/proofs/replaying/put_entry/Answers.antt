use mathlib.Core.Path.{sym, ◌∙◌}
use Rattle.entries.proofs.Lengths.{fit-head, fit-part}
use Rattle.journal.proofs.Put.{put_has, put_whole, record-applied, mark-applied}
use Rattle.journal.proofs.replaying.put_entry.Goals as goal

pub owner_in-o-requires : goal.owner_in-o-requires
owner_in-o-requires c = fit-head _ _ _ c.requires.fit

pub number_in-j-requires : goal.number_in-j-requires
number_in-j-requires c = fit-head _ _ _ c.requires.fit

pub part_in-requires : goal.part_in-requires
part_in-requires c = fit-part _ _ _ c.requires.fit (sym c.has_record.ensures ∙ c.if-has_record.true)

pub put_part-requires : goal.put_part-requires
put_part-requires c = (put_has _ _ _ c.args.b.now c.owner_in-o.ensures c.number_in-j.ensures c.requires, c.part_in.ensures.long)

pub returns-then-has_record : goal.returns-then-has_record
returns-then-has_record c = record-applied c.args.n _ _ _ c.owner_in-o.ensures c.number_in-j.ensures (sym c.has_record.ensures ∙ c.if-has_record.true) c.part_in.ensures.part c.put_part.ensures

pub put_mark-requires : goal.put_mark-requires
put_mark-requires c = (put_has _ _ _ c.args.b.now c.owner_in-o.ensures c.number_in-j.ensures c.requires, put_whole _ _ _ c.args.b.now c.owner_in-o.ensures c.number_in-j.ensures c.requires)

pub returns : goal.returns
returns c = mark-applied c.args.n _ _ _ c.owner_in-o.ensures c.number_in-j.ensures (sym c.has_record.ensures ∙ c.if-has_record.false) c.put_mark.ensures
