use mathlib.Core.Path.{sym, ◌∙◌}
use native.Mathlib.Omega.{arith}
use Rattle.table.proofs.Laws.{sizes}
use Rattle.entries.proofs.Written.{enters-small, record-unsound, record-size, record-room, record-put}
use Rattle.journal.proofs.writing.record_open.Goals as goal

pub part_sound-requires : goal.part_sound-requires
part_sound-requires c =
    let a = c.requires in
    let z = sizes _ _ _ _ a.setup in
    (record-size _ _ _ _ _ _ _ a c.record_part-part.ensures, z.least, z.copies, omega (arith, z.copies, z.copy))

pub returns-then-not-part_sound : goal.returns-then-not-part_sound
returns-then-not-part_sound c = record-unsound _ _ _ _ _ _ _ c.record_part-part.ensures (sym c.part_sound.ensures ∙ c.if-not-part_sound.true)

pub write_head-requires : goal.write_head-requires
write_head-requires c = let a = enters-small _ _ _ _ _ _ _ _ c.requires in (omega (arith, c.requires.room), omega (arith, c.number.ensures, c.from.ensures), a.0, a.1)

pub put_bytes-requires : goal.put_bytes-requires
put_bytes-requires c = record-room _ _ _ _ _ _ _ c.requires c.record_part-part.ensures (rw (c.from.ensures, c.number.ensures) at c.write_head.ensures)

pub returns : goal.returns
returns c =
    record-put _ _ _ _ _ _ _ c.requires c.record_part-part.ensures (sym c.part_sound.ensures ∙ c.if-not-part_sound.false) (rw (c.from.ensures, c.number.ensures) at c.write_head.ensures)
    c.put_bytes.ensures
