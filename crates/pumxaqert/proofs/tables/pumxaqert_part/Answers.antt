use Rattle.pumxaqert.proofs.tables.pumxaqert_part.Goals as goal

pub returns : goal.returns
returns c = record { start = c.part_start.ensures; length = c.part_length.ensures }
