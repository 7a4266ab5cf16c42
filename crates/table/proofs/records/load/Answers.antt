use mathlib.Core.Path.{ap, ◌∙◌}
use Rattle.record.specs.Layout.{record_at}
use Rattle.table.specs.Table.{record_in}
use Rattle.table.proofs.records.load.Goals as goal

pub returns : goal.returns
unfolding record_in
returns c = c.read_record.ensures ∙ ap record_at c.part.ensures.part
