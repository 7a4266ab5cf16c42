use Rattle.record.specs.Layout.{record_at}
use Rattle.record.proofs.fields.phase_in.Goals as goal

pub returns : goal.returns
unfolding record_at
returns c = c.get.ensures
