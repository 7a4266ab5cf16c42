use Rattle.record.specs.Layout.{record_at}
use Rattle.record.proofs.read_record.Goals as goal

pub returns : goal.returns
unfolding record_at
returns c = cc
