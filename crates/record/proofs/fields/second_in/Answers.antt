use Rattle.codec.specs.Parts.{vote_at}
use Rattle.record.specs.Layout.{record_at}
use Rattle.record.proofs.fields.second_in.Goals as goal

pub returns : goal.returns
unfolding record_at vote_at
returns c = c.get.ensures
