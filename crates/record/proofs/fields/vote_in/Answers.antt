use Rattle.record.specs.Layout.{record_at}
use Rattle.record.proofs.fields.vote_in.Goals as goal

pub returns : goal.returns
unfolding record_at
returns c = c.read_vote.ensures
