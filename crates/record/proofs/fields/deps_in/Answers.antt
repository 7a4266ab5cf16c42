use Rattle.codec.specs.Parts.{vote_at, deps_at}
use Rattle.record.specs.Layout.{record_at}
use Rattle.record.proofs.fields.deps_in.Goals as goal

pub returns : goal.returns
unfolding record_at vote_at deps_at
returns c = c.read_deps.ensures
