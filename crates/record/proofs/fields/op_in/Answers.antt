use mathlib.Core.Path.{ap, ◌∙◌}
use Rattle.codec.specs.Parts.{op_of, vote_at}
use Rattle.record.specs.Layout.{record_at}
use Rattle.record.proofs.fields.op_in.Goals as goal

pub returns : goal.returns
unfolding record_at vote_at
returns c = c.op_of.ensures ∙ ap op_of c.get.ensures
