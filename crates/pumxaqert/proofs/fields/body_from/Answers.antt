use Rattle.pumxaqert.specs.Fields.{body_from}
use Rattle.pumxaqert.proofs.fields.body_from.Goals as goal

pub returns : goal.returns
unfolding body_from
returns c = c.body_of.ensures
