use mathlib.Core.Path.{refl}
use Rattle.pumxaqert.specs.Fields.{most}
use Rattle.pumxaqert.proofs.fields.most.Goals as goal

pub returns : goal.returns
unfolding most
returns c = refl
