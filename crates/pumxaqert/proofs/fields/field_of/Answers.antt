use mathlib.Core.Path.{ap}
use lib.ListN.{get_or}
use Rattle.paper.specs.declared.Field.{Field}
use Rattle.paper.specs.declared.Field.TheVariants as field
use Rattle.pumxaqert.specs.Fields.{number_fields}
use Rattle.pumxaqert.proofs.fields.field_of.Goals as goal

pub returns : goal.returns
unfolding number_fields
returns c = ap (λ (o : Field). get_or (number_fields o) c.args.i field.From) c.other_field-other.ensures
