use mathlib.Core.Path.{ap, ◌∙◌}
use mathlib.Core.List.{List}
use Prim.Native.Nat.{ℕ}
use Rattle.record.specs.Layout.{record_at}
use Rattle.table.specs.Table.{record_in}
use Rattle.table.proofs.records.joined_of.Goals as goal

pub returns : goal.returns
unfolding record_in
returns c = c.joined_in.ensures ∙ ap (λ (b : List ℕ). (record_at b).joined) c.part.ensures.part
