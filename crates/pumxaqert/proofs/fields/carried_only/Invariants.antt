use mathlib.Core.Path.{◌≡◌}
use mathlib.Core.Bool.{◌||◌}
use Prim.Native.Nat.{◌≤◌}
use lib.Dec.{eqb}
use lib.ListN.{get_or}
use Rattle.paper.specs.Logic.{all_below}
use Rattle.paper.specs.Valid.{has_field}
use Rattle.pumxaqert.specs.Fields.{field_of, carried_only}
use Rattle.pumxaqert.proofs.fields.carried_only.Given as goal

abbrev pub invariant-loop-i : goal.invariant-loop-i
invariant-loop-i l = (carried_only l.p l.f ≡ all_below l.i (λ i. has_field l.p (field_of l.p i) || eqb (get_or l.f i 0) 0)) × (l.i ≤ 19)
