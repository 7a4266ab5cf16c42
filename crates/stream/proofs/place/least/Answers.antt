use mathlib.Core.Path.{sym}
use mathlib.Core.List.{[], ◌∷◌}
use native.Mathlib.Omega.{arith}
use lib.ListN.{get_or-eq_default}
use Rattle.stream.proofs.place.least.Goals as goal

pub returns-in_default : goal.returns-in_default
returns-in_default c = sym (get_or-eq_default (0 ∷ 41 ∷ 42 ∷ 83 ∷ 14 ∷ 55 ∷ 46 ∷ 37 ∷ 28 ∷ []) 69 {n = c.args.digit} (omega arith))
