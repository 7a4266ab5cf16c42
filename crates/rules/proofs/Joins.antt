-- The join of all replies' dependencies. Assumes nothing.
use Prim.Native.Nat.{ℕ}
use mathlib.Core.Path.{◌≡◌}
use mathlib.Core.List.{List, [], ◌∷◌}
use lib.ListN.{length}
use Rattle.paper.specs.Deps.{join}
use Rattle.paper.specs.declared.Vote.{Vote}
use Rattle.paper.proofs.Deps.{join-seven}
use Rattle.rules.specs.Accepting.{join_all}

pub joins-seven : (d : List ℕ) (vs : List Vote) → length d ≡ 7 → length (join_all d vs) ≡ 7
unfolding join_all
joins-seven d [] l = l
joins-seven d (v ∷ vs) l = joins-seven (join d v.deps) vs (join-seven d v.deps)
