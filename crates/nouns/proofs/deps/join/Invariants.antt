use Rattle.std.proofs.Common.{◌≡◌, ℕ, ◌<◌, length, get_or}
use Rattle.paper.specs.Deps.{larger}
use Rattle.nouns.proofs.deps.join.Given as goal

abbrev pub invariant-loop-i : goal.invariant-loop-i
invariant-loop-i l = (length l.d ≡ 7) × ((k : ℕ) → k < l.i → get_or l.d k 0 ≡ larger (get_or l.a k 0) (get_or l.b k 0))
