use Rattle.std.proofs.Common.{◌≡◌, ℕ, Bool, ◌<◌}
use Rattle.paper.specs.Logic.{all_below}
use Rattle.nouns.proofs.logic.all_below.Given as goal

abbrev pub invariant-loop-i : goal.invariant-loop-i
invariant-loop-i g l = (f : ℕ → Bool) → ((i : ℕ) → i < l.n → (b : Bool) → goal.F-post g l.test i b → b ≡ f i) → l.all ≡ all_below l.i f
