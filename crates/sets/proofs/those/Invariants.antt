use Rattle.std.proofs.Common.{◌≡◌, ℕ, Bool, ◌<◌, ◌^◌}
use Rattle.rules.specs.Sets.{bits_below}
use Rattle.sets.proofs.those.Given as goal

abbrev pub invariant-loop-q : goal.invariant-loop-q
invariant-loop-q g l =
    (l.set < 2 ^ l.q)
    × ((f : ℕ → Bool) → ((q : ℕ) → q < 7 → (b : Bool) → goal.F-post g l.test q b → b ≡ f q) → l.set ≡ bits_below l.q f)
