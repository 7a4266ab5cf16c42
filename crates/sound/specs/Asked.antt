-- Clauses on ranges and votes that speak of the same fields, asked together. Assumes nothing.
use Rattle.std.specs.Prelude.{ℕ, ◌^◌, Bool, ◌&&◌, leb, ltb, eqb}
use Rattle.paper.specs.Logic.{implies}
use Rattle.paper.specs.Ballot.{ballot_ok}

-- both are ballots, and voted <= joined
unfoldable pub ballots_ok : ℕ → ℕ → ℕ → Bool
ballots_ok n joined voted = ballot_ok n joined && ballot_ok n voted && leb voted joined

-- status and mark are in range, and the mark is only on status 4
unfoldable pub marked_ok : ℕ → ℕ → Bool
marked_ok status mark = leb status 4 && leb mark 1 && implies (eqb mark 1) (eqb status 4)

-- phase and set are in range
unfoldable pub phased_ok : ℕ → ℕ → ℕ → Bool
phased_ok n phase set = leb phase 3 && ltb set (2 ^ n)
