-- "Sizes and names": ballots. Assumes nothing.
use Rattle.std.specs.Prelude.{ℕ, ◌%◌, Bool, ◌&&◌, ◌||◌, cond, leb, ltb, eqb}

-- 0, or 8r+q with r >= 1 and q < N
unfoldable pub ballot_ok : ℕ → ℕ → Bool
ballot_ok n b = eqb b 0 || (leb 8 b && ltb (b % 8) n)

-- ballot 0 is led by the instance's owner, 8r+q by q
unfoldable pub lead : ℕ → ℕ → ℕ
lead o b = cond (eqb b 0) o (b % 8)
