-- Sets of copies as bits, and searches over the seven places. Assumes nothing.
use Rattle.std.specs.Prelude.{ℕ, zero, suc, ◌+◌, ◌^◌, Bool, ◌&&◌, not, cond, ltb, eqb}
use Rattle.paper.specs.Deps.{larger}
use Rattle.paper.specs.Vote.{member}

-- the places below k at which f holds, as bits
unfoldable pub bits_below : ℕ → (ℕ → Bool) → ℕ
bits_below zero f = 0
bits_below (suc k) f = cond (f k) (2 ^ k) 0 + bits_below k f

abbrev pub those : (ℕ → Bool) → ℕ
those f = bits_below 7 f

-- all copies but this one
unfoldable pub others : ℕ → ℕ → ℕ
others n c = those (λ q. ltb q n && not (eqb q c))

-- all copies but this one and those in m
unfoldable pub absent : ℕ → ℕ → ℕ → ℕ
absent n c m = those (λ q. ltb q n && not (eqb q c) && not (member q m))

-- copy q alone
abbrev pub only : ℕ → ℕ
only q = 2 ^ q

-- a set that copy q, who was not in it, has joined
abbrev pub with : ℕ → ℕ → ℕ
with m q = m + 2 ^ q

-- the lowest place below k, from i on, at which f holds; past them all where there is none
unfoldable pub lowest_from : ℕ → ℕ → (ℕ → Bool) → ℕ
lowest_from zero i f = i
lowest_from (suc k) i f = cond (f i) i (lowest_from k (i + 1) f)

abbrev pub lowest : (ℕ → Bool) → ℕ
lowest f = lowest_from 7 0 f

-- the largest value of f below k
unfoldable pub largest_below : ℕ → (ℕ → ℕ) → ℕ
largest_below zero f = 0
largest_below (suc k) f = larger (f k) (largest_below k f)

-- the highest number from k down to 1 at which f holds, else 0
unfoldable pub highest : ℕ → (ℕ → Bool) → ℕ
highest zero f = 0
highest (suc k) f = cond (f (suc k)) (suc k) (highest k f)
