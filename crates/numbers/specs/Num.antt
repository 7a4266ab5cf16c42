-- Little-endian numbers of any width, and a write over part of a list. Assumes nothing.
use Rattle.std.specs.Prelude.{ℕ, zero, suc, ◌+◌, ◌*◌, ◌/◌, ◌%◌, ◌<◌, List, [], ◌∷◌, ◌++◌, get_or, take, drop, length}

-- the number whose w bytes, lowest first, stand at `at`
abbrev pub num_at : ℕ → List ℕ → ℕ → ℕ
num_at zero s at = 0
num_at (suc w) s at = get_or s at 0 + 256 * num_at w s (at + 1)

-- the lowest w bytes of x, lowest first
abbrev pub bytes_of : ℕ → ℕ → List ℕ
bytes_of zero x = []
bytes_of (suc w) x = (x % 256) ∷ bytes_of w (x / 256)

-- l with vs written over its elements from `at` on
unfoldable pub splice : List ℕ → ℕ → List ℕ → List ℕ
splice l at vs = take at l ++ vs ++ drop (at + length vs) l

-- bytes
abbrev pub Bytes : List ℕ → Type 0
Bytes b = (i : ℕ) → get_or b i 0 < 256
