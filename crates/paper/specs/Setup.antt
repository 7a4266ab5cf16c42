-- "Sizes and names": the setup. Assumes nothing.
use Rattle.std.specs.Prelude.{ℕ, ◌-◌, ◌/◌, Bool, ◌&&◌, ◌||◌, leb, ltb, eqb}

-- N copies: 3, 5 or 7
abbrev pub copies_ok : ℕ → Bool
copies_ok n = eqb n 3 || eqb n 5 || eqb n 7

-- S numbers per owner: 1 to 64
abbrev pub numbers_ok : ℕ → Bool
numbers_ok s = leb 1 s && leb s 64

-- a copy number is one of 0 to N-1
abbrev pub copy_ok : ℕ → ℕ → Bool
copy_ok n c = ltb c n

-- what refusal 1 asks of the arguments, but for the table's length
unfoldable pub setup_ok : ℕ → ℕ → ℕ → Bool
setup_ok n s c = copies_ok n && numbers_ok s && copy_ok n c

-- F
abbrev pub faults : ℕ → ℕ
faults n = (n - 1) / 2
