-- Numbers that stand one after the other, each in its own number of bytes: what a message and a record are made of.
-- Assumes nothing.
use Rattle.std.specs.Prelude.{ℕ, zero, suc, ◌+◌, ◌^◌, ◌<◌, List, [], ◌∷◌, ◌++◌}
use Rattle.numbers.specs.Num.{num_at, bytes_of}

-- how many bytes fields of these widths take
abbrev pub size_of : List ℕ → ℕ
size_of [] = 0
size_of (w ∷ ws) = w + size_of ws

-- the numbers of these widths that stand from `at` on
abbrev pub fields_at : List ℕ → List ℕ → ℕ → List ℕ
fields_at [] s at = []
fields_at (w ∷ ws) s at = num_at w s at ∷ fields_at ws s (at + w)

-- the bytes of these numbers at these widths
abbrev pub fields_bytes : List ℕ → List ℕ → List ℕ
fields_bytes [] ns = []
fields_bytes (w ∷ ws) [] = []
fields_bytes (w ∷ ws) (n ∷ ns) = bytes_of w n ++ fields_bytes ws ns

-- as many numbers as widths, and each fits
abbrev pub FieldsFit : List ℕ → List ℕ → Type 0
FieldsFit [] [] = Unit {0}
FieldsFit [] (n ∷ ns) = ⊥
FieldsFit (w ∷ ws) [] = ⊥
FieldsFit (w ∷ ws) (n ∷ ns) = (n < 256 ^ w) × FieldsFit ws ns

-- the first k elements of d from place i on, written out
abbrev pub entries : ℕ → List ℕ → ℕ → List ℕ
entries zero d i = []
entries (suc k) d i = lib.ListN.get_or d i 0 ∷ entries k d (i + 1)
