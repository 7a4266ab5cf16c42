-- Where a record stands in the table. Assumes nothing.
use Rattle.std.specs.Prelude.{ℕ, ◌+◌, ◌*◌, ◌-◌, List, take, drop}
use Rattle.record.specs.Layout.{record_length}

-- N, S and the copy's number, a byte each
abbrev pub head_length : ℕ
head_length = 3

abbrev pub table_length : ℕ → ℕ → ℕ
table_length n s = head_length + record_length * (n * s)

-- a row for each owner, of s places
unfoldable pub place_at : ℕ → ℕ → ℕ → ℕ
place_at s o i = head_length + record_length * (o * s + i)

-- number j stands at place j - 1 of its owner's row
abbrev pub place_of : ℕ → ℕ → ℕ → ℕ
place_of s o j = place_at s o (j - 1)

-- the part of a table that a record takes
abbrev pub part_at : List ℕ → ℕ → List ℕ
part_at t at = take record_length (drop at t)
