-- "The record of one instance": the table, blank and sound. Assumes nothing.
use Rattle.std.specs.Prelude.{ℕ, zero, suc, ◌*◌, ◌≡◌, Bool, true, ◌&&◌, cond, List, [], ◌∷◌, ◌++◌, eqb, length, replicate}
use Rattle.numbers.specs.Num.{num_at, splice}
use Rattle.paper.specs.Logic.{all_below}
use Rattle.paper.specs.Setup.{setup_ok}
use Rattle.paper.specs.declared.Record.{Record}
use Rattle.record.specs.Layout.{record_length, record_at, record_bytes}
use Rattle.numbers.specs.Num.{Bytes}
use Rattle.record.specs.Part.{idle_ok, sound_part}
use Rattle.table.specs.Place.{table_length, place_at, place_of, part_at}

-- what refusal 1 asks
unfoldable pub fits_setup : ℕ → ℕ → ℕ → List ℕ → Bool
fits_setup n s c t = setup_ok n s c && eqb (length t) (table_length n s)

-- setup and copy number are the caller's
unfoldable pub head_is : ℕ → ℕ → ℕ → List ℕ → Bool
head_is n s c t = eqb (num_at 1 t 0) n && eqb (num_at 1 t 1) s && eqb (num_at 1 t 2) c

-- what is left of the first k records of a row when those at their end that are idle and right are passed over
unfoldable pub past_idle : ℕ → ℕ → List ℕ → ℕ → ℕ → ℕ
past_idle n s t o zero = 0
past_idle n s t o (suc i) = cond (idle_ok n s (part_at t (place_at s o i))) (past_idle n s t o i) (suc i)

-- every record of an owner's row is sound
unfoldable pub sound_row : ℕ → ℕ → ℕ → List ℕ → ℕ → Bool
sound_row n s c t o = all_below s (λ i. sound_part n s c o (part_at t (place_at s o i)))

unfoldable pub sound_table : ℕ → ℕ → ℕ → List ℕ → Bool
sound_table n s c t = head_is n s c t && all_below n (sound_row n s c t)

-- the head and blank records
unfoldable pub blank_table : ℕ → ℕ → ℕ → List ℕ
blank_table n s c = (n ∷ s ∷ c ∷ []) ++ replicate (record_length * (n * s)) 0

-- one record in and out
unfoldable pub record_in : ℕ → List ℕ → ℕ → ℕ → Record
record_in s t o j = record_at (part_at t (place_of s o j))

unfoldable pub put_record : ℕ → List ℕ → ℕ → ℕ → Record → List ℕ
put_record s t o j r = splice t (place_of s o j) (record_bytes r)

-- what is read of o.j is written as its bytes, as of every record of a sound table
unfoldable pub Whole : ℕ → List ℕ → ℕ → ℕ → Type 0
Whole s t o j = record_bytes (record_in s t o j) ≡ part_at t (place_of s o j)

-- a table that neither 1 nor 11 refuses
pub record Judged (n s c : ℕ) (t : List ℕ) : Type 0 where
  pub setup : fits_setup n s c t ≡ true
  pub sound : sound_table n s c t ≡ true

-- and whose bytes are bytes
pub record Kept (n s c : ℕ) (t : List ℕ) : Type 0 where
  pub bytes : Bytes t
  pub setup : fits_setup n s c t ≡ true
  pub sound : sound_table n s c t ≡ true
