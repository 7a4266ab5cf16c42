-- What the calls on a whole table answer, and every lent byte after. Assumes nothing.
use Rattle.std.specs.Prelude.{ℕ, ◌&&◌, not, cond, List, [], Result, Ok, Err}
use Rattle.numbers.specs.Num.{splice}
use Rattle.paper.specs.Setup.{setup_ok}
use Rattle.paper.specs.Instance.{instance_ok}
use Rattle.paper.specs.Refusal.{number_of}
use Rattle.paper.specs.declared.Refusal.{Refusal}
use Rattle.paper.specs.declared.Refusal.TheVariants.{Setup, Unsound}
use Rattle.paper.specs.declared.Record.{Record}
use Rattle.record.specs.Layout.{record_length, record_at}
use Rattle.table.specs.Place.{table_length, place_of, part_at}
use Rattle.table.specs.Table.{fits_setup, sound_table, blank_table}

-- refusal 1 only, and nothing is written then
unfoldable pub blanked : ℕ → ℕ → ℕ → List ℕ → Result Unit Refusal
blanked n s c t = cond (fits_setup n s c t) (Ok tt) (Err Setup)

unfoldable pub blanked_table : ℕ → ℕ → ℕ → List ℕ → List ℕ
blanked_table n s c t = cond (fits_setup n s c t) (blank_table n s c) t

-- 1, then 11
unfoldable pub judged : ℕ → ℕ → ℕ → List ℕ → Result Unit Refusal
judged n s c t = cond (not (fits_setup n s c t)) (Err Setup) (cond (not (sound_table n s c t)) (Err Unsound) (Ok tt))

-- what a host saves of o.j: its record's bytes, none where setup or instance is bad
unfoldable pub part_of : ℕ → ℕ → ℕ → List ℕ → ℕ → ℕ → List ℕ
part_of n s c t o j = cond (fits_setup n s c t && instance_ok n s o j) (part_at t (place_of s o j)) []

-- where it starts and how long it is; both 0 where it is empty
unfoldable pub part_start : ℕ → ℕ → ℕ → List ℕ → ℕ → ℕ → ℕ
part_start n s c t o j = cond (fits_setup n s c t && instance_ok n s o j) (place_of s o j) 0

unfoldable pub part_length : ℕ → ℕ → ℕ → List ℕ → ℕ → ℕ → ℕ
part_length n s c t o j = cond (fits_setup n s c t && instance_ok n s o j) record_length 0

-- how long every part is that is not empty
abbrev pub part_size : ℕ
part_size = record_length

-- the record that a part holds
abbrev pub record_of : List ℕ → Record
record_of part = record_at part

-- how long a table of a setup is; 0 of a bad one
unfoldable pub length_of : ℕ → ℕ → ℕ
length_of n s = cond (setup_ok n s 0) (table_length n s) 0

-- a table with a part of o.j, as it was handed back for saving, in its place
unfoldable pub put_part : ℕ → List ℕ → ℕ → ℕ → List ℕ → List ℕ
put_part s t o j part = splice t (place_of s o j) part

-- the paper's number of an answer, 0 for none
abbrev pub blanking_number : Result Unit Refusal → ℕ
blanking_number (Ok x) = 0
blanking_number (Err r) = number_of r

abbrev pub judging_number : Result Unit Refusal → ℕ
judging_number (Ok x) = 0
judging_number (Err r) = number_of r
