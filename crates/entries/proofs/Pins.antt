-- Each rule of a journal in numbers: what is wrong and safe breaks a line here. Assumes nothing.
use Prim.Native.Nat.{ℕ, ◌+◌}
use mathlib.Core.Path.{◌≡◌, refl}
use mathlib.Core.Bool.{Bool, true, false}
use mathlib.Core.List.{List, [], ◌∷◌, ◌++◌}
use lib.ListN.{replicate}
use Rattle.std.specs.Prelude.{Result, Ok, Err}
use Rattle.paper.specs.Instance.{instance_ok}
use Rattle.record.specs.Part.{ops_fit, sound_part}
use Rattle.table.specs.Calls.{part_size}
use Rattle.entries.specs.declared.Fault.{Fault}
use Rattle.entries.specs.declared.Fault.TheVariants as fault
use Rattle.entries.specs.declared.Front.TheVariants as front
use Rattle.entries.specs.declared.Front.{Front}
use Rattle.entries.specs.declared.Unreplayed.TheVariants as unreplayed
use Rattle.entries.specs.declared.Unwritten.TheVariants as unwritten
use Rattle.entries.specs.Entry.{entry_length, record_entry, mark_entry, owner_in, number_in}
use Rattle.entries.specs.Replay.{front_of, replaying_number, replaying_offset}
use Rattle.entries.specs.Writing.{entering_number, entering_length}

-- kinds and lengths
lengths : (entry_length 20 ≡ 4 + part_size) × (entry_length 21 ≡ 4) × (entry_length 0 ≡ 0) × (entry_length 8 ≡ 0) × (entry_length 19 ≡ 0) × (entry_length 22 ≡ 0)
lengths = (refl, refl, refl, refl, refl, refl)

-- kind, owner, number with its low byte first; the record follows
heads : (mark_entry 2 258 ≡ 21 ∷ 2 ∷ 2 ∷ 1 ∷ []) × (record_entry 1 3 (7 ∷ []) ≡ 20 ∷ 1 ∷ 3 ∷ 0 ∷ 7 ∷ []) × (number_in (21 ∷ 2 ∷ 2 ∷ 1 ∷ []) ≡ 258) × (owner_in (21 ∷ 2 ∷ 2 ∷ 1 ∷ []) ≡ 2)
heads = (refl, refl, refl, refl)

-- what stands in front for copy 0 of three with one number each, where every instance is committed, or none is
abbrev seen : Bool → List ℕ → Result Front Fault
seen all b = front_of 3 1 0 (λ o j. all) b

-- nothing, and less than an entry, are rests; an unknown kind is bad wherever it stands
rests : (seen true [] ≡ Ok front.Rest) × (seen true (20 ∷ []) ≡ Ok front.Rest) × (seen true (21 ∷ 9 ∷ 9 ∷ []) ≡ Ok front.Rest) × (seen true (20 ∷ 9 ∷ 9 ∷ 9 ∷ 9 ∷ []) ≡ Ok front.Rest)
    × (seen true (22 ∷ []) ≡ Err fault.Kind) × (seen true (0 ∷ []) ≡ Err fault.Kind) × (seen true (1 ∷ 0 ∷ 1 ∷ 0 ∷ []) ≡ Err fault.Kind)
unfolding front_of
rests = (refl, refl, refl, refl, refl, refl, refl)

-- a mark, with bytes behind it or none: the instance first, then whether it is committed
marks : (seen true (mark_entry 0 1) ≡ Ok front.Whole) × (seen true (mark_entry 2 1 ++ 99 ∷ []) ≡ Ok front.Whole) × (seen false (mark_entry 0 1) ≡ Err fault.Unsound)
    × (seen true (mark_entry 3 1) ≡ Err fault.Instance) × (seen true (mark_entry 0 0) ≡ Err fault.Instance) × (seen true (mark_entry 0 2) ≡ Err fault.Instance)
    × (seen false (mark_entry 3 1) ≡ Err fault.Instance)
unfolding front_of instance_ok
marks = (refl, refl, refl, refl, refl, refl, refl)

-- a record: the instance first, then whether it is sound
records : (seen true (record_entry 0 1 (replicate part_size 255)) ≡ Err fault.Unsound) × (seen true (record_entry 3 1 (replicate part_size 255)) ≡ Err fault.Instance)
unfolding front_of instance_ok sound_part ops_fit
records = (refl, refl)

-- numbers and offsets
numbers : (replaying_number (Err (unreplayed.Bad (record { why = fault.Kind; offset = 7 }))) ≡ 41) × (replaying_number (Err (unreplayed.Bad (record { why = fault.Instance; offset = 7 }))) ≡ 42) × (replaying_number (Err (unreplayed.Bad (record { why = fault.Unsound; offset = 7 }))) ≡ 43)
    × (replaying_number (Ok 7) ≡ 0) × (replaying_offset (Err (unreplayed.Bad (record { why = fault.Kind; offset = 7 }))) ≡ 7) × (replaying_offset (Ok 7) ≡ 7)
    × (entering_number (Err unwritten.Unsound) ≡ 43) × (entering_length (Ok 4) ≡ 4)
numbers = (refl, refl, refl, refl, refl, refl, refl, refl)
