-- 3/12: what a replay answers, and the table after. Assumes nothing.
-- n, s: the setup; c: this copy; t: a table; b: a journal, or what is left of one; at: where that begins.
use Rattle.std.specs.Prelude.{ℕ, zero, suc, ◌+◌, Bool, not, cond, List, [], ◌∷◌, ltb, eqb, length, take, drop, Result, Ok, Err}
use Rattle.paper.specs.Instance.{instance_ok}
use Rattle.paper.specs.Refusal.{number_of}
use Rattle.paper.specs.declared.Refusal.{Refusal}
use Rattle.record.specs.Part.{sound_part}
use Rattle.table.specs.Table.{record_in}
use Rattle.table.specs.Calls.{judged, put_part}
use Rattle.rules.specs.Step.{is_committed}
use Rattle.order.specs.Calls.{marked_in}
use Rattle.entries.specs.declared.Fault.{Fault}
use Rattle.entries.specs.declared.Fault.TheVariants as fault
use Rattle.entries.specs.declared.Front.{Front}
use Rattle.entries.specs.declared.Front.TheVariants as front
use Rattle.entries.specs.declared.BadEntry.{BadEntry}
use Rattle.entries.specs.declared.Unreplayed.{Unreplayed}
use Rattle.entries.specs.declared.Unreplayed.TheVariants as unreplayed
use Rattle.entries.specs.Entry.{record_kind, entry_length, kind_in, owner_in, number_in, part_in}

-- which instances of a table are committed
abbrev pub committed_in : ℕ → List ℕ → ℕ → ℕ → Bool
committed_in s t o j = is_committed (record_in s t o j)

-- what 43 asks: a sound record, or a mark on a committed instance
abbrev pub entry_ok : ℕ → ℕ → ℕ → (ℕ → ℕ → Bool) → List ℕ → Bool
entry_ok n s c committed b = cond (eqb (kind_in b) record_kind) (sound_part n s c (owner_in b) (part_in b)) (committed (owner_in b) (number_in b))

-- what stands in front: 41 wherever it stands; a known kind cut short is the rest; then 42, then 43
unfoldable pub front_of : ℕ → ℕ → ℕ → (ℕ → ℕ → Bool) → List ℕ → Result Front Fault
front_of n s c committed b =
    cond (eqb (length b) 0) (Ok front.Rest)
    (cond (eqb (entry_length (kind_in b)) 0) (Err fault.Kind)
    (cond (ltb (length b) (entry_length (kind_in b))) (Ok front.Rest)
    (cond (not (instance_ok n s (owner_in b) (number_in b))) (Err fault.Instance)
    (cond (not (entry_ok n s c committed b)) (Err fault.Unsound) (Ok front.Whole)))))

-- the table with the entry in front: its record in its place, or its mark
unfoldable pub applied : ℕ → List ℕ → List ℕ → List ℕ
applied s t b = cond (eqb (kind_in b) record_kind) (put_part s t (owner_in b) (number_in b) (part_in b)) (marked_in s t (owner_in b) (number_in b))

-- behind the entry in front
abbrev pub behind : List ℕ → List ℕ
behind b = drop (entry_length (kind_in b)) b

-- where a walk over k entries at most ends, each judged on the table after those before it; or which of them is bad
abbrev pub or_on : Result Front Fault → ℕ → Result ℕ BadEntry → Result ℕ BadEntry
or_on (Ok front.Whole) at on = on
or_on (Ok front.Rest) at on = Ok at
or_on (Err f) at on = Err (record { why = f; offset = at })

unfoldable pub end_of : ℕ → ℕ → ℕ → ℕ → List ℕ → List ℕ → ℕ → Result ℕ BadEntry
end_of zero n s c t b at = Ok at
end_of (suc k) n s c t b at =
    or_on (front_of n s c (committed_in s t) b) at (end_of k n s c (applied s t b) (behind b) (at + entry_length (kind_in b)))

-- the table after whole entries, k at most
unfoldable pub puts : ℕ → ℕ → List ℕ → List ℕ → List ℕ
puts zero s t b = t
puts (suc k) s t [] = t
puts (suc k) s t (x ∷ b) = puts k s (applied s t (x ∷ b)) (behind (x ∷ b))

-- the answer, and the table after
pub record Replayed : Type 0 where
  pub answer : Result ℕ Unreplayed
  pub table : List ℕ

-- the first bad entry counts, and nothing is changed then; else the table after the last whole entry, and where the rest begins
abbrev pub replayed_at : Result ℕ BadEntry → ℕ → List ℕ → List ℕ → Replayed
replayed_at (Ok at) s t b = record { answer = Ok at; table = puts (length b) s t (take at b) }
replayed_at (Err x) s t b = record { answer = Err (unreplayed.Bad x); table = t }

-- an entry has a byte at least, so there are no more entries than bytes
unfoldable pub replayed_open : ℕ → ℕ → ℕ → List ℕ → List ℕ → Replayed
replayed_open n s c t b = replayed_at (end_of (length b) n s c t b 0) s t b

abbrev pub replayed_through : Result Unit Refusal → List ℕ → Replayed → Replayed
replayed_through (Ok x) t rest = rest
replayed_through (Err r) t rest = record { answer = Err (unreplayed.Refused r); table = t }

-- 1 and 11 of the lent table, then the first bad entry
unfoldable pub replayed : ℕ → ℕ → ℕ → List ℕ → List ℕ → Replayed
replayed n s c t b = replayed_through (judged n s c t) t (replayed_open n s c t b)

-- the number of a fault
abbrev pub fault_number : Fault → ℕ
fault_number fault.Kind = 41
fault_number fault.Instance = 42
fault_number fault.Unsound = 43

-- the paper's number of an answer, 0 for none, and the offset that comes with it
abbrev pub replaying_number : Result ℕ Unreplayed → ℕ
replaying_number (Ok at) = 0
replaying_number (Err (unreplayed.Bad x)) = fault_number x.why
replaying_number (Err (unreplayed.Refused r)) = number_of r

abbrev pub replaying_offset : Result ℕ Unreplayed → ℕ
replaying_offset (Ok at) = at
replaying_offset (Err (unreplayed.Bad x)) = x.offset
replaying_offset (Err (unreplayed.Refused r)) = 0
