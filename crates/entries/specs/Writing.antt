-- 3/12: what the calls that write an entry answer, and the room after. Assumes nothing.
-- n, s: the setup; c: this copy; t: the table; out: the room; o.j: the instance.
use Rattle.std.specs.Prelude.{ℕ, ◌≤◌, ◌≡◌, Bool, true, ◌&&◌, not, cond, List, Result, Ok, Err, ltb, length}
use Rattle.numbers.specs.Num.{splice}
use Rattle.paper.specs.Instance.{instance_ok}
use Rattle.paper.specs.Refusal.{number_of}
use Rattle.paper.specs.declared.Refusal.{Refusal}
use Rattle.paper.specs.declared.Refusal.TheVariants.{Setup, Room, Instance}
use Rattle.record.specs.Part.{sound_part}
use Rattle.table.specs.Table.{fits_setup, record_in}
use Rattle.table.specs.Calls.{part_of}
use Rattle.rules.specs.Step.{is_committed}
use Rattle.rules.specs.Order.{is_marked}
use Rattle.entries.specs.declared.Unwritten.{Unwritten}
use Rattle.entries.specs.declared.Unwritten.TheVariants as unwritten
use Rattle.entries.specs.Entry.{record_kind, mark_kind, entry_length, record_entry, mark_entry}

-- 1, then 2 where the room is shorter than the entry, then 6
unfoldable pub gate_of : ℕ → ℕ → ℕ → List ℕ → ℕ → ℕ → ℕ → ℕ → Result Unit Refusal
gate_of n s c t room size o j =
    cond (not (fits_setup n s c t)) (Err Setup) (cond (ltb room size) (Err Room) (cond (not (instance_ok n s o j)) (Err Instance) (Ok tt)))

-- the answer, and the room after
pub record Entered : Type 0 where
  pub answer : Result ℕ Unwritten
  pub out : List ℕ

-- the entry at the front of the room, if a replay would take it
abbrev pub put : Bool → List ℕ → List ℕ → Entered
put good out entry = cond good (record { answer = Ok (length entry); out = splice out 0 entry }) (record { answer = Err unwritten.Unsound; out = out })

unfoldable pub record_open : ℕ → ℕ → ℕ → List ℕ → List ℕ → ℕ → ℕ → Entered
record_open n s c t out o j = put (sound_part n s c o (part_of n s c t o j)) out (record_entry o j (part_of n s c t o j))

unfoldable pub mark_open : ℕ → List ℕ → List ℕ → ℕ → ℕ → Entered
mark_open s t out o j = put (is_committed (record_in s t o j) && is_marked (record_in s t o j)) out (mark_entry o j)

abbrev pub through : Result Unit Refusal → List ℕ → Entered → Entered
through (Ok _) out rest = rest
through (Err r) out rest = record { answer = Err (unwritten.Refused r); out = out }

-- the record of o.j as it stands in the table: 1, 2, 6, then 43 if it is not sound
unfoldable pub record_entered : ℕ → ℕ → ℕ → List ℕ → List ℕ → ℕ → ℕ → Entered
record_entered n s c t out o j = through (gate_of n s c t (length out) (entry_length record_kind) o j) out (record_open n s c t out o j)

-- the mark of o.j: 1, 2, 6, then 43 if it is not committed and marked
unfoldable pub mark_entered : ℕ → ℕ → ℕ → List ℕ → List ℕ → ℕ → ℕ → Entered
mark_entered n s c t out o j = through (gate_of n s c t (length out) (entry_length mark_kind) o j) out (mark_open s t out o j)

-- past the gate, for an entry of kind k
pub record Enters (n s c : ℕ) (t out : List ℕ) (k o j : ℕ) : Type 0 where
  pub setup : fits_setup n s c t ≡ true
  pub room : entry_length k ≤ length out
  pub range : instance_ok n s o j ≡ true

-- the paper's number of an answer, 0 for none, and how many bytes were written
abbrev pub entering_number : Result ℕ Unwritten → ℕ
entering_number (Ok k) = 0
entering_number (Err (unwritten.Refused r)) = number_of r
entering_number (Err unwritten.Unsound) = 43

abbrev pub entering_length : Result ℕ Unwritten → ℕ
entering_length (Ok k) = k
entering_length (Err e) = 0
