-- Demand 3, with "saved" as "whole in the journal". Assumes nothing.
use Rattle.std.specs.Prelude.{ℕ, ◌≤◌, ◌<◌, ◌≡◌, length, take, Ok}
use mathlib.Core.List.{List, [], Memᴰ}
use Rattle.numbers.specs.Num.{splice}
use Rattle.rules.specs.Order.{instance_of}
use Rattle.gate.specs.Events.{event_of}
use Rattle.order.specs.Calls.{handed}
use Rattle.entries.specs.Entry.{record_kind, mark_kind, entry_length, mark_entry}
use Rattle.entries.specs.Writing.{Entered, record_entered, mark_entered}
use Rattle.entries.specs.Replay.{replayed}
use Rattle.demand.specs.Demand.{View}
use Rattle.demand.specs.Run.{Call, outcome, Possible}
use Rattle.disk.specs.Run.{saved_table, saved_marks, State, Start, acted, Run}

-- hosts that keep journals
abbrev pub journalled : ℕ → ℕ → View
journalled n s =
    record {
      State = State;
      Start = Start n s;
      Run = Run n s;
      saved = λ x c. saved_table n s c (x.copies c);
      marks = λ x c. saved_marks (x.copies c);
      lent = λ x c. (x.copies c).lent;
      Ready = λ x c. (x.copies c).coming ≡ [];
      sent = λ x. x.sent;
      history = λ x. x.history;
    }

-- an entry at the front of a room
abbrev pub wrote : List ℕ → List ℕ → Entered
wrote room entry = record { answer = Ok (length entry); out = splice room 0 entry }

module _ (n s : ℕ) where
  -- entries that are whole on disk, replayed onto the table that the journal was begun with, give the table in memory
  abbrev pub InMemory : Type 0
  InMemory = (x₀ x : State) → Start n s x₀ → Run n s x₀ x → (c : ℕ) → c < n → (x.copies c).coming ≡ []
      → replayed n s c (x.copies c).base (x.copies c).disk ≡ record { answer = Ok (length (x.copies c).disk); table = (x.copies c).lent }

  -- no entry that a run wrote is refused: whatever a cut leaves of a journal replays, and what was waited for is among it
  pub record Restart (x : State) (c p : ℕ) : Type 0 where
    pub upto : ℕ
    pub answer : (replayed n s c (x.copies c).base (take p (x.copies c).disk)).answer ≡ Ok upto
    pub kept : (x.copies c).safe ≤ upto

  abbrev pub Restarts : Type 0
  Restarts = (x₀ x : State) → Start n s x₀ → Run n s x₀ x → (c p : ℕ) → c < n → (x.copies c).safe ≤ p → p ≤ length (x.copies c).disk → Restart x c p

  -- what is to be written after an event is what the call that writes an entry writes, into any room that it fits in
  abbrev pub EventWrites : Type 0
  EventWrites = (x₀ x : State) → Start n s x₀ → Run n s x₀ x → (c : ℕ) (call : Call) (out : List ℕ) (o j w : ℕ) → c < n → Possible x.sent call → (x.copies c).coming ≡ []
      → (outcome n s c (x.copies c).lent out call).answer ≡ event_of o j w → (room : List ℕ) → entry_length record_kind ≤ length room
      → record_entered n s c (outcome n s c (x.copies c).lent out call).table room o j
      ≡ wrote room (acted n s c (x.copies c) (outcome n s c (x.copies c).lent out call) o j w).coming

  -- and so is the mark of each code of a hand-out
  abbrev pub MarksWrite : Type 0
  MarksWrite = (x₀ x : State) → Start n s x₀ → Run n s x₀ x → (c : ℕ) (list : List ℕ) (i : ℕ) → c < n → (x.copies c).coming ≡ [] → (handed n s c (x.copies c).lent list).answer ≡ Ok i
      → (code : ℕ) → Memᴰ code (take i (handed n s c (x.copies c).lent list).list) → (room : List ℕ) → entry_length mark_kind ≤ length room
      → mark_entered n s c (handed n s c (x.copies c).lent list).table room (instance_of code).0 (instance_of code).1 ≡ wrote room (mark_entry (instance_of code).0 (instance_of code).1)
