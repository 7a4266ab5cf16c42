-- 3/12: a run of N copies whose hosts keep journals in bytes: entries that go to disk piece by piece, what the host waits for, what
-- leaves, and every cut. Assumes nothing.
-- In all of this n, s is the setup, c a copy and o.j an instance.
use Rattle.std.specs.Prelude.{ℕ, zero, suc, ◌≤◌, ◌<◌, ◌≡◌, cond, eqb, length, take, drop, Result, Ok}
use mathlib.Core.List.{List, [], ◌∷◌, ◌++◌, map, Memᴰ}
use Rattle.table.specs.Table.{blank_table}
use Rattle.table.specs.Calls.{part_of}
use Rattle.rules.specs.Order.{instance_of}
use Rattle.gate.specs.Events.{event_of, Outcome}
use Rattle.paper.specs.declared.Refusal.{Refusal}
use Rattle.order.specs.declared.Settling.{Settling}
use Rattle.order.specs.Calls.{settled, Handed, handed}
use Rattle.entries.specs.Entry.{mark_kind, kind_in, owner_in, number_in, record_entry, mark_entry}
use Rattle.entries.specs.Replay.{behind, replayed}
use Rattle.safety.specs.Run.{Instance, Happening, answered, replaced}
use Rattle.demand.specs.Run.{Call, outcome, Possible, recorded, written}

-- a copy, as its host has it
pub record Copy : Type 0 where
  -- the table that its journal was begun with
  pub base : List ℕ
  -- the journal on disk: whole entries, and perhaps a part of one more
  pub disk : List ℕ
  -- so many of its bytes the host has waited for: no cut reaches them
  pub safe : ℕ
  -- bytes of entries that are still to be written
  pub coming : List ℕ
  -- the table in its memory, which it lends to the calls
  pub lent : List ℕ
  -- messages of events whose entries it has not waited for
  pub held : List (List ℕ)
  -- messages that may leave: any of them, in any order, any number of times
  pub leaving : List (List ℕ)

-- the part of the journal that no cut reaches
abbrev pub safe_part : Copy → List ℕ
safe_part k = take k.safe k.disk

-- its saved table: what the replay call makes of that part
abbrev pub saved_table : ℕ → ℕ → ℕ → Copy → List ℕ
saved_table n s c k = (replayed n s c k.base (safe_part k)).table

-- the instances that these entries mark, f entries at most
unfoldable pub marks_in : ℕ → List ℕ → List Instance
marks_in zero b = []
marks_in (suc f) [] = []
marks_in (suc f) (x ∷ b) = cond (eqb (kind_in (x ∷ b)) mark_kind) ((owner_in (x ∷ b), number_in (x ∷ b)) ∷ marks_in f (behind (x ∷ b))) (marks_in f (behind (x ∷ b)))

-- the order of saved marks is the order of their entries
abbrev pub saved_marks : Copy → List Instance
saved_marks k = marks_in (length (safe_part k)) (safe_part k)

pub record State : Type 0 where
  pub copies : ℕ → Copy
  -- all that ever left a copy: a lost message is never received, a repeated or late one is received at any time
  pub sent : List (List ℕ)
  -- every request with the instance that it got, and every answer to a question, in their order
  pub history : List (Happening (Result Settling Refusal))

-- an empty journal on a table
abbrev pub fresh : List ℕ → Copy
fresh t = record { base = t; disk = []; safe = 0; coming = []; lent = t; held = []; leaving = [] }

-- where a run may start: every copy has what the blank-table call writes and an empty journal, and nothing is requested
pub data Start (n s : ℕ) : State → Type 0 where
  blanks : Start n s (record { copies = λ c. fresh (blank_table n s c); sent = []; history = [] })

-- an event answered o.j and w bytes: the entry of its record is to be written, and its messages are held back
abbrev pub acted : ℕ → ℕ → ℕ → Copy → Outcome → ℕ → ℕ → ℕ → Copy
acted n s c k y o j w =
    record {
      base = k.base;
      disk = k.disk;
      safe = k.safe;
      coming = record_entry o j (part_of n s c y.table o j);
      lent = y.table;
      held = k.held ++ written w y.out;
      leaving = k.leaving;
    }

-- an event that left the table as it was needs no entry
abbrev pub quiet : Copy → Outcome → ℕ → Copy
quiet k y w =
    record {
      base = k.base;
      disk = k.disk;
      safe = k.safe;
      coming = k.coming;
      lent = k.lent;
      held = k.held ++ written w y.out;
      leaving = k.leaving;
    }

-- the entries of these marks, in their order
abbrev pub mark_entries : List Instance → List ℕ
mark_entries [] = []
mark_entries (i ∷ l) = mark_entry i.0 i.1 ++ mark_entries l

-- a hand-out answered i codes: their marks are to be written
abbrev pub handing : Copy → Handed → ℕ → Copy
handing k y i =
    record {
      base = k.base;
      disk = k.disk;
      safe = k.safe;
      coming = mark_entries (map instance_of (take i y.list));
      lent = y.table;
      held = k.held;
      leaving = k.leaving;
    }

-- the next i bytes reach the disk
abbrev pub wrote : Copy → ℕ → Copy
wrote k i =
    record {
      base = k.base;
      disk = k.disk ++ take i k.coming;
      safe = k.safe;
      coming = drop i k.coming;
      lent = k.lent;
      held = k.held;
      leaving = k.leaving;
    }

-- the host has waited for the disk: what was held back may leave
abbrev pub waited : Copy → Copy
waited k =
    record {
      base = k.base;
      disk = k.disk;
      safe = length k.disk;
      coming = k.coming;
      lent = k.lent;
      held = [];
      leaving = k.leaving ++ k.held;
    }

-- cut off with the first p bytes of its journal left: the replay call's table, and the journal cut off where it says
abbrev pub restarted : ℕ → ℕ → ℕ → Copy → ℕ → ℕ → Copy
restarted n s c k p e =
    record {
      base = k.base;
      disk = take e (take p k.disk);
      safe = k.safe;
      coming = [];
      lent = (replayed n s c k.base (take p k.disk)).table;
      held = [];
      leaving = [];
    }

-- the journal is begun anew, on the table in memory, with the marks that this table has: they change nothing, and keep their order
abbrev pub anew : Copy → Copy
anew k =
    record {
      base = k.lent;
      disk = mark_entries (saved_marks k);
      safe = length (mark_entries (saved_marks k));
      coming = [];
      lent = k.lent;
      held = k.held;
      leaving = k.leaving;
    }

-- all of the journal is written, and all of it was waited for
abbrev pub Saved : Copy → Type 0
Saved k = (k.coming ≡ []) × (k.safe ≡ length k.disk)

abbrev pub changed : State → ℕ → Copy → State
changed x c k = record { copies = replaced x.copies c k; sent = x.sent; history = x.history }

abbrev pub remembered : State → List (Happening (Result Settling Refusal)) → State
remembered x l = record { copies = x.copies; sent = x.sent; history = l }

-- A refused call changes nothing.
pub data Move (n s : ℕ) (x : State) : State → Type 0 where
  -- a call that answers an event, with any room; the entries of what was before are whole
  event : (c : ℕ) (call : Call) (out : List ℕ) (o j w : ℕ) → c < n → Possible x.sent call → (x.copies c).coming ≡ []
      → (outcome n s c (x.copies c).lent out call).answer ≡ event_of o j w
      → Move n s x (remembered (changed x c (acted n s c (x.copies c) (outcome n s c (x.copies c).lent out call) o j w)) (recorded x.history o j call))
  -- one that left the table as it was, without an entry
  same : (c : ℕ) (call : Call) (out : List ℕ) (o j w : ℕ) → c < n → Possible x.sent call → (x.copies c).coming ≡ []
      → (outcome n s c (x.copies c).lent out call).answer ≡ event_of o j w
      → (outcome n s c (x.copies c).lent out call).table ≡ (x.copies c).lent
      → Move n s x (remembered (changed x c (quiet (x.copies c) (outcome n s c (x.copies c).lent out call) w)) (recorded x.history o j call))
  -- a hand-out into any list
  hand_out : (c : ℕ) (list : List ℕ) (i : ℕ) → c < n → (x.copies c).coming ≡ []
      → (handed n s c (x.copies c).lent list).answer ≡ Ok i
      → Move n s x (changed x c (handing (x.copies c) (handed n s c (x.copies c).lent list) i))
  -- bytes of an entry reach the disk, as many as may be
  write : (c i : ℕ) → c < n → Move n s x (changed x c (wrote (x.copies c) i))
  -- the host has waited for whole entries
  wait : (c : ℕ) → c < n → (x.copies c).coming ≡ [] → Move n s x (changed x c (waited (x.copies c)))
  -- a message leaves
  leave : (c : ℕ) (b : List ℕ) → c < n → Memᴰ b (x.copies c).leaving
      → Move n s x (record { copies = x.copies; sent = x.sent ++ b ∷ []; history = x.history })
  -- the settled question, with any arguments; its answer gets out, so all that it rests on is saved
  question : (c o j : ℕ) → c < n → Saved (x.copies c)
      → Move n s x (remembered x (x.history ++ answered c o j (settled n s c (x.copies c).lent o j) ∷ []))
  -- a cut, at any moment and at any byte that was not waited for; the copy restarts by what the replay call answers
  cut : (c p e : ℕ) → c < n → (x.copies c).safe ≤ p → p ≤ length (x.copies c).disk
      → (replayed n s c (x.copies c).base (take p (x.copies c).disk)).answer ≡ Ok e
      → Move n s x (changed x c (restarted n s c (x.copies c) p e))
  -- a journal is begun anew from the saved table
  begin : (c : ℕ) → c < n → Saved (x.copies c) → Move n s x (changed x c (anew (x.copies c)))

-- moves in a row: Run n s x y says that the moment y comes after x
pub data Run (n s : ℕ) (x : State) : State → Type 0 where
  stay : Run n s x x
  further : {y z : State} → Run n s x y → Move n s y z → Run n s x z
