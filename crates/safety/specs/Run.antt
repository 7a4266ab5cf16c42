-- A run of N copies: what stands saved, and every move that can change it. Assumes nothing.
-- In all of this n, s is the setup and c a copy.
use Rattle.std.specs.Prelude.{ℕ, ◌≤◌, ◌<◌, ◌≡◌, true, false, cond, eqb, Some}
use mathlib.Core.List.{List, [], ◌∷◌, ◌++◌, Memᴰ}
use Rattle.paper.specs.Setup.{copies_ok, numbers_ok}
use Rattle.paper.specs.Instance.{instance_ok}
use Rattle.paper.specs.Command.{is_noop, Interference, Wide}
use Rattle.paper.specs.Vote.{blank}
use Rattle.paper.specs.Valid.{valid}
use Rattle.paper.specs.declared.Command.{Command}
use Rattle.paper.specs.declared.Record.{Record}
use Rattle.paper.specs.declared.Message.{Message}
use Rattle.rules.specs.declared.Step.{Step}
use Rattle.rules.specs.Seen.{Records}
use Rattle.rules.specs.Step.{is_committed}
use Rattle.rules.specs.Received.{refused10}
use Rattle.rules.specs.Recover.{out_of_ballots}
use Rattle.rules.specs.Nudge.{nothing_to_nudge}
use Rattle.rules.specs.Events.{put, request_number, on_request, on_message, on_recover, on_nudge, messages}
use Rattle.rules.specs.Order.{instance, found, first_open, next_out}
use Rattle.rules.specs.Order as order

-- an instance: owner, number
abbrev pub Instance : Type 0
Instance = ℕ × ℕ

-- what a run remembers beside its tables: o was asked for k and gave it the number j; copy c answered a when it was asked
-- whether o.j is settled
pub data Happening (A : Type 0) : Type 0 where
  requested : (o j : ℕ) (k : Command) → Happening A
  answered : (c o j : ℕ) (a : A) → Happening A

-- whether an instance is settled: its command, or the uncommitted instance that it waits for first, or there is none such
pub data Settling : Type 0 where
  settled : (k : Command) → Settling
  waits : (o j : ℕ) → Settling
  unknown : Settling

abbrev pub settling : ℕ → ℕ → Records → ℕ → ℕ → Settling
settling n s t o j = cond (instance_ok n s o j) (found (first_open n s t o j) (settled (t o j).vote.command) waits) unknown

pub record State : Type 0 where
  -- each copy's saved table
  pub tables : ℕ → Records
  -- all that was ever sent: a lost message is never received, a repeated or late one is received at any time
  pub sent : List Message
  -- all that was requested and answered, in its order
  pub history : List (Happening Settling)
  -- for each copy, the order in which its marks were saved
  pub marks : ℕ → List Instance

-- the copies have these tables, this counts as past, and nothing is sent or marked
abbrev pub begun : (ℕ → Records) → List (Happening Settling) → State
begun tables past = record { tables = tables; sent = []; history = past; marks = λ c. [] }

-- where a run may start: all tables blank, nothing requested
pub data Start (n s : ℕ) : State → Type 0 where
  blanks : Start n s (begun (λ c o j. blank) [])

-- 3, 5 or 7 copies and 1 to 64 numbers
pub record Setup (n s : ℕ) : Type 0 where
  pub copies : copies_ok n ≡ true
  pub numbers : numbers_ok s ≡ true

-- what copy c has is x from now on
abbrev pub replaced : {A : Type 0} → (ℕ → A) → ℕ → A → ℕ → A
replaced f c x q = cond (eqb q c) x (f q)

-- what is saved at a time: an instance's record
pub data Save : Type 0 where
  entry : (o j : ℕ) (r : Record) → Save

-- the saved table after it
abbrev pub stored : Records → Save → Records
stored t (entry o j r) = put t o j r

-- what a step at o.j saves
abbrev pub save_of : ℕ → ℕ → Step → Save
save_of o j step = entry o j step.entry

-- copy c saves, then sends what is in out
abbrev pub saved : State → ℕ → Save → List Message → State
saved x c save out =
    record {
      tables = replaced x.tables c (stored (x.tables c) save);
      sent = x.sent ++ out;
      history = x.history;
      marks = x.marks;
    }

-- something is remembered
abbrev pub happened : State → Happening Settling → State
happened x h = record { tables = x.tables; sent = x.sent; history = x.history ++ h ∷ []; marks = x.marks }

-- what the mark of o.j saves
abbrev pub mark_of : Records → ℕ → ℕ → Save
mark_of t o j = entry o j (order.marked (t o j))

-- copy c saves it
abbrev pub marked : State → ℕ → ℕ → ℕ → State
marked x c o j =
    record {
      tables = replaced x.tables c (stored (x.tables c) (mark_of (x.tables c) o j));
      sent = x.sent;
      history = x.history;
      marks = replaced x.marks c (x.marks c ++ (o, j) ∷ []);
    }

-- any part of a step's messages, in any order: a cut may come between the save and the sends
abbrev pub Among : List Message → List Message → Type 0
Among out all = (m : Message) → Memᴰ m out → Memᴰ m all

-- A cut before a save, a restart and a refused call change nothing that is saved: they are no moves.
-- A hand-out is as many mark moves as marks were saved.
-- Each copy works, at each event, by some interference w that has at least what interferes: document 01's or 4/12's.
pub data Move (n s : ℕ) (x : State) : State → Type 0 where
  -- a command that is no no-op; which ops the public call takes is asked there
  request : (c : ℕ) (w : Interference) (k : Command) (out : List Message) → c < n → Wide w → is_noop k ≡ false
      → request_number s c (x.tables c) ≤ s
      → Among out (messages (on_request w n s c (x.tables c) k))
      → Move n s x (happened (saved x c (save_of c (request_number s c (x.tables c)) (on_request w n s c (x.tables c) k)) out) (requested c (request_number s c (x.tables c)) k))
  -- any message that was sent, if it is valid here and not refused
  receive : (c : ℕ) (w : Interference) (m : Message) (out : List Message) → c < n → Wide w → Memᴰ m x.sent → valid n s c m ≡ true
      → refused10 (x.tables c m.owner m.number) m ≡ false
      → Among out (messages (on_message w n s c (x.tables c) m))
      → Move n s x (saved x c (save_of m.owner m.number (on_message w n s c (x.tables c) m)) out)
  -- any instance in range that is not committed, while ballots are left
  recover : (c o j : ℕ) (out : List Message) → c < n → instance_ok n s o j ≡ true
      → is_committed (x.tables c o j) ≡ false → out_of_ballots (x.tables c o j) ≡ false
      → Among out (messages (on_recover n c (x.tables c) o j))
      → Move n s x (saved x c (save_of o j (on_recover n c (x.tables c) o j)) out)
  -- any instance in range that is committed or in a phase
  nudge : (c o j : ℕ) (out : List Message) → c < n → instance_ok n s o j ≡ true
      → nothing_to_nudge (x.tables c o j) ≡ false
      → Among out (messages (on_nudge n c (x.tables c) o j))
      → Move n s x (saved x c (save_of o j (on_nudge n c (x.tables c) o j)) out)
  -- what a hand-out lists next
  hand_out : (c o j : ℕ) → c < n → next_out n s (x.tables c) ≡ Some (instance o j) → Move n s x (marked x c o j)
  -- whether o.j is settled, at any moment and of any instance
  question : (c o j : ℕ) → c < n → Move n s x (happened x (answered c o j (settling n s (x.tables c) o j)))

-- moves in a row: Run n s x y says that the moment y comes after x
pub data Run (n s : ℕ) (x : State) : State → Type 0 where
  stay : Run n s x x
  further : {y z : State} → Run n s x y → Move n s y z → Run n s x z
