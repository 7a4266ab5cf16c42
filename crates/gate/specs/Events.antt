-- The public calls for events: what each answers, and every lent byte after. Assumes nothing.
-- n, s: the setup; c: this copy; t: the table's bytes; out: the room for outgoing bytes; w: what interferes, of which the calls
-- have `interfere`.
use Rattle.std.specs.Prelude.{ℕ, ◌≤◌, ◌≡◌, Bool, true, ◌&&◌, not, cond, List, leb, ltb, length, Result, Ok, Err}
use Rattle.numbers.specs.Num.{splice}
use Rattle.codec.specs.Parts.{op_of}
use Rattle.paper.specs.Instance.{instance_ok}
use Rattle.paper.specs.Command.{Interference, interfere, second_ok}
use Rattle.paper.specs.Refusal.{number_of, offset_in}
use Rattle.paper.specs.declared.Command.{Command}
use Rattle.paper.specs.declared.Message.{Message}
use Rattle.paper.specs.declared.Refusal.{Refusal}
use Rattle.paper.specs.declared.Refusal.TheVariants as why
use Rattle.rules.specs.declared.Step.{Step}
use Rattle.rules.specs.Step.{is_committed}
use Rattle.rules.specs.Received.{refused10}
use Rattle.rules.specs.Recover.{out_of_ballots}
use Rattle.rules.specs.Nudge.{nothing_to_nudge}
use Rattle.rules.specs.Events.{request_number, on_request, on_message, on_recover, on_nudge}
use Rattle.wire.specs.Calls as wire
use Rattle.table.specs.Table.{fits_setup, sound_table, record_in, put_record}
use Rattle.seen.specs.Records.{records_in}
use Rattle.gate.specs.declared.Event.{Event}
use Rattle.gate.specs.Out.{out_bytes}

-- the answer of an event: the instance and how much was written
abbrev pub event_of : ℕ → ℕ → ℕ → Result Event Refusal
event_of o j k = Ok (record { owner = o; number = j; written = k })

-- the answer, the table and the room after a call
pub record Outcome : Type 0 where
  pub answer : Result Event Refusal
  pub table : List ℕ
  pub out : List ℕ

-- a refusal leaves all lent memory as at entry
abbrev pub refuse : Refusal → List ℕ → List ℕ → Outcome
refuse r t out = record { answer = Err r; table = t; out = out }

-- the instance and how much was written; of the table the record alone changes, of the room what was written
unfoldable pub acted : ℕ → List ℕ → List ℕ → ℕ → ℕ → Step → Outcome
acted s t out o j x =
    record
    { answer = event_of o j (length (out_bytes x)); table = put_record s t o j x.entry; out = splice out 0 (out_bytes x) }

-- 1, 11, then 2
unfoldable pub gate_of : ℕ → ℕ → ℕ → List ℕ → ℕ → Result Unit Refusal
gate_of n s c t room =
    cond (not (fits_setup n s c t)) (Err why.Setup) (cond (not (sound_table n s c t)) (Err why.Unsound) (cond (ltb room 256) (Err why.Room) (Ok tt)))

abbrev pub through : Result Unit Refusal → List ℕ → List ℕ → Outcome → Outcome
through (Ok x) t out rest = rest
through (Err r) t out rest = refuse r t out

-- 1, 11, 2, then the rest
unfoldable pub gated : ℕ → ℕ → ℕ → List ℕ → List ℕ → Outcome → Outcome
gated n s c t out rest = through (gate_of n s c t (length out)) t out rest

-- the command of a request
abbrev pub command_of : ℕ → ℕ → ℕ → ℕ → Command
command_of op key second edit = record { op = op_of op; key = key; second = second; edit = edit }

-- the ops that the call takes, and the commands: each with the keys that go with its op
abbrev pub op_taken : ℕ → Bool
op_taken op = leb 1 op && leb op 3

abbrev pub command_taken : ℕ → ℕ → ℕ → ℕ → Bool
command_taken op key second edit = op_taken op && second_ok (command_of op key second edit)

-- a request past that, of any command that is no no-op and has its keys: 5, then the event
unfoldable pub asked : Interference → ℕ → ℕ → ℕ → List ℕ → List ℕ → Command → Outcome
asked w n s c t out k =
    cond (ltb s (request_number s c (records_in s t))) (refuse why.NoBlank t out)
    (acted s t out c (request_number s c (records_in s t)) (on_request w n s c (records_in s t) k))

-- Request: 4, then the rest
unfoldable pub request_open : ℕ → ℕ → ℕ → List ℕ → List ℕ → ℕ → ℕ → ℕ → ℕ → Outcome
request_open n s c t out op key second edit =
    cond (not (command_taken op key second edit)) (refuse why.Op t out) (asked interfere n s c t out (command_of op key second edit))

abbrev pub requested : ℕ → ℕ → ℕ → List ℕ → List ℕ → ℕ → ℕ → ℕ → ℕ → Outcome
requested n s c t out op key second edit = gated n s c t out (request_open n s c t out op key second edit)

-- what the reader refuses is refused
abbrev pub unless_refused : Result Message Refusal → List ℕ → List ℕ → (Message → Outcome) → Outcome
unless_refused (Ok m) t out rest = rest m
unless_refused (Err r) t out rest = refuse r t out

-- a message that the reader takes: 10
unfoldable pub heard : Interference → ℕ → ℕ → ℕ → List ℕ → List ℕ → Message → Outcome
heard w n s c t out m =
    cond (refused10 (record_in s t m.owner m.number) m) (refuse why.OtherCommit t out)
    (acted s t out m.owner m.number (on_message w n s c (records_in s t) m))

-- a received message: what the reader says of it, then 10
unfoldable pub receive_open : Interference → ℕ → ℕ → ℕ → List ℕ → List ℕ → List ℕ → Outcome
receive_open w n s c t out b = unless_refused (wire.read_message n s c b) t out (heard w n s c t out)

abbrev pub received : ℕ → ℕ → ℕ → List ℕ → List ℕ → List ℕ → Outcome
received n s c t out b = gated n s c t out (receive_open interfere n s c t out b)

-- Recover: 6, 8, then 7
unfoldable pub recover_open : ℕ → ℕ → ℕ → List ℕ → List ℕ → ℕ → ℕ → Outcome
recover_open n s c t out o j =
    cond (not (instance_ok n s o j)) (refuse why.Instance t out)
    (cond (is_committed (record_in s t o j)) (refuse why.RecoverCommitted t out)
    (cond (out_of_ballots (record_in s t o j)) (refuse why.BallotsUsedUp t out) (acted s t out o j (on_recover n c (records_in s t) o j))))

abbrev pub recovered : ℕ → ℕ → ℕ → List ℕ → List ℕ → ℕ → ℕ → Outcome
recovered n s c t out o j = gated n s c t out (recover_open n s c t out o j)

-- Nudge: 6, then 9
unfoldable pub nudge_open : ℕ → ℕ → ℕ → List ℕ → List ℕ → ℕ → ℕ → Outcome
nudge_open n s c t out o j =
    cond (not (instance_ok n s o j)) (refuse why.Instance t out)
    (cond (nothing_to_nudge (record_in s t o j)) (refuse why.NudgeIdle t out) (acted s t out o j (on_nudge n c (records_in s t) o j)))

abbrev pub nudged : ℕ → ℕ → ℕ → List ℕ → List ℕ → ℕ → ℕ → Outcome
nudged n s c t out o j = gated n s c t out (nudge_open n s c t out o j)

-- the paper's number of an answer, 0 for an event, and its values
abbrev pub answer_number : Result Event Refusal → ℕ
answer_number (Ok e) = 0
answer_number (Err r) = number_of r

abbrev pub answer_owner : Result Event Refusal → ℕ
answer_owner (Ok e) = e.owner
answer_owner (Err r) = 0

abbrev pub answer_instance : Result Event Refusal → ℕ
answer_instance (Ok e) = e.number
answer_instance (Err r) = 0

abbrev pub answer_written : Result Event Refusal → ℕ
answer_written (Ok e) = e.written
answer_written (Err r) = 0

abbrev pub answer_offset : Result Event Refusal → ℕ
answer_offset (Ok e) = 0
answer_offset (Err r) = offset_in r

-- what a call past the gate rests on
pub record Passed (n s c : ℕ) (t : List ℕ) (room : ℕ) : Type 0 where
  pub setup : fits_setup n s c t ≡ true
  pub sound : sound_table n s c t ≡ true
  pub long : 256 ≤ room
