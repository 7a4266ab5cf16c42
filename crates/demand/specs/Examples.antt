-- "Examples": W1 to W10 in one table, as what the public calls answer and leave: the answer, the record, the room. Each table is
-- what the calls before it left, from a blank one on. Assumes nothing.
use Rattle.std.specs.Prelude.{ℕ, ◌≤◌, ◌≡◌, List, [], ◌∷◌, ◌++◌, length, replicate, Ok}
use Rattle.numbers.specs.Num.{splice}
use Rattle.paper.specs.Deps.{no_deps}
use Rattle.paper.specs.Vote.{no_vote}
use Rattle.paper.specs.declared.Vote.{Vote}
use Rattle.paper.specs.declared.Record.{Record}
use Rattle.paper.specs.declared.Message.{Message}
use Rattle.paper.specs.declared.Body.{Body}
use Rattle.paper.specs.declared.Body.TheVariants.{PreAccept, PreAcceptOk, Accept, Commit, Prepare, PrepareOk}
use Rattle.paper.specs.declared.Refusal.TheVariants.{BallotsUsedUp, NoBlank, Room}
use Rattle.rules.specs.Order.{instance, marked}
use Rattle.rules.specs.Examples.{write, deps3, votes, added}
use Rattle.rules.specs.Pins.{vote, held, busy}
use Rattle.wire.specs.Wire.{message_bytes}
use Rattle.table.specs.Table.{blank_table, put_record}
use Rattle.gate.specs.Out.{all_bytes}
use Rattle.gate.specs.Events.{event_of, Outcome, refuse, requested, received, recovered}
use Rattle.order.specs.declared.Settling.TheVariants.{Waits}
use Rattle.order.specs.Calls.{settled, handed}

-- the 37 bytes of a PreAccept to copy q
abbrev pub bytes_to : ℕ → List ℕ
bytes_to q = (1 ∷ 0 ∷ q ∷ 0 ∷ 1 ∷ 0 ∷ 0 ∷ 0 ∷ 0 ∷ 0 ∷ 2 ∷ 7 ∷ 0 ∷ 0 ∷ 0 ∷ 0x64 ∷ []) ++ replicate 21 0

-- a message about 0.1, and one to each of these copies
abbrev pub about : ℕ → ℕ → ℕ → Body → List ℕ → Message
about from to b body d = record { from = from; to = to; owner = 0; number = 1; ballot = b; body = body; deps = d }

abbrev pub to_each : ℕ → ℕ → Body → List ℕ → List ℕ → List Message
to_each from b body d [] = []
to_each from b body d (q ∷ l) = about from q b body d ∷ to_each from b body d l

-- an event of 0.1: this record is there then, and so many bytes are at the front of the room
abbrev pub leaves : List ℕ → List ℕ → Record → ℕ → List ℕ → Outcome
leaves t out r k b = record { answer = event_of 0 1 k; table = put_record 4 t 0 1 r; out = splice out 0 b }

-- three copies: copy 0 after its request, and after an answer that added something; copy 1 after one of its own
abbrev pub asking_record : ℕ → List Vote → Record
asking_record m vs = busy 0 (vote 100 0 2 no_deps) 2 m vs

abbrev pub asked_table : List ℕ
asked_table = put_record 4 (blank_table 3 4 0) 0 1 (asking_record 0 (replicate 7 no_vote))

abbrev pub with_answer : Record
with_answer = asking_record 2 (votes no_vote (added (deps3 0 1 0)) no_vote no_vote no_vote)

abbrev pub waiting_table : List ℕ
waiting_table = put_record 4 asked_table 0 1 with_answer

abbrev pub own_table : List ℕ
own_table = put_record 4 (blank_table 3 4 1) 1 1 (busy 0 (vote 5 0 2 no_deps) 2 0 (replicate 7 no_vote))

-- seven copies: copy 2 has joined this ballot
abbrev pub joined_table : ℕ → List ℕ
joined_table b = put_record 4 (blank_table 7 4 2) 0 1 (held b no_vote)

abbrev pub other_six : List ℕ
other_six = 0 ∷ 1 ∷ 3 ∷ 4 ∷ 5 ∷ 6 ∷ []

-- five copies: copy 2 prepares, and holds one more reply, of copy 1 or of the owner
abbrev pub preparing_record : ℕ → ℕ → List Vote → Record
preparing_record b m vs = busy b no_vote 1 m vs

abbrev pub recovering_table : List ℕ
recovering_table = put_record 4 (blank_table 5 4 2) 0 1 (preparing_record 10 4 (replicate 7 no_vote))

abbrev pub one_told : List ℕ
one_told = put_record 4 recovering_table 0 1 (preparing_record 10 6 (votes no_vote (vote 1 0 2 no_deps) no_vote no_vote no_vote))

abbrev pub owner_told : List ℕ
owner_told = put_record 4 recovering_table 0 1 (preparing_record 10 5 (votes (vote 1 0 2 no_deps) no_vote no_vote no_vote no_vote))

abbrev pub tells : ℕ → ℕ → Vote → List ℕ
tells q b v = message_bytes (about q 2 b (PrepareOk v.voted v.status v.command) v.deps)

-- it accepts a command, it asks for it afresh
abbrev pub accepts_record : ℕ → ℕ → Record
accepts_record e b = busy b (vote e b 3 no_deps) 3 0 (replicate 7 no_vote)

abbrev pub afresh_record : ℕ → ℕ → Record
afresh_record e b = busy b (vote e b 2 no_deps) 2 0 (replicate 7 no_vote)

abbrev pub other_four : List ℕ
other_four = 0 ∷ 1 ∷ 3 ∷ 4 ∷ []

-- it recovered past ballot 17, and copy 1 told it of a vote at 10
abbrev pub past_table : List ℕ
past_table = put_record 4 (put_record 4 (blank_table 5 4 2) 0 1 (held 17 no_vote)) 0 1 (preparing_record 26 4 (replicate 7 no_vote))

abbrev pub lower_told : List ℕ
lower_told = put_record 4 past_table 0 1 (preparing_record 26 6 (votes no_vote (vote 1 10 3 no_deps) no_vote no_vote no_vote))

-- copy 0 holds commits
abbrev pub done_record : List ℕ → Record
done_record d = held 0 (vote 1 0 4 d)

abbrev pub cycle_table : List ℕ
cycle_table = put_record 4 (put_record 4 (blank_table 3 4 0) 0 1 (done_record (deps3 0 1 0))) 1 1 (done_record (deps3 1 0 0))

abbrev pub chain_table : List ℕ
chain_table = put_record 4 (put_record 4 (blank_table 3 4 0) 0 1 (done_record (deps3 0 0 1))) 2 1 (done_record no_deps)

pub record Examples (out : List ℕ) : Type 0 where
  pub W1 : requested 3 4 0 (blank_table 3 4 0) out 2 7 0 100 ≡ leaves (blank_table 3 4 0) out (asking_record 0 (replicate 7 no_vote)) 74 (bytes_to 1 ++ bytes_to 2)
  pub W2 : received 3 4 0 asked_table out (message_bytes (about 1 0 0 PreAcceptOk no_deps))
      ≡ leaves asked_table out (held 0 (vote 100 0 4 no_deps)) 74 (all_bytes (to_each 0 0 (Commit (write 100)) no_deps (1 ∷ 2 ∷ [])))
  pub W3-answers : received 3 4 1 own_table out (message_bytes (about 0 1 0 (PreAccept (write 100)) no_deps))
      ≡ leaves own_table out (held 0 (vote 100 0 1 (deps3 0 1 0))) 24 (message_bytes (about 1 0 0 PreAcceptOk (deps3 0 1 0)))
  pub W3-waits : received 3 4 0 asked_table out (message_bytes (about 1 0 0 PreAcceptOk (deps3 0 1 0))) ≡ leaves asked_table out with_answer 0 []
  pub W3-commits : received 3 4 0 waiting_table out (message_bytes (about 2 0 0 PreAcceptOk no_deps))
      ≡ leaves waiting_table out (held 0 (vote 100 0 4 no_deps)) 74 (all_bytes (to_each 0 0 (Commit (write 100)) no_deps (1 ∷ 2 ∷ [])))
  pub W4 : received 3 4 0 waiting_table out (message_bytes (about 2 0 0 PreAcceptOk (deps3 0 0 1)))
      ≡ leaves waiting_table out (busy 0 (vote 100 0 3 (deps3 0 1 1)) 3 0 (replicate 7 no_vote)) 74 (all_bytes (to_each 0 0 (Accept (write 100)) (deps3 0 1 1) (1 ∷ 2 ∷ [])))
  pub W5-first : recovered 7 4 2 (blank_table 7 4 2) out 0 1 ≡ leaves (blank_table 7 4 2) out (preparing_record 10 4 (replicate 7 no_vote)) 60 (all_bytes (to_each 2 10 Prepare no_deps other_six))
  pub W5-later : recovered 7 4 2 (joined_table 13) out 0 1 ≡ leaves (joined_table 13) out (preparing_record 18 4 (replicate 7 no_vote)) 60 (all_bytes (to_each 2 18 Prepare no_deps other_six))
  pub W5-last : recovered 7 4 2 (joined_table 4_294_967_288) out 0 1 ≡ refuse BallotsUsedUp (joined_table 4_294_967_288) out
  pub W6-accept : received 5 4 2 one_told out (tells 3 10 (vote 1 0 2 no_deps)) ≡ leaves one_told out (accepts_record 1 10) 148 (all_bytes (to_each 2 10 (Accept (write 1)) no_deps other_four))
  pub W6-afresh : received 5 4 2 one_told out (tells 3 10 (vote 1 0 1 no_deps)) ≡ leaves one_told out (afresh_record 1 10) 148 (all_bytes (to_each 2 10 (PreAccept (write 1)) no_deps other_four))
  pub W6-owner : received 5 4 2 owner_told out (tells 3 10 (vote 1 0 2 no_deps)) ≡ leaves owner_told out (afresh_record 1 10) 148 (all_bytes (to_each 2 10 (PreAccept (write 1)) no_deps other_four))
  pub W7 : received 5 4 2 lower_told out (tells 3 26 (vote 2 17 3 no_deps)) ≡ leaves lower_told out (accepts_record 2 26) 148 (all_bytes (to_each 2 26 (Accept (write 2)) no_deps other_four))
  pub W8 : handed 3 4 0 cycle_table (9 ∷ 9 ∷ 9 ∷ [])
      ≡ record { answer = Ok 2; table = put_record 4 (put_record 4 cycle_table 0 1 (marked (done_record (deps3 0 1 0)))) 1 1 (marked (done_record (deps3 1 0 0))); list = 1 ∷ 257 ∷ 9 ∷ [] }
  pub W9 : handed 3 4 0 chain_table (9 ∷ 9 ∷ 9 ∷ [])
      ≡ record { answer = Ok 2; table = put_record 4 (put_record 4 chain_table 2 1 (marked (done_record no_deps))) 0 1 (marked (done_record (deps3 0 0 1))); list = 513 ∷ 1 ∷ 9 ∷ [] }
  pub W10 : settled 3 4 0 (put_record 4 cycle_table 2 1 (done_record (deps3 2 1 0))) 2 1 ≡ Ok (Waits (instance 0 2))

-- one number each: copy 0 after its request
abbrev pub used_table : List ℕ
used_table = put_record 1 (blank_table 3 1 0) 0 1 (asking_record 0 (replicate 7 no_vote))

-- no number is left, no place, or one byte too few
pub record Limits (out : List ℕ) : Type 0 where
  pub full : 256 ≤ length out → requested 3 1 0 used_table out 2 7 0 100 ≡ refuse NoBlank used_table out
  pub no_place : handed 3 4 0 cycle_table [] ≡ record { answer = Ok 0; table = cycle_table; list = [] }
  pub short : length out ≡ 255 → requested 3 4 0 (blank_table 3 4 0) out 2 7 0 100 ≡ refuse Room (blank_table 3 4 0) out
