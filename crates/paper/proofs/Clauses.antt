-- "Valid" and "sound", clause by clause: for each clause a case that breaks it alone, and the neighbour that does not; of valid
-- also which clause fails first.
-- Assumes nothing.
use Prim.Native.Nat.{ℕ}
use mathlib.Core.Path.{◌≡◌, refl}
use mathlib.Core.Bool.{Bool, true, false}
use mathlib.Core.List.{List, [], ◌∷◌}
use lib.Count.{ones}
use lib.ListN.{replicate, set}
use Rattle.std.specs.Prelude.{Result, Err}
use Rattle.paper.specs.Logic.{all_below}
use Rattle.paper.specs.Command.{noop, on_one, on_two, same_command, command_ok}
use Rattle.paper.specs.Deps.{no_deps, deps_ok, same_deps}
use Rattle.paper.specs.Ballot.{ballot_ok, lead}
use Rattle.paper.specs.Vote.{no_vote, blank, same_vote, none_is_blank, vote_ok, told_ok, added_ok, member}
use Rattle.paper.specs.Sound.{collected_ok, reply_ok, replies_ok, ranges_ok, votes_ok, preparing_ok, proposing_ok, busy_ok, phases_ok, sound_record}
use Rattle.paper.specs.Message.{row_of}
use Rattle.paper.specs.Valid.{Clause, FromRange, ToRange, OwnerRange, NumberRange, BallotRange, RecoveryBallot, ToHere, FromAnother, FromLead, ToLead, VotedRange, ToldBelow, StatusRange, ToldVoted, OpRange, FreshOp, ToldOp, KeyRange, SecondRange, EditRange, EntryRange, ToldEntry, JoinedRange, JoinedAbove, DepsCarried, SecondCarried, Failing, none, first, holds_of, entry_clauses, first_of, first_failing, op_in, blame_of, verdict_on}
use Rattle.paper.specs.declared.Field.TheVariants as field
use Rattle.paper.specs.declared.Blame.{Blame}
use Rattle.paper.specs.declared.Blame.TheVariants as blame
use Rattle.paper.specs.declared.Op.TheVariants.{Noop, Read, Write}
use Rattle.paper.specs.declared.Command.{Command}
use Rattle.paper.specs.declared.Vote.{Vote}
use Rattle.paper.specs.declared.Record.{Record}
use Rattle.paper.specs.declared.Body.{Body}
use Rattle.paper.specs.declared.Body.TheVariants.{PreAccept, PreAcceptOk, Accept, AcceptOk, Commit, Prepare, PrepareOk, Nack}
use Rattle.paper.specs.declared.Message.{Message}

-- one line of a table: what the definition says, and what the paper says
record Line (A : Type 0) : Type 0 where
  computed : A
  written : A

abbrev holds : Bool → Line Bool
holds b = record { computed = b; written = true }

abbrev fails : Bool → Line Bool
fails b = record { computed = b; written = false }

abbrev passes : Failing → Line Failing
passes x = record { computed = x; written = none }

-- the clause that fails first
abbrev breaks : Clause → Failing → Line Failing
breaks c x = record { computed = x; written = first c }

computed_of : {A : Type 0} → List (Line A) → List A
computed_of [] = []
computed_of (l ∷ ls) = l.computed ∷ computed_of ls

written_of : {A : Type 0} → List (Line A) → List A
written_of [] = []
written_of (l ∷ ls) = l.written ∷ written_of ls

abbrev write : Command
write = on_one Write 7 100

abbrev rewire : Command
rewire = on_two 7 9 100

-- a write with a second key
abbrev both : Command
both = record { op = Write; key = 7; second = 9; edit = 100 }

-- dependencies with entry v at place i, and zero elsewhere
abbrev entry : ℕ → ℕ → List ℕ
entry i v = set no_deps i v

-- Messages: to copy 2, about 1.3, in a setup of five copies and four numbers. Ballot 9 is led by 1, ballot 10 by 2.
abbrev message : ℕ → ℕ → Body → List ℕ → Message
message q b body d = record { from = q; to = 2; owner = 1; number = 3; ballot = b; body = body; deps = d }

-- about o.j
abbrev about : ℕ → ℕ → Message → Message
about o j m = record { from = m.from; to = m.to; owner = o; number = j; ballot = m.ballot; body = m.body; deps = m.deps }

-- to copy q
abbrev toward : ℕ → Message → Message
toward q m = record { from = m.from; to = q; owner = m.owner; number = m.number; ballot = m.ballot; body = m.body; deps = m.deps }

-- what copy c of n, with s numbers each, says of a message by value
abbrev given : ℕ → ℕ → ℕ → Message → Failing
given n s c m = first_failing n s c (op_in m) m

-- what copy 2 says of it
abbrev takes : Message → Failing
takes m = given 5 4 2 m

abbrev commit_at : ℕ → Message
commit_at b = message 0 b (Commit write) no_deps

abbrev commit_of : Command → Message
commit_of k = message 0 0 (Commit k) no_deps

abbrev commit_with : List ℕ → Message
commit_with d = message 0 0 (Commit write) d

abbrev commit_from : ℕ → Message
commit_from q = message q 0 (Commit write) no_deps

-- a PrepareOK for ballot 18, led by copy 2
abbrev tells : ℕ → ℕ → Command → List ℕ → Message
tells v t k d = message 0 18 (PrepareOk v t k) d

abbrev nack_of : ℕ → Message
nack_of j = message 0 10 (Nack j) no_deps

valid_lines : List (Line Failing)
valid_lines =
    -- a valid message of each kind
    passes (takes (message 1 0 (PreAccept write) (entry 3 4)))
    ∷ passes (takes (message 0 10 PreAcceptOk (entry 3 4)))
    ∷ passes (takes (message 1 9 (Accept write) (entry 3 4)))
    ∷ passes (takes (message 0 10 AcceptOk no_deps))
    ∷ passes (takes (message 0 0 (Commit write) (entry 3 4)))
    ∷ passes (takes (message 1 9 Prepare no_deps))
    ∷ passes (takes (tells 9 3 write (entry 3 4)))
    ∷ passes (takes (nack_of 11))
    -- and of a rewire
    ∷ passes (takes (message 1 0 (PreAccept rewire) (entry 3 4)))
    ∷ passes (takes (message 1 9 (Accept rewire) (entry 3 4)))
    ∷ passes (takes (message 0 0 (Commit rewire) (entry 3 4)))
    ∷ passes (takes (tells 9 3 rewire (entry 3 4)))
    -- from_range: from below N
    ∷ passes (takes (commit_from 4))
    ∷ breaks FromRange (takes (commit_from 5))
    ∷ breaks FromRange (given 3 4 2 (commit_from 3))
    ∷ passes (given 7 4 2 (commit_from 6))
    -- to_range: to below N
    ∷ passes (given 5 4 4 (toward 4 (commit_from 0)))
    ∷ breaks ToRange (given 5 4 5 (toward 5 (commit_from 0)))
    -- owner_range: owner below N
    ∷ passes (takes (about 4 3 (commit_from 0)))
    ∷ breaks OwnerRange (takes (about 5 3 (commit_from 0)))
    -- number_range: 1 to S
    ∷ breaks NumberRange (takes (about 1 0 (commit_from 0)))
    ∷ passes (takes (about 1 1 (commit_from 0)))
    ∷ passes (takes (about 1 4 (commit_from 0)))
    ∷ breaks NumberRange (takes (about 1 5 (commit_from 0)))
    -- ballot_range: 0, or 8r+q with r >= 1 and q < N
    ∷ passes (takes (commit_at 0))
    ∷ breaks BallotRange (takes (commit_at 1))
    ∷ breaks BallotRange (takes (commit_at 4))
    ∷ passes (takes (commit_at 8))
    ∷ passes (takes (commit_at 12))
    ∷ breaks BallotRange (takes (commit_at 13))
    ∷ breaks BallotRange (takes (commit_at 15))
    ∷ passes (takes (commit_at 16))
    ∷ breaks BallotRange (given 3 4 2 (commit_at 11))
    ∷ passes (given 7 4 2 (commit_at 14))
    -- recovery_ballot: kinds 6 and 7 at ballot 0
    ∷ breaks RecoveryBallot (takes (message 1 0 Prepare no_deps))
    ∷ passes (takes (message 0 8 Prepare no_deps))
    ∷ breaks RecoveryBallot (takes (about 2 3 (message 0 0 (PrepareOk 0 0 noop) no_deps)))
    ∷ passes (takes (about 2 3 (message 0 0 PreAcceptOk no_deps)))
    -- to_here: another copy's
    ∷ breaks ToHere (given 5 4 3 (commit_from 0))
    -- from_another: its own
    ∷ breaks FromAnother (takes (commit_from 2))
    -- from_lead: kinds 1, 3, 6, at ballot 0 from the owner
    ∷ breaks FromLead (takes (message 3 0 (PreAccept write) no_deps))
    ∷ breaks FromLead (takes (message 3 9 (PreAccept write) no_deps))
    ∷ passes (takes (message 3 11 (PreAccept write) no_deps))
    ∷ breaks FromLead (takes (message 3 9 (Accept write) no_deps))
    ∷ breaks FromLead (takes (message 3 9 Prepare no_deps))
    ∷ breaks FromLead (takes (message 3 9 (PreAccept rewire) no_deps))
    ∷ breaks FromLead (takes (message 3 9 (Accept rewire) no_deps))
    ∷ passes (takes (message 3 9 (Commit rewire) no_deps))
    -- to_lead: kinds 2, 4, 7, 8, at ballot 0 to the owner
    ∷ breaks ToLead (takes (message 0 9 PreAcceptOk no_deps))
    ∷ breaks ToLead (takes (message 0 0 PreAcceptOk no_deps))
    ∷ breaks ToLead (takes (message 0 9 AcceptOk no_deps))
    ∷ breaks ToLead (takes (message 0 17 (PrepareOk 9 3 write) no_deps))
    ∷ breaks ToLead (takes (message 0 9 (Nack 11) no_deps))
    ∷ breaks ToLead (takes (message 0 17 (PrepareOk 9 3 rewire) no_deps))
    ∷ breaks RecoveryBallot (takes (about 2 3 (message 0 0 (PrepareOk 0 1 rewire) no_deps)))
    -- keyRange, editRange: a no-op has zero key and edit
    ∷ passes (takes (commit_of noop))
    ∷ breaks KeyRange (takes (commit_of (on_one Noop 1 0)))
    ∷ breaks EditRange (takes (commit_of (on_one Noop 0 1)))
    ∷ passes (takes (commit_of (on_one Read 1 1)))
    -- secondRange: the smaller key first
    ∷ passes (takes (commit_of (on_two 7 8 1)))
    ∷ breaks SecondRange (takes (commit_of (on_two 7 7 1)))
    ∷ breaks SecondRange (takes (commit_of (on_two 7 6 1)))
    ∷ passes (takes (commit_of (on_two 0 1 0)))
    ∷ breaks SecondRange (takes (tells 9 3 (on_two 0 0 0) no_deps))
    -- second_carried: a second key with another op
    ∷ breaks SecondCarried (takes (commit_of both))
    ∷ breaks SecondCarried (takes (commit_of (record { op = Noop; key = 0; second = 1; edit = 0 })))
    -- op_range: 3 with a second key alone, the others without
    ∷ breaks OpRange (first_failing 5 4 2 3 (commit_of write))
    ∷ breaks OpRange (first_failing 5 4 2 4 (commit_of write))
    ∷ breaks OpRange (first_failing 5 4 2 2 (commit_of rewire))
    ∷ breaks OpRange (first_failing 5 4 2 4 (commit_of rewire))
    ∷ passes (first_failing 5 4 2 3 (commit_of rewire))
    -- entryRange: entries 0..S, zero from copy N on
    ∷ passes (takes (commit_with (entry 0 4)))
    ∷ breaks (EntryRange 0) (takes (commit_with (entry 0 5)))
    ∷ passes (takes (commit_with (entry 4 4)))
    ∷ breaks (EntryRange 5) (takes (commit_with (entry 5 1)))
    ∷ breaks (EntryRange 6) (takes (commit_with (entry 6 1)))
    ∷ breaks (EntryRange 3) (given 3 4 2 (commit_with (entry 3 1)))
    ∷ passes (given 7 4 2 (commit_with (entry 6 4)))
    ∷ breaks (EntryRange 6) (given 7 4 2 (commit_with (entry 6 5)))
    -- joined_range: the Nack's ballot
    ∷ passes (takes (nack_of 12))
    ∷ breaks JoinedRange (takes (nack_of 13))
    -- deps_carried: kinds 4, 6 and 8 have zero dependencies
    ∷ breaks DepsCarried (takes (message 0 10 AcceptOk (entry 3 4)))
    ∷ breaks DepsCarried (takes (message 1 9 Prepare (entry 3 4)))
    ∷ breaks DepsCarried (takes (message 0 10 (Nack 11) (entry 3 4)))
    -- fresh_op: no no-op in a PreAccept at ballot 0
    ∷ breaks FreshOp (takes (message 1 0 (PreAccept noop) no_deps))
    ∷ passes (takes (message 1 9 (PreAccept noop) no_deps))
    ∷ passes (takes (message 1 0 (PreAccept (on_one Read 7 0)) no_deps))
    ∷ passes (takes (message 1 0 (Accept noop) no_deps))
    -- votedRange: a ballot
    ∷ breaks VotedRange (takes (tells 7 1 write no_deps))
    ∷ passes (takes (tells 8 1 write no_deps))
    ∷ breaks VotedRange (takes (tells 13 1 write no_deps))
    -- statusRange: 0..3
    ∷ passes (takes (tells 9 3 write no_deps))
    ∷ breaks StatusRange (takes (tells 9 4 write no_deps))
    -- told_below: voted < ballot
    ∷ passes (takes (tells 17 2 write no_deps))
    ∷ breaks ToldBelow (takes (tells 18 2 write no_deps))
    ∷ breaks ToldBelow (takes (tells 19 2 write no_deps))
    -- told_voted, told_op, told_entry: with status 0 all else zero
    ∷ passes (takes (tells 0 0 noop no_deps))
    ∷ breaks ToldVoted (takes (tells 9 0 noop no_deps))
    ∷ breaks ToldOp (takes (tells 0 0 write no_deps))
    ∷ breaks ToldOp (takes (tells 0 0 rewire no_deps))
    ∷ breaks (ToldEntry 3) (takes (tells 0 0 noop (entry 3 4)))
    ∷ passes (takes (tells 9 1 noop (entry 3 4)))
    -- joined_above: the Nack's joined > ballot
    ∷ breaks JoinedAbove (takes (nack_of 9))
    ∷ breaks JoinedAbove (takes (nack_of 10))
    ∷ breaks JoinedAbove (takes (nack_of 0))
    -- of several, the first: the head's ranges, the way, the body's fields in the order of the bytes
    ∷ breaks FromRange (given 5 4 3 (toward 5 (commit_from 5)))
    ∷ breaks BallotRange (given 5 4 3 (about 1 3 (commit_at 1)))
    ∷ breaks ToHere (given 5 4 3 (message 3 0 (PreAccept noop) (entry 5 1)))
    ∷ breaks FromLead (takes (message 3 0 (PreAccept noop) (entry 5 1)))
    ∷ breaks FreshOp (takes (message 1 0 (PreAccept (on_one Noop 1 1)) (entry 5 1)))
    ∷ breaks VotedRange (takes (tells 21 4 (on_one Noop 1 1) (entry 5 1)))
    ∷ breaks StatusRange (takes (tells 9 4 (on_one Noop 1 1) (entry 5 1)))
    ∷ breaks KeyRange (takes (tells 9 3 (on_one Noop 1 1) (entry 5 1)))
    ∷ breaks (ToldEntry 0) (takes (tells 0 0 noop (1 ∷ 5 ∷ 0 ∷ 0 ∷ 0 ∷ 0 ∷ 0 ∷ [])))
    ∷ breaks OpRange (first_failing 5 4 2 3 (message 1 0 (PreAccept (on_one Noop 1 1)) (entry 5 1)))
    ∷ breaks DepsCarried (takes (message 5 10 (Nack 1) (entry 3 4)))
    ∷ breaks SecondCarried (takes (message 5 13 (Commit both) (entry 5 1)))
    ∷ breaks SecondRange (takes (tells 9 3 (on_two 7 7 1) (entry 5 1)))
    ∷ breaks OpRange (first_failing 5 4 2 2 (commit_of (on_two 7 7 1)))
    ∷ breaks JoinedRange (takes (nack_of 1))
    ∷ []

-- "Valid": each line as the paper has it
valid-clauses : computed_of valid_lines ≡ written_of valid_lines
unfolding computed_of written_of valid_lines entry_clauses first_failing first_of holds_of row_of ballot_ok lead same_deps all_below
valid-clauses = refl

-- what copy c of five, with four numbers each, finds a message by value to be
abbrev found : ℕ → Message → Result Unit Blame
found c m = verdict_on 5 4 c (op_in m) m

abbrev blames : Blame → Result Unit Blame → Line (Result Unit Blame)
blames b x = record { computed = x; written = Err b }

blame_lines : List (Line (Result Unit Blame))
blame_lines =
    -- beside a kind without dependencies
    blames blame.Length (found 2 (message 0 10 AcceptOk (entry 3 4)))
    ∷ blames blame.Length (found 2 (commit_of both))
    -- the head's fields
    ∷ blames (blame.Of field.From) (found 2 (commit_from 5))
    ∷ blames (blame.Of field.To) (found 5 (toward 5 (commit_from 0)))
    ∷ blames (blame.Of field.Owner) (found 2 (about 5 3 (commit_from 0)))
    ∷ blames (blame.Of field.Number) (found 2 (about 1 0 (commit_from 0)))
    ∷ blames (blame.Of field.Ballot) (found 2 (commit_at 1))
    ∷ blames (blame.Of field.Ballot) (found 2 (message 1 0 Prepare no_deps))
    -- the way, and the lead
    ∷ blames blame.Way (found 3 (commit_from 0))
    ∷ blames blame.Way (found 2 (commit_from 2))
    ∷ blames blame.Lead (found 2 (message 3 0 (PreAccept write) no_deps))
    ∷ blames blame.Lead (found 2 (message 0 9 AcceptOk no_deps))
    -- the body's fields; between two the later
    ∷ blames (blame.Of field.Voted) (found 2 (tells 13 3 write no_deps))
    ∷ blames (blame.Of field.Voted) (found 2 (tells 18 3 write no_deps))
    ∷ blames (blame.Of field.Status) (found 2 (tells 9 4 write no_deps))
    ∷ blames (blame.Of field.Status) (found 2 (tells 9 0 noop no_deps))
    ∷ blames (blame.Of field.Op) (verdict_on 5 4 2 3 (commit_of write))
    ∷ blames (blame.Of field.Op) (found 2 (message 1 0 (PreAccept noop) no_deps))
    ∷ blames (blame.Of field.Op) (found 2 (tells 0 0 write no_deps))
    ∷ blames (blame.Of field.Key) (found 2 (commit_of (on_one Noop 1 0)))
    ∷ blames (blame.Of field.Second) (found 2 (commit_of (on_two 7 7 1)))
    ∷ blames (blame.Of field.Op) (verdict_on 5 4 2 2 (commit_of rewire))
    ∷ blames (blame.Of field.Op) (found 2 (tells 0 0 rewire no_deps))
    ∷ blames (blame.Of field.Edit) (found 2 (commit_of (on_one Noop 0 1)))
    ∷ blames (blame.Of (field.Entry 3)) (found 2 (commit_with (entry 3 5)))
    ∷ blames (blame.Of (field.Entry 6)) (found 2 (commit_with (entry 6 1)))
    ∷ blames (blame.Of (field.Entry 3)) (found 2 (tells 0 0 noop (entry 3 4)))
    ∷ blames (blame.Of field.Joined) (found 2 (nack_of 13))
    ∷ blames (blame.Of field.Joined) (found 2 (nack_of 10))
    ∷ []

-- 1/12: whom each clause blames
whom-clauses : computed_of blame_lines ≡ written_of blame_lines
unfolding computed_of written_of blame_lines entry_clauses first_failing first_of holds_of row_of ballot_ok lead same_deps all_below blame_of verdict_on
whom-clauses = refl

-- Records: of 1.3, at copy 2 of five, which leads ballots 10 and 18.
abbrev vote : ℕ → ℕ → Vote
vote b t = record { voted = b; status = t; command = write; deps = entry 3 4 }

-- a vote with another command, with other dependencies
abbrev vote_of : Command → Vote → Vote
vote_of k v = record { voted = v.voted; status = v.status; command = k; deps = v.deps }

abbrev vote_with : List ℕ → Vote → Vote
vote_with d v = record { voted = v.voted; status = v.status; command = v.command; deps = d }

abbrev idle : ℕ → Vote → Record
idle b v = record { joined = b; vote = v; mark = 0; phase = 0; set = 0; replies = replicate 7 no_vote }

-- in phase p, with the set m
abbrev busy : ℕ → ℕ → Record → Record
busy p m r = record { joined = r.joined; vote = r.vote; mark = r.mark; phase = p; set = m; replies = r.replies }

-- with v kept as copy q's reply
abbrev kept : ℕ → Vote → Record → Record
kept q v r = record { joined = r.joined; vote = r.vote; mark = r.mark; phase = r.phase; set = r.set; replies = set r.replies q v }

abbrev marked : ℕ → Record → Record
marked k r = record { joined = r.joined; vote = r.vote; mark = k; phase = r.phase; set = r.set; replies = r.replies }

-- phase 1, own reply collected, with the set m
abbrev preparing : ℕ → ℕ → Vote → Record
preparing b m v = kept 2 v (busy 1 m (idle b v))

abbrev preaccepting : Record
preaccepting = busy 2 0 (idle 10 (vote 10 2))

abbrev accepting : Record
accepting = busy 3 0 (idle 10 (vote 10 3))

-- what copy 2 says of its record of 1.3
abbrev sound : Record → Bool
sound r = sound_record 5 4 2 1 r

-- with copy 0's reply v: sets 1 and 5 are {0} and {0, 2}
abbrev told_to : Vote → Bool
told_to v = sound (kept 0 v (preparing 10 5 (vote 9 1)))

abbrev added_to : Vote → Bool
added_to v = sound (kept 0 v (busy 2 1 preaccepting))

sound_lines : List (Line Bool)
sound_lines =
    -- a sound record in each status and phase
    holds (sound blank)
    ∷ holds (sound (idle 9 no_vote))
    ∷ holds (sound (idle 9 (vote 9 1)))
    ∷ holds (sound (idle 9 (vote 0 2)))
    ∷ holds (sound (idle 9 (vote 8 3)))
    ∷ holds (sound (idle 9 (vote 9 4)))
    ∷ holds (sound (preparing 10 4 no_vote))
    ∷ holds (sound preaccepting)
    ∷ holds (sound accepting)
    -- joined_ok
    ∷ fails (sound (idle 7 no_vote))
    ∷ holds (sound (idle 8 no_vote))
    ∷ holds (sound (idle 12 no_vote))
    ∷ fails (sound (idle 13 no_vote))
    -- own_vote_ok: voted_ok
    ∷ fails (sound (idle 9 (vote 7 1)))
    ∷ holds (sound (idle 9 (vote 8 1)))
    -- own_vote_ok: status_ok, 0..4
    ∷ fails (sound (idle 9 (vote 9 5)))
    -- own_vote_ok: command_ok
    ∷ fails (sound (idle 9 (vote_of (on_one Noop 1 0) (vote 9 1))))
    ∷ holds (sound (idle 9 (vote_of noop (vote 9 1))))
    ∷ holds (sound (idle 9 (vote_of rewire (vote 9 1))))
    ∷ fails (sound (idle 9 (vote_of (on_two 7 7 100) (vote 9 1))))
    ∷ fails (sound (idle 9 (vote_of both (vote 9 1))))
    -- own_vote_ok: deps_ok
    ∷ fails (sound (idle 9 (vote_with (entry 4 5) (vote 9 1))))
    ∷ fails (sound (idle 9 (vote_with (entry 5 1) (vote 9 1))))
    ∷ holds (sound (idle 9 (vote_with (entry 4 4) (vote 9 1))))
    -- mark_ok, 0 or 1
    ∷ holds (sound (marked 1 (idle 9 (vote 9 4))))
    ∷ fails (sound (marked 2 (idle 9 (vote 9 4))))
    -- phase_ok, 0..3
    ∷ fails (sound (busy 4 0 accepting))
    -- set_ok: below 2 ^ N
    ∷ holds (sound (busy 3 27 accepting))
    ∷ fails (sound (busy 3 32 accepting))
    ∷ holds (sound_record 3 4 2 1 (busy 3 3 (idle 10 (vote_with no_deps (vote 10 3)))))
    ∷ fails (sound_record 3 4 2 1 (busy 3 8 (idle 10 (vote_with no_deps (vote 10 3)))))
    ∷ holds (sound_record 7 4 2 1 (busy 3 123 accepting))
    ∷ fails (sound_record 7 4 2 1 (busy 3 128 accepting))
    -- voted_joined: voted <= joined
    ∷ holds (sound (idle 9 (vote 9 1)))
    ∷ fails (sound (idle 9 (vote 10 1)))
    -- none_blank: without a vote nothing is told
    ∷ fails (sound (idle 9 (vote_of noop (vote_with no_deps (vote 8 0)))))
    ∷ fails (sound (idle 9 (vote_with no_deps (vote 0 0))))
    ∷ fails (sound (idle 9 (vote_of noop (vote 0 0))))
    -- mark_committed: the mark is only on status 4
    ∷ fails (sound (marked 1 (idle 9 (vote 9 3))))
    -- idle_empty: phase 0 has nothing collected
    ∷ fails (sound (busy 0 1 (idle 9 (vote 9 1))))
    -- busy_open: phase not 0 has status below 4
    ∷ holds (sound (preparing 10 4 (vote 9 3)))
    ∷ fails (sound (preparing 10 4 (vote 9 4)))
    -- busy_leads: this copy leads joined, ballot 0 of its own instances only
    ∷ fails (sound (busy 3 0 (idle 9 (vote 9 3))))
    ∷ fails (sound (busy 3 0 (idle 0 (vote 0 3))))
    ∷ holds (sound_record 5 4 2 2 (busy 3 0 (idle 0 (vote 0 3))))
    ∷ fails (sound (preparing 17 4 (vote 9 3)))
    -- preparing_ballot: phase 1 has joined >= 8 (a lower ballot breaks joined_ok or preparing_voted too)
    ∷ holds (sound_record 5 4 0 1 (kept 0 (vote 0 1) (busy 1 1 (idle 8 (vote 0 1)))))
    -- preparing_voted: phase 1 has voted < joined
    ∷ holds (sound (preparing 10 4 (vote 9 1)))
    ∷ fails (sound (preparing 10 4 (vote 10 1)))
    -- preparing_self: phase 1 has this copy in the set
    ∷ fails (sound (busy 1 0 (idle 10 (vote 9 1))))
    ∷ fails (sound (busy 1 2 (idle 10 (vote 9 1))))
    -- preparing_few: phase 1 has at most F replies
    ∷ holds (sound (preparing 10 5 (vote 9 1)))
    ∷ fails (sound (preparing 10 7 (vote 9 1)))
    ∷ fails (sound_record 3 4 2 1 (preparing 10 5 (vote_with no_deps (vote 9 1))))
    ∷ holds (sound_record 7 4 2 1 (preparing 10 7 (vote 9 1)))
    ∷ fails (sound_record 7 4 2 1 (preparing 10 15 (vote 9 1)))
    -- preaccepting_status: phase 2 has status 1 or 2
    ∷ holds (sound (busy 2 0 (idle 10 (vote 10 1))))
    ∷ fails (sound (busy 2 0 (idle 10 (vote 10 3))))
    -- preaccepting_op: phase 2 at ballot 0 has no no-op
    ∷ holds (sound_record 5 4 2 2 (busy 2 0 (idle 0 (vote 0 2))))
    ∷ fails (sound_record 5 4 2 2 (busy 2 0 (idle 0 (vote_of noop (vote 0 2)))))
    ∷ holds (sound (busy 2 0 (idle 10 (vote_of noop (vote 10 2)))))
    -- accepting_status: phase 3 has status 3
    ∷ fails (sound (busy 3 0 (idle 10 (vote 10 2))))
    -- proposing_voted: phases 2 and 3 have voted = joined
    ∷ fails (sound (busy 2 0 (idle 10 (vote 9 2))))
    ∷ fails (sound (busy 3 0 (idle 10 (vote 9 3))))
    -- proposing_self: phases 2 and 3 have this copy not in the set
    ∷ holds (sound (busy 2 3 preaccepting))
    ∷ fails (sound (busy 2 4 preaccepting))
    ∷ fails (sound (busy 3 4 accepting))
    -- collected_ok: in phase 1 what a PrepareOK may tell
    ∷ holds (told_to (vote 9 3))
    ∷ fails (told_to (vote 9 4))
    ∷ fails (told_to (vote 10 3))
    ∷ fails (told_to (vote 7 3))
    ∷ fails (told_to (vote 9 0))
    ∷ fails (told_to (vote_of (on_one Noop 1 0) (vote 9 1)))
    ∷ holds (told_to (vote_of rewire (vote 9 1)))
    ∷ fails (told_to (vote_of (on_two 9 7 100) (vote 9 1)))
    ∷ fails (told_to (vote_of both (vote 9 1)))
    ∷ holds (told_to (vote_with (entry 4 4) (vote 9 1)))
    ∷ fails (told_to (vote_with (entry 4 5) (vote 9 1)))
    -- collected_ok: what the lead collected of itself is its vote
    ∷ fails (sound (kept 2 (vote 8 1) (preparing 10 4 (vote 9 1))))
    ∷ fails (sound (kept 2 (vote 9 2) (preparing 10 4 (vote 9 1))))
    ∷ fails (sound (kept 2 (vote_of (on_one Read 7 100) (vote 9 1)) (preparing 10 4 (vote 9 1))))
    ∷ fails (sound (kept 2 (vote_of (on_one Write 8 100) (vote 9 1)) (preparing 10 4 (vote 9 1))))
    ∷ fails (sound (kept 2 (vote_of (on_two 7 8 100) (vote 9 1)) (preparing 10 4 (vote_of rewire (vote 9 1)))))
    ∷ fails (sound (kept 2 (vote_of (on_one Write 7 101) (vote 9 1)) (preparing 10 4 (vote 9 1))))
    ∷ fails (sound (kept 2 (vote_with (entry 3 3) (vote 9 1)) (preparing 10 4 (vote 9 1))))
    -- collected_ok: in phase 2 dependencies, and nothing beside them
    ∷ holds (added_to (vote_with (entry 3 4) no_vote))
    ∷ fails (added_to (vote_with (entry 3 5) no_vote))
    ∷ fails (added_to (vote_of write no_vote))
    ∷ fails (added_to (vote_of noop (vote 0 1)))
    ∷ fails (added_to (vote_of noop (vote 9 0)))
    -- collected_ok: in phase 3 nothing
    ∷ holds (sound (busy 3 1 accepting))
    ∷ fails (sound (kept 0 (vote_with (entry 3 4) no_vote) (busy 3 1 accepting)))
    -- reply_ok: places outside the set are zero
    ∷ fails (sound (kept 0 (vote_with (entry 3 4) no_vote) preaccepting))
    ∷ fails (sound (kept 0 (vote 9 1) (preparing 10 4 (vote 9 1))))
    ∷ fails (sound (kept 6 (vote_with (entry 3 4) no_vote) (idle 9 no_vote)))
    ∷ []

-- "Sound": each line as the paper has it
sound-clauses : computed_of sound_lines ≡ written_of sound_lines
unfolding computed_of written_of sound_lines sound_record ranges_ok votes_ok phases_ok busy_ok preparing_ok proposing_ok replies_ok reply_ok collected_ok same_vote none_is_blank vote_ok told_ok added_ok member ones same_command command_ok deps_ok same_deps ballot_ok lead all_below
sound-clauses = refl
