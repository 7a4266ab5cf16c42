-- "Examples" W1 to W10, and the errors that look reasonable, as one statement about the rules. Assumes nothing.
use Rattle.std.specs.Prelude.{ℕ, ◌≡◌, true, List, [], ◌∷◌, replicate, Some, None}
use Rattle.paper.specs.Vote.{blank, no_vote}
use Rattle.paper.specs.Deps.{no_deps}
use Rattle.paper.specs.declared.Op.TheVariants.{Read, Write}
use Rattle.paper.specs.Command.{on_one, on_two, interfere}
use Rattle.paper.specs.declared.Command.{Command}
use Rattle.paper.specs.declared.Vote.{Vote}
use Rattle.paper.specs.declared.Record.{Record}
use Rattle.paper.specs.declared.Message.{Message}
use Rattle.paper.specs.declared.Body.TheVariants.{PreAccept, PreAcceptOk, Accept, Prepare, PrepareOk}
use Rattle.rules.specs.declared.Step.{Step}
use Rattle.rules.specs.Seen.{Records}
use Rattle.rules.specs.Events.{put, on_request, on_message, on_recover, addressed, messages}
use Rattle.rules.specs.Recover.{out_of_ballots}
use Rattle.rules.specs.PrepareOk.{decide}
use Rattle.rules.specs.Order.{instance, hand_out, first_open}

-- a write of key 7
abbrev pub write : ℕ → Command
write e = on_one Write 7 e

abbrev pub deps3 : ℕ → ℕ → ℕ → List ℕ
deps3 a b c = a ∷ b ∷ c ∷ 0 ∷ 0 ∷ 0 ∷ 0 ∷ []

abbrev pub blanks : Records
blanks o j = blank

-- the first request of a blank group of three
abbrev pub first : Step
first = on_request interfere 3 4 0 blanks (write 100)

abbrev pub asked : Records
asked = put blanks 0 1 first.entry

-- a PreAcceptOK of copy q for 0.1
abbrev pub ok : ℕ → List ℕ → Message
ok q d = record { from = q; to = 0; owner = 0; number = 1; ballot = 0; body = PreAcceptOk; deps = d }

-- a reply is collected
abbrev pub then : Records → Message → Records
then t m = put t 0 1 (on_message interfere 3 4 0 t m).entry

-- copy 1 after a request of its own for the same key
abbrev pub own_write : Records
own_write = put blanks 1 1 (on_request interfere 3 4 1 blanks (write 5)).entry

-- a record that nobody has voted for, with this joined ballot
abbrev pub joined_at : ℕ → Record
joined_at b = record { joined = b; vote = no_vote; mark = 0; phase = 0; set = 0; replies = replicate 7 no_vote }

-- what a copy told: status t at ballot b
abbrev pub told_vote : ℕ → ℕ → ℕ → Vote
told_vote b t e = record { voted = b; status = t; command = write e; deps = no_deps }

-- what a copy added
abbrev pub added : List ℕ → Vote
added d = record { voted = 0; status = 0; command = no_vote.command; deps = d }

-- a lead of ballot 26 (copy 2) in phase 1 with these replies
abbrev pub preparing : ℕ → List Vote → Record
preparing m vs = record { joined = 26; vote = no_vote; mark = 0; phase = 1; set = m; replies = vs }

abbrev pub votes : Vote → Vote → Vote → Vote → Vote → List Vote
votes a b c d e = a ∷ b ∷ c ∷ d ∷ e ∷ no_vote ∷ no_vote ∷ []

-- a committed command, and a write, with these dependencies
abbrev pub done : Command → List ℕ → Record
done k d = record { joined = 0; vote = record { voted = 0; status = 4; command = k; deps = d }; mark = 0; phase = 0; set = 0; replies = replicate 7 no_vote }

abbrev pub committed : List ℕ → Record
committed d = done (write 1) d

abbrev pub cycle : Records
cycle = put (put blanks 0 1 (committed (deps3 0 1 0))) 1 1 (committed (deps3 1 0 0))

-- the PreAccept of W1 to copy q
abbrev pub pre_accept_to : ℕ → Message
pre_accept_to q = record { from = 0; to = q; owner = 0; number = 1; ballot = 0; body = PreAccept (write 100); deps = no_deps }

-- the vote of a pre-accept at ballot 0, as received
abbrev pub voted : Record
voted = record { joined = 10; vote = told_vote 0 2 100; mark = 0; phase = 0; set = 0; replies = replicate 7 no_vote }

abbrev pub prepare : Message
prepare = record { from = 2; to = 1; owner = 0; number = 1; ballot = 18; body = Prepare; deps = no_deps }

-- N=5: copies 1 and 2 both answered (0,1,0)
abbrev pub agreed : Record
agreed =
    record {
      joined = 0;
      vote = told_vote 0 2 100;
      mark = 0;
      phase = 2;
      set = 6;
      replies = votes no_vote (added (deps3 0 1 0)) (added (deps3 0 1 0)) no_vote no_vote;
    }

pub record Worked : Type 0 where
  -- a PreAccept to each of the others, by rising destination
  pub W1 : messages first ≡ pre_accept_to 1 ∷ pre_accept_to 2 ∷ []
  -- one PreAcceptOK with zero dependencies then commits 0.1
  pub W2 : (on_message interfere 3 4 0 asked (ok 1 no_deps)).entry.vote ≡ record { voted = 0; status = 4; command = write 100; deps = no_deps }
  -- an answer that adds something is waited out; one that does not is enough
  pub W3-answers : (on_message interfere 3 4 1 own_write (pre_accept_to 1)).message.deps ≡ deps3 0 1 0
  pub W3-waits : (on_message interfere 3 4 0 asked (ok 1 (deps3 0 1 0))).to ≡ 0
  pub W3-commits : (on_message interfere 3 4 0 (then asked (ok 1 (deps3 0 1 0))) (ok 2 no_deps)).entry.vote
      ≡ record { voted = 0; status = 4; command = write 100; deps = no_deps }
  -- two answers that differ are joined and asked for
  pub W4 : (on_message interfere 3 4 0 (then asked (ok 1 (deps3 0 1 0))) (ok 2 (deps3 0 0 1))).message
      ≡ record { from = 0; to = 0; owner = 0; number = 1; ballot = 0; body = Accept (write 100); deps = deps3 0 1 1 }
  -- the next ballot of copy 2, and where there is none
  pub W5-first : (on_recover 7 2 blanks 0 1).entry.joined ≡ 10
  pub W5-later : (on_recover 7 2 (put blanks 0 1 (joined_at 13)) 0 1).entry.joined ≡ 18
  pub W5-last : out_of_ballots (joined_at 4_294_967_288) ≡ true
  -- of five: F as received may be a fast commit; fewer, or with the owner's own reply, is none
  pub W6-accept : (decide 5 2 0 1 (preparing 14 (votes no_vote (told_vote 0 2 1) no_vote (told_vote 0 2 1) no_vote)) no_deps).entry.phase ≡ 3
  pub W6-afresh : (decide 5 2 0 1 (preparing 14 (votes no_vote (told_vote 0 2 1) no_vote (told_vote 0 1 1) no_vote)) no_deps).entry.phase ≡ 2
  pub W6-owner : (decide 5 2 0 1 (preparing 7 (votes (told_vote 0 2 1) (told_vote 0 2 1) no_vote no_vote no_vote)) no_deps).entry.phase ≡ 2
  -- the later ballot counts
  pub W7 : (decide 5 2 0 1 (preparing 14 (votes no_vote (told_vote 10 3 1) no_vote (told_vote 17 3 2) no_vote)) no_deps).entry.vote.command ≡ write 2
  -- a cycle of two goes out by number, then owner
  pub W8 : hand_out 4 3 4 cycle ≡ 1 ∷ 257 ∷ []
  -- what is covered goes out before
  pub W9 : hand_out 4 3 4 (put (put blanks 0 1 (committed (deps3 0 0 1))) 2 1 (committed no_deps)) ≡ 513 ∷ 1 ∷ []
  -- a gap holds up what covers it
  pub W10 : first_open 3 4 (put cycle 2 1 (committed (deps3 2 1 0))) 2 1 ≡ Some (instance 0 2)
  -- a copy that joined 10 and voted at 0 tells 0, and not 10
  pub told-voted : (on_message interfere 3 4 1 (put blanks 0 1 voted) prepare).message.body ≡ PrepareOk 0 2 (write 100)
  -- a repeated PreAccept is answered with the stored dependencies, though copy 1 has since seen its own write
  pub repeated : (on_message interfere 3 4 1 (put own_write 0 1 (on_message interfere 3 4 1 blanks (pre_accept_to 1)).entry) (pre_accept_to 1)).message.deps ≡ no_deps
  -- replies that agree with each other, and not with what was sent, do not commit
  pub agreeing : (on_message interfere 5 4 0 (put blanks 0 1 agreed) (ok 3 (deps3 0 1 0))).entry.vote.status ≡ 2

-- 4/12: copies 0 and 1 are asked for reads of key 7 at once. Copy q after its request:
abbrev pub read : ℕ → Command
read e = on_one Read 7 e

abbrev pub reader : ℕ → Records
reader q = put blanks q 1 (on_request interfere 3 4 q blanks (read q)).entry

-- its PreAccept as it comes to copy p, and what p, which has its own read, answers
abbrev pub read_to : ℕ → ℕ → Message
read_to q p = addressed (on_request interfere 3 4 q blanks (read q)).message p

abbrev pub read_ok : ℕ → ℕ → Message
read_ok q p = addressed (on_message interfere 3 4 p (reader p) (read_to q p)).message q

-- copy q has its own read and p's, and then p's answer
abbrev pub both_reads : ℕ → ℕ → Records
both_reads q p = put (reader q) p 1 (on_message interfere 3 4 q (reader q) (read_to p q)).entry

abbrev pub answered_read : ℕ → ℕ → Records
answered_read q p = put (both_reads q p) q 1 (on_message interfere 3 4 q (both_reads q p) (read_ok q p)).entry

pub record Reads : Type 0 where
  -- each commits on that one answer, as it was asked for
  pub first : (answered_read 0 1 0 1).vote ≡ record { voted = 0; status = 4; command = read 0; deps = no_deps }
  pub second : (answered_read 1 0 1 1).vote ≡ record { voted = 0; status = 4; command = read 1; deps = no_deps }
  -- neither waits for the other, which is open there
  pub open-there : ((answered_read 0 1 1 1).vote.status ≡ 2) × ((answered_read 1 0 0 1).vote.status ≡ 2)
  pub settled : (first_open 3 4 (answered_read 0 1) 0 1 ≡ None) × (first_open 3 4 (answered_read 1 0) 1 1 ≡ None)
  pub handed : (hand_out 4 3 4 (answered_read 0 1) ≡ 1 ∷ []) × (hand_out 4 3 4 (answered_read 1 0) ≡ 257 ∷ [])
  -- a write of that key waits for both
  pub write-waits : (on_request interfere 3 4 0 (answered_read 0 1) (write 5)).message.deps ≡ deps3 1 1 0

-- 5/12: copy 2 has voted for a write of key 7 at copy 0 and for one of key 9 at copy 1
abbrev pub nine_to : ℕ → Message
nine_to q = record { from = 1; to = q; owner = 1; number = 1; ballot = 0; body = PreAccept (on_one Write 9 6); deps = no_deps }

abbrev pub nets : Records
nets = put (put blanks 0 1 (on_message interfere 3 4 2 blanks (pre_accept_to 2)).entry) 1 1 (on_message interfere 3 4 2 blanks (nine_to 2)).entry

-- and is asked to rewire both
abbrev pub rewire : ℕ → ℕ → Step
rewire k l = on_request interfere 3 4 2 nets (on_two k l 7)

abbrev pub rewired : Records
rewired = put nets 2 1 (rewire 7 9).entry

-- with the rewire committed
abbrev pub settling : Records → Records
settling t = put t 2 1 (done (on_two 7 9 7) (deps3 1 1 0))

pub record Rewires : Type 0 where
  -- it is ordered after the edits of both nets, one of other nets after neither
  pub waits : (rewire 7 9).message.deps ≡ deps3 1 1 0
  pub others : (rewire 6 8).message.deps ≡ no_deps
  pub either : ((rewire 6 7).message.deps ≡ deps3 1 0 0) × ((rewire 9 10).message.deps ≡ deps3 0 1 0)
  -- and an edit of either net after it, though not after the other net's edit
  pub after : ((on_request interfere 3 4 0 rewired (on_one Read 7 8)).message.deps ≡ deps3 1 0 1) × ((on_request interfere 3 4 1 rewired (on_one Write 9 8)).message.deps ≡ deps3 0 1 1)
  -- so it is not settled before both are committed
  pub first-net : first_open 3 4 (settling nets) 2 1 ≡ Some (instance 0 1)
  pub second-net : first_open 3 4 (settling (put nets 0 1 (done (write 100) no_deps))) 2 1 ≡ Some (instance 1 1)
  pub both-nets : hand_out 4 3 4 (settling (put (put nets 0 1 (done (write 100) no_deps)) 1 1 (done (on_one Write 9 6) no_deps))) ≡ 1 ∷ 257 ∷ 513 ∷ []
