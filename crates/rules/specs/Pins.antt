-- "What each event does", rule by rule in numbers: the record, the destinations and the message of a case that tells the rule from
-- its neighbours. Demand 3 holds of many wrong rules; each of them breaks a line here. Assumes nothing.
use Rattle.std.specs.Prelude.{ℕ, ◌≡◌, true, false, List, [], ◌∷◌, replicate, Some, None}
use Rattle.paper.specs.Command.{noop, on_one, same_object, interfere}
use Rattle.paper.specs.Vote.{no_vote}
use Rattle.paper.specs.Deps.{no_deps}
use Rattle.paper.specs.Message.{no_message}
use Rattle.paper.specs.declared.Op.TheVariants.{Write}
use Rattle.paper.specs.declared.Command.{Command}
use Rattle.paper.specs.declared.Vote.{Vote}
use Rattle.paper.specs.declared.Record.{Record}
use Rattle.paper.specs.declared.Message.{Message}
use Rattle.paper.specs.declared.Body.{Body}
use Rattle.paper.specs.declared.Body.TheVariants.{PreAccept, PreAcceptOk, Accept, AcceptOk, Commit, Prepare, PrepareOk, Nack}
use Rattle.rules.specs.declared.Step.{Step}
use Rattle.rules.specs.Seen.{Records, seen}
use Rattle.rules.specs.Request.{request}
use Rattle.rules.specs.Recover.{recover}
use Rattle.rules.specs.Nudge.{nothing_to_nudge, nudge}
use Rattle.rules.specs.Received.{receive, refused10}
use Rattle.rules.specs.Events.{put, on_request, on_message}
use Rattle.rules.specs.Order.{instance, first_open, is_settled, hand_out}
use Rattle.rules.specs.Examples.{write, deps3, blanks, added, votes, committed, cycle, read}

-- a different entry for each owner, and one that is larger at the last place
abbrev pub each : List ℕ
each = 1 ∷ 2 ∷ 3 ∷ 4 ∷ 5 ∷ 6 ∷ 7 ∷ []

abbrev pub more : List ℕ
more = 1 ∷ 2 ∷ 3 ∷ 4 ∷ 5 ∷ 6 ∷ 9 ∷ []

-- status t at ballot b
abbrev pub vote : ℕ → ℕ → ℕ → List ℕ → Vote
vote e b t d = record { voted = b; status = t; command = write e; deps = d }

-- a record in no phase, and in phase p with these replies
abbrev pub held : ℕ → Vote → Record
held b v = record { joined = b; vote = v; mark = 0; phase = 0; set = 0; replies = replicate 7 no_vote }

abbrev pub busy : ℕ → Vote → ℕ → ℕ → List Vote → Record
busy b v p m vs = record { joined = b; vote = v; mark = 0; phase = p; set = m; replies = vs }

-- copy 1 of n gets a message about o.3; Seen is the same of every command
abbrev pub takes : ℕ → Record → Message → Step
takes n r m = receive n 1 (λ k. more) r m

abbrev pub sent_by : ℕ → ℕ → ℕ → Body → List ℕ → Message
sent_by q o b body d = record { from = q; to = 1; owner = o; number = 3; ballot = b; body = body; deps = d }

-- what copy 1 says of o.3, and to whom
abbrev pub speaks : Record → ℕ → ℕ → ℕ → Body → List ℕ → Step
speaks r to o b body d = record { entry = r; to = to; message = record { from = 1; to = 0; owner = o; number = 3; ballot = b; body = body; deps = d } }

abbrev pub still : Record → Step
still r = record { entry = r; to = 0; message = no_message }

-- all others of copy 1 in a group of five, and of seven
abbrev pub rest5 : ℕ
rest5 = 29

abbrev pub rest7 : ℕ
rest7 = 125

-- copy 2 asks copy 1 about 0.3
pub record Followers : Type 0 where
  -- too low a ballot: the joined one is told, at the ballot that asked
  pub pre_accept-low : takes 5 (held 25 (vote 5 9 2 each)) (sent_by 2 0 18 (PreAccept (write 6)) no_deps) ≡ speaks (held 25 (vote 5 9 2 each)) 4 0 18 (Nack 25) no_deps
  pub accept-low : takes 5 (held 25 (vote 5 9 2 each)) (sent_by 2 0 18 (Accept (write 6)) no_deps) ≡ speaks (held 25 (vote 5 9 2 each)) 4 0 18 (Nack 25) no_deps
  pub prepare-low : takes 5 (held 25 (vote 5 9 2 each)) (sent_by 2 0 18 Prepare no_deps) ≡ speaks (held 25 (vote 5 9 2 each)) 4 0 18 (Nack 25) no_deps
  -- committed: told whatever the ballot, at the joined one
  pub pre_accept-done : takes 5 (held 25 (vote 5 9 4 each)) (sent_by 2 0 18 (PreAccept (write 6)) no_deps) ≡ speaks (held 25 (vote 5 9 4 each)) 4 0 25 (Commit (write 5)) each
  pub accept-done : takes 5 (held 25 (vote 5 9 4 each)) (sent_by 2 0 34 (Accept (write 6)) no_deps) ≡ speaks (held 25 (vote 5 9 4 each)) 4 0 25 (Commit (write 5)) each
  pub prepare-done : takes 5 (held 25 (vote 5 9 4 each)) (sent_by 2 0 34 Prepare no_deps) ≡ speaks (held 25 (vote 5 9 4 each)) 4 0 25 (Commit (write 5)) each
  -- a PreAccept that was voted for is answered by what is stored, an accepted one not at all
  pub pre_accept-added-again : takes 5 (held 18 (vote 5 18 1 each)) (sent_by 2 0 18 (PreAccept (write 5)) no_deps) ≡ speaks (held 18 (vote 5 18 1 each)) 4 0 18 PreAcceptOk each
  pub pre_accept-again : takes 5 (held 18 (vote 5 18 2 each)) (sent_by 2 0 18 (PreAccept (write 5)) no_deps) ≡ speaks (held 18 (vote 5 18 2 each)) 4 0 18 PreAcceptOk each
  pub pre_accept-accepted : takes 5 (held 18 (vote 5 18 3 each)) (sent_by 2 0 18 (PreAccept (write 5)) no_deps) ≡ still (held 18 (vote 5 18 3 each))
  -- a first vote ends what this copy led; it is as received where Seen added nothing
  pub pre_accept-received : takes 5 (busy 17 (vote 5 17 2 each) 2 4 (votes no_vote no_vote (added each) no_vote no_vote)) (sent_by 2 0 18 (PreAccept (write 6)) more)
      ≡ speaks (held 18 (vote 6 18 2 more)) 4 0 18 PreAcceptOk more
  pub pre_accept-added : takes 5 (held 9 (vote 5 9 3 each)) (sent_by 2 0 18 (PreAccept (write 6)) each) ≡ speaks (held 18 (vote 6 18 1 more)) 4 0 18 PreAcceptOk more
  pub accept-votes : takes 5 (busy 17 (vote 5 17 2 each) 2 4 (votes no_vote no_vote (added each) no_vote no_vote)) (sent_by 2 0 18 (Accept (write 6)) each)
      ≡ speaks (held 18 (vote 6 18 3 each)) 4 0 18 AcceptOk no_deps
  pub accept-again : takes 5 (held 18 (vote 6 18 3 each)) (sent_by 2 0 18 (Accept (write 6)) each) ≡ speaks (held 18 (vote 6 18 3 each)) 4 0 18 AcceptOk no_deps
  -- a Prepare is answered by the vote and its own ballot; once voted in, not at all
  pub prepare-tells : takes 5 (busy 17 (vote 5 9 1 each) 1 2 (votes no_vote (vote 5 9 1 each) no_vote no_vote no_vote)) (sent_by 2 0 18 Prepare no_deps)
      ≡ speaks (held 18 (vote 5 9 1 each)) 4 0 18 (PrepareOk 9 1 (write 5)) each
  pub prepare-again : takes 5 (held 18 (vote 5 9 1 each)) (sent_by 2 0 18 Prepare no_deps) ≡ speaks (held 18 (vote 5 9 1 each)) 4 0 18 (PrepareOk 9 1 (write 5)) each
  pub prepare-voted : takes 5 (held 18 (vote 5 18 2 each)) (sent_by 2 0 18 Prepare no_deps) ≡ still (held 18 (vote 5 18 2 each))
  -- a Commit keeps both ballots and ends a phase
  pub commit-new : takes 5 (busy 25 (vote 5 9 1 each) 1 2 (votes no_vote (vote 5 9 1 each) no_vote no_vote no_vote)) (sent_by 2 0 18 (Commit (write 6)) more) ≡ still (held 25 (vote 6 9 4 more))
  pub commit-again : takes 5 (held 25 (vote 5 9 4 each)) (sent_by 2 0 18 (Commit (write 5)) each) ≡ still (held 25 (vote 5 9 4 each))
  pub commit-other-command : refused10 (held 25 (vote 5 9 4 each)) (sent_by 2 0 18 (Commit (write 6)) each) ≡ true
  pub commit-other-deps : refused10 (held 25 (vote 5 9 4 each)) (sent_by 2 0 18 (Commit (write 5)) more) ≡ true
  pub commit-equal : refused10 (held 25 (vote 5 9 4 each)) (sent_by 2 0 18 (Commit (write 5)) each) ≡ false
  pub accept-differs : refused10 (held 25 (vote 5 9 4 each)) (sent_by 2 0 18 (Accept (write 6)) more) ≡ false
  pub commit-open : refused10 (held 25 (vote 5 9 3 each)) (sent_by 2 0 18 (Commit (write 6)) more) ≡ false

-- copy 1 leads 1.3 at ballot 0, or o.3 at ballot 25
pub record Leads : Type 0 where
  -- five copies commit fast at three matching replies
  pub fast : takes 5 (busy 0 (vote 5 0 2 each) 2 5 (votes (added each) no_vote (added each) no_vote no_vote)) (sent_by 3 1 0 PreAcceptOk each)
      ≡ speaks (held 0 (vote 5 0 4 each)) rest5 1 0 (Commit (write 5)) each
  pub fast-not-yet : takes 5 (busy 0 (vote 5 0 2 each) 2 1 (votes (added each) no_vote no_vote no_vote no_vote)) (sent_by 2 1 0 PreAcceptOk each)
      ≡ still (busy 0 (vote 5 0 2 each) 2 5 (votes (added each) no_vote (added each) no_vote no_vote))
  -- a third that differs ends the waiting
  pub third-differs : takes 5 (busy 0 (vote 5 0 2 each) 2 5 (votes (added each) no_vote (added each) no_vote no_vote)) (sent_by 3 1 0 PreAcceptOk more)
      ≡ speaks (busy 0 (vote 5 0 3 more) 3 0 (replicate 7 no_vote)) rest5 1 0 (Accept (write 5)) more
  -- slow at two that differ, and not at two that agree; at all four
  pub slow : takes 5 (busy 0 (vote 5 0 2 no_deps) 2 1 (votes (added each) no_vote no_vote no_vote no_vote)) (sent_by 2 1 0 PreAcceptOk more)
      ≡ speaks (busy 0 (vote 5 0 3 more) 3 0 (replicate 7 no_vote)) rest5 1 0 (Accept (write 5)) more
  pub agreeing : takes 5 (busy 0 (vote 5 0 2 no_deps) 2 5 (votes (added more) no_vote (added more) no_vote no_vote)) (sent_by 3 1 0 PreAcceptOk more)
      ≡ still (busy 0 (vote 5 0 2 no_deps) 2 13 (votes (added more) no_vote (added more) (added more) no_vote))
  pub all-replied : takes 5 (busy 0 (vote 5 0 2 no_deps) 2 13 (votes (added more) no_vote (added more) (added more) no_vote)) (sent_by 4 1 0 PreAcceptOk more)
      ≡ speaks (busy 0 (vote 5 0 3 more) 3 0 (replicate 7 no_vote)) rest5 1 0 (Accept (write 5)) more
  -- in a recovery at two, whatever they hold, and never fast
  pub recovery-few : takes 5 (busy 25 (vote 5 25 2 each) 2 0 (replicate 7 no_vote)) (sent_by 2 0 25 PreAcceptOk more)
      ≡ still (busy 25 (vote 5 25 2 each) 2 4 (votes no_vote no_vote (added more) no_vote no_vote))
  pub recovery-slow : takes 5 (busy 25 (vote 5 25 2 each) 2 4 (votes no_vote no_vote (added each) no_vote no_vote)) (sent_by 3 0 25 PreAcceptOk each)
      ≡ speaks (busy 25 (vote 5 25 3 each) 3 0 (replicate 7 no_vote)) rest5 0 25 (Accept (write 5)) each
  -- seven copies: five matching, or three of which two differ
  pub fast-of-seven : takes 7 (busy 0 (vote 5 0 2 each) 2 29 (votes (added each) no_vote (added each) (added each) (added each))) (sent_by 5 1 0 PreAcceptOk each)
      ≡ speaks (held 0 (vote 5 0 4 each)) rest7 1 0 (Commit (write 5)) each
  pub not-yet-of-seven : takes 7 (busy 0 (vote 5 0 2 each) 2 13 (votes (added each) no_vote (added each) (added each) no_vote)) (sent_by 4 1 0 PreAcceptOk each)
      ≡ still (busy 0 (vote 5 0 2 each) 2 29 (votes (added each) no_vote (added each) (added each) (added each)))
  pub slow-of-seven : takes 7 (busy 0 (vote 5 0 2 each) 2 5 (votes (added each) no_vote (added each) no_vote no_vote)) (sent_by 3 1 0 PreAcceptOk more)
      ≡ speaks (busy 0 (vote 5 0 3 more) 3 0 (replicate 7 no_vote)) rest7 1 0 (Accept (write 5)) more
  pub too-few-of-seven : takes 7 (busy 0 (vote 5 0 2 each) 2 1 (votes (added each) no_vote no_vote no_vote no_vote)) (sent_by 2 1 0 PreAcceptOk more)
      ≡ still (busy 0 (vote 5 0 2 each) 2 5 (votes (added each) no_vote (added more) no_vote no_vote))
  -- an accepted command is committed at two of five and at three of seven
  pub accept_ok-few : takes 5 (busy 25 (vote 5 25 3 each) 3 0 (replicate 7 no_vote)) (sent_by 2 0 25 AcceptOk no_deps) ≡ still (busy 25 (vote 5 25 3 each) 3 4 (replicate 7 no_vote))
  pub accept_ok : takes 5 (busy 25 (vote 5 25 3 each) 3 4 (replicate 7 no_vote)) (sent_by 3 0 25 AcceptOk no_deps) ≡ speaks (held 25 (vote 5 25 4 each)) rest5 0 25 (Commit (write 5)) each
  pub accept_ok-few-of-seven : takes 7 (busy 25 (vote 5 25 3 each) 3 4 (replicate 7 no_vote)) (sent_by 3 0 25 AcceptOk no_deps) ≡ still (busy 25 (vote 5 25 3 each) 3 12 (replicate 7 no_vote))
  pub accept_ok-of-seven : takes 7 (busy 25 (vote 5 25 3 each) 3 12 (replicate 7 no_vote)) (sent_by 4 0 25 AcceptOk no_deps) ≡ speaks (held 25 (vote 5 25 4 each)) rest7 0 25 (Commit (write 5)) each
  -- a reply counts once, in its phase and at its ballot
  pub reply-twice : takes 5 (busy 25 (vote 5 25 3 each) 3 4 (replicate 7 no_vote)) (sent_by 2 0 25 AcceptOk no_deps) ≡ still (busy 25 (vote 5 25 3 each) 3 4 (replicate 7 no_vote))
  pub reply-other-phase : takes 5 (busy 25 (vote 5 25 3 each) 3 4 (replicate 7 no_vote)) (sent_by 3 0 25 PreAcceptOk each) ≡ still (busy 25 (vote 5 25 3 each) 3 4 (replicate 7 no_vote))
  pub reply-other-ballot : takes 5 (busy 25 (vote 5 25 3 each) 3 4 (replicate 7 no_vote)) (sent_by 3 0 17 AcceptOk no_deps) ≡ still (busy 25 (vote 5 25 3 each) 3 4 (replicate 7 no_vote))
  -- a Nack at the joined ballot ends whatever is led, and is joined in no phase too
  pub nack-idle : takes 5 (held 25 (vote 5 9 2 each)) (sent_by 2 0 25 (Nack 34) no_deps) ≡ still (held 34 (vote 5 9 2 each))
  pub nack-preparing : takes 5 (busy 25 (vote 5 9 2 each) 1 2 (votes no_vote (vote 5 9 2 each) no_vote no_vote no_vote)) (sent_by 2 0 25 (Nack 34) no_deps) ≡ still (held 34 (vote 5 9 2 each))
  pub nack-pre_accepting : takes 5 (busy 25 (vote 5 25 2 each) 2 8 (votes no_vote no_vote no_vote (added each) no_vote)) (sent_by 2 0 25 (Nack 34) no_deps) ≡ still (held 34 (vote 5 25 2 each))
  pub nack-accepting : takes 5 (busy 25 (vote 5 25 3 each) 3 8 (replicate 7 no_vote)) (sent_by 2 0 25 (Nack 34) no_deps) ≡ still (held 34 (vote 5 25 3 each))
  pub nack-late : takes 5 (busy 25 (vote 5 25 3 each) 3 8 (replicate 7 no_vote)) (sent_by 2 0 17 (Nack 34) no_deps) ≡ still (busy 25 (vote 5 25 3 each) 3 8 (replicate 7 no_vote))
  pub nack-done : takes 5 (held 25 (vote 5 25 4 each)) (sent_by 2 0 25 (Nack 34) no_deps) ≡ still (held 25 (vote 5 25 4 each))
  -- a request and a recovery, whole
  pub requests : request 5 1 3 (write 5) each ≡ speaks (busy 0 (vote 5 0 2 each) 2 0 (replicate 7 no_vote)) rest5 1 0 (PreAccept (write 5)) each
  pub recovers : recover 5 1 0 3 (held 26 (vote 5 9 2 each))
      ≡ speaks (busy 33 (vote 5 9 2 each) 1 2 (votes no_vote (vote 5 9 2 each) no_vote no_vote no_vote)) rest5 0 33 Prepare no_deps

-- copy 1 prepares 0.3 at ballot 25: what F+1 replies decide
abbrev pub prepared : ℕ → ℕ → List Vote → ℕ → Vote → Step
prepared n m vs q v = takes n (busy 25 no_vote 1 m vs) (sent_by q 0 25 (PrepareOk v.voted v.status v.command) v.deps)

-- it accepts, it asks afresh
abbrev pub to_accept : ℕ → ℕ → List ℕ → Step
to_accept to e d = speaks (busy 25 (vote e 25 3 d) 3 0 (replicate 7 no_vote)) to 0 25 (Accept (write e)) d

abbrev pub to_afresh : ℕ → ℕ → Step
to_afresh to e = speaks (busy 25 (vote e 25 2 more) 2 0 (replicate 7 no_vote)) to 0 25 (PreAccept (write e)) more

pub record Recoveries : Type 0 where
  -- three of five decide, and four of seven; fewer wait
  pub few : prepared 5 2 (replicate 7 no_vote) 2 (vote 6 0 2 each) ≡ still (busy 25 no_vote 1 6 (votes no_vote no_vote (vote 6 0 2 each) no_vote no_vote))
  pub few-of-seven : prepared 7 6 (votes no_vote no_vote (vote 6 0 2 each) no_vote no_vote) 3 (vote 6 0 2 each)
      ≡ still (busy 25 no_vote 1 14 (votes no_vote no_vote (vote 6 0 2 each) (vote 6 0 2 each) no_vote))
  -- none voted: a no-op
  pub none-voted : prepared 5 6 (replicate 7 no_vote) 3 no_vote
      ≡ speaks (busy 25 (record { voted = 25; status = 2; command = noop; deps = more }) 2 0 (replicate 7 no_vote)) rest5 0 25 (PreAccept noop) more
  -- an accepted one at the highest ballot, though one accepted lower comes before; of two, the lower copy's
  pub highest-accepted : prepared 5 6 (votes no_vote no_vote (vote 6 10 3 each) no_vote no_vote) 3 (vote 7 17 3 more) ≡ to_accept rest5 7 more
  pub lowest-accepted : prepared 5 6 (votes no_vote no_vote (vote 6 17 3 each) no_vote no_vote) 3 (vote 7 17 3 more) ≡ to_accept rest5 6 each
  -- accepted below the highest ballot is not enough
  pub accepted-below : prepared 5 6 (votes no_vote no_vote (vote 6 10 3 each) no_vote no_vote) 3 (vote 7 17 2 more) ≡ to_afresh rest5 7
  -- F as received at ballot 0 without the owner: of two, the lower copy's
  pub perhaps-fast : prepared 5 6 (votes no_vote no_vote (vote 6 0 2 each) no_vote no_vote) 3 (vote 7 0 2 more) ≡ to_accept rest5 6 each
  pub perhaps-fast-of-seven : prepared 7 14 (votes no_vote no_vote (vote 6 0 2 each) (vote 6 0 2 each) no_vote) 4 (vote 6 0 2 each) ≡ to_accept rest7 6 each
  pub too-few-received : prepared 5 6 (votes no_vote no_vote (vote 6 0 1 each) no_vote no_vote) 3 (vote 7 0 2 more) ≡ to_afresh rest5 6
  pub too-few-of-seven : prepared 7 14 (votes no_vote no_vote (vote 6 0 2 each) (vote 6 0 2 each) no_vote) 4 (vote 6 0 1 each) ≡ to_afresh rest7 6
  pub owner-replied : prepared 5 3 (votes (vote 6 0 2 each) no_vote no_vote no_vote no_vote) 3 (vote 6 0 2 each) ≡ to_afresh rest5 6
  pub received-later : prepared 5 6 (votes no_vote no_vote (vote 6 17 2 each) no_vote no_vote) 3 (vote 7 17 2 more) ≡ to_afresh rest5 6

pub record Nudges : Type 0 where
  pub committed-all : nudge 5 1 1 3 (held 25 (vote 5 9 4 each)) ≡ speaks (held 25 (vote 5 9 4 each)) rest5 1 25 (Commit (write 5)) each
  -- to those whose reply is not held, and to no other
  pub preparing-absent : nudge 5 1 1 3 (busy 25 (vote 5 9 2 each) 1 6 (replicate 7 no_vote)) ≡ speaks (busy 25 (vote 5 9 2 each) 1 6 (replicate 7 no_vote)) 25 1 25 Prepare no_deps
  pub pre_accepting-absent : nudge 5 1 1 3 (busy 0 (vote 5 0 2 each) 2 4 (votes no_vote no_vote (added each) no_vote no_vote))
      ≡ speaks (busy 0 (vote 5 0 2 each) 2 4 (votes no_vote no_vote (added each) no_vote no_vote)) 25 1 0 (PreAccept (write 5)) each
  pub accepting-absent : nudge 5 1 1 3 (busy 25 (vote 5 25 3 each) 3 4 (replicate 7 no_vote)) ≡ speaks (busy 25 (vote 5 25 3 each) 3 4 (replicate 7 no_vote)) 25 1 25 (Accept (write 5)) each
  -- F replies at ballot 0 are enough to go on, though they agree; in a recovery they are not waited with
  pub goes_on : nudge 5 1 1 3 (busy 0 (vote 5 0 2 no_deps) 2 5 (votes (added each) no_vote (added each) no_vote no_vote))
      ≡ speaks (busy 0 (vote 5 0 3 each) 3 0 (replicate 7 no_vote)) rest5 1 0 (Accept (write 5)) each
  pub recovery-asks : nudge 5 1 1 3 (busy 25 (vote 5 25 2 each) 2 5 (votes (added each) no_vote (added each) no_vote no_vote))
      ≡ speaks (busy 25 (vote 5 25 2 each) 2 5 (votes (added each) no_vote (added each) no_vote no_vote)) 24 1 25 (PreAccept (write 5)) each
  -- refused where nothing is led and nothing is committed
  pub idle-refused : nothing_to_nudge (held 25 (vote 5 9 3 each)) ≡ true
  pub busy-taken : nothing_to_nudge (busy 25 (vote 5 9 2 each) 1 6 (replicate 7 no_vote)) ≡ false
  pub committed-taken : nothing_to_nudge (held 25 (vote 5 9 4 each)) ≡ false

-- votes for key 7 in every status, one for key 8, and one of a copy that a group of three has not
abbrev pub other_key : Command
other_key = on_one Write 8 5

abbrev pub sights : Records
sights =
    put (put (put (put (put blanks 0 1 (held 0 (vote 5 0 1 no_deps))) 0 3 (held 0 (vote 5 0 2 no_deps))) 1 1 (held 0 (vote 5 0 3 no_deps)))
    1 2 (held 0 (record { voted = 0; status = 2; command = other_key; deps = no_deps })))
    3 1 (held 0 (vote 5 0 4 no_deps))

-- a read of key 7 above a write of it, and one alone
abbrev pub read_above : Records
read_above =
    put (put (put blanks 0 1 (held 0 (vote 5 0 2 no_deps))) 0 2 (held 0 (record { voted = 0; status = 2; command = read 5; deps = no_deps })))
    1 1 (held 0 (record { voted = 0; status = 4; command = read 4; deps = no_deps }))

pub record Sights : Type 0 where
  -- the last of a row, and none of another key or of no copy
  pub last-of-row : seen interfere 3 4 sights 0 1 (write 6) ≡ deps3 3 1 0
  pub of-its-key : seen interfere 3 4 sights 2 1 other_key ≡ deps3 0 2 0
  -- the instance itself does not count
  pub not_itself : seen interfere 3 4 sights 0 3 (write 6) ≡ deps3 1 1 0
  pub committed-too : seen interfere 5 4 sights 0 1 (write 6) ≡ 3 ∷ 1 ∷ 0 ∷ 1 ∷ 0 ∷ 0 ∷ 0 ∷ []
  -- a read looks past the reads of its key for a write, where document 01 stops
  pub past-reads : seen interfere 3 4 read_above 2 1 (read 6) ≡ deps3 1 0 0
  pub past-reads-before : seen same_object 3 4 read_above 2 1 (read 6) ≡ deps3 2 1 0
  -- and so do the two events that ask for it
  pub asked : (on_request interfere 3 4 2 read_above (read 6)).message.deps ≡ deps3 1 0 0
  pub asked-before : (on_request same_object 3 4 2 read_above (read 6)).message.deps ≡ deps3 2 1 0
  pub heard : (on_message interfere 3 4 1 read_above (sent_by 2 2 0 (PreAccept (read 6)) no_deps)).message.deps ≡ deps3 1 0 0
  pub heard-before : (on_message same_object 3 4 1 read_above (sent_by 2 2 0 (PreAccept (read 6)) no_deps)).message.deps ≡ deps3 2 1 0

-- a command with these dependencies that is voted for and open
abbrev pub ongoing : List ℕ → Record
ongoing d = held 0 (vote 1 0 2 d)

-- 0.3 covers 1.1, which is committed, and 1.2, which is open and covers 2.1
abbrev pub open_between : Records
open_between = put (put (put blanks 0 3 (committed (deps3 0 2 0))) 1 1 (committed no_deps)) 1 2 (ongoing (deps3 0 0 1))

-- 2.1 covers 0.1, which is committed, 0.2 and 1.1
abbrev pub gaps : Records
gaps = put (put blanks 2 1 (committed (deps3 2 1 0))) 0 1 (committed no_deps)

pub record Orders : Type 0 where
  -- the search goes on through what is open
  pub through-open : first_open 3 4 open_between 0 3 ≡ Some (instance 2 1)
  -- by number, then owner
  pub number-first : first_open 3 4 gaps 2 1 ≡ Some (instance 1 1)
  pub lists-number-first : hand_out 4 3 4 (put (put blanks 0 2 (committed no_deps)) 1 1 (committed no_deps)) ≡ 257 ∷ 2 ∷ []
  -- what is open waits for itself; what is committed does not wait for what it does not cover
  pub waits-itself : first_open 3 4 (put blanks 0 1 (ongoing no_deps)) 0 1 ≡ Some (instance 0 1)
  pub waits-no-other : first_open 3 4 (put blanks 0 2 (committed no_deps)) 0 2 ≡ None
  -- its own number among its dependencies is not itself
  pub own-number : first_open 3 4 (put (put blanks 0 1 (committed no_deps)) 0 2 (committed (deps3 2 0 0))) 0 2 ≡ None
  -- an entry names its owner's whole row up to it
  pub whole_row : first_open 3 4 (put (put blanks 1 2 (committed no_deps)) 0 1 (committed (deps3 0 2 0))) 0 1 ≡ Some (instance 1 1)
  pub settled-cycle : is_settled 3 4 cycle 0 1 ≡ true
  -- a list ends with its room, and names nothing twice or that waits
  pub room-ends : hand_out 1 3 4 cycle ≡ 1 ∷ []
  pub waiting-left : hand_out 4 3 4 gaps ≡ 1 ∷ []
