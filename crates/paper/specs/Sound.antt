-- "The record of one instance": when a record is sound, a clause at a time. Assumes nothing.
-- n, s: the setup; c: this copy; o: the instance's owner; r: its record.
use Rattle.std.specs.Prelude.{ℕ, ◌^◌, Bool, ◌&&◌, ◌||◌, not, cond, leb, ltb, eqb, get_or}
use Rattle.paper.specs.Logic.{implies, all_below}
use Rattle.paper.specs.Setup.{faults}
use Rattle.paper.specs.Command.{is_noop}
use Rattle.paper.specs.Ballot.{ballot_ok, lead}
use Rattle.paper.specs.Vote.{no_vote, same_vote, none_is_blank, vote_ok, told_ok, added_ok, member, count}
use Rattle.paper.specs.declared.Vote.{Vote}
use Rattle.paper.specs.declared.Record.{Record}

-- every field is in range
abbrev pub joined_ok : ℕ → Record → Bool
joined_ok n r = ballot_ok n r.joined

abbrev pub own_vote_ok : ℕ → ℕ → Record → Bool
own_vote_ok n s r = vote_ok n s 4 r.vote

abbrev pub mark_ok : Record → Bool
mark_ok r = leb r.mark 1

abbrev pub phase_ok : Record → Bool
phase_ok r = leb r.phase 3

abbrev pub set_ok : ℕ → Record → Bool
set_ok n r = ltb r.set (2 ^ n)

-- voted <= joined
abbrev pub voted_joined : Record → Bool
voted_joined r = leb r.vote.voted r.joined

abbrev pub none_blank : Record → Bool
none_blank r = none_is_blank r.vote

-- the mark is only on status 4
abbrev pub mark_committed : Record → Bool
mark_committed r = implies (eqb r.mark 1) (eqb r.vote.status 4)

-- phase 0 has nothing collected
abbrev pub idle_empty : Record → Bool
idle_empty r = implies (eqb r.phase 0) (eqb r.set 0)

-- only a lead is busy, and only with what is open
abbrev pub busy_open : Record → Bool
busy_open r = implies (leb 1 r.phase) (ltb r.vote.status 4)

abbrev pub busy_leads : ℕ → ℕ → Record → Bool
busy_leads c o r = implies (leb 1 r.phase) (eqb (lead o r.joined) c)

-- preparing: in a recovery, at a ballot not voted in yet, with the own reply and too few to decide
abbrev pub preparing_ballot : Record → Bool
preparing_ballot r = implies (eqb r.phase 1) (leb 8 r.joined)

abbrev pub preparing_voted : Record → Bool
preparing_voted r = implies (eqb r.phase 1) (ltb r.vote.voted r.joined)

abbrev pub preparing_self : ℕ → Record → Bool
preparing_self c r = implies (eqb r.phase 1) (member c r.set)

abbrev pub preparing_few : ℕ → Record → Bool
preparing_few n r = implies (eqb r.phase 1) (leb (count r.set) (faults n))

-- what was voted for is what the phase asks the others for; a no-op comes from recovery alone
abbrev pub preaccepting_status : Record → Bool
preaccepting_status r = implies (eqb r.phase 2) (eqb r.vote.status 1 || eqb r.vote.status 2)

abbrev pub preaccepting_op : Record → Bool
preaccepting_op r = implies (eqb r.phase 2) (implies (eqb r.joined 0) (not (is_noop r.vote.command)))

abbrev pub accepting_status : Record → Bool
accepting_status r = implies (eqb r.phase 3) (eqb r.vote.status 3)

-- either asks at the ballot that this copy voted in, and counts the others' replies
abbrev pub proposing_voted : Record → Bool
proposing_voted r = implies (leb 2 r.phase) (eqb r.vote.voted r.joined)

abbrev pub proposing_self : ℕ → Record → Bool
proposing_self c r = implies (leb 2 r.phase) (not (member c r.set))

-- a collected reply could have come as a message to this ballot, which an AcceptOK leaves empty; the own one is the vote
unfoldable pub collected_ok : ℕ → ℕ → ℕ → ℕ → ℕ → Vote → ℕ → Vote → Bool
collected_ok n s c p b own q v =
    cond (eqb p 1) (cond (eqb q c) (same_vote v own) (told_ok n s b v)) (cond (eqb p 2) (added_ok n s v) (same_vote v no_vote))

-- places outside the set are zero
unfoldable pub reply_ok : ℕ → ℕ → ℕ → Record → ℕ → Bool
reply_ok n s c r q =
    cond (member q r.set) (collected_ok n s c r.phase r.joined r.vote q (get_or r.replies q no_vote))
    (same_vote (get_or r.replies q no_vote) no_vote)

unfoldable pub replies_ok : ℕ → ℕ → ℕ → Record → Bool
replies_ok n s c r = all_below 7 (reply_ok n s c r)

-- the ranges of all but the replies
unfoldable pub ranges_ok : ℕ → ℕ → Record → Bool
ranges_ok n s r = joined_ok n r && own_vote_ok n s r && mark_ok r && phase_ok r && set_ok n r

-- what holds in any phase
unfoldable pub votes_ok : Record → Bool
votes_ok r = voted_joined r && none_blank r && mark_committed r

-- what each phase asks
unfoldable pub preparing_ok : ℕ → ℕ → Record → Bool
preparing_ok n c r = preparing_ballot r && preparing_voted r && preparing_self c r && preparing_few n r

unfoldable pub proposing_ok : ℕ → Record → Bool
proposing_ok c r = preaccepting_status r && preaccepting_op r && accepting_status r && proposing_voted r && proposing_self c r

unfoldable pub busy_ok : ℕ → ℕ → Record → Bool
busy_ok c o r = idle_empty r && busy_open r && busy_leads c o r

unfoldable pub phases_ok : ℕ → ℕ → ℕ → Record → Bool
phases_ok n c o r = busy_ok c o r && preparing_ok n c r && proposing_ok c r

unfoldable pub sound_record : ℕ → ℕ → ℕ → ℕ → Record → Bool
sound_record n s c o r = ranges_ok n s r && votes_ok r && phases_ok n c o r && replies_ok n s c r
