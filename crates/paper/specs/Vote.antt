-- "The record of one instance": votes, the set of copies that replied, the blank record. Assumes nothing.
use Rattle.std.specs.Prelude.{ℕ, ◌/◌, ◌%◌, ◌^◌, Bool, ◌&&◌, leb, ltb, eqb, get_or, replicate}
use Rattle.std.specs.Int.Count.{ones}
use Rattle.paper.specs.Logic.{implies, all_below}
use Rattle.paper.specs.Command.{is_noop, noop, same_command, command_ok}
use Rattle.paper.specs.Deps.{no_deps, same_deps, deps_ok}
use Rattle.paper.specs.Ballot.{ballot_ok}
use Rattle.paper.specs.declared.Vote.{Vote}
use Rattle.paper.specs.declared.Record.{Record}

-- nothing voted for; also the place of a reply that has not come
abbrev pub no_vote : Vote
no_vote = record { voted = 0; status = 0; command = noop; deps = no_deps }

-- blank: all zero
abbrev pub blank : Record
blank = record { joined = 0; vote = no_vote; mark = 0; phase = 0; set = 0; replies = replicate 7 no_vote }

unfoldable pub same_vote : Vote → Vote → Bool
same_vote v w =
    eqb v.voted w.voted && eqb v.status w.status && same_command v.command w.command && same_deps v.deps w.deps

-- without a status there is no vote to tell of
abbrev pub none_voted : Vote → Bool
none_voted v = implies (eqb v.status 0) (eqb v.voted 0)

abbrev pub none_op : Vote → Bool
none_op v = implies (eqb v.status 0) (is_noop v.command)

abbrev pub none_entry : Vote → ℕ → Bool
none_entry v i = implies (eqb v.status 0) (eqb (get_or v.deps i 0) 0)

unfoldable pub none_is_blank : Vote → Bool
none_is_blank v = none_voted v && none_op v && all_below 7 (none_entry v)

abbrev pub voted_ok : ℕ → Vote → Bool
voted_ok n v = ballot_ok n v.voted

abbrev pub status_ok : ℕ → Vote → Bool
status_ok k v = leb v.status k

-- the ranges of a vote whose status is at most k
unfoldable pub vote_ok : ℕ → ℕ → ℕ → Vote → Bool
vote_ok n s k v = voted_ok n v && status_ok k v && command_ok v.command && deps_ok n s v.deps

abbrev pub voted_below : ℕ → Vote → Bool
voted_below b v = ltb v.voted b

-- what a PrepareOK for ballot b may tell: status 0..3, voted < b, with status 0 all else zero
unfoldable pub told_ok : ℕ → ℕ → ℕ → Vote → Bool
told_ok n s b v = vote_ok n s 3 v && voted_below b v && none_is_blank v

-- what a PreAcceptOK may tell: dependencies, and nothing beside them
unfoldable pub added_ok : ℕ → ℕ → Vote → Bool
added_ok n s v = eqb v.voted 0 && eqb v.status 0 && same_command v.command noop && deps_ok n s v.deps

-- sets of copies are bits: copy q is in it
unfoldable pub member : ℕ → ℕ → Bool
member q m = eqb (m / 2 ^ q % 2) 1

-- how many have replied
abbrev pub count : ℕ → ℕ
count m = ones m
