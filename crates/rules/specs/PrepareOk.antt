-- "PrepareOK b": what a lead decides on F+1 replies. Assumes nothing.
use Rattle.std.specs.Prelude.{ℕ, ◌+◌, Bool, ◌&&◌, not, cond, List, leb, ltb, eqb, get_or}
use Rattle.paper.specs.Setup.{faults}
use Rattle.paper.specs.Command.{noop}
use Rattle.paper.specs.Vote.{no_vote, member, count}
use Rattle.paper.specs.Message.{vote_in}
use Rattle.paper.specs.declared.Command.{Command}
use Rattle.paper.specs.declared.Vote.{Vote}
use Rattle.paper.specs.declared.Record.{Record}
use Rattle.paper.specs.declared.Message.{Message}
use Rattle.rules.specs.declared.Step.{Step}
use Rattle.rules.specs.Sets.{those, lowest, largest_below}
use Rattle.rules.specs.Step.{collect, awaited, silent}
use Rattle.rules.specs.Accepting.{accepting}
use Rattle.rules.specs.Afresh.{afresh}

-- what copy q told
abbrev pub told_by : Record → ℕ → Vote
told_by r q = get_or r.replies q no_vote

-- copy q is among the replies with status >= 1
abbrev pub voter : Record → ℕ → Bool
voter r q = member q r.set && leb 1 (told_by r q).status

-- the highest voted ballot among status >= 1
unfoldable pub top_voted : Record → ℕ
top_voted r = largest_below 7 (λ q. cond (voter r q) (told_by r q).voted 0)

-- voted at m
abbrev pub top_voter : Record → ℕ → Bool
top_voter r q = voter r q && eqb (told_by r q).voted (top_voted r)

-- a status 3 at m
abbrev pub top_accepter : Record → ℕ → Bool
top_accepter r q = top_voter r q && eqb (told_by r q).status 3

-- status 2
abbrev pub same_voter : Record → ℕ → Bool
same_voter r q = voter r q && eqb (told_by r q).status 2

-- the owner may have committed fast: nothing but its first round was voted in, it did not answer itself, and F or more took
-- the command as it sent it
unfoldable pub maybe_fast : ℕ → ℕ → Record → Bool
maybe_fast n o r = eqb (top_voted r) 0 && not (member o r.set) && leb (faults n) (count (those (same_voter r)))

-- the command that is pre-accepted afresh, if that is what is decided
unfoldable pub afresh_command : Record → Command
afresh_command r = cond (eqb (those (voter r)) 0) noop (told_by r (lowest (top_voter r))).command

-- the copy whose reply is accepted, past them all where the command is pre-accepted afresh
unfoldable pub accepted_from : ℕ → ℕ → Record → ℕ
accepted_from n o r =
    cond (eqb (those (voter r)) 0) 7
    (cond (not (eqb (those (top_accepter r)) 0)) (lowest (top_accepter r)) (cond (maybe_fast n o r) (lowest (same_voter r)) 7))

-- seen: Seen of the command that is pre-accepted afresh
unfoldable pub decide : ℕ → ℕ → ℕ → ℕ → Record → List ℕ → Step
decide n c o j r seen =
    cond (ltb (accepted_from n o r) 7)
    (accepting n c o j r (told_by r (accepted_from n o r)).command (told_by r (accepted_from n o r)).deps)
    (afresh n c o j r (afresh_command r) seen)

-- at F+1 replies, own included
unfoldable pub quorum : ℕ → Record → Bool
quorum n r = leb (faults n + 1) (count r.set)

-- with the reply collected
unfoldable pub prepared_by : ℕ → ℕ → ℕ → ℕ → Record → (Command → List ℕ) → Step
prepared_by n c o j r seen = cond (quorum n r) (decide n c o j r (seen (afresh_command r))) (silent r)

unfoldable pub on_prepare_ok : ℕ → ℕ → ℕ → ℕ → Record → Message → (Command → List ℕ) → Step
on_prepare_ok n c o j r m seen = cond (awaited 1 r m) (prepared_by n c o j (collect r m.from (vote_in m)) seen) (silent r)
