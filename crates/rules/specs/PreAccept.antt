-- "PreAccept b". Assumes nothing.
use Rattle.std.specs.Prelude.{ℕ, Bool, ◌&&◌, cond, List, leb, ltb, eqb}
use Rattle.paper.specs.Deps.{join, same_deps}
use Rattle.paper.specs.declared.Command.{Command}
use Rattle.paper.specs.declared.Record.{Record}
use Rattle.paper.specs.declared.Message.{Message}
use Rattle.paper.specs.declared.Body.TheVariants.{PreAcceptOk}
use Rattle.rules.specs.declared.Step.{Step}
use Rattle.rules.specs.Sets.{only}
use Rattle.rules.specs.Step.{is_committed, idle, say, silent, sending, commit_back, nack_back}

-- already voted at b
abbrev pub voted_at : Record → ℕ → Bool
voted_at r b = leb 1 r.vote.status && eqb r.vote.voted b

abbrev pub pre_accept_ok : ℕ → ℕ → ℕ → Message → Record → Step
pre_accept_ok c o j m r = sending r (only m.from) (say c o j m.ballot PreAcceptOk r.vote.deps)

-- status 2 if Seen added nothing, else 1
abbrev pub pre_accepted : Record → Message → Command → List ℕ → Record
pre_accepted r m k d =
    idle m.ballot (record { voted = m.ballot; status = cond (same_deps d m.deps) 2 1; command = k; deps = d }) r.mark

-- k is the command that m carries, seen its Seen
unfoldable pub pre_accept : ℕ → ℕ → ℕ → Record → Message → Command → List ℕ → Step
pre_accept c o j r m k seen =
    cond (is_committed r) (commit_back c o j r m.from)
    (cond (ltb m.ballot r.joined) (nack_back c o j r m)
    (cond (voted_at r m.ballot) (cond (leb r.vote.status 2) (pre_accept_ok c o j m r) (silent r))
    (pre_accept_ok c o j m (pre_accepted r m k (join m.deps seen)))))
