-- "Prepare b". Assumes nothing.
use Rattle.std.specs.Prelude.{ℕ, cond, ltb, eqb}
use Rattle.paper.specs.declared.Record.{Record}
use Rattle.paper.specs.declared.Message.{Message}
use Rattle.paper.specs.declared.Body.TheVariants.{PrepareOk}
use Rattle.rules.specs.declared.Step.{Step}
use Rattle.rules.specs.Sets.{only}
use Rattle.rules.specs.Step.{is_committed, idle, say, silent, sending, commit_back, nack_back}

-- the voted ballot, and not the one joined before
unfoldable pub prepare : ℕ → ℕ → ℕ → Record → Message → Step
prepare c o j r m =
    cond (is_committed r) (commit_back c o j r m.from)
    (cond (ltb m.ballot r.joined) (nack_back c o j r m)
    (cond (eqb r.vote.voted m.ballot) (silent r)
    (sending (idle m.ballot r.vote r.mark) (only m.from)
    (say c o j m.ballot (PrepareOk r.vote.voted r.vote.status r.vote.command) r.vote.deps))))
