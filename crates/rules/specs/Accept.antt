-- "Accept b". Assumes nothing.
use Rattle.std.specs.Prelude.{ℕ, cond, ltb}
use Rattle.paper.specs.Deps.{no_deps}
use Rattle.paper.specs.declared.Command.{Command}
use Rattle.paper.specs.declared.Record.{Record}
use Rattle.paper.specs.declared.Message.{Message}
use Rattle.paper.specs.declared.Body.TheVariants.{AcceptOk}
use Rattle.rules.specs.declared.Step.{Step}
use Rattle.rules.specs.Sets.{only}
use Rattle.rules.specs.Step.{is_committed, idle, say, sending, commit_back, nack_back}

abbrev pub accepted : Record → Message → Command → Record
accepted r m k = idle m.ballot (record { voted = m.ballot; status = 3; command = k; deps = m.deps }) r.mark

-- k is the command that m carries
unfoldable pub accept : ℕ → ℕ → ℕ → Record → Message → Command → Step
accept c o j r m k =
    cond (is_committed r) (commit_back c o j r m.from)
    (cond (ltb m.ballot r.joined) (nack_back c o j r m)
    (sending (accepted r m k) (only m.from) (say c o j m.ballot AcceptOk no_deps)))
