-- "AcceptOK b". Assumes nothing.
use Rattle.std.specs.Prelude.{ℕ, cond}
use Rattle.paper.specs.Vote.{no_vote}
use Rattle.paper.specs.declared.Record.{Record}
use Rattle.paper.specs.declared.Message.{Message}
use Rattle.rules.specs.declared.Step.{Step}
use Rattle.rules.specs.Step.{collect, awaited, silent}
use Rattle.rules.specs.Committing.{committing}
use Rattle.rules.specs.PreAcceptOk.{some_enough}

-- with the reply collected: at F, commit
unfoldable pub accepted_by : ℕ → ℕ → ℕ → ℕ → Record → Step
accepted_by n c o j r = cond (some_enough n r) (committing n c o j r) (silent r)

unfoldable pub on_accept_ok : ℕ → ℕ → ℕ → ℕ → Record → Message → Step
on_accept_ok n c o j r m = cond (awaited 3 r m) (accepted_by n c o j (collect r m.from no_vote)) (silent r)
