-- "Nack b". Assumes nothing.
use Rattle.std.specs.Prelude.{ℕ, ◌&&◌, not, cond, eqb}
use Rattle.paper.specs.declared.Record.{Record}
use Rattle.paper.specs.declared.Message.{Message}
use Rattle.rules.specs.declared.Step.{Step}
use Rattle.rules.specs.Step.{is_committed, idle, silent}

-- not committed and joined = b, which this copy leads since it is the destination; x is the Nack's joined ballot
unfoldable pub nack : Record → Message → ℕ → Step
nack r m x = cond (not (is_committed r) && eqb r.joined m.ballot) (silent (idle x r.vote r.mark)) (silent r)
