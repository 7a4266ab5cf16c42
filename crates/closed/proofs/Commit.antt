-- "Commit". Assumes nothing.
use Prim.Native.Nat.{ℕ}
use Rattle.paper.specs.declared.Command.{Command}
use Rattle.paper.specs.declared.Record.{Record}
use Rattle.paper.specs.declared.Body.TheVariants.{Commit}
use Rattle.paper.specs.declared.Message.{Message}
use Rattle.rules.specs.Step.{is_committed}
use Rattle.rules.specs.Commit.{commit}
use Rattle.closed.specs.Held.{Held, Closed}
use Rattle.closed.proofs.Laws.{by_cond}
use Rattle.closed.proofs.Shapes.{Spot}
use Rattle.closed.proofs.Heard.{Heard}
use Rattle.closed.proofs.Back.{silent-closed}
use Rattle.closed.proofs.Accepting.{committed-held}

pub commit-closed : (n s c o j : ℕ) → Spot n s c o j → (r : Record) → Held n s c o r → (m : Message) (k : Command) → Heard n s c o m (Commit k)
    → Closed n s c o (commit r m k)
unfolding commit
commit-closed n s c o j p r h m k t =
    by_cond (Closed n s c o) (is_committed r) (λ e. silent-closed n s c o r h)
    (λ e. silent-closed n s c o _ (committed-held n s c o j p r h k t.command t.body_fits.command m.deps t.deps t.deps_fit))
