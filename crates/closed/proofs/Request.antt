-- "Request": a blank own record is pre-accepted afresh at ballot 0, which its owner leads. Assumes nothing.
use Prim.Native.Nat.{ℕ}
use mathlib.Core.Path.{◌≡◌, refl}
use mathlib.Core.Bool.{true, false}
use mathlib.Core.List.{List}
use native.Mathlib.Omega.{arith}
use Rattle.paper.specs.Command.{is_noop, command_ok}
use Rattle.paper.specs.Deps.{deps_ok}
use Rattle.paper.specs.Ballot.{lead}
use Rattle.paper.specs.Vote.{blank}
use Rattle.paper.specs.declared.Command.{Command}
use Rattle.rules.specs.Request.{request}
use Rattle.paper.specs.Fits.{CommandFits, DepsFit}
use Rattle.closed.specs.Held.{Closed}
use Rattle.closed.proofs.Votes.{ballot-0}
use Rattle.closed.proofs.Shapes.{Spot}
use Rattle.closed.proofs.Accepting.{afresh-closed}

pub request-closed : (n s c j : ℕ) → Spot n s c c j → (k : Command) → command_ok k ≡ true → CommandFits k → is_noop k ≡ false
    → (d : List ℕ) → deps_ok n s d ≡ true → DepsFit d → Closed n s c c (request n c j k d)
unfolding request lead
request-closed n s c j p k hk fk op d hd fd = afresh-closed n s c c j p blank (ballot-0 n) (omega arith) refl refl k hk fk d hd fd (λ e. op)
