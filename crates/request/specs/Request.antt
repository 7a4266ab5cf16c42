-- A request that is taken, at a table past the gate: what its step rests on. Assumes nothing.
use Rattle.std.specs.Prelude.{ℕ, ◌≡◌, Bool, true, false, ◌&&◌, List, eqb}
use Rattle.paper.specs.Command.{is_noop, command_ok}
use Rattle.paper.specs.declared.Command.{Command}
use Rattle.paper.specs.declared.Record.{Record}
use Rattle.paper.specs.Fits.{CommandFits}
use Rattle.gate.specs.Events.{Passed}

-- no ballot joined, no vote, no phase
unfoldable pub is_untouched : Record → Bool
is_untouched r = eqb r.joined 0 && eqb r.vote.status 0 && eqb r.phase 0

pub record Asking (n s c : ℕ) (t : List ℕ) (room : ℕ) (k : Command) : Type 0 where
  pub passed : Passed n s c t room
  pub ok : command_ok k ≡ true
  pub fits : CommandFits k
  pub edit : is_noop k ≡ false
