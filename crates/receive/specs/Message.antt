-- A valid message at a table past the gate: what it does, and what its step rests on. Assumes nothing.
use Rattle.std.specs.Prelude.{ℕ, ◌≤◌, ◌<◌, ◌≡◌, true, List}
use Rattle.paper.specs.Valid.{valid}
use Rattle.paper.specs.declared.Message.{Message}
use Rattle.table.specs.Sizes.{Sizes}
use Rattle.paper.specs.Fits.{MessageFits}
use Rattle.gate.specs.Events.{Passed}

pub record Hearing (n s c : ℕ) (t : List ℕ) (room : ℕ) (m : Message) : Type 0 where
  pub passed : Passed n s c t room
  pub valid : valid n s c m ≡ true
  pub fits : MessageFits m

-- what the rules by value ask of the table and the message
pub record Ready (n s c : ℕ) (t : List ℕ) (m : Message) : Type 0 where
  pub sizes : Sizes n s c t
  pub three : 3 ≤ n
  pub from : m.from < 7
  pub owner : m.owner < 7
