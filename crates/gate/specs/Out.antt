-- The bytes that an event sends. Assumes nothing.
use Rattle.std.specs.Prelude.{ℕ, ◌+◌, ◌≤◌, ◌<◌, ◌≡◌, true, List, [], ◌∷◌, ◌++◌}
use Rattle.paper.specs.declared.Message.{Message}
use Rattle.rules.specs.declared.Step.{Step}
use Rattle.rules.specs.Events.{messages}
use Rattle.paper.specs.Message.{kind_of}
use Rattle.paper.specs.Vote.{member}
use Rattle.wire.specs.Wire.{length_of, message_bytes}

-- messages one after the other
unfoldable pub all_bytes : List Message → List ℕ
all_bytes [] = []
all_bytes (m ∷ ms) = message_bytes m ++ all_bytes ms

-- by rising destination
abbrev pub out_bytes : Step → List ℕ
out_bytes x = all_bytes (messages x)

-- copy q's message, if it has one, fits a room of this length at `at`
pub record Turn (to : ℕ) (m : Message) (room at q : ℕ) : Type 0 where
  pub copy : q < 7
  pub fits : member q to ≡ true → (at + length_of (kind_of m.body) ≤ 246) × (at + length_of (kind_of m.body) ≤ room)
