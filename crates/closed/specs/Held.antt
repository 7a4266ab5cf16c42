-- What holds of each record of a table, and of what an event does to one. Assumes nothing.
-- n, s: the setup; c: this copy; o.j: the instance; r: its record.
use Rattle.std.specs.Prelude.{ℕ, ◌≤◌, ◌<◌, ◌≡◌, true, length}
use Rattle.paper.specs.Instance.{instance_ok}
use Rattle.paper.specs.Vote.{member}
use Rattle.paper.specs.Message.{said_in}
use Rattle.paper.specs.Sound.{sound_record}
use Rattle.paper.specs.Valid.{valid}
use Rattle.paper.specs.declared.Record.{Record}
use Rattle.paper.specs.declared.Message.{Message}
use Rattle.rules.specs.declared.Step.{Step}
use Rattle.rules.specs.Seen.{Records}
use Rattle.rules.specs.Events.{addressed, messages}
use Rattle.paper.specs.Fits.{RecordFits, MessageFits}

-- sound, and writable in its fields; soundness needs the width too: the join goes over all replies, and an eighth is not judged
pub record Held (n s c o : ℕ) (r : Record) : Type 0 where
  pub sound : sound_record n s c o r ≡ true
  pub fits : RecordFits r

-- a message that another copy takes
pub record Taken (n s c q : ℕ) (m : Message) : Type 0 where
  pub copy : q < n
  pub other : q ≡ c → ⊥
  pub valid : valid n s q (addressed m q) ≡ true

-- each member of the set takes what goes out; what tells of a whole vote, longer than a proposal, goes to one copy
pub record Sent (n s c : ℕ) (x : Step) : Type 0 where
  pub each : (q : ℕ) → member q x.to ≡ true → Taken n s c q x.message
  pub single : (said_in x.message.body).parts.told ≡ true → length (messages x) ≤ 1
  pub fits : MessageFits x.message

-- what each event leaves and sends
pub record Closed (n s c o : ℕ) (x : Step) : Type 0 where
  pub held : Held n s c o x.entry
  pub sent : Sent n s c x

-- every record of a table
abbrev pub SoundRecords : ℕ → ℕ → ℕ → Records → Type 0
SoundRecords n s c t = (o j : ℕ) → instance_ok n s o j ≡ true → Held n s c o (t o j)
