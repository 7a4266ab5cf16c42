-- The largest values of the language's types fit. Assumes nothing.
use Prim.Native.Nat.{ℕ, ◌^◌, ◌<◌}
use mathlib.Core.Path.{refl}
use mathlib.Core.List.{List}
use native.Mathlib.Omega.{arith}
use native.Mathlib.Decide.{dec_lt}
use lib.ListN.{get_or, replicate, get_or-replicate, get_or-eq_default}
use Rattle.paper.specs.declared.Op.TheVariants.{Rewire}
use Rattle.paper.specs.declared.Command.{Command}
use Rattle.paper.specs.declared.Vote.{Vote}
use Rattle.paper.specs.declared.Record.{Record}
use Rattle.paper.specs.declared.Body.TheVariants.{PrepareOk}
use Rattle.paper.specs.declared.Message.{Message}
use Rattle.paper.specs.Fits.{CommandFits, DepsFit, VoteFits, RecordFits, MessageFits}

abbrev command : Command
command = record { op = Rewire; key = 4294967295; second = 4294967295; edit = 18446744073709551615 }

abbrev deps : List ℕ
deps = replicate 7 65535

abbrev vote : Vote
vote = record { voted = 4294967295; status = 255; command = command; deps = deps }

abbrev held : Record
held = record { joined = 4294967295; vote = vote; mark = 255; phase = 255; set = 255; replies = replicate 7 vote }

abbrev sent : Message
sent = record { from = 255; to = 255; owner = 255; number = 65535; ballot = 4294967295; body = PrepareOk 4294967295 255 command; deps = deps }

command-fits : CommandFits command
command-fits = record { key = omega arith; second = omega arith; edit = omega arith }

deps-fit : DepsFit deps
deps-fit = record { seven = refl; each = λ i. go i (dec_lt i 7) }
  where
    go : (i : ℕ) → Dec (i < 7) → get_or deps i 0 < 256 ^ 2
    go i (yes l) = rw (get_or-replicate {A = ℕ} 7 i 65535 0 l) (omega arith)
    go i (no l) = rw (get_or-eq_default deps 0 {n = i} (omega arith)) (omega arith)

vote-fits : VoteFits vote
vote-fits = record { voted = omega arith; status = omega arith; command = command-fits; deps = deps-fit }

pub held_fits : RecordFits held
held_fits = record {
  joined = omega arith;
  vote = vote-fits;
  mark = omega arith;
  phase = omega arith;
  set = omega arith;
  seven = refl;
  replies = (vote-fits, (vote-fits, (vote-fits, (vote-fits, (vote-fits, (vote-fits, (vote-fits, tt)))))));
}

pub sent-fits : MessageFits sent
sent-fits = record {
  from = omega arith;
  to = omega arith;
  owner = omega arith;
  number = omega arith;
  ballot = omega arith;
  body = record { voted = omega arith; status = omega arith; command = command-fits; joined = omega arith };
  deps = deps-fit;
}
