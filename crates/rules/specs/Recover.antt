-- "Recover I". Assumes nothing.
use Rattle.std.specs.Prelude.{ℕ, ◌+◌, ◌*◌, ◌/◌, Bool, leb, set}
use Rattle.paper.specs.Deps.{no_deps}
use Rattle.paper.specs.declared.Record.{Record}
use Rattle.paper.specs.declared.Body.TheVariants.{Prepare}
use Rattle.rules.specs.declared.Step.{Step}
use Rattle.rules.specs.Sets.{others, only}
use Rattle.rules.specs.Step.{no_replies, say, sending}

-- refusal 7
abbrev pub out_of_ballots : Record → Bool
out_of_ballots r = leb 4_294_967_288 r.joined

abbrev pub next_ballot : ℕ → ℕ → ℕ
next_ballot c b = 8 * (b / 8 + 1) + c

-- phase 1, own reply collected
abbrev pub preparing : ℕ → Record → Record
preparing c r =
    record
    { joined = next_ballot c r.joined; vote = r.vote; mark = r.mark; phase = 1; set = only c; replies = set no_replies c r.vote }

unfoldable pub recover : ℕ → ℕ → ℕ → ℕ → Record → Step
recover n c o j r = sending (preparing c r) (others n c) (say c o j (next_ballot c r.joined) Prepare no_deps)
