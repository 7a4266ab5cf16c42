-- "Afresh": pre-accepting at the joined ballot. Assumes nothing.
use Rattle.std.specs.Prelude.{ℕ, List}
use Rattle.paper.specs.declared.Command.{Command}
use Rattle.paper.specs.declared.Record.{Record}
use Rattle.paper.specs.declared.Body.TheVariants.{PreAccept}
use Rattle.rules.specs.declared.Step.{Step}
use Rattle.rules.specs.Sets.{others}
use Rattle.rules.specs.Step.{begun, say, sending}

-- these dependencies (Seen's), status 2, voted = joined, phase 2, nothing collected, PreAccept to all others
unfoldable pub afresh : ℕ → ℕ → ℕ → ℕ → Record → Command → List ℕ → Step
afresh n c o j r k d =
    sending (begun r.joined (record { voted = r.joined; status = 2; command = k; deps = d }) r.mark 2) (others n c)
    (say c o j r.joined (PreAccept k) d)
