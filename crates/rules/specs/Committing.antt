-- Committing keeps both ballots; phase 0, nothing collected. Assumes nothing.
use Rattle.std.specs.Prelude.{ℕ, List}
use Rattle.paper.specs.declared.Command.{Command}
use Rattle.paper.specs.declared.Record.{Record}
use Rattle.paper.specs.declared.Body.TheVariants.{Commit}
use Rattle.rules.specs.declared.Step.{Step}
use Rattle.rules.specs.Sets.{others}
use Rattle.rules.specs.Step.{idle, say, sending}

abbrev pub committed : Record → Command → List ℕ → Record
committed r k d = idle r.joined (record { voted = r.vote.voted; status = 4; command = k; deps = d }) r.mark

-- a lead that commits what it holds sends Commit to all others
unfoldable pub committing : ℕ → ℕ → ℕ → ℕ → Record → Step
committing n c o j r =
    sending (committed r r.vote.command r.vote.deps) (others n c) (say c o j r.joined (Commit r.vote.command) r.vote.deps)
