-- "Accepting". Assumes nothing.
use Rattle.std.specs.Prelude.{ℕ, List, [], ◌∷◌}
use Rattle.paper.specs.Deps.{join}
use Rattle.paper.specs.declared.Command.{Command}
use Rattle.paper.specs.declared.Vote.{Vote}
use Rattle.paper.specs.declared.Record.{Record}
use Rattle.paper.specs.declared.Body.TheVariants.{Accept}
use Rattle.rules.specs.declared.Step.{Step}
use Rattle.rules.specs.Sets.{others}
use Rattle.rules.specs.Step.{begun, say, sending}

-- the join of own and collected dependencies; places outside the set are zero and add nothing
unfoldable pub join_all : List ℕ → List Vote → List ℕ
join_all d [] = d
join_all d (v ∷ vs) = join_all (join d v.deps) vs

-- the lead votes for it itself and asks all others anew
unfoldable pub accepting : ℕ → ℕ → ℕ → ℕ → Record → Command → List ℕ → Step
accepting n c o j r k d =
    sending (begun r.joined (record { voted = r.joined; status = 3; command = k; deps = d }) r.mark 3) (others n c)
    (say c o j r.joined (Accept k) d)

-- out of phase 2: the own command, and the join of all dependencies
unfoldable pub accepting_join : ℕ → ℕ → ℕ → ℕ → Record → Step
accepting_join n c o j r = accepting n c o j r r.vote.command (join_all r.vote.deps r.replies)
