-- "Nudge I". Assumes nothing.
use Rattle.std.specs.Prelude.{ℕ, Bool, ◌&&◌, not, cond, List, eqb}
use Rattle.paper.specs.Deps.{no_deps}
use Rattle.paper.specs.declared.Record.{Record}
use Rattle.paper.specs.declared.Body.{Body}
use Rattle.paper.specs.declared.Body.TheVariants.{PreAccept, Accept, Commit, Prepare}
use Rattle.rules.specs.declared.Step.{Step}
use Rattle.rules.specs.Sets.{others, absent}
use Rattle.rules.specs.Step.{is_committed, say, sending}
use Rattle.rules.specs.Accepting.{accepting_join}
use Rattle.rules.specs.PreAcceptOk.{some_enough}

-- refusal 9: not committed and phase 0
abbrev pub nothing_to_nudge : Record → Bool
nothing_to_nudge r = not (is_committed r) && eqb r.phase 0

-- to those not yet replied
abbrev pub to_absent : ℕ → ℕ → ℕ → ℕ → Record → Body → List ℕ → Step
to_absent n c o j r b d = sending r (absent n c r.set) (say c o j r.joined b d)

-- the phase's message
unfoldable pub again : ℕ → ℕ → ℕ → ℕ → Record → Step
again n c o j r =
    cond (eqb r.phase 1) (to_absent n c o j r Prepare no_deps)
    (cond (eqb r.phase 2) (to_absent n c o j r (PreAccept r.vote.command) r.vote.deps)
    (to_absent n c o j r (Accept r.vote.command) r.vote.deps))

-- a commit is told again; a first round that F copies answered is closed, without the fast path
unfoldable pub nudge : ℕ → ℕ → ℕ → ℕ → Record → Step
nudge n c o j r =
    cond (is_committed r) (sending r (others n c) (say c o j r.joined (Commit r.vote.command) r.vote.deps))
    (cond (eqb r.phase 2 && eqb r.joined 0 && some_enough n r) (accepting_join n c o j r) (again n c o j r))
