-- "Commit". Assumes nothing.
use Rattle.std.specs.Prelude.{Bool, ◌&&◌, not, cond}
use Rattle.paper.specs.Command.{same_command}
use Rattle.paper.specs.Deps.{same_deps}
use Rattle.paper.specs.declared.Command.{Command}
use Rattle.paper.specs.declared.Record.{Record}
use Rattle.paper.specs.declared.Message.{Message}
use Rattle.rules.specs.declared.Step.{Step}
use Rattle.rules.specs.Step.{is_committed, silent}
use Rattle.rules.specs.Committing.{committed}

-- different from a stored commit: refusal 10
unfoldable pub differs : Record → Message → Command → Bool
differs r m k = is_committed r && not (same_command k r.vote.command && same_deps m.deps r.vote.deps)

-- equal to a stored commit: nothing; else status 4
unfoldable pub commit : Record → Message → Command → Step
commit r m k = cond (is_committed r) (silent r) (silent (committed r k m.deps))
