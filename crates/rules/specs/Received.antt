-- A received message, by its kind. Assumes nothing.
use Rattle.std.specs.Prelude.{ℕ, Bool, ◌&&◌, List}
use Rattle.paper.specs.Message.{is_commit, command_in}
use Rattle.paper.specs.declared.Command.{Command}
use Rattle.paper.specs.declared.Record.{Record}
use Rattle.paper.specs.declared.Message.{Message}
use Rattle.paper.specs.declared.Body.{Body}
use Rattle.paper.specs.declared.Body.TheVariants.{PreAccept, PreAcceptOk, Accept, AcceptOk, Commit, Prepare, PrepareOk, Nack}
use Rattle.rules.specs.declared.Step.{Step}
use Rattle.rules.specs.PreAccept.{pre_accept}
use Rattle.rules.specs.PreAcceptOk.{on_pre_accept_ok}
use Rattle.rules.specs.Accept.{accept}
use Rattle.rules.specs.AcceptOk.{on_accept_ok}
use Rattle.rules.specs.Commit.{differs, commit}
use Rattle.rules.specs.Prepare.{prepare}
use Rattle.rules.specs.PrepareOk.{on_prepare_ok}
use Rattle.rules.specs.Nack.{nack}

unfoldable pub by_kind : ℕ → ℕ → ℕ → ℕ → (Command → List ℕ) → Record → Message → Body → Step
by_kind n c o j seen r m (PreAccept k) = pre_accept c o j r m k (seen k)
by_kind n c o j seen r m PreAcceptOk = on_pre_accept_ok n c o j r m
by_kind n c o j seen r m (Accept k) = accept c o j r m k
by_kind n c o j seen r m AcceptOk = on_accept_ok n c o j r m
by_kind n c o j seen r m (Commit k) = commit r m k
by_kind n c o j seen r m Prepare = prepare c o j r m
by_kind n c o j seen r m (PrepareOk v t k) = on_prepare_ok n c o j r m seen
by_kind n c o j seen r m (Nack x) = nack r m x

-- what a valid message does to its instance's record; seen: Seen of a command for that instance
abbrev pub receive : ℕ → ℕ → (Command → List ℕ) → Record → Message → Step
receive n c seen r m = by_kind n c m.owner m.number seen r m m.body

-- only a Commit can differ from a stored one
unfoldable pub conflict : Record → Message → Body → Bool
conflict r m b = is_commit b && differs r m (command_in b)

-- refusal 10
abbrev pub refused10 : Record → Message → Bool
refused10 r m = conflict r m m.body
