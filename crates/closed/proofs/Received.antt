-- A received message, by its kind. Assumes nothing.
use Prim.Native.Nat.{ℕ}
use mathlib.Core.Path.{◌≡◌, refl}
use mathlib.Core.Bool.{true}
use mathlib.Core.List.{List}
use Rattle.paper.specs.Command.{command_ok}
use Rattle.paper.specs.Deps.{deps_ok}
use Rattle.paper.specs.Vote.{told_ok}
use Rattle.paper.specs.Message.{row_of, vote_in}
use Rattle.paper.specs.declared.Command.{Command}
use Rattle.paper.specs.declared.Record.{Record}
use Rattle.paper.specs.declared.Body.{Body}
use Rattle.paper.specs.declared.Body.TheVariants.{PreAccept, PreAcceptOk, Accept, AcceptOk, Commit, Prepare, PrepareOk, Nack}
use Rattle.paper.specs.declared.Message.{Message}
use Rattle.rules.specs.Received.{by_kind}
use Rattle.paper.specs.Fits.{DepsFit, VoteFits}
use Rattle.closed.specs.Held.{Held, Closed}
use Rattle.closed.proofs.Shapes.{Spot}
use Rattle.closed.proofs.Heard.{Heard}
use Rattle.closed.proofs.PreAccept.{pre_accept-closed}
use Rattle.closed.proofs.PreAcceptOk.{on_pre_accept_ok-closed}
use Rattle.closed.proofs.Accept.{accept-closed}
use Rattle.closed.proofs.AcceptOk.{on_accept_ok-closed}
use Rattle.closed.proofs.Commit.{commit-closed}
use Rattle.closed.proofs.Prepare.{prepare-closed}
use Rattle.closed.proofs.PrepareOk.{on_prepare_ok-closed}
use Rattle.closed.proofs.Nack.{nack-closed}

-- seen: Seen of a command, in range
module _ (n s c o j : ℕ) (p : Spot n s c o j) (seen : Command → List ℕ) (hs : (k : Command) → command_ok k ≡ true → deps_ok n s (seen k) ≡ true)
    (fs : (k : Command) → command_ok k ≡ true → DepsFit (seen k)) (r : Record) (h : Held n s c o r) (m : Message) where
  pub by_kind-closed : (x : Body) → m.body ≡ x → Heard n s c o m x → Closed n s c o (by_kind n c o j seen r m x)
  unfolding by_kind row_of
  by_kind-closed (PreAccept k) e t = pre_accept-closed n s c o j p r h m k t (seen k) (hs k t.command)
  by_kind-closed PreAcceptOk e t = on_pre_accept_ok-closed n s c o j p r h m t
  by_kind-closed (Accept k) e t = accept-closed n s c o j p r h m k t
  by_kind-closed AcceptOk e t = on_accept_ok-closed n s c o j p r h m t
  by_kind-closed (Commit k) e t = commit-closed n s c o j p r h m k t
  by_kind-closed Prepare e t = prepare-closed n s c o j p r h m t
  by_kind-closed (PrepareOk v u k) e t =
      let f = t.body_fits in
      let told : told_ok n s m.ballot (vote_in m) ≡ true = rw e (t.told refl) in
      let fits : VoteFits (vote_in m) = rw e (record { voted = f.voted; status = f.status; command = f.command; deps = t.deps_fit }) in
      on_prepare_ok-closed n s c o j p r h m t.from t.other told fits seen hs fs
  by_kind-closed (Nack x) e t = nack-closed n s c o j p r h m x t
