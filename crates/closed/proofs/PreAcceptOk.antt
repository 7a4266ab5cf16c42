-- "PreAcceptOK b". Assumes nothing.
use Prim.Native.Nat.{ℕ}
use mathlib.Core.Path.{◌≡◌}
use mathlib.Core.Bool.{true}
use native.Mathlib.Omega.{arith}
use lib.Dec.{eqb}
use Rattle.paper.specs.Command.{same_command}
use Rattle.paper.specs.Vote.{added_ok}
use Rattle.paper.specs.Sound.{collected_ok}
use Rattle.paper.specs.declared.Record.{Record}
use Rattle.paper.specs.declared.Body.TheVariants.{PreAcceptOk}
use Rattle.paper.specs.declared.Message.{Message}
use Rattle.rules.specs.Step.{collect, awaited}
use Rattle.rules.specs.PreAcceptOk.{added_vote, fast_enough, slow_enough, some_enough, pre_accepted_by, on_pre_accept_ok}
use Rattle.closed.specs.Held.{Held, Closed}
use Rattle.closed.proofs.Laws.{by_cond}
use Rattle.closed.proofs.Sound.{sound-is}
use Rattle.closed.proofs.Votes.{noop-fits}
use Rattle.closed.proofs.Shapes.{Spot, collect-held}
use Rattle.closed.proofs.Heard.{Heard, awaited-is}
use Rattle.closed.proofs.Back.{silent-closed}
use Rattle.closed.proofs.Accepting.{accepting_join-closed, committing-closed}

module _ (n s c o j : ℕ) (p : Spot n s c o j) (r : Record) (h : Held n s c o r) where
  -- with the reply collected
  pre_accepted_by-closed : r.phase ≡ 2 → Closed n s c o (pre_accepted_by n c o j r)
  unfolding pre_accepted_by
  pre_accepted_by-closed e =
      let join = accepting_join-closed n s c o j p r h e in
      let rest = silent-closed n s c o r h in
      by_cond (Closed n s c o) (eqb r.joined 0)
      (λ z. by_cond (Closed n s c o) (fast_enough n r) (λ f. committing-closed n s c o j p r h) (λ f. by_cond (Closed n s c o) (slow_enough n r) (λ g. join) (λ g. rest)))
      (λ z. by_cond (Closed n s c o) (some_enough n r) (λ f. join) (λ f. rest))

module _ (n s c o j : ℕ) (p : Spot n s c o j) (r : Record) (h : Held n s c o r) (m : Message) (t : Heard n s c o m PreAcceptOk) where
  collected : r.phase ≡ 2 → collected_ok n s c r.phase r.joined r.vote m.from (added_vote m.deps) ≡ true
  unfolding collected_ok added_ok same_command
  collected e = rw e t.deps

  pub on_pre_accept_ok-closed : Closed n s c o (on_pre_accept_ok n c o j r m)
  unfolding on_pre_accept_ok collect
  on_pre_accept_ok-closed =
      by_cond (Closed n s c o) (awaited 2 r m)
      (λ e.
      let (ph, jo, new) = awaited-is 2 r m e in
      let f = sound-is n s c o r h.sound in
      pre_accepted_by-closed n s c o j p (collect r m.from (added_vote m.deps))
      (collect-held n s c o r m.from (added_vote m.deps) p.small t.from new f.set h.fits.seven h t.other p.copy (omega arith)
      (record { voted = omega arith; status = omega arith; command = noop-fits; deps = t.deps_fit }) (collected ph) (λ z. absurd (omega arith)))
      ph)
      (λ e. silent-closed n s c o r h)
