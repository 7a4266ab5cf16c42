-- "AcceptOK b". Assumes nothing.
use Prim.Native.Nat.{ℕ}
use mathlib.Core.Path.{◌≡◌}
use mathlib.Core.Bool.{true}
use native.Mathlib.Omega.{arith}
use Rattle.paper.specs.Vote.{no_vote}
use Rattle.paper.specs.Sound.{collected_ok}
use Rattle.paper.specs.declared.Record.{Record}
use Rattle.paper.specs.declared.Body.TheVariants.{AcceptOk}
use Rattle.paper.specs.declared.Message.{Message}
use Rattle.rules.specs.Step.{collect, awaited}
use Rattle.rules.specs.PreAcceptOk.{some_enough}
use Rattle.rules.specs.AcceptOk.{accepted_by, on_accept_ok}
use Rattle.closed.specs.Held.{Held, Closed}
use Rattle.closed.proofs.Laws.{by_cond}
use Rattle.closed.proofs.Sound.{sound-is}
use Rattle.closed.proofs.Votes.{no-vote-fits, same-vote-refl}
use Rattle.closed.proofs.Shapes.{Spot, collect-held}
use Rattle.closed.proofs.Heard.{Heard, awaited-is}
use Rattle.closed.proofs.Back.{silent-closed}
use Rattle.closed.proofs.Accepting.{committing-closed}

module _ (n s c o j : ℕ) (p : Spot n s c o j) (r : Record) (h : Held n s c o r) (m : Message) (t : Heard n s c o m AcceptOk) where
  collected : r.phase ≡ 3 → collected_ok n s c r.phase r.joined r.vote m.from no_vote ≡ true
  unfolding collected_ok
  collected e = rw e (same-vote-refl no_vote)

  pub on_accept_ok-closed : Closed n s c o (on_accept_ok n c o j r m)
  unfolding on_accept_ok accepted_by
  on_accept_ok-closed =
      by_cond (Closed n s c o) (awaited 3 r m)
      (λ e.
      let (ph, jo, new) = awaited-is 3 r m e in
      let f = sound-is n s c o r h.sound in
      let g : Held n s c o (collect r m.from no_vote) =
      collect-held n s c o r m.from no_vote p.small t.from new f.set h.fits.seven h t.other p.copy (omega arith) no-vote-fits (collected ph)
      (λ z. absurd (omega arith)) in
      by_cond (Closed n s c o) (some_enough n (collect r m.from no_vote)) (λ z. committing-closed n s c o j p _ g) (λ z. silent-closed n s c o _ g))
      (λ e. silent-closed n s c o r h)
