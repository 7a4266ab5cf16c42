-- "Nudge I". Assumes nothing.
use Prim.Native.Nat.{ℕ, ◌≤◌}
use mathlib.Core.Path.{◌≡◌}
use mathlib.Core.Bool.{false, ◌&&◌}
use native.Mathlib.Omega.{arith}
use lib.Dec.{eqb}
use borrow.Author.Tests.{eqb-true, eqb-false}
use Rattle.paper.specs.declared.Record.{Record}
use Rattle.rules.specs.Sets.{others, absent}
use Rattle.rules.specs.Step.{is_committed}
use Rattle.rules.specs.PreAcceptOk.{some_enough}
use Rattle.rules.specs.Nudge.{nothing_to_nudge, again, nudge}
use Rattle.closed.specs.Held.{Held, Closed}
use Rattle.closed.proofs.Laws.{by_cond, three}
use Rattle.closed.proofs.Sound.{sound-is}
use Rattle.closed.proofs.Votes.{vote-is}
use Rattle.closed.proofs.Shapes.{Spot}
use Rattle.closed.proofs.Says.{to-others, to-absent, preaccept-sent, accept-sent, commit-sent, prepare-sent}
use Rattle.closed.proofs.Accepting.{accepting_join-closed}

module _ (n s c o j : ℕ) (p : Spot n s c o j) (r : Record) (h : Held n s c o r) where
  -- the phase's message once more: the record is as it was
  again-closed : 1 ≤ r.phase → Closed n s c o (again n c o j r)
  unfolding again
  again-closed busy =
      let f = sound-is n s c o r h.sound in
      let v = vote-is n s 4 r.vote f.own in
      let g = h.fits.vote in
      let to = absent n c r.set in
      let away = to-absent n s c o j p r.set in
      let leads = f.leads busy in
      by_cond (Closed n s c o) (eqb r.phase 1)
      (λ e. record { held = h; sent = prepare-sent n s c o j p r to r.joined f.joined h.fits.joined away leads (f.late (eqb-true r.phase 1 e)) })
      (λ e. by_cond (Closed n s c o) (eqb r.phase 2)
      (λ a. record {
        held = h;
        sent =
            preaccept-sent n s c o j p r to r.joined f.joined h.fits.joined r.vote.command v.command g.command r.vote.deps v.deps g.deps away leads
            (f.op (eqb-true r.phase 2 a));
      })
      (λ a. record {
        held = h;
        sent =
            accept-sent n s c o j p r to r.joined f.joined h.fits.joined r.vote.command v.command g.command r.vote.deps v.deps g.deps away leads;
      }))

  pub nudge-closed : nothing_to_nudge r ≡ false → Closed n s c o (nudge n c o j r)
  unfolding nudge
  nudge-closed e =
      let f = sound-is n s c o r h.sound in
      let v = vote-is n s 4 r.vote f.own in
      let g = h.fits.vote in
      by_cond (Closed n s c o) (is_committed r)
      (λ a. record {
        held = h;
        sent =
            commit-sent n s c o j p r (others n c) r.joined f.joined h.fits.joined r.vote.command v.command g.command r.vote.deps v.deps g.deps
            (to-others n s c o j p);
      })
      (λ a. by_cond (Closed n s c o) (eqb r.phase 2 && eqb r.joined 0 && some_enough n r)
      (λ b. accepting_join-closed n s c o j p r h (eqb-true r.phase 2 (three _ (eqb r.joined 0) (some_enough n r) b).0))
      (λ b. again-closed (let z = eqb-false r.phase 0 (rw a at e) in omega (arith, z))))
