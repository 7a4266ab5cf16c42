-- "Accept b". Assumes nothing.
use Prim.Native.Nat.{ℕ}
use mathlib.Core.Path.{◌≡◌}
use mathlib.Core.Bool.{false}
use native.Mathlib.Omega.{arith}
use lib.Dec.{ltb}
use borrow.Author.Tests.{ltb-true, eqb-true, eqb-false}
use Rattle.paper.specs.Ballot.{lead}
use Rattle.paper.specs.Message.{row_of}
use Rattle.paper.specs.declared.Command.{Command}
use Rattle.paper.specs.declared.Record.{Record}
use Rattle.paper.specs.declared.Body.TheVariants.{Accept}
use Rattle.paper.specs.declared.Message.{Message}
use Rattle.rules.specs.Sets.{only}
use Rattle.rules.specs.Step.{is_committed}
use Rattle.rules.specs.Accept.{accepted, accept}
use Rattle.closed.specs.Held.{Held, Closed}
use Rattle.closed.proofs.Laws.{by_cond}
use Rattle.closed.proofs.Sound.{sound-is}
use Rattle.closed.proofs.Votes.{vote-in, none_in}
use Rattle.closed.proofs.Shapes.{Spot, idle-held, unmarked}
use Rattle.closed.proofs.Says.{back_to, acceptok-sent}
use Rattle.closed.proofs.Heard.{Heard}
use Rattle.closed.proofs.Back.{commit-back, nack-back}

module _ (n s c o j : ℕ) (p : Spot n s c o j) (r : Record) (h : Held n s c o r) (m : Message) (k : Command) (t : Heard n s c o m (Accept k)) where
  accepted-held : is_committed r ≡ false → Held n s c o (accepted r m k)
  accepted-held live =
      let f = sound-is n s c o r h.sound in
      let z = unmarked n s c o r f (eqb-false r.vote.status 4 live) in
      idle-held n s c o m.ballot _ r.mark t.ballot t.ballot_fits (vote-in n s 4 _ t.ballot (omega arith) t.command t.deps)
      (record { voted = t.ballot_fits; status = omega arith; command = t.body_fits.command; deps = t.deps_fit }) (omega arith) (none_in _ (omega arith)) f.mark
      (λ e. absurd (omega arith))

  pub accept-closed : Closed n s c o (accept c o j r m k)
  unfolding accept row_of
  accept-closed =
      let led = eqb-true m.from (lead o m.ballot) t.lead in
      by_cond (Closed n s c o) (is_committed r) (λ e. commit-back n s c o j p r h m.from t.from t.other)
      (λ e. by_cond (Closed n s c o) (ltb m.ballot r.joined)
      (λ l. nack-back n s c o j p r h m t.from t.other t.ballot t.ballot_fits led (ltb-true _ _ l))
      (λ l. record {
        held = accepted-held e;
        sent =
            acceptok-sent n s c o j p _ (only m.from) m.ballot t.ballot t.ballot_fits
            (back_to n s c o j p m.from m.ballot t.from t.other led);
      }))
