-- "PreAccept b". Assumes nothing.
use Prim.Native.Nat.{ℕ, ◌≤◌}
use mathlib.Core.Path.{◌≡◌}
use mathlib.Core.Bool.{true, false}
use mathlib.Core.List.{List}
use native.Mathlib.Omega.{arith}
use lib.Dec.{leb, ltb}
use borrow.Author.Tests.{ltb-true, eqb-true, eqb-false}
use Rattle.paper.specs.Deps.{deps_ok, join, same_deps}
use Rattle.paper.specs.Ballot.{lead}
use Rattle.paper.specs.Message.{row_of}
use Rattle.paper.specs.declared.Command.{Command}
use Rattle.paper.specs.declared.Record.{Record}
use Rattle.paper.specs.declared.Body.TheVariants.{PreAccept}
use Rattle.paper.specs.declared.Message.{Message}
use Rattle.rules.specs.Sets.{only}
use Rattle.rules.specs.Step.{is_committed}
use Rattle.rules.specs.PreAccept.{voted_at, pre_accepted, pre_accept}
use Rattle.paper.specs.Fits.{DepsFit}
use Rattle.closed.specs.Held.{Held, Closed}
use Rattle.closed.proofs.Laws.{by_cond}
use Rattle.closed.proofs.Sound.{sound-is}
use Rattle.paper.proofs.Deps.{join-seven}
use Rattle.closed.proofs.Deps.{join-ok, deps-fit}
use Rattle.closed.proofs.Votes.{vote-in, vote-is, none_in}
use Rattle.closed.proofs.Shapes.{Spot, idle-held, unmarked}
use Rattle.closed.proofs.Says.{back_to, preacceptok-sent}
use Rattle.closed.proofs.Heard.{Heard}
use Rattle.closed.proofs.Back.{silent-closed, commit-back, nack-back}

module _ (n s c o j : ℕ) (p : Spot n s c o j) (r : Record) (h : Held n s c o r) (m : Message) (k : Command) (t : Heard n s c o m (PreAccept k)) where
  from-lead : m.from ≡ lead o m.ballot
  unfolding row_of
  from-lead = eqb-true _ _ t.lead

  -- the status is 1 or 2
  voted-held : (d : List ℕ) → deps_ok n s d ≡ true → DepsFit d → is_committed r ≡ false → Held n s c o (pre_accepted r m k d)
  voted-held d hd fd live =
      let f = sound-is n s c o r h.sound in
      let low = by_cond (λ (x : ℕ). (1 ≤ x) × (x ≤ 2)) (same_deps d m.deps) {x = 2} {y = 1} (λ e. omega arith) (λ e. omega arith) in
      let z = unmarked n s c o r f (eqb-false r.vote.status 4 live) in
      idle-held n s c o m.ballot _ r.mark t.ballot t.ballot_fits (vote-in n s 4 _ t.ballot (omega arith) t.command hd)
      (record { voted = t.ballot_fits; status = omega arith; command = t.body_fits.command; deps = fd }) (omega arith) (none_in _ (omega arith)) f.mark (λ e. absurd (omega arith))

  pub pre_accept-closed : (seen : List ℕ) → deps_ok n s seen ≡ true → Closed n s c o (pre_accept c o j r m k seen)
  unfolding pre_accept
  pre_accept-closed seen hs =
      let f = sound-is n s c o r h.sound in
      let v = vote-is n s 4 r.vote f.own in
      let back = back_to n s c o j p m.from m.ballot t.from t.other from-lead in
      let d = join m.deps seen in
      let hd = join-ok n s m.deps seen t.deps hs in
      let fd = deps-fit n s d p.numbers (join-seven m.deps seen) hd in
      by_cond (Closed n s c o) (is_committed r) (λ e. commit-back n s c o j p r h m.from t.from t.other)
      (λ e. by_cond (Closed n s c o) (ltb m.ballot r.joined)
      (λ l. nack-back n s c o j p r h m t.from t.other t.ballot t.ballot_fits from-lead (ltb-true _ _ l))
      (λ l. by_cond (Closed n s c o) (voted_at r m.ballot)
      (λ a. by_cond (Closed n s c o) (leb r.vote.status 2)
      (λ b. record { held = h; sent = preacceptok-sent n s c o j p r (only m.from) m.ballot t.ballot t.ballot_fits back r.vote.deps v.deps h.fits.vote.deps })
      (λ b. silent-closed n s c o r h))
      (λ a. record { held = voted-held d hd fd e; sent = preacceptok-sent n s c o j p _ (only m.from) m.ballot t.ballot t.ballot_fits back d hd fd })))
