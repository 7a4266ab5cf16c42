-- "Prepare b". Assumes nothing.
use Prim.Native.Nat.{ℕ, ◌≤◌, ◌<◌}
use mathlib.Core.Path.{◌≡◌}
use mathlib.Core.Bool.{false}
use native.Mathlib.Omega.{arith}
use lib.Dec.{ltb, eqb}
use borrow.Author.Tests.{ltb-true, ltb-false, leb-true, eqb-true, eqb-false, lt-ltb}
use Rattle.paper.specs.Ballot.{lead}
use Rattle.paper.specs.Vote.{told_ok}
use Rattle.paper.specs.Message.{row_of}
use Rattle.paper.specs.declared.Record.{Record}
use Rattle.paper.specs.declared.Body.TheVariants.{Prepare, PrepareOk}
use Rattle.paper.specs.declared.Message.{Message}
use Rattle.rules.specs.Sets.{only}
use Rattle.rules.specs.Step.{is_committed, idle, say, sending}
use Rattle.rules.specs.Prepare.{prepare}
use Rattle.closed.specs.Held.{Held, Closed}
use Rattle.closed.proofs.Laws.{by_cond, both}
use Rattle.closed.proofs.Sound.{sound-is}
use Rattle.closed.proofs.Votes.{vote-in, vote-is}
use Rattle.closed.proofs.Shapes.{Spot, idle-held, unmarked}
use Rattle.closed.proofs.Says.{back_to, prepareok-sent}
use Rattle.closed.proofs.Heard.{Heard}
use Rattle.closed.proofs.Back.{silent-closed, commit-back, nack-back}

module _ (n s c o j : ℕ) (p : Spot n s c o j) (r : Record) (h : Held n s c o r) (m : Message) (t : Heard n s c o m Prepare) where
  from-lead : m.from ≡ lead o m.ballot
  unfolding row_of
  from-lead = eqb-true _ _ t.lead

  -- not committed, joined at or below b, not voted at b: b is joined, and the vote told
  joined-closed : is_committed r ≡ false → ltb m.ballot r.joined ≡ false → eqb r.vote.voted m.ballot ≡ false
      → Closed n s c o
      (sending (idle m.ballot r.vote r.mark) (only m.from) (say c o j m.ballot (PrepareOk r.vote.voted r.vote.status r.vote.command) r.vote.deps))
  unfolding told_ok row_of
  joined-closed e l v =
      let f = sound-is n s c o r h.sound in
      let w = vote-is n s 4 r.vote f.own in
      let live = eqb-false r.vote.status 4 e in
      let z = unmarked n s c o r f live in
      let up = ltb-false m.ballot r.joined l in
      let below : r.vote.voted < m.ballot = omega (arith, f.below, eqb-false r.vote.voted m.ballot v) in
      let three : r.vote.status ≤ 3 = omega (arith, w.status, live) in
      record {
        held =
            idle-held n s c o m.ballot r.vote r.mark t.ballot t.ballot_fits f.own h.fits.vote (omega arith) f.none f.mark
            (λ e. absurd (omega arith));
        sent =
            prepareok-sent n s c o j p _ m.from m.ballot r.vote t.ballot t.ballot_fits
            (back_to n s c o j p m.from m.ballot t.from t.other from-lead) t.from (leb-true _ _ t.recovery)
            (both _ _ (both _ _ (vote-in n s 3 r.vote w.voted three w.command w.deps) (lt-ltb _ _ below)) f.none)
            h.fits.vote;
      }

  pub prepare-closed : Closed n s c o (prepare c o j r m)
  unfolding prepare
  prepare-closed =
      by_cond (Closed n s c o) (is_committed r) (λ e. commit-back n s c o j p r h m.from t.from t.other)
      (λ e. by_cond (Closed n s c o) (ltb m.ballot r.joined)
      (λ l. nack-back n s c o j p r h m t.from t.other t.ballot t.ballot_fits from-lead (ltb-true _ _ l))
      (λ l. by_cond (Closed n s c o) (eqb r.vote.voted m.ballot) (λ v. silent-closed n s c o r h) (λ v. joined-closed e l v)))
