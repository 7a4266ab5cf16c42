-- Commit and Nack sent back: the record stays as it is. Assumes nothing.
use Prim.Native.Nat.{ℕ, ◌^◌, ◌<◌}
use mathlib.Core.Path.{◌≡◌}
use mathlib.Core.Bool.{true}
use Rattle.paper.specs.Ballot.{ballot_ok, lead}
use Rattle.paper.specs.declared.Record.{Record}
use Rattle.paper.specs.declared.Message.{Message}
use Rattle.rules.specs.Sets.{only}
use Rattle.rules.specs.Step.{commit_back, nack_back, silent}
use Rattle.closed.specs.Held.{Held, Closed}
use Rattle.closed.proofs.Sound.{sound-is}
use Rattle.closed.proofs.Votes.{vote-is}
use Rattle.closed.proofs.Shapes.{Spot}
use Rattle.closed.proofs.Says.{to_one, back_to, commit-sent, nack-sent, silent-sent}

-- a record that holds, and nothing sent
pub silent-closed : (n s c o : ℕ) (r : Record) → Held n s c o r → Closed n s c o (silent r)
silent-closed n s c o r h = record { held = h; sent = silent-sent n s c r }

module _ (n s c o j : ℕ) (p : Spot n s c o j) (r : Record) (h : Held n s c o r) where
  pub commit-back : (q : ℕ) → q < n → (q ≡ c → ⊥) → Closed n s c o (commit_back c o j r q)
  unfolding commit_back
  commit-back q l k =
      let f = sound-is n s c o r h.sound in
      let v = vote-is n s 4 r.vote f.own in
      let g = h.fits.vote in
      record {
        held = h;
        sent =
            commit-sent n s c o j p r (only q) r.joined f.joined h.fits.joined r.vote.command v.command g.command r.vote.deps v.deps g.deps
            (to_one n s c o j p q l k);
      }

  pub nack-back : (m : Message) → m.from < n → (m.from ≡ c → ⊥) → ballot_ok n m.ballot ≡ true → m.ballot < 256 ^ 4 → m.from ≡ lead o m.ballot
      → m.ballot < r.joined → Closed n s c o (nack_back c o j r m)
  unfolding nack_back
  nack-back m l k hb lb e above =
      let f = sound-is n s c o r h.sound in
      record {
        held = h;
        sent = nack-sent n s c o j p r (only m.from) m.ballot hb lb (back_to n s c o j p m.from m.ballot l k e) r.joined f.joined h.fits.joined above;
      }
