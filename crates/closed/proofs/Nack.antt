-- "Nack b". Assumes nothing.
use Prim.Native.Nat.{ℕ}
use mathlib.Core.Bool.{◌&&◌, not}
use native.Mathlib.Omega.{arith}
use lib.Dec.{eqb}
use borrow.Author.Tests.{ltb-true, eqb-true, eqb-false, not-true}
use Rattle.paper.specs.Message.{row_of}
use Rattle.paper.specs.declared.Record.{Record}
use Rattle.paper.specs.declared.Body.TheVariants.{Nack}
use Rattle.paper.specs.declared.Message.{Message}
use Rattle.rules.specs.Step.{is_committed}
use Rattle.rules.specs.Nack.{nack}
use Rattle.closed.specs.Held.{Held, Closed}
use Rattle.closed.proofs.Laws.{by_cond, two}
use Rattle.closed.proofs.Sound.{sound-is}
use Rattle.closed.proofs.Shapes.{Spot, idle-held, unmarked}
use Rattle.closed.proofs.Heard.{Heard}
use Rattle.closed.proofs.Back.{silent-closed}

-- the Nack's ballot is above the joined one, so above the voted one
pub nack-closed : (n s c o j : ℕ) → Spot n s c o j → (r : Record) → Held n s c o r → (m : Message) (x : ℕ) → Heard n s c o m (Nack x) → Closed n s c o (nack r m x)
unfolding nack row_of
nack-closed n s c o j p r h m x t =
    let f = sound-is n s c o r h.sound in
    by_cond (Closed n s c o) (not (is_committed r) && eqb r.joined m.ballot)
    (λ e.
    let (a, b) = two _ _ e in
    let z = unmarked n s c o r f (eqb-false _ _ (not-true _ a)) in
    let q = eqb-true r.joined m.ballot b in
    let l = ltb-true m.ballot x t.above in
    silent-closed n s c o _
    (idle-held n s c o x r.vote r.mark t.joined t.body_fits.joined f.own h.fits.vote (omega (arith, f.below)) f.none f.mark (λ e. absurd (omega arith))))
    (λ e. silent-closed n s c o r h)
