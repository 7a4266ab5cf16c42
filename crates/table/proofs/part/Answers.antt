use native.Mathlib.Omega.{arith}
use native.Mathlib.Nat.{add-sub_cancel_left}
use lib.ListN.{length-take, length-drop}
use Rattle.table.proofs.part.Goals as goal

pub returns : goal.returns
returns c =
    let p = c.place_of-at.ensures in
    let h = c.requires in
    record { part = rw (add-sub_cancel_left, p.0); long = simp (add-sub_cancel_left, length-take, length-drop) (omega (arith, p.1, h.long)) }
