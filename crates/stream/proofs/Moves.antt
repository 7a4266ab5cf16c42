-- Bytes moved to the front of a buffer. Assumes nothing.
use mathlib.Core.Path.{◌≡◌, sym}
use mathlib.Core.List.{List}
use Prim.Native.Nat.{ℕ, ◌-◌}
use native.Mathlib.Omega.{arith}
use lib.ListN.{length, take, drop, length-drop}
use lib.Seq.{paste, length-take-le}
use Rattle.numbers.specs.Num.{splice}
use Rattle.numbers.proofs.Laws.{splice-own}
use Rattle.stream.specs.declared.place.Place.{Place}
use Rattle.stream.specs.Place.{held, Within}

-- a copy to the front is a write over it
pub moved : (b : List ℕ) (p : Place) → Within (length b) p → paste b 0 (drop p.at b) (p.end - p.at) ≡ splice b 0 (held b p)
unfolding splice held
moved b p w =
    let n : length (take (p.end - p.at) (drop p.at b)) ≡ p.end - p.at = length-take-le (p.end - p.at) (drop p.at b) (rw (length-drop p.at b) (omega (arith, w.ordered, w.inside))) in
    rw n

-- nothing is to be moved where it stands in front already
pub in-front : (b : List ℕ) (p : Place) → Within (length b) p → p.at ≡ 0 → b ≡ splice b 0 (held b p)
unfolding held
in-front b p w z = rw z (sym (splice-own b 0 (p.end - 0) (omega (arith, w.ordered, w.inside))))
