use mathlib.Core.Path.{refl}
use native.Mathlib.Omega.{arith}
use Rattle.next.proofs.Held.{freed-start, freed-more}
use Rattle.next.proofs.free_row.Goals as goal
use Rattle.next.proofs.free_row.Goals.{then-st-y-ne2, else-st-y-ne2}

pub loop-i-init : goal.loop-i-init
loop-i-init c = (omega arith, refl, freed-start _ _ _ _ _)

pub bounds-st-y : goal.bounds-st-y
bounds-st-y c = omega arith

pub bounds-know-y : goal.bounds-know-y
bounds-know-y c = omega (arith, c.loop-i.invariant.2.long)

pub loop-i-preserved : goal.loop-i-preserved
loop-i-preserved c =
    let l = c.loop-i.invariant in
    elim c.if-st-y-ne2.branch [
      | then-st-y-ne2 w ↦ (omega (arith, l.0), l.1, rw w.know-is (freed-more _ _ _ _ _ _ _ _ l.2 l.0 c.loop-i-test.true (omega (arith, l.1)) w.if-st-y-ne2.true (omega arith)))
      | else-st-y-ne2 w ↦ (omega (arith, l.0), l.1, rw w.know-is l.2)
    ]

pub shape_of-know : goal.shape_of-know
shape_of-know c = c.loop-i.invariant.2.long

pub returns : goal.returns
returns c = c.loop-i.invariant.2
