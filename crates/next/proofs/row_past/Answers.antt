use mathlib.Core.Path.{◌≡◌, refl}
use native.Mathlib.Omega.{arith}
use Rattle.next.proofs.Passed.{out-more}
use Rattle.next.proofs.row_past.Goals as goal

pub loop-i-init : goal.loop-i-init
loop-i-init c = (c.requires.3, refl)

pub loop-i-preserved : goal.loop-i-preserved
loop-i-preserved c =
    (out-more _ _ _ _ _ c.loop-i.invariant.0 c.loop-i-test.true (omega (arith, c.loop-i.invariant.1)) c.if-st-base-ne2.false, c.loop-i.invariant.1)

pub returns : goal.returns
returns c =
    let e : c.loop-i.i ≡ c.args.s = omega (arith, c.loop-i.invariant.0.few) in
    rw e at c.loop-i.invariant.0
