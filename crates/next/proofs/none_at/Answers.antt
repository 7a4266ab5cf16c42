use native.Mathlib.Omega.{arith}
use Rattle.next.proofs.Passed.{none-no, none-all, clear-more}
use Rattle.next.proofs.none_at.Goals as goal

pub loop-o-init : goal.loop-o-init
loop-o-init c = λ q l. absurd (omega arith)

pub returns-then-st-y-eq1 : goal.returns-then-st-y-eq1
returns-then-st-y-eq1 c = none-no _ _ _ _ _ c.loop-o-test.true c.slot_of-y.ensures.0 c.if-st-y-eq1.true

pub loop-o-preserved : goal.loop-o-preserved
loop-o-preserved c =
    let a = c.args in
    clear-more a.st.now a.j _ _ c.loop-o.invariant c.slot_of-y.ensures.0 c.if-st-y-eq1.false

pub returns : goal.returns
returns c = none-all _ _ _ _ c.loop-o.invariant c.loop-o-test.false
