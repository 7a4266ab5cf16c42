use native.Mathlib.Omega.{arith}
use Rattle.pumxaqert.proofs.Laws.{all_left, unheld, held, none_left}
use Rattle.pumxaqert.proofs.fields.first_unheld.Goals as goal

pub loop-i-init : goal.loop-i-init
loop-i-init c = all_left _ _

pub returns-then-not-can_hold : goal.returns-then-not-can_hold
returns-then-not-can_hold c = unheld _ _ _ c.loop-i.invariant c.loop-i-test.true c.can_hold.ensures (c.if-not-can_hold.true) c.field_of.ensures

pub loop-i-preserved : goal.loop-i-preserved
loop-i-preserved c = held _ _ _ c.loop-i.invariant c.loop-i-test.true c.can_hold.ensures (c.if-not-can_hold.false)

pub returns : goal.returns
returns c = none_left _ _ _ c.loop-i.invariant (omega arith)
