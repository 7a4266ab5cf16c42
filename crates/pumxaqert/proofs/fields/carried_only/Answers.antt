use mathlib.Core.Path.{refl, sym, ◌∙◌}
use native.Mathlib.Omega.{arith}
use Rattle.table.proofs.Walk.{left-true, left_false, left-none}
use Rattle.pumxaqert.specs.Fields.{carried_only}
use Rattle.pumxaqert.proofs.fields.carried_only.Goals as goal

pub loop-i-init : goal.loop-i-init
unfolding carried_only
loop-i-init c = (refl, omega arith)

pub returns-then-not-carried_or_zero : goal.returns-then-not-carried_or_zero
returns-then-not-carried_or_zero c = left_false _ _ c.loop-i.invariant.0 c.loop-i-test.true (sym c.carried_or_zero.ensures ∙ c.if-not-carried_or_zero.true)

pub loop-i-preserved : goal.loop-i-preserved
loop-i-preserved c = (left-true _ _ c.loop-i.invariant.0 c.loop-i-test.true (sym c.carried_or_zero.ensures ∙ c.if-not-carried_or_zero.false), omega (arith, c.loop-i.invariant.1))

pub returns : goal.returns
returns c = left-none _ _ c.loop-i.invariant.0 (omega arith)
