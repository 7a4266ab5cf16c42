use mathlib.Core.Path.{◌≡◌, refl, sym, ◌∙◌}
use Prim.Native.Nat.{◌+◌, ◌-◌}
use native.Mathlib.Omega.{arith}
use Rattle.rules.specs.Order.{waits_for, first_open}
use Rattle.reach.proofs.First.{walk_start, row-start, row_inst, row_on, row-end, row-hit, walk_none, row-none}
use Rattle.search.proofs.first_open.Goals as goal

pub walk-init : goal.walk-init
walk-init c = (refl, walk_start _ _ _ (omega arith))

pub loop-o-init : goal.loop-o-init
loop-o-init c = (c.walk.invariant.0, row-start _ _ _ _ c.walk.invariant.1 c.walk-test.true)

pub waits_for-requires : goal.waits_for-requires
waits_for-requires c = record { searched = c.requires; inst = row_inst _ _ _ _ _ c.loop-o.invariant.1 c.loop-o-test.true }

pub loop-o-preserved : goal.loop-o-preserved
loop-o-preserved c = (c.loop-o.invariant.0, row_on _ _ _ _ _ _ c.loop-o.invariant.1 c.loop-o-test.true refl (sym c.waits_for.ensures ∙ c.if-waits_for.false))

pub walk-preserved : goal.walk-preserved
walk-preserved c = (c.loop-o.invariant.0, row-end _ _ _ _ _ _ c.loop-o.invariant.1 c.loop-o-test.false refl)

pub returns : goal.returns
unfolding first_open
returns c = c.walk.invariant.0 ∙ walk_none _ _ _ _ c.walk.invariant.1 c.walk-test.false

pub returns-then-waits_for : goal.returns-then-waits_for
unfolding first_open
returns-then-waits_for c = row-hit _ _ _ _ _ c.loop-o.invariant.1 c.loop-o-test.true (sym c.waits_for.ensures ∙ c.if-waits_for.true)

pub returns-2 : goal.returns-2
unfolding first_open
returns-2 c = c.loop-o.invariant.0 ∙ row-none _ _ _ _ _ c.loop-o.invariant.1 c.loop-o-test.false (omega arith)
