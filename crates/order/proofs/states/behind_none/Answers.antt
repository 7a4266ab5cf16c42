use native.Mathlib.Omega.{arith}
use Rattle.order.proofs.Stated.{within_more, behind-no, behind-none}
use Rattle.order.proofs.states.behind_none.Goals as goal

pub loop-q-init : goal.loop-q-init
loop-q-init c = λ i l. absurd (omega arith)

pub mark_at-requires : goal.mark_at-requires
mark_at-requires c = let g = c.requires in (g.1, omega (arith, g.0, c.loop-q-test.true))

pub returns-then-from-mark_at : goal.returns-then-from-mark_at
returns-then-from-mark_at c = let a = c.args in behind-no a.n a.h.now a.x a.lead.now _ c.loop-q-test.true (omega (arith, c.if-from-mark_at.true, c.mark_at.ensures, c.from.ensures))

pub overflow_step-q : goal.overflow_step-q
overflow_step-q c = omega arith

pub loop-q-smaller : goal.loop-q-smaller
loop-q-smaller c = omega arith

pub loop-q-preserved : goal.loop-q-preserved
loop-q-preserved c = let l = c in let a = l.args in within_more a.n a.h.now a.x a.lead.now _ l.loop-q.invariant (omega (arith, c.if-from-mark_at.false, c.mark_at.ensures, c.from.ensures))

pub returns : goal.returns
returns c = let a = c.args in behind-none a.n a.h.now a.x a.lead.now _ c.loop-q.invariant c.loop-q-test.false
