use mathlib.Core.Path.{refl, sym, ◌∙◌}
use native.Mathlib.Omega.{arith}
use Rattle.next.proofs.Held.{pass-more, sought-some, sought-none}
use Rattle.next.proofs.row_holder.Goals as goal

pub overflow_mul-base : goal.overflow_mul-base
overflow_mul-base c = omega (arith, c.requires.other)

pub loop-i-init : goal.loop-i-init
loop-i-init c = (omega arith, refl, λ j a b. absurd (omega arith))

pub overflow_add-y : goal.overflow_add-y
overflow_add-y c = omega (arith, c.requires.other, c.requires.last)

pub passes_at-requires : goal.passes_at-requires
passes_at-requires c = let g = c.requires in (g.marks, g.states, g.owner, omega (arith, g.other, g.last, c.loop-i-test.true, c.loop-i.invariant.1))

pub returns-then-not-passes_at : goal.returns-then-not-passes_at
returns-then-not-passes_at c =
    let l = c in
    sought-some _ _ _ _ _ _ _ l.loop-i.i _ l.loop-i.invariant.0 c.loop-i-test.true l.loop-i.invariant.2 (omega (arith, l.loop-i.invariant.1)) (sym c.passes_at.ensures ∙ c.if-not-passes_at.true)

pub loop-i-preserved : goal.loop-i-preserved
loop-i-preserved c =
    let l = c in
    (omega (arith, l.loop-i.invariant.0), l.loop-i.invariant.1, pass-more _ _ _ _ _ _ _ _ l.loop-i.invariant.2 (omega (arith, l.loop-i.invariant.1)) (sym c.passes_at.ensures ∙ c.if-not-passes_at.false))

pub returns : goal.returns
returns c = sought-none _ _ _ _ _ _ _ _ c.loop-i.invariant.2 c.loop-i-test.false
