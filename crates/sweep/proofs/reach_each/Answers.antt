use Prim.Native.Nat.{◌*◌, ◌-◌, ◌<◌}
use mathlib.Core.Path.{◌≡◌, refl, sym, ◌∙◌}
use native.Mathlib.Omega.{arith}
use Rattle.sweep.proofs.Charts.{charts-start, charts-skip, charts-ask, charts-more, charts-all}
use Rattle.sweep.proofs.reach_each.Goals as goal
use Rattle.sweep.proofs.reach_each.Goals.{then-j-s, else-j-s}

pub overflow_mul-last : goal.overflow_mul-last
overflow_mul-last c = omega (arith, c.requires.sized.copies)

pub loop-z-init : goal.loop-z-init
loop-z-init c = (charts-start _ _ _ _ _ c.requires.long, refl)

pub overflow_add-j : goal.overflow_add-j
overflow_add-j c = omega arith

pub reach_one-requires : goal.reach_one-requires
reach_one-requires c =
    let l = c in
    let e = l in
    charts-ask _ _ _ _ _ _ e.requires.sized l.loop-z.invariant.0 (omega (arith, c.loop-z-test.true, l.loop-z.invariant.1)) e.requires.found c.if-j-s.true

pub overflow_step-z : goal.overflow_step-z
overflow_step-z c = omega (arith, c.loop-z-test.true)

pub loop-z-smaller : goal.loop-z-smaller
loop-z-smaller c = omega (arith, c.loop-z-test.true)

pub loop-z-preserved : goal.loop-z-preserved
loop-z-preserved c =
    let l = c in
    let e = l in
    let z : l.loop-z.z < 64 * e.args.n = omega (arith, c.loop-z-test.true, l.loop-z.invariant.1) in
    elim c.if-j-s.branch [
      | then-j-s w ↦ (rw w.h-is (charts-more _ _ _ _ _ _ e.requires.sized l.loop-z.invariant.0 z _ w.reach_one.ensures.closed w.reach_one.ensures.wrote), l.loop-z.invariant.1)
      | else-j-s w ↦ (rw w.h-is (charts-skip _ _ _ _ _ _ e.requires.sized l.loop-z.invariant.0 z w.if-j-s.false), l.loop-z.invariant.1)
    ]

pub shape_of-h : goal.shape_of-h
shape_of-h c = c.loop-z.invariant.0.long ∙ sym c.requires.long

pub returns : goal.returns
returns c =
    let l = c in
    let e = l in
    charts-all _ _ _ _ _ _ e.requires.sized.numbers e.requires.found l.loop-z.invariant.0 (omega (arith, c.loop-z-test.false, l.loop-z.invariant.1))
