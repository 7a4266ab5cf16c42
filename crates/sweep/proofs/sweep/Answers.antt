use Prim.Native.Nat.{◌-◌}
use mathlib.Core.Path.{◌≡◌, sym, ◌∙◌}
use native.Mathlib.Omega.{arith}
use Rattle.sweep.proofs.Sweeps.{turned-below, numbers-none, numbers_more, numbers-all}
use Rattle.sweep.proofs.sweep.Goals as goal

pub loop-i-init : goal.loop-i-init
loop-i-init c = (numbers-none _ _ _ _ _ c.requires.rows, c.requires.long)

pub turned-requires : goal.turned-requires
turned-requires c = c.loop-i-test.true

pub overflow_add-turned : goal.overflow_add-turned
overflow_add-turned c =
    let l = c in
    let e = l in
    omega (arith, c.turned.ensures, turned-below e.args.s l.loop-i.i e.args.back c.loop-i-test.true, e.requires.sized.numbers)

pub raise_number-requires : goal.raise_number-requires
raise_number-requires c =
    let l = c in
    let e = l in (
      record { sized = e.requires.sized; rows = l.loop-i.invariant.0.rows; long = l.loop-i.invariant.1 },
      omega arith,
      omega (arith, c.turned.ensures, turned-below e.args.s l.loop-i.i e.args.back c.loop-i-test.true),
    )

pub overflow_step-i : goal.overflow_step-i
overflow_step-i c = omega (arith, c.loop-i-test.true)

pub loop-i-smaller : goal.loop-i-smaller
loop-i-smaller c = omega (arith, c.loop-i-test.true)

pub loop-i-preserved : goal.loop-i-preserved
loop-i-preserved c =
    let l = c in
    let r = c.raise_number.ensures in
    (numbers_more _ _ _ _ _ _ _ _ _ c.loop-i-test.true c.turned.ensures l.loop-i.invariant.0 r.raised, r.long)

pub shape_of-g : goal.shape_of-g
shape_of-g c = c.loop-i.invariant.0.rows.long ∙ sym c.requires.rows.long

pub shape_of-h : goal.shape_of-h
shape_of-h c = c.loop-i.invariant.1 ∙ sym c.requires.long

pub returns : goal.returns
returns c = record { long = c.loop-i.invariant.1; raised = numbers-all _ _ _ _ _ _ _ c.loop-i-test.false c.loop-i.invariant.0 }
