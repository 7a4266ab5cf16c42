use Prim.Native.Nat.{◌-◌}
use mathlib.Core.Path.{◌≡◌, sym, ◌∙◌}
use native.Mathlib.Omega.{arith}
use Rattle.sweep.proofs.Sweeps.{turned-below, owners-none, owners-more, owners-all}
use Rattle.sweep.proofs.raise_number.Goals as goal

pub loop-i-init : goal.loop-i-init
loop-i-init c = (owners-none _ _ _ _ _ _ c.requires.0.rows, c.requires.0.long)

pub turned-requires : goal.turned-requires
turned-requires c = c.loop-i-test.true

pub raise-requires : goal.raise-requires
raise-requires c =
    let l = c in
    let e = l in (
      record { sized = e.requires.0.sized; rows = l.loop-i.invariant.0.rows; long = l.loop-i.invariant.1 },
      record { owner = rw c.turned.ensures (turned-below e.args.n l.loop-i.i e.args.back c.loop-i-test.true); first = e.requires.1; last = e.requires.2 },
    )

pub overflow_step-i : goal.overflow_step-i
overflow_step-i c = omega (arith, c.loop-i-test.true)

pub loop-i-smaller : goal.loop-i-smaller
loop-i-smaller c = omega (arith, c.loop-i-test.true)

pub loop-i-preserved : goal.loop-i-preserved
loop-i-preserved c =
    let l = c in
    let r = c.raise.ensures in
    (owners-more _ _ _ _ _ _ _ _ _ _ l.requires.2 c.loop-i-test.true c.turned.ensures l.loop-i.invariant.0 r.raised, r.long)

pub shape_of-g : goal.shape_of-g
shape_of-g c = c.loop-i.invariant.0.rows.long ∙ sym c.requires.0.rows.long

pub shape_of-h : goal.shape_of-h
shape_of-h c = c.loop-i.invariant.1 ∙ sym c.requires.0.long

pub returns : goal.returns
returns c = record { long = c.loop-i.invariant.1; raised = owners-all _ _ _ _ _ _ _ _ c.loop-i-test.false c.loop-i.invariant.0 }
