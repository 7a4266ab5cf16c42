use Prim.Native.Nat.{◌-◌, ◌≤◌}
use mathlib.Core.Path.{◌≡◌, sym, ◌∙◌}
use native.Mathlib.Omega.{arith}
use Rattle.sweep.proofs.Named.{wrote-same, wrote_on, beyond-first, beyond-next, beyond-named, beyond-last}
use Rattle.sweep.proofs.beyond.Goals as goal

pub loop-q-init : goal.loop-q-init
loop-q-init c = (beyond-first _ _ _, wrote-same _ _ c.requires.1.long, omega arith)

pub take_named-requires : goal.take_named-requires
take_named-requires c =
    let l = c in
    let e = l in
    (beyond-named _ _ _ _ e.requires.0 _ c.loop-q-test.true l.loop-q.invariant.0, record { long = l.loop-q.invariant.1.long; place = e.requires.1.place })

pub overflow_step-q : goal.overflow_step-q
overflow_step-q c = omega (arith, c.loop-q-test.true)

pub loop-q-smaller : goal.loop-q-smaller
loop-q-smaller c = omega (arith, c.loop-q-test.true)

pub loop-q-preserved : goal.loop-q-preserved
loop-q-preserved c =
    let l = c in
    let w = c.take_named.ensures in
    (beyond-next _ _ _ _ l.loop-q.invariant.0 w.row, wrote_on _ _ _ _ l.loop-q.invariant.1 w.wrote, omega (arith, c.loop-q-test.true))

pub shape_of-h : goal.shape_of-h
shape_of-h c = c.loop-q.invariant.1.long ∙ sym c.requires.1.long

pub returns : goal.returns
returns c =
    let l = c in
    let e = l in
    record { row = beyond-last e.args.n e.args.g.now _ l.loop-q.q l.loop-q.invariant.0 c.loop-q-test.false l.loop-q.invariant.2; wrote = l.loop-q.invariant.1 }
