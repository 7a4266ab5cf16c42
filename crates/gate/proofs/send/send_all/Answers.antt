use native.Mathlib.Omega.{arith}
use Rattle.gate.proofs.Sent.{start, turn, turned, ended}
use Rattle.gate.proofs.send.send_all.Goals as goal

pub loop-q-init : goal.loop-q-init
loop-q-init c = start _ _ _ c.requires.0 c.requires.1

pub send_one-at-requires : goal.send_one-at-requires
send_one-at-requires c = turn _ _ _ _ _ _ c.loop-q.invariant c.loop-q-test.true

pub loop-q-preserved : goal.loop-q-preserved
loop-q-preserved c =
    let x = c.send_one-at in
    turned _ _ _ _ _ _ c.loop-q.invariant c.loop-q-test.true x.ensures.answers x.ensures.room x.auto.out

pub shape_of-out : goal.shape_of-out
shape_of-out c = c.loop-q.invariant.long

pub returns : goal.returns
returns c =
    let e = ended _ _ _ _ _ _ c.loop-q.invariant (omega (arith, c.loop-q.invariant.copies)) in
    record { answers = e.0; room = e.1 }
