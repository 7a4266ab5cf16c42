use mathlib.Core.Path.{sym, ◌∙◌}
use native.Mathlib.Omega.{arith}
use lib.ListN.{length-set}
use Rattle.seen.specs.Records.{records_in}
use Rattle.order.proofs.Stated.{led-more}
use Rattle.order.proofs.states.prefix_all.Goals as goal

pub loop-q-init : goal.loop-q-init
loop-q-init c = (c.requires.1, λ i l. absurd (omega arith))

pub prefix_of-z-requires : goal.prefix_of-z-requires
prefix_of-z-requires c = (c.requires.0, c.loop-q-test.true)

pub overflow_cast-lead : goal.overflow_cast-lead
overflow_cast-lead c = omega (arith, c.prefix_of-z.ensures.few, c.requires.0.numbers)

pub bounds-lead-q : goal.bounds-lead-q
bounds-lead-q c = omega (arith, c.loop-q.invariant.0, c.requires.0.copies, c.loop-q-test.true)

pub overflow_step-q : goal.overflow_step-q
overflow_step-q c = omega arith

pub loop-q-smaller : goal.loop-q-smaller
loop-q-smaller c = omega arith

pub loop-q-preserved : goal.loop-q-preserved
loop-q-preserved c =
    let l = c in
    let a = c in
    (length-set l.loop-q.lead l.loop-q.q c.prefix_of-z.result ∙ l.loop-q.invariant.0, led-more a.args.s (records_in a.args.s a.args.t.now) l.loop-q.lead l.loop-q.q _ l.loop-q.invariant.1 (omega (arith, l.loop-q.invariant.0, a.requires.0.copies, c.loop-q-test.true)) c.prefix_of-z.ensures)

pub shape_of-lead : goal.shape_of-lead
shape_of-lead c = c.loop-q.invariant.0 ∙ sym c.requires.1

pub returns : goal.returns
returns c = record { seven = c.loop-q.invariant.0; each = λ q l. c.loop-q.invariant.1 q (omega (arith, c.loop-q-test.false)) }
