use Rattle.std.proofs.Common.{refl, sym, ◌∙◌, arith}
use Rattle.rules.specs.Sets.{bits_below}
use Rattle.sets.proofs.Laws.{pow_next, place_in, place_out}
use Rattle.sets.proofs.those.Goals.{then-test, else-test}
use Rattle.sets.proofs.those.Goals as goal

pub loop-q-init : goal.loop-q-init
unfolding bits_below
loop-q-init g c = (omega arith, λ f h. refl)

pub loop-q-preserved : goal.loop-q-preserved
loop-q-preserved g c =
    let q = c.loop-q.q in
    elim c.if-test.branch [
      | then-test w ↦ (omega (arith, pow_next q), λ f h. w.set-is ∙ w.with-set.ensures ∙ place_in f q _ (sym (h q (omega (arith, c.loop-q-test.true)) c.test.result c.test.ensures) ∙ w.if-test.true) (c.loop-q.invariant.1 f h))
      | else-test w ↦ (omega (arith, pow_next q), λ f h. w.set-is ∙ place_out f q _ (sym (h q (omega (arith, c.loop-q-test.true)) c.test.result c.test.ensures) ∙ w.if-test.false) (c.loop-q.invariant.1 f h))
    ]
