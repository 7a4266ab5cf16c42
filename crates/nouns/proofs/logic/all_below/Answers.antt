use Rattle.std.proofs.Common.{refl, add-one}
use Rattle.paper.specs.Logic.{all_below}
use Rattle.nouns.proofs.logic.all_below.Goals as goal

pub loop-i-init : goal.loop-i-init
unfolding all_below
loop-i-init g c = λ f h. refl

pub loop-i-preserved : goal.loop-i-preserved
unfolding all_below
loop-i-preserved g c = λ f h. rw (add-one, c.loop-i.invariant f h, h c.loop-i.i c.loop-i-test.true c.test-all.result c.test-all.ensures)
