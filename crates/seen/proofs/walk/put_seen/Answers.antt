use mathlib.Core.Path.{◌∙◌}
use native.Mathlib.Omega.{arith}
use Rattle.seen.proofs.Laws.{put, end, sought-is}
use Rattle.seen.proofs.walk.put_seen.Goals as goal

pub loop-p-preserved : goal.loop-p-preserved
loop-p-preserved c = put _ _ _ _ _ _ _ _ _ _ c.loop-p.invariant c.loop-p-test.true c.row_seen.ensures

pub returns : goal.returns
returns c = end _ _ _ _ _ _ _ _ _ _ c.loop-p.invariant (omega arith) ∙ sought-is _ _ _ _ _ _ c.sought_for-w.ensures
