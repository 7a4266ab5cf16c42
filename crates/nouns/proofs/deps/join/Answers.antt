use Rattle.std.proofs.Common.{arith}
use Rattle.nouns.proofs.Laws.{join_is}
use Rattle.nouns.proofs.deps.join.Goals as goal

pub returns : goal.returns
returns c = join_is _ _ _ c.loop-i.invariant.0 (λ k h. c.loop-i.invariant.1 k (omega arith))
