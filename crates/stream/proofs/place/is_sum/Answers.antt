use Rattle.stream.proofs.Sums.{least-sum}
use Rattle.stream.proofs.place.is_sum.Goals as goal

pub returns : goal.returns
returns c = rw c.least.ensures (least-sum _)
