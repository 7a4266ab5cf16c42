use Prim.Native.Nat.{◌-◌}
use lib.ListN.{length}
use Rattle.order.proofs.Listed.{Listed}
use Rattle.order.proofs.hand_out.list_all.Given as goal

abbrev pub invariant-loop-count : goal.invariant-loop-count
invariant-loop-count l = Listed l.n l.s l.initial.t l.initial.list l.h l.t l.st l.know l.past l.list l.count

abbrev pub decreases-loop-count : goal.decreases-loop-count
decreases-loop-count l = length l.initial.list - l.count
