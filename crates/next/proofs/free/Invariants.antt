use Prim.Native.Nat.{◌-◌}
use Rattle.next.specs.Slots.{Going}
use Rattle.next.proofs.free.Given as goal

abbrev pub invariant-loop-q : goal.invariant-loop-q
invariant-loop-q l = Going l.n l.s l.h l.st l.know l.past

abbrev pub decreases-loop-q : goal.decreases-loop-q
decreases-loop-q l = l.n - l.q
