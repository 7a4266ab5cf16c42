use Rattle.std.specs.Prelude.{None}
use mathlib.Core.Path.{◌≡◌}
use Prim.Native.Nat.{◌+◌, ◌-◌}
use Rattle.reach.proofs.First.{Walk, Row}
use Rattle.next.specs.Slots.{ready_in, Going}
use Rattle.next.proofs.next_in.Given as goal

abbrev pub invariant-loop-o : goal.invariant-loop-o
invariant-loop-o l = (l.found ≡ None) × Row l.n l.s (ready_in l.n l.s l.h l.st) l.j l.o × Going l.n l.s l.h l.st l.know l.past

abbrev pub decreases-loop-o : goal.decreases-loop-o
decreases-loop-o l = l.n - l.o

abbrev pub invariant-walk : goal.invariant-walk
invariant-walk l = (l.found ≡ None) × Walk l.n l.s (ready_in l.n l.s l.h l.st) l.j × Going l.n l.s l.h l.st l.know l.past

abbrev pub decreases-walk : goal.decreases-walk
decreases-walk l = l.s + 1 - l.j
