use Rattle.std.specs.Prelude.{None}
use mathlib.Core.Path.{◌≡◌, ◌∙◌}
use Prim.Native.Nat.{◌+◌, ◌-◌}
use Rattle.rules.specs.Order.{waits_for}
use Rattle.seen.specs.Records.{records_in}
use Rattle.reach.proofs.First.{Walk, Row}
use Rattle.search.proofs.first_open.Given as goal

abbrev pub invariant-loop-o : goal.invariant-loop-o
invariant-loop-o l = (l.found ≡ None) × Row l.n l.s (waits_for l.n l.s (records_in l.s l.t) l.p l.k) l.j l.o

abbrev pub decreases-loop-o : goal.decreases-loop-o
decreases-loop-o l = l.n - l.o

abbrev pub invariant-walk : goal.invariant-walk
invariant-walk l = (l.found ≡ None) × Walk l.n l.s (waits_for l.n l.s (records_in l.s l.t) l.p l.k) l.j

abbrev pub decreases-walk : goal.decreases-walk
decreases-walk l = l.s + 1 - l.j
