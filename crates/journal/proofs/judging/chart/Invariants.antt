use Prim.Native.Nat.{◌*◌, ◌-◌}
use Rattle.journal.specs.Judging.{Charted}
use Rattle.journal.proofs.judging.chart.Given as goal

abbrev pub invariant-loop-o : goal.invariant-loop-o
invariant-loop-o l = Charted l.n l.s l.t (64 * l.o) l.st

abbrev pub decreases-loop-o : goal.decreases-loop-o
decreases-loop-o l = l.n - l.o
