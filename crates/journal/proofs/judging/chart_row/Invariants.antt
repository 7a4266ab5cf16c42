use Prim.Native.Nat.{◌+◌, ◌*◌, ◌-◌, ◌≤◌}
use Rattle.journal.specs.Judging.{Charted}
use Rattle.journal.proofs.judging.chart_row.Given as goal

abbrev pub invariant-loop-j : goal.invariant-loop-j
invariant-loop-j l = (1 ≤ l.j) × Charted l.n l.s l.t (64 * l.o + (l.j - 1)) l.st

abbrev pub decreases-loop-j : goal.decreases-loop-j
decreases-loop-j l = l.s + 1 - l.j
