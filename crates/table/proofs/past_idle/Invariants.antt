use mathlib.Core.Path.{◌≡◌}
use Prim.Native.Nat.{◌-◌, ◌≤◌}
use Rattle.table.specs.Table.{past_idle}
use Rattle.table.proofs.past_idle.Given as goal

abbrev pub invariant-loop-left : goal.invariant-loop-left
invariant-loop-left l = (past_idle l.n l.s l.t l.o l.k ≡ past_idle l.n l.s l.t l.o (l.left - 1)) × (1 ≤ l.left)
