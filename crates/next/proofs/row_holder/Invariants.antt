use mathlib.Core.Path.{◌≡◌}
use Prim.Native.Nat.{ℕ, ◌*◌, ◌-◌, ◌≤◌, ◌<◌}
use mathlib.Core.Bool.{true}
use Rattle.rows.specs.Rows.{slot_of}
use Rattle.next.specs.Slots.{passes_at}
use Rattle.next.proofs.row_holder.Given as goal

abbrev pub invariant-loop-i : goal.invariant-loop-i
invariant-loop-i l = (l.from ≤ l.i) × (l.base ≡ 64 * l.q) × ((j : ℕ) → l.from < j → j ≤ l.i → passes_at l.h l.st l.p l.k (slot_of l.q j) ≡ true)

abbrev pub decreases-loop-i : goal.decreases-loop-i
decreases-loop-i l = l.top - l.i
