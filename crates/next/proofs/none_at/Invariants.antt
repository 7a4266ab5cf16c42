use mathlib.Core.Path.{◌≡◌}
use Prim.Native.Nat.{ℕ, ◌-◌, ◌<◌}
use lib.ListN.{get_or}
use Rattle.rows.specs.Rows.{slot_of}
use Rattle.next.proofs.none_at.Given as goal

abbrev pub invariant-loop-o : goal.invariant-loop-o
invariant-loop-o l = (q : ℕ) → q < l.o → get_or l.st (slot_of q l.j) 0 ≡ 1 → ⊥

abbrev pub decreases-loop-o : goal.decreases-loop-o
decreases-loop-o l = l.n - l.o
