use mathlib.Core.Path.{◌≡◌}
use mathlib.Core.Bool.{true}
use Prim.Native.Nat.{ℕ, ◌-◌, ◌≤◌}
use Rattle.rules.specs.Step.{is_committed}
use Rattle.seen.specs.Records.{records_in}
use Rattle.order.proofs.states.prefix_of.Given as goal

abbrev pub invariant-loop-j : goal.invariant-loop-j
invariant-loop-j l = (l.j ≤ l.s) × ((i : ℕ) → 1 ≤ i → i ≤ l.j → is_committed (records_in l.s l.t l.q i) ≡ true)

abbrev pub decreases-loop-j : goal.decreases-loop-j
decreases-loop-j l = l.s - l.j
