use mathlib.Core.Path.{◌≡◌}
use Prim.Native.Nat.{ℕ, ◌-◌, ◌<◌}
use lib.ListN.{length, get_or}
use Rattle.seen.specs.Records.{records_in}
use Rattle.order.specs.States.{Prefix}
use Rattle.order.proofs.states.prefix_all.Given as goal

abbrev pub invariant-loop-q : goal.invariant-loop-q
invariant-loop-q l = (length l.lead ≡ 7) × ((i : ℕ) → i < l.q → Prefix l.s (records_in l.s l.t) i (get_or l.lead i 0))

abbrev pub decreases-loop-q : goal.decreases-loop-q
decreases-loop-q l = l.n - l.q
