use mathlib.Core.Path.{◌≡◌}
use Prim.Native.Nat.{◌+◌, ◌-◌, ◌≤◌}
use lib.ListN.{length, take}
use Rattle.numbers.specs.Num.{splice}
use Rattle.record.specs.Layout.{votes_bytes}
use Rattle.record.proofs.write_votes.Given as goal

abbrev pub invariant-loop-k : goal.invariant-loop-k
invariant-loop-k l = (l.k ≤ 7) × (l.b ≡ splice l.initial.b l.at (votes_bytes (take l.k l.vs))) × (length l.b ≡ length l.initial.b) × (l.at + 252 ≤ length l.initial.b) × (length l.vs ≡ 7)

abbrev pub decreases-loop-k : goal.decreases-loop-k
decreases-loop-k l = 7 - l.k
