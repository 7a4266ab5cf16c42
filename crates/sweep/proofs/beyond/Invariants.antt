use Prim.Native.Nat.{◌-◌, ◌≤◌}
use mathlib.Core.Path.{◌≡◌, ◌∙◌}
use Rattle.rows.specs.Rows.{marks_at}
use Rattle.sweep.specs.Sweeping.{beyond_in, Wrote}
use Rattle.sweep.proofs.beyond.Given as goal

abbrev pub invariant-loop-q : goal.invariant-loop-q
invariant-loop-q l = (marks_at l.h l.x ≡ beyond_in l.q l.n l.g (marks_at l.initial.h l.x)) × Wrote l.initial.h l.h l.x × (l.q ≤ l.n)

abbrev pub decreases-loop-q : goal.decreases-loop-q
decreases-loop-q l = l.n - l.q
