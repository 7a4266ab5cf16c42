use mathlib.Core.Path.{◌≡◌, ◌∙◌}
use Rattle.rows.specs.Rows.{slot_of, marks_at}
use Rattle.sweep.proofs.Closes.{left, Turn}
use Rattle.sweep.proofs.close.Given as goal

abbrev pub invariant-loop-changed : goal.invariant-loop-changed
invariant-loop-changed l = Turn l.n l.s l.t l.g l.initial.h l.p l.k l.changed l.h × (l.x ≡ slot_of l.p l.k)

abbrev pub decreases-loop-changed : goal.decreases-loop-changed
decreases-loop-changed l = left (marks_at l.h (slot_of l.p l.k)) l.changed
