use mathlib.Core.Path.{sym, ◌∙◌}
use native.Mathlib.Omega.{arith}
use Rattle.seen.proofs.Laws.{asked, unmet, here, next, none}
use Rattle.seen.proofs.walk.row_seen.Goals.{else-met-via-then-met+else-other, else-met-via-else-met}
use Rattle.seen.proofs.walk.row_seen.Goals as goal

pub returns-then-other : goal.returns-then-other
returns-then-other c =
    here _ _ _ _ _ _ _ _ _ _ _ c.loop-left.invariant (omega (arith, c.loop-left-test.true)) (omega arith)
    (sym (asked _ _ _ _ _ _ _ (sym c.if-met.true ∙ c.meets-met.ensures) (sym c.if-other.true ∙ c.another-other.ensures)))

pub loop-left-preserved : goal.loop-left-preserved
loop-left-preserved c =
    next _ _ _ _ _ _ _ _ _ _ _ c.loop-left.invariant (omega (arith, c.loop-left-test.true)) (omega arith)
    (elim c.else-met.branch [
      | else-met-via-then-met+else-other w ↦
          sym (asked _ _ _ _ _ _ _ (sym w.if-met.true ∙ c.meets-met.ensures) (sym w.if-other.false ∙ c.another-other.ensures))
      | else-met-via-else-met w ↦ unmet _ _ _ _ _ _ _ (sym w.if-met.false ∙ c.meets-met.ensures)
    ])

pub returns : goal.returns
returns c = none _ _ _ _ _ _ _ _ _ _ c.loop-left.invariant (omega arith)
