use mathlib.Core.Path.{sym, ap, ◌∙◌}
use native.Mathlib.Omega.{arith}
use Rattle.record.specs.Part.{idle_ok}
use Rattle.table.proofs.Walk.{past_next, past_stop, past-none}
use Rattle.table.proofs.past_idle.Goals as goal

pub returns-then-not-idle_ok : goal.returns-then-not-idle_ok
returns-then-not-idle_ok c =
    let i = ap (idle_ok c.args.n c.args.s) c.part.ensures.part in
    past_stop _ _ _ _ _ c.loop-left.invariant.0 (omega arith) (sym i ∙ sym c.idle_ok.ensures ∙ c.if-not-idle_ok.true)

pub loop-left-preserved : goal.loop-left-preserved
loop-left-preserved c =
    let i = ap (idle_ok c.args.n c.args.s) c.part.ensures.part in
    (past_next _ _ _ _ _ c.loop-left.invariant.0 (omega arith) (sym i ∙ sym c.idle_ok.ensures ∙ c.if-not-idle_ok.false), omega arith)

pub returns : goal.returns
returns c = past-none _ _ _ _ _ c.loop-left.invariant.0 (omega arith)
