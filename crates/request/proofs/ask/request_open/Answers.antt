use mathlib.Core.Path.{sym, ◌∙◌}
use native.Mathlib.Omega.{arith}
use Rattle.request.proofs.Laws.{asking}
use Rattle.request.proofs.ask.request_open.Goals as goal

pub ask-requires : goal.ask-requires
ask-requires c =
    let a = c.args in
    asking a.n a.s a.c a.t.now a.out.now a.op a.key a.second a.edit c.requires (omega (arith, c.ranges.key)) (omega (arith, c.ranges.second)) (omega (arith, c.ranges.edit))
    c.op_of.ensures c.if-op-lt1.false (sym c.second_ok.ensures ∙ c.if-not-second_ok.false)
