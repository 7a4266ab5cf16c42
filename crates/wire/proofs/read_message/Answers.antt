use mathlib.Core.Path.{sym, ap, ◌∙◌}
use native.Mathlib.Omega.{arith}
use Rattle.paper.specs.Message.{row_in}
use Rattle.paper.specs.declared.Message.{Message}
use Rattle.wire.proofs.Laws.{of-kind, row-held, received-1, not_known, not-exact, is_framed, judged-read}
use Rattle.wire.proofs.read_message.Goals as goal

pub returns : goal.returns
returns c =
    let e = judged-read _ _ _ _ (sym c.setup_ok.ensures ∙ c.if-not-setup_ok.false) c.kind_at-k.ensures c.row_of-row.ensures (is_framed _ c.kind_at-k.ensures c.row_of-row.ensures c.if-not-row.false c.rest_end.ensures c.if-b-rest_end.false) c.op_at-op.ensures c.message_at-m.ensures c.verdict_on.ensures in
    grind (arith, e)

pub returns-in_err-map_err : goal.returns-in_err-map_err
returns-in_err-map_err c =
    let e = judged-read _ _ _ _ (sym c.setup_ok.ensures ∙ c.if-not-setup_ok.false) c.kind_at-k.ensures c.row_of-row.ensures (is_framed _ c.kind_at-k.ensures c.row_of-row.ensures c.if-not-row.false c.rest_end.ensures c.if-b-rest_end.false) c.op_at-op.ensures c.message_at-m.ensures c.verdict_on.ensures in
    grind (arith, e, c.from_residual.ensures, c.map_err.ensures)

pub returns-then-not-setup_ok : goal.returns-then-not-setup_ok
returns-then-not-setup_ok c = received-1 _ _ _ _ (sym c.setup_ok.ensures ∙ c.if-not-setup_ok.true)

pub returns-then-not-row : goal.returns-then-not-row
returns-then-not-row c = not_known _ _ _ _ (sym c.setup_ok.ensures ∙ c.if-not-setup_ok.false) c.kind_at-k.ensures c.row_of-row.ensures c.if-not-row.true

pub returns-then-b-rest_end : goal.returns-then-b-rest_end
returns-then-b-rest_end c = not-exact _ _ _ _ (sym c.setup_ok.ensures ∙ c.if-not-setup_ok.false) c.kind_at-k.ensures c.row_of-row.ensures c.if-not-row.false c.rest_end.ensures c.if-b-rest_end.true

pub message_at-m-requires : goal.message_at-m-requires
message_at-m-requires c = of-kind _ _ _ c.kind_at-k.ensures c.row_of-row.ensures (is_framed _ c.kind_at-k.ensures c.row_of-row.ensures c.if-not-row.false c.rest_end.ensures c.if-b-rest_end.false)

pub verdict_on-requires : goal.verdict_on-requires
verdict_on-requires c = row-held _ _ _ c.kind_at-k.ensures c.row_of-row.ensures (is_framed _ c.kind_at-k.ensures c.row_of-row.ensures c.if-not-row.false c.rest_end.ensures c.if-b-rest_end.false) ∙ ap (λ (m : Message). row_in m.body) (sym c.message_at-m.ensures)
