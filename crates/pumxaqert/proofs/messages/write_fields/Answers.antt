use mathlib.Core.Path.{sym, ap, ◌∙◌}
use Rattle.wire.specs.Calls.{Wrote}
use Rattle.pumxaqert.proofs.Laws.{fields-message, fields-1, fields-2, fields-misfit}
use Rattle.pumxaqert.proofs.messages.write_fields.Goals as goal

pub returns-then-same_fields : goal.returns-then-same_fields
returns-then-same_fields c =
    let e = fields-message _ _ _ _ _ _ c.message_from-m.ensures c.fields_of-g.ensures (sym c.same_fields.ensures ∙ c.if-same_fields.true) in
    let w = c.write_message.ensures in
    record { answers = w.answers ∙ ap (λ (x : Wrote). x.answer) e; room = w.room ∙ ap (λ (x : Wrote). x.out) e }

pub returns-then-not-setup_ok : goal.returns-then-not-setup_ok
returns-then-not-setup_ok c =
    let e = fields-1 _ _ _ _ _ _ c.message_from-m.ensures c.fields_of-g.ensures (sym c.same_fields.ensures ∙ c.if-same_fields.false) (sym c.setup_ok.ensures ∙ c.if-not-setup_ok.true) in
    record { answers = ap (λ (x : Wrote). x.answer) e; room = ap (λ (x : Wrote). x.out) e }

pub returns-then-out-lt256 : goal.returns-then-out-lt256
returns-then-out-lt256 c =
    let e = fields-2 _ _ _ _ _ _ c.message_from-m.ensures c.fields_of-g.ensures (sym c.same_fields.ensures ∙ c.if-same_fields.false) (sym c.setup_ok.ensures ∙ c.if-not-setup_ok.false) c.if-out-lt256.true in
    record { answers = ap (λ (x : Wrote). x.answer) e; room = ap (λ (x : Wrote). x.out) e }

pub returns : goal.returns
returns c =
    let e = fields-misfit _ _ _ _ _ _ c.message_from-m.ensures c.fields_of-g.ensures (sym c.same_fields.ensures ∙ c.if-same_fields.false) (sym c.setup_ok.ensures ∙ c.if-not-setup_ok.false) c.if-out-lt256.false c.misfit.ensures in
    record { answers = ap (λ (x : Wrote). x.answer) e; room = ap (λ (x : Wrote). x.out) e }
