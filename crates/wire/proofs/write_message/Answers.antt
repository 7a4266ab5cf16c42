use mathlib.Core.Path.{sym, ap, ◌∙◌}
use native.Mathlib.Omega.{arith}
use Rattle.paper.specs.Message.{kind_of}
use Rattle.wire.specs.Calls.{Wrote}
use Rattle.wire.proofs.Laws.{long-enough, wrote-1, wrote-2, wrote-rest}
use Prim.Native.Nat.{ℕ}
use Rattle.paper.specs.Valid.{verdict_on}
use Rattle.paper.specs.declared.Row.{Row}
use Rattle.wire.specs.Wire.{head_size, rest_end, length_of}
use Rattle.wire.proofs.write_message.Goals as goal

pub returns : goal.returns
unfolding length_of
returns c =
    let a = c.args in
    let v = c.verdict_on.ensures ∙ ap (λ (o : ℕ). verdict_on a.n a.s a.m.to o a.m) c.op_in.ensures in
    let e = wrote-rest a.n a.s a.c a.out.now a.m (sym c.setup_ok.ensures ∙ c.if-not-setup_ok.false) c.if-out-lt256.false c.verdict_on.result v in
    let k = c.rest_end.ensures ∙ ap (λ (w : Row). rest_end w.parts head_size) c.row_in-row.ensures in
    record { answers = grind (arith, e, k); room = grind (arith, e, c.message_bytes.ensures) }

pub returns-in_err-map_err : goal.returns-in_err-map_err
returns-in_err-map_err c =
    let a = c.args in
    let v = c.verdict_on.ensures ∙ ap (λ (o : ℕ). verdict_on a.n a.s a.m.to o a.m) c.op_in.ensures in
    let e = wrote-rest a.n a.s a.c a.out.now a.m (sym c.setup_ok.ensures ∙ c.if-not-setup_ok.false) c.if-out-lt256.false c.verdict_on.result v in
    record { answers = grind (arith, e, c.row_in-row.ensures, c.from_residual.ensures, c.map_err.ensures); room = grind (arith, e) }

pub returns-then-not-setup_ok : goal.returns-then-not-setup_ok
returns-then-not-setup_ok c =
    let e = wrote-1 _ _ _ _ _ (sym c.setup_ok.ensures ∙ c.if-not-setup_ok.true) in
    record { answers = ap (λ (w : Wrote). w.answer) e; room = ap (λ (w : Wrote). w.out) e }

pub returns-then-out-lt256 : goal.returns-then-out-lt256
returns-then-out-lt256 c =
    let e = wrote-2 _ _ _ _ _ (sym c.setup_ok.ensures ∙ c.if-not-setup_ok.false) c.if-out-lt256.true in
    record { answers = ap (λ (w : Wrote). w.answer) e; room = ap (λ (w : Wrote). w.out) e }

pub verdict_on-requires : goal.verdict_on-requires
verdict_on-requires c = c.row_in-row.ensures

pub message_bytes-requires : goal.message_bytes-requires
message_bytes-requires c = (omega (arith, c.if-out-lt256.false, long-enough (kind_of c.args.m.body)), omega arith)
