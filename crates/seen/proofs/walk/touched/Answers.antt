use mathlib.Core.Path.{sym, ap, ◌∙◌}
use borrow.Author.Tests.{eq-eqb, ne_eqb}
use Rattle.paper.specs.Command.{op_number}
use Rattle.seen.proofs.Asks.{on-first, on-second, on_one, on-two}
use Rattle.seen.proofs.walk.touched.Goals.{then-key-a-via-then-key-a, then-key-a-via-else-key-a+then-key-b}
use Rattle.seen.proofs.walk.touched.Goals as goal

pub returns-then-key-a : goal.returns-then-key-a
returns-then-key-a c = elim c.then-key-a.branch [
  | then-key-a-via-then-key-a w ↦ on-first _ _ _ c.key_of-key.ensures w.if-key-a.true
  | then-key-a-via-else-key-a+then-key-b w ↦ on-second _ _ _ c.key_of-key.ensures w.if-key-a.false w.if-key-b.true
]

pub returns-then-op_number-ne3 : goal.returns-then-op_number-ne3
returns-then-op_number-ne3 c =
    on_one _ _ _ c.key_of-key.ensures c.if-key-a.false c.if-key-b.false (c.op_number.ensures ∙ ap op_number c.op_of.ensures) c.if-op_number-ne3.true

pub returns-then-second-a : goal.returns-then-second-a
returns-then-second-a c =
    rw (eq-eqb _ _ c.if-second-a.true)
    (sym (on-two _ _ _ c.key_of-key.ensures c.if-key-a.false c.if-key-b.false (c.op_number.ensures ∙ ap op_number c.op_of.ensures) c.if-op_number-ne3.false c.second_of-second.ensures ∙ rw (eq-eqb _ _ c.if-second-a.true)))

pub returns-else-second-a : goal.returns-else-second-a
returns-else-second-a c =
    sym (on-two _ _ _ c.key_of-key.ensures c.if-key-a.false c.if-key-b.false (c.op_number.ensures ∙ ap op_number c.op_of.ensures) c.if-op_number-ne3.false c.second_of-second.ensures ∙ rw (ne_eqb _ _ c.if-second-a.false))
