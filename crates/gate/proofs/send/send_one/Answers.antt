use mathlib.Core.Path.{sym, ◌∙◌, ap}
use Prim.Native.Nat.{◌-◌}
use native.Mathlib.Omega.{arith}
use borrow.Author.Tests.{not-true, not-false}
use Rattle.numbers.specs.Num.{splice}
use Rattle.paper.specs.declared.Message.{Message}
use Rattle.wire.specs.Wire.{message_bytes}
use borrow.Author.Rules.{rules}
use Rattle.gate.proofs.send.send_one.Goals as goal

pub overflow_add-result : goal.overflow_add-result
overflow_add-result c =
    let f = c.requires.fits (sym c.member.ensures ∙ c.if-not-member.false) in
    omega (arith, f.0, c.size_of.ensures)

pub returns : goal.returns
returns c =
    let e = (sym c.member.ensures ∙ c.if-not-member.false) in
    let a = c.args in
    let w = c.message_bytes.ensures ∙ ap (λ (x : Message). splice a.out.now a.at (message_bytes x)) c.addressed.ensures in
    record { answers = rw (e, ← c.size_of.ensures); room = rw e w }

pub returns-then-not-member : goal.returns-then-not-member
returns-then-not-member c =
    let e = sym c.member.ensures ∙ c.if-not-member.true in
    record { answers = rw e; room = rw e }

pub message_bytes-requires : goal.message_bytes-requires
message_bytes-requires c =
    let f = c.requires.fits (sym c.member.ensures ∙ c.if-not-member.false) in
    rw c.addressed.ensures (f.1, omega (arith, f.0))
