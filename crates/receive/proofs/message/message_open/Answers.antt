use mathlib.Core.Path.{sym, ◌∙◌}
use native.Mathlib.Omega.{arith}
use Rattle.numbers.specs.Num.{Bytes}
use Rattle.gate.proofs.Calls.{met, setup-of}
use Rattle.receive.proofs.Laws.{read, receive_ok, hearing}
use Rattle.receive.proofs.message.message_open.Goals as goal

pub hear-requires : goal.hear-requires
hear-requires c =
    let a = c.args in
    let rd = read a.n a.s a.c a.t.now a.out.now a.b.now _ (sym c.in_ok-m.was ∙ c.read_message.ensures) (setup-of _ _ _ _ c.requires.setup) in
    let bt : Bytes a.b.now = λ i. omega (arith, c.type_inv.b i) in
    hearing _ _ _ _ a.out.now a.b.now bt c.requires rd.1 rd.0

pub returns : goal.returns
returns c =
    let a = c.args in
    let setup = setup-of _ _ _ _ c.requires.setup in
    let rd = read a.n a.s a.c a.t.now a.out.now a.b.now _ (sym c.in_ok-m.was ∙ c.read_message.ensures) setup in
    met (receive_ok _ _ _ a.t.now a.out.now a.b.now setup rd.1 rd.0) c.hear.ensures
