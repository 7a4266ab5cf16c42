use mathlib.Core.Path.{◌≡◌, refl, sym, ap, ◌∙◌}
use native.Mathlib.Omega.{arith}
use borrow.Author.Rules.{rules}
use Rattle.numbers.specs.Num.{Bytes}
use Rattle.rules.specs.Nudge.{nothing_to_nudge}
use mathlib.Core.Bool.{false}
use Rattle.std.proofs.lemmas.Grind.{common_steps}
use Rattle.table.specs.Table.{record_in}
use Rattle.table.proofs.Laws.{sizes, names}
use Rattle.gate.proofs.Calls.{three, met, acted-is}
use Rattle.gate.proofs.Outcomes.{nudge-ok}
use Rattle.nudge.proofs.Laws.{nudge-step, nudge-room}
use Rattle.nudge.proofs.nudge_open.Goals as goal

pub load-r-requires : goal.load-r-requires
load-r-requires c =
    let a = c.args in
    let i = sym c.instance_ok.ensures ∙ c.if-not-instance_ok.false in
    record { names = names a.n a.s a.c a.t.now a.o a.j c.requires.setup i; long = (sizes a.n a.s a.c a.t.now c.requires.setup).long }

pub overflow_cast-c : goal.overflow_cast-c
overflow_cast-c c = let sz = sizes c.args.n c.args.s c.args.c c.args.t.now c.requires.setup in omega (arith, sz.copy, sz.copies)

pub overflow_cast-o : goal.overflow_cast-o
overflow_cast-o c =
    let a = c.args in
    let nm = names a.n a.s a.c a.t.now a.o a.j c.requires.setup (sym c.instance_ok.ensures ∙ c.if-not-instance_ok.false) in
    omega (arith, nm.owner, nm.copies)

pub overflow_cast-j : goal.overflow_cast-j
overflow_cast-j c =
    let a = c.args in
    let nm = names a.n a.s a.c a.t.now a.o a.j c.requires.setup (sym c.instance_ok.ensures ∙ c.if-not-instance_ok.false) in
    omega (arith, nm.last, nm.numbers)

pub nudge-x-requires : goal.nudge-x-requires
nudge-x-requires c = three c.args.n c.args.s c.args.c c.args.t.now c.requires.setup

pub act-requires : goal.act-requires
act-requires c =
    let a = c.args in
    let t = a.t.now in
    let i = sym c.instance_ok.ensures ∙ c.if-not-instance_ok.false in
    let q : nothing_to_nudge (record_in a.s t a.o a.j) ≡ false = rw (← c.load-r.ensures) (grind (arith, common_steps)) in
    let x = nudge-step a.n a.s a.c t a.out.now a.o a.j c.load-r.ensures c.nudge-x.ensures in
    let bt : Bytes t = search rules in
    (record { names = names a.n a.s a.c t a.o a.j c.requires.setup i; long = (sizes a.n a.s a.c t c.requires.setup).long }, c.requires.long, rw x (nudge-room a.n a.s a.c t a.out.now a.o a.j bt c.requires i q))

pub returns : goal.returns
returns c =
    let a = c.args in
    let t = a.t.now in
    let i = sym c.instance_ok.ensures ∙ c.if-not-instance_ok.false in
    let q : nothing_to_nudge (record_in a.s t a.o a.j) ≡ false = rw (← c.load-r.ensures) (grind (arith, common_steps)) in
    let x = nudge-step a.n a.s a.c t a.out.now a.o a.j c.load-r.ensures c.nudge-x.ensures in
    let w = c.act.ensures in
    met (nudge-ok a.n a.s a.c t a.out.now a.o a.j i q) (acted-is a.s t a.out.now a.o a.j x w.answers w.table w.room)
