use mathlib.Core.Path.{◌≡◌, refl, sym, ap, ◌∙◌}
use mathlib.Core.Bool.{false}
use native.Mathlib.Omega.{arith}
use borrow.Author.Rules.{rules}
use borrow.Author.Tests.{lt-leb}
use Rattle.numbers.specs.Num.{Bytes}
use Rattle.rules.specs.Step.{is_committed}
use Rattle.rules.specs.Recover.{out_of_ballots}
use Rattle.table.specs.Table.{record_in}
use Rattle.table.proofs.Laws.{sizes, names}
use Rattle.gate.proofs.Calls.{met, acted-is}
use Rattle.gate.proofs.Outcomes.{recover-ok}
use Rattle.recover.proofs.Laws.{recover-step, recover-room}
use Rattle.recover.proofs.recover_open.Goals as goal

pub load-r-requires : goal.load-r-requires
load-r-requires c =
    let a = c.args in
    let i = sym c.instance_ok.ensures ∙ c.if-not-instance_ok.false in
    record { names = names a.n a.s a.c a.t.now a.o a.j c.requires.setup i; long = (sizes a.n a.s a.c a.t.now c.requires.setup).long }

pub overflow_cast-c : goal.overflow_cast-c
overflow_cast-c c = let sz = sizes c.args.n c.args.s c.args.c c.args.t.now c.requires.setup in omega (arith, sz.copy, sz.copies)

pub overflow_cast-o : goal.overflow_cast-o
overflow_cast-o c =
    let a = c.args in
    let nm = names a.n a.s a.c a.t.now a.o a.j c.requires.setup (sym c.instance_ok.ensures ∙ c.if-not-instance_ok.false) in
    omega (arith, nm.owner, nm.copies)

pub overflow_cast-j : goal.overflow_cast-j
overflow_cast-j c =
    let a = c.args in
    let nm = names a.n a.s a.c a.t.now a.o a.j c.requires.setup (sym c.instance_ok.ensures ∙ c.if-not-instance_ok.false) in
    omega (arith, nm.last, nm.numbers)

pub recover-x-requires : goal.recover-x-requires
recover-x-requires c = let sz = sizes c.args.n c.args.s c.args.c c.args.t.now c.requires.setup in (c.if-r-ge4294967288.false, omega (arith, sz.copy, sz.copies))

pub act-requires : goal.act-requires
act-requires c =
    let a = c.args in
    let t = a.t.now in
    let i = sym c.instance_ok.ensures ∙ c.if-not-instance_ok.false in
    let q : is_committed (record_in a.s t a.o a.j) ≡ false = rw (← c.load-r.ensures) (cc) in
    let l : out_of_ballots (record_in a.s t a.o a.j) ≡ false = rw (← c.load-r.ensures) (lt-leb _ _ (omega arith)) in
    let x = recover-step a.n a.s a.c t a.out.now a.o a.j c.load-r.ensures c.recover-x.ensures in
    let bt : Bytes t = search rules in
    (record { names = names a.n a.s a.c t a.o a.j c.requires.setup i; long = (sizes a.n a.s a.c t c.requires.setup).long }, c.requires.long, rw x (recover-room a.n a.s a.c t a.out.now a.o a.j bt c.requires i q l))

pub returns : goal.returns
returns c =
    let a = c.args in
    let t = a.t.now in
    let i = sym c.instance_ok.ensures ∙ c.if-not-instance_ok.false in
    let q : is_committed (record_in a.s t a.o a.j) ≡ false = rw (← c.load-r.ensures) (cc) in
    let l : out_of_ballots (record_in a.s t a.o a.j) ≡ false = rw (← c.load-r.ensures) (lt-leb _ _ (omega arith)) in
    let x = recover-step a.n a.s a.c t a.out.now a.o a.j c.load-r.ensures c.recover-x.ensures in
    let w = c.act.ensures in
    met (recover-ok a.n a.s a.c t a.out.now a.o a.j i q l) (acted-is a.s t a.out.now a.o a.j x w.answers w.table w.room)
