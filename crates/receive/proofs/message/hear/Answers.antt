use mathlib.Core.Path.{refl, sym, ◌∙◌}
use Rattle.paper.specs.declared.Refusal.TheVariants as why
use Rattle.table.proofs.Laws.{sizes}
use Rattle.gate.proofs.Calls.{met, refused, acted-is}
use Rattle.receive.proofs.Laws.{named, heard-10, heard-ok, message-step, ready, small-set, message-room}
use borrow.Author.Rules.{rules}
use Rattle.numbers.specs.Num.{Bytes}
use Rattle.receive.proofs.message.hear.Goals as goal

pub receive-x-requires : goal.receive-x-requires
receive-x-requires c = let z = c in
    let a = z.args in
    let t = a.t.now in
    let bt : Bytes t = search rules in
    (ready _ _ _ _ _ _ z.requires, small-set _ _ _ _ _ _ z.requires bt c.load-r.ensures)

pub act-requires : goal.act-requires
act-requires c = let z = c in
    let a = z.args in
    let t = a.t.now in
    let sz = sizes _ _ _ _ z.requires.passed.setup in
    let bt : Bytes t = search rules in
    let x = message-step a.n a.s a.c t a.out.now a.m refl refl c.load-r.ensures c.receive-x.ensures in
    (record { names = named _ _ _ _ _ _ z.requires; long = sz.long }, z.requires.passed.long, rw x (message-room _ _ _ _ _ _ z.requires bt))

pub load-r-requires : goal.load-r-requires
load-r-requires c =
    let z = c in
    let sz = sizes _ _ _ _ z.requires.passed.setup in
    record { names = named _ _ _ _ _ _ z.requires; long = sz.long }

pub returns-then-refused10 : goal.returns-then-refused10
returns-then-refused10 c = let z = c in
    let a = z.args in
    let t = a.t.now in
    met (heard-10 a.n a.s a.c t a.out.now a.m refl refl c.load-r.ensures (sym c.refused10.ensures ∙ c.if-refused10.true)) (refused why.OtherCommit _ _)

pub returns : goal.returns
returns c = let z = c in
    let a = z.args in
    let t = a.t.now in
    let x = message-step a.n a.s a.c t a.out.now a.m refl refl c.load-r.ensures c.receive-x.ensures in
    let w = c.act.ensures in
    met (heard-ok a.n a.s a.c t a.out.now a.m refl refl c.load-r.ensures (sym c.refused10.ensures ∙ c.if-refused10.false)) (acted-is a.s t a.out.now _ _ x w.answers w.table w.room)
