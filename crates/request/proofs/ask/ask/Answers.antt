use Rattle.paper.specs.declared.Refusal.TheVariants as why
use Rattle.table.proofs.Laws.{sizes}
use Rattle.gate.proofs.Calls.{met, refused, acted-is}
use Rattle.gate.proofs.Outcomes.{asked-5, asked-ok}
use borrow.Author.Rules.{rules}
use Rattle.numbers.specs.Num.{Bytes}
use Rattle.request.proofs.Laws.{own-names, request-room}
use Rattle.request.proofs.ask.ask.Goals as goal

pub act-requires : goal.act-requires
act-requires c = let z = c in
    let a = z.args in
    let t = a.t.now in
    let sz = sizes _ _ _ _ z.requires.passed.setup in
    let bt : Bytes t = search rules in
    (record { names = own-names _ _ _ _ a.out.now z.requires.passed _ c.request_number-j.ensures.1 c.if-s-j.false; long = sz.long }, z.requires.passed.long, rw c.on_request-x.ensures (request-room _ _ _ _ a.out.now a.k z.requires bt c.request_number-j.ensures.0 c.if-s-j.false))

pub returns-then-s-j : goal.returns-then-s-j
returns-then-s-j c = let z = c in
    let a = z.args in
    let t = a.t.now in
    met (asked-5 a.n a.s a.c t a.out.now a.k c.request_number-j.ensures.0 c.if-s-j.true) (refused why.NoBlank _ _)

pub on_request-x-requires : goal.on_request-x-requires
on_request-x-requires c = let z = c in
    let a = z.args in
    let t = a.t.now in
    (sizes _ _ _ _ z.requires.passed.setup, c.if-s-j.false, c.request_number-j.ensures.0)

pub returns : goal.returns
returns c = let z = c in
    let a = z.args in
    let t = a.t.now in
    let w = c.act.ensures in
    met (asked-ok a.n a.s a.c t a.out.now a.k c.request_number-j.ensures.0 c.if-s-j.false) (acted-is a.s t a.out.now _ _ c.on_request-x.ensures w.answers w.table w.room)
