use borrow.Author.Rules.{rules}
use native.Mathlib.Omega.{arith}
use Rattle.sweep.proofs.Closes.{first-opened, first-wrote, first_made, close-next}
use Rattle.sweep.proofs.Named.{wrote_on}
use Rattle.sweep.proofs.reach_one.Goals as goal

pub close-requires : goal.close-requires
close-requires c =
    let w = c in
    let d = w in
    let e1 = d in
    let e = e1 in
    let m = first_made e.args.n e.args.s e.args.t.now e.args.g.now e.args.h.now e.args.p e.args.k e.requires w.slot_of.ensures.0 d.deps_of-d.ensures w.put_row.ensures in
    (rw m (close-next e.args.n e.args.s e.args.t.now e.args.g.now e.args.h.now e.args.p e.args.k e.requires _ (first-wrote e.args.n e.args.s e.args.t.now e.args.g.now e.args.h.now e.args.p e.args.k e.requires (λ i. omega (arith, e1.type_inv.t i)))), rw m (first-opened e.args.n e.args.s e.args.t.now e.args.g.now e.args.h.now e.args.p e.args.k e.requires (λ i. omega (arith, e1.type_inv.t i))))

pub returns : goal.returns
returns c =
    let w = c in
    let d = w in
    let e1 = d in
    let e = e1 in
    let m = first_made e.args.n e.args.s e.args.t.now e.args.g.now e.args.h.now e.args.p e.args.k e.requires w.slot_of.ensures.0 d.deps_of-d.ensures w.put_row.ensures in
    let v = c.close.ensures in
    record { closed = v.closed; wrote = wrote_on _ _ _ _ (rw m (first-wrote e.args.n e.args.s e.args.t.now e.args.g.now e.args.h.now e.args.p e.args.k e.requires (λ i. omega (arith, e1.type_inv.t i)))) v.wrote }
