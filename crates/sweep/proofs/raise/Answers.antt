use native.Mathlib.Omega.{arith}
use Rattle.sweep.proofs.Rises.{at_place, raise-taking, raise-first, raise-read, read_fits, raise-raised}
use borrow.Author.Rules.{rules}
use Rattle.sweep.proofs.raise.Goals as goal

pub beyond-requires : goal.beyond-requires
beyond-requires c =
    let e = c in
    let w = raise-first e.args.n e.args.s e.args.t.now e.args.g.now e.requires.0.sized e.requires.0.rows e.args.o e.args.j e.requires.1 _ e.requires.0.long (λ i. omega (arith, c.type_inv.t i)) c.slot_of-x.ensures.0 c.deps_of.ensures c.put_row.ensures in
    (rw w.0 (raise-taking e.args.n e.args.s e.args.t.now e.args.g.now e.requires.0.sized e.requires.0.rows e.args.o e.args.j e.requires.1), w.1)

pub returns : goal.returns
returns c =
    let e = c in
    let y = c.slot_of-x.ensures.0 in
    let w = raise-first e.args.n e.args.s e.args.t.now e.args.g.now e.requires.0.sized e.requires.0.rows e.args.o e.args.j e.requires.1 _ e.requires.0.long (λ i. omega (arith, c.type_inv.t i)) c.slot_of-x.ensures.0 c.deps_of.ensures c.put_row.ensures in
    let m = rw w.0 at c.beyond.ensures.row in
    let k = raise-read e.args.n e.args.s e.args.t.now e.args.g.now e.requires.0.sized e.requires.0.rows e.args.o e.args.j e.requires.1 _ y m c.marks_at.ensures c.marks_at-2.ensures c.join-with_last.ensures c.before_in.ensures c.join-row.ensures in
    record {
      long = c.beyond.ensures.wrote.long;
      raised = rw (c.put_row-2.ensures, k, y)
          (raise-raised e.args.n e.args.s e.args.t.now e.args.g.now e.requires.0.sized e.requires.0.rows e.args.o e.args.j e.requires.1 (λ i. omega (arith, c.slice_known-1.given i)) (read_fits _ _ m (λ i. omega (arith, c.slice_known-4-1.given i))));
    }

pub before_in-requires : goal.before_in-requires
before_in-requires c =
    let e = c in
    (e.requires.0.rows.long, omega (arith, e.requires.1.owner, e.requires.0.sized.copies), omega (arith, e.requires.1.last, e.requires.0.sized.numbers))

pub put_row-requires-2 : goal.put_row-requires-2
put_row-requires-2 c =
    let e = c in
    rw c.slot_of-x.ensures.0 (at_place e.args.n e.args.s e.args.t.now e.args.g.now e.requires.0.sized e.requires.0.rows e.args.o e.args.j e.requires.1)
