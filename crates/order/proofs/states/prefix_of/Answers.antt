use mathlib.Core.Path.{◌≡◌, sym, ◌∙◌}
use native.Mathlib.Omega.{arith}
use Rattle.seen.specs.Records.{records_in}
use Rattle.order.proofs.Stated.{sized-has, all_more, prefix_here, prefix-whole}
use Rattle.order.proofs.states.prefix_of.Goals as goal

pub loop-j-init : goal.loop-j-init
loop-j-init c = (omega arith, λ i a b. absurd (omega arith))

pub committed_of-requires : goal.committed_of-requires
committed_of-requires c = let g = c.requires in sized-has _ _ _ g.0 _ _ (record { owner = g.1; first = omega arith; last = omega (arith, c.loop-j-test.true) })

pub returns-then-not-committed_of : goal.returns-then-not-committed_of
returns-then-not-committed_of c =
    let d = c in
    let l = d in
    let a = l.args in
    prefix_here _ (records_in a.s a.t.now) a.q _ d.loop-j-test.true l.loop-j.invariant.1 (sym d.committed_of.ensures ∙ c.if-not-committed_of.true)

pub loop-j-preserved : goal.loop-j-preserved
loop-j-preserved c =
    let d = c in
    let l = d in
    let a = l.args in
    (omega (arith, d.loop-j-test.true), all_more a.s (records_in a.s a.t.now) a.q _ l.loop-j.invariant.1 (sym d.committed_of.ensures ∙ c.if-not-committed_of.false))

pub returns : goal.returns
returns c =
    let e : c.loop-j.j ≡ c.args.s = omega (arith, c.loop-j.invariant.0, c.loop-j-test.false) in
    rw e at (prefix-whole _ (records_in c.args.s c.args.t.now) c.args.q _ c.loop-j.invariant.0 c.loop-j-test.false c.loop-j.invariant.1)
