use mathlib.Core.Path.{refl}
use Rattle.numbers.proofs.Laws.{splice-nil}
use Rattle.record.specs.Layout.{votes_bytes}
use mathlib.Core.Path.{◌≡◌}
use native.Mathlib.Omega.{arith}
use lib.Seq.{take_all}
use Rattle.record.proofs.Laws.{votes-step}
use Rattle.record.proofs.write_votes.Goals as goal

pub loop-k-init : goal.loop-k-init
unfolding votes_bytes
loop-k-init c =
    let g = c.well_formed.1.1.0 in
    (omega arith, rw (← splice-nil c.args.b.now c.args.at), refl, c.requires, g.1.0.1)

pub loop-k-preserved : goal.loop-k-preserved
loop-k-preserved c =
    let c1 = c in
    let lp = c1 in
    let e = lp in
    let i = lp.loop-k.invariant in
    (omega arith, votes-step e.args.b.now e.args.at e.args.vs lp.loop-k.k _ i.1 c1.write_vote.ensures (omega arith) (omega arith), omega arith, i.3, i.4)

pub returns : goal.returns
returns c =
    let e = c in
    let i = c.loop-k.invariant in
    let k : c.loop-k.k ≡ 7 = omega arith in
    record { b_after = rw (i.1, take_all c.loop-k.k e.args.vs (omega arith)); sized = i.4 }
