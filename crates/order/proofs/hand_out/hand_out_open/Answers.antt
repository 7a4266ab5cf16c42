use mathlib.Core.Path.{refl}
use Rattle.order.proofs.Handed.{charting, stating, handed-gives, listing}
use native.Mathlib.Omega.{arith}
use Rattle.order.proofs.hand_out.hand_out_open.Goals as goal

pub list_all-count-requires : goal.list_all-count-requires
list_all-count-requires c =
    let a = c in
    listing _ _ _ _ a.requires (λ i. omega (arith, a.slice_known-1.given i)) 448 8 refl refl _ _ c.reach_all.ensures c.settle_all.ensures

pub reach_all-requires : goal.reach_all-requires
reach_all-requires c = charting _ _ _ _ c.requires 6272 6272 refl refl

pub settle_all-requires : goal.settle_all-requires
settle_all-requires c = stating _ _ _ _ c.requires 448 refl _ c.reach_all.ensures

pub returns : goal.returns
returns c =
    let e = c.list_all-count.ensures in
    let r = handed-gives c.args.n c.args.s c.args.t.now c.args.list.now (e.count, (e.table, e.list)) in
    record { answers = r.0; table = r.1.0; list = r.1.1 }
