use mathlib.Core.Path.{ap, ◌∙◌}
use mathlib.Core.List.{List}
use Prim.Native.Nat.{ℕ, ◌+◌, ◌-◌}
use native.Mathlib.Omega.{arith}
use lib.ListN.{length}
use borrow.Rule.Slice.PartMut.{put_mid}
use Rattle.numbers.specs.Num.{splice}
use Rattle.record.specs.Layout.{record_length, record_bytes}
use Rattle.table.specs.Table.{put_record}
use Rattle.table.proofs.Laws.{put-splice}
use Rattle.table.proofs.records.store.Goals as goal

pub returns : goal.returns
unfolding put_record
returns c =
    let w = c.write_record.ensures in
    let p = c.place_of-at in
    let e = c in
    ap (λ (v : List ℕ). put_mid p.result (p.result + record_length - p.result) e.args.t.now v) w
    ∙ put-splice e.args.t.now p.result record_length (record_bytes e.args.r) (omega (arith, ap length w))
    ∙ ap (λ (k : ℕ). splice e.args.t.now k (record_bytes e.args.r)) p.ensures.0
