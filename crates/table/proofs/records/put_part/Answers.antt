use mathlib.Core.Path.{ap, ◌∙◌}
use Prim.Native.Nat.{ℕ}
use Rattle.numbers.specs.Num.{splice}
use Rattle.table.specs.Calls.{put_part}
use Rattle.table.proofs.records.put_part.Goals as goal

pub returns : goal.returns
unfolding put_part
returns c =
    let e = c in
    c.put_bytes.ensures ∙ ap (λ (k : ℕ). splice e.args.t.now k e.args.part.now) c.place_of.ensures.0
