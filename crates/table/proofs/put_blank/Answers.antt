use mathlib.Core.Path.{◌≡◌, sym, ◌∙◌}
use Prim.Native.Nat.{ℕ, ◌<◌}
use native.Mathlib.Omega.{arith}
use lib.ListN.{length, replicate, length-replicate}
use lib.Seq.{ext_get_or}
use borrow.Author.Rules.{rules}
use Rattle.std.proofs.Common.{slice_index}
use Rattle.std.proofs.lemmas.Grind.{common_steps}
use Rattle.table.proofs.Blank.{head-written}
use Rattle.table.proofs.put_blank.Goals as goal

pub returns : goal.returns
returns c =
    let t = c.args.t.now in
    let z = c.fill.new.self in
    let long : length z ≡ length t = search rules in
    let zeros : (k : ℕ) → k < length t → slice_index z k ≡ 0 = search rules in
    let e : z ≡ replicate (length t) 0 = ext_get_or 0 z (replicate (length t) 0) (long ∙ sym (length-replicate (length t) 0)) (λ i m. grind (arith, common_steps, zeros i)) in
    head-written c.args.n c.args.s c.args.c t c.requires e
