use mathlib.Core.Path.{◌≡◌, ap, ◌∙◌}
use mathlib.Core.List.{List, ◌++◌}
use Prim.Native.Nat.{ℕ, ◌*◌}
use native.Mathlib.Omega.{arith}
use lib.ListN.{length, length-append}
use Rattle.numbers.proofs.Laws.{splice-step, splice_all}
use Rattle.record.specs.Layout.{front_bytes, votes_bytes, record_bytes}
use Rattle.record.proofs.Laws.{length-front_bytes, length-votes_bytes}
use Rattle.record.proofs.write_record.Goals as goal

pub returns : goal.returns
unfolding record_bytes
returns c =
    let c2 = c in
    let c1 = c2 in
    let e = c1 in
    let l : List ℕ = e.args.b.now in
    let r = e.args.r in
    let h : length l ≡ 295 = e.requires in
    let n : length (front_bytes r) ≡ 43 = length-front_bytes r in
    let m : length (votes_bytes r.replies) ≡ 252 = length-votes_bytes r.replies ∙ ap (λ (k : ℕ). 36 * k) c2.write_votes.ensures.sized in
    splice-step l 0 (front_bytes r) 43 (votes_bytes r.replies) c1.write_front.ensures c2.write_votes.ensures.b_after (omega arith) (omega arith)
    ∙ splice_all l (front_bytes r ++ votes_bytes r.replies) (simp length-append (omega arith))
