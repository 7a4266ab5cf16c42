use mathlib.Core.Path.{◌≡◌, refl}
use mathlib.Core.List.{List, ◌++◌}
use Prim.Native.Nat.{ℕ, ◌≤◌}
use native.Mathlib.Omega.{arith}
use lib.ListN.{length, length-append}
use Rattle.numbers.specs.Num.{bytes_of}
use Rattle.numbers.proofs.Laws.{splice-step}
use Rattle.codec.specs.Parts.{vote_bytes}
use Rattle.record.specs.Layout.{front_bytes}
use Rattle.record.proofs.Laws.{length-vote_bytes}
use Rattle.record.proofs.write_front.Goals as goal

pub returns : goal.returns
unfolding front_bytes
returns c =
    let c5 = c in
    let c4 = c5 in
    let c3 = c4 in
    let c2 = c3 in
    let c1 = c2 in
    let e = c1 in
    let l : List ℕ = e.args.b.now in
    let r = e.args.r in
    let h : 43 ≤ length l = e.requires in
    let n : length (vote_bytes r.vote) ≡ 36 = length-vote_bytes r.vote in
    let b1 = bytes_of 4 r.joined ++ vote_bytes r.vote in
    let b2 = b1 ++ bytes_of 1 r.mark in
    let b3 = b2 ++ bytes_of 1 r.phase in
    let n1 : length b1 ≡ 40 = simp length-append (omega arith) in
    let n2 : length b2 ≡ 41 = simp length-append (omega arith) in
    let n3 : length b3 ≡ 42 = simp length-append (omega arith) in
    let w1 = splice-step l 0 (bytes_of 4 r.joined) 4 (vote_bytes r.vote) c1.put.ensures c2.write_vote.ensures refl (omega arith) in
    let w2 = splice-step l 0 b1 40 (bytes_of 1 r.mark) w1 c3.put-2.ensures (omega arith) (omega arith) in
    let w3 = splice-step l 0 b2 41 (bytes_of 1 r.phase) w2 c4.put-3.ensures (omega arith) (omega arith) in
    splice-step l 0 b3 42 (bytes_of 1 r.set) w3 c5.put-4.ensures (omega arith) (omega arith)
