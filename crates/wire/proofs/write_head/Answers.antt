use mathlib.Core.Path.{refl}
use mathlib.Core.List.{List, ◌++◌}
use Prim.Native.Nat.{ℕ, ◌+◌, ◌≤◌}
use native.Mathlib.Omega.{arith}
use lib.ListN.{length}
use Rattle.numbers.specs.Num.{bytes_of}
use Rattle.numbers.proofs.Laws.{splice-step}
use Rattle.paper.specs.Message.{kind_of}
use Rattle.wire.specs.Wire.{head_bytes}
use Rattle.wire.proofs.write_head.Goals as goal

pub returns : goal.returns
unfolding head_bytes
returns c =
    let c6 = c in
    let c5 = c6 in
    let c4 = c5 in
    let c3 = c4 in
    let c2 = c3 in
    let c1 = c2 in
    let k = c1 in
    let e = k in
    let l : List ℕ = e.args.out.now in
    let at = e.args.at in
    let m = e.args.m in
    let h : at + 10 ≤ length l = e.requires.0 in
    let b0 = bytes_of 1 (kind_of m.body) in
    let b1 = b0 ++ bytes_of 1 m.from in
    let b2 = b1 ++ bytes_of 1 m.to in
    let b3 = b2 ++ bytes_of 1 m.owner in
    let b4 = b3 ++ bytes_of 2 m.number in
    let w0 = rw k.kind_of-kind.ensures at c1.put.ensures in
    let w1 = splice-step l at b0 (at + 1) (bytes_of 1 m.from) w0 c2.put-2.ensures refl (omega arith) in
    let w2 = splice-step l at b1 (at + 2) (bytes_of 1 m.to) w1 c3.put-3.ensures refl (omega arith) in
    let w3 = splice-step l at b2 (at + 3) (bytes_of 1 m.owner) w2 c4.put-4.ensures refl (omega arith) in
    let w4 = splice-step l at b3 (at + 4) (bytes_of 2 m.number) w3 c5.put-5.ensures refl (omega arith) in
    splice-step l at b4 (at + 6) (bytes_of 4 m.ballot) w4 c6.put-6.ensures refl (omega arith)
