use Prim.Native.Nat.{◌+◌}
use native.Mathlib.Omega.{arith}
use Rattle.numbers.proofs.Laws.{splice-step}
use Rattle.paper.specs.Message.{parts_in, kind_of, carried_in}
use Rattle.wire.specs.Wire.{length_of, head_bytes, rest_bytes, message_bytes}
use Rattle.wire.proofs.Laws.{ten, end-further, length-head_bytes, rest-size}
use Rattle.wire.proofs.message_bytes.Goals as goal

pub write_head-requires : goal.write_head-requires
write_head-requires c = let s = c in (omega (arith, s.requires.0, ten (kind_of s.args.m.body)), s.requires.1)

pub write_rest-requires : goal.write_rest-requires
unfolding length_of
write_rest-requires c =
    let s = c in
    let at = s.args.at in
    let m = s.args.m in
    let end = end-further (parts_in m.body) 10 at in
    let h = s.requires.0 in
    let near = s.requires.1 in
    rw c.row_in-row.ensures (omega arith, omega arith)

pub returns : goal.returns
unfolding message_bytes length_of
returns c =
    let s = c in
    let at = s.args.at in
    let m = s.args.m in
    let end = end-further (parts_in m.body) 10 at in
    let h = s.requires.0 in
    let near = s.requires.1 in
    let l = s.args.out.now in
    let r = rest_bytes (parts_in m.body) (carried_in m.body) m.deps in
    let w = rw (c.row_in-row.ensures, c.carried_in.ensures) at c.write_rest.ensures in
    let size = rest-size (parts_in m.body) (carried_in m.body) m.deps (at + 10) in
    splice-step l at (head_bytes m) (at + 10) r c.write_head.ensures w (omega (arith, length-head_bytes m)) (omega arith)
