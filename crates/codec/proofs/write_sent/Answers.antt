use mathlib.Core.Path.{refl}
use mathlib.Core.List.{List, ◌++◌}
use Prim.Native.Nat.{ℕ, ◌+◌, ◌≤◌}
use native.Mathlib.Omega.{arith}
use lib.ListN.{length}
use Rattle.numbers.specs.Num.{bytes_of}
use Rattle.numbers.proofs.Laws.{splice-step}
use Rattle.paper.specs.Command.{op_number}
use Rattle.codec.specs.Parts.{command_bytes, sent_bytes}
use Rattle.codec.proofs.write_sent.Goals as goal

pub write_command-requires : goal.write_command-requires
write_command-requires c = rw c.if-second.true at c.requires

pub returns-then-second : goal.returns-then-second
unfolding sent_bytes command_bytes
returns-then-second c = rw c.if-second.true c.write_command.ensures

pub returns : goal.returns
unfolding sent_bytes
returns c =
    let l : List ℕ = c.args.s.now in
    let at = c.args.at in
    let k = c.args.c in
    let h : at + 13 ≤ length l = rw c.if-second.false at c.requires in
    let u = bytes_of 1 (op_number k.op) in
    let w0 = rw c.op_byte.ensures at c.put.ensures in
    let w1 = splice-step l at u (at + 1) (bytes_of 4 k.key) w0 c.put-2.ensures refl (omega arith) in
    rw c.if-second.false (splice-step l at (u ++ bytes_of 4 k.key) (at + 5) (bytes_of 8 k.edit) w1 c.put-3.ensures refl (omega arith))
