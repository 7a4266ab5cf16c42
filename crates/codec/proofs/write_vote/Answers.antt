use mathlib.Core.Path.{refl}
use mathlib.Core.List.{List, ◌++◌}
use Prim.Native.Nat.{ℕ, ◌+◌, ◌≤◌}
use native.Mathlib.Omega.{arith}
use lib.ListN.{length}
use Rattle.numbers.specs.Num.{bytes_of}
use Rattle.numbers.proofs.Laws.{splice-step}
use Rattle.codec.specs.Parts.{command_bytes, deps_bytes, vote_bytes}
use Rattle.codec.proofs.write_vote.Goals as goal

pub returns : goal.returns
unfolding command_bytes deps_bytes vote_bytes
returns c =
    let l : List ℕ = c.args.s.now in
    let at = c.args.at in
    let v = c.args.v in
    let h : at + 36 ≤ length l = c.requires in
    let u = bytes_of 4 v.voted in
    let w = u ++ bytes_of 1 v.status in
    let w1 = splice-step l at u (at + 4) (bytes_of 1 v.status) c.put.ensures c.put-2.ensures refl (omega arith) in
    let w2 = splice-step l at w (at + 5) (command_bytes v.command) w1 c.write_command.ensures refl (omega arith) in
    splice-step l at (w ++ command_bytes v.command) (at + 22) (deps_bytes v.deps) w2 c.write_deps.ensures refl (omega arith)
