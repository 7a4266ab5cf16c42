use mathlib.Core.Path.{sym, ◌∙◌}
use mathlib.Core.List.{◌++◌}
use native.Mathlib.Omega.{arith}
use lib.ListN.{length-append}
use Rattle.numbers.proofs.Laws.{splice-step}
use Rattle.codec.specs.Parts.{sent_bytes, deps_bytes}
use Rattle.wire.specs.Wire.{part, told_bytes, joined_bytes, rest_bytes}
use Rattle.wire.proofs.Laws.{at_told, at-command, at-deps, at_joined, told-size, command-size, deps-size, joined-size}
use Rattle.wire.proofs.write_rest.Goals as goal

pub write_told-requires : goal.write_told-requires
write_told-requires c =
    let s = c in
    let p = s.args.p in
    let x = s.args.x in
    let d = s.args.d in
    let at = s.args.at in
    let told = told-size p x d at in
    let command = command-size p x d at in
    let deps = deps-size p x d at in
    let joined = joined-size p x d at in
    let o1 = at_told p at in
    let o2 = at-command p at in
    let o3 = at-deps p at in
    let o4 = at_joined p at in
    let room = s.requires.0 in
    omega arith

pub write_command-requires : goal.write_command-requires
write_command-requires c =
    let s = c in
    let p = s.args.p in
    let x = s.args.x in
    let d = s.args.d in
    let at = s.args.at in
    let told = told-size p x d at in
    let command = command-size p x d at in
    let deps = deps-size p x d at in
    let joined = joined-size p x d at in
    let o1 = at_told p at in
    let o2 = at-command p at in
    let o3 = at-deps p at in
    let o4 = at_joined p at in
    let room = s.requires.0 in
    omega (arith, c.command_start-a1.ensures)

pub write_beside-requires : goal.write_beside-requires
write_beside-requires c =
    let s = c in
    let p = s.args.p in
    let x = s.args.x in
    let d = s.args.d in
    let at = s.args.at in
    let told = told-size p x d at in
    let command = command-size p x d at in
    let deps = deps-size p x d at in
    let joined = joined-size p x d at in
    let o1 = at_told p at in
    let o2 = at-command p at in
    let o3 = at-deps p at in
    let o4 = at_joined p at in
    let room = s.requires.0 in
    omega (arith, c.deps_start-a2.ensures)

pub write_joined-requires : goal.write_joined-requires
write_joined-requires c =
    let s = c in
    let p = s.args.p in
    let x = s.args.x in
    let d = s.args.d in
    let at = s.args.at in
    let told = told-size p x d at in
    let command = command-size p x d at in
    let deps = deps-size p x d at in
    let joined = joined-size p x d at in
    let o1 = at_told p at in
    let o2 = at-command p at in
    let o3 = at-deps p at in
    let o4 = at_joined p at in
    let room = s.requires.0 in
    omega (arith, c.joined_start-a3.ensures)

pub returns : goal.returns
unfolding rest_bytes
returns c =
    let s = c in
    let p = s.args.p in
    let x = s.args.x in
    let d = s.args.d in
    let at = s.args.at in
    let told = told-size p x d at in
    let command = command-size p x d at in
    let deps = deps-size p x d at in
    let joined = joined-size p x d at in
    let o1 = at_told p at in
    let o2 = at-command p at in
    let o3 = at-deps p at in
    let o4 = at_joined p at in
    let room = s.requires.0 in
    let l = s.args.out.now in
    let t = part p.told (told_bytes x) in
    let k = part p.command (sent_bytes p.second x.command) in
    let b = part p.deps (deps_bytes d) in
    let j = part p.joined (joined_bytes x) in
    let e1 = c.command_start-a1.ensures in
    let e2 = c.deps_start-a2.ensures in
    let e3 = c.joined_start-a3.ensures in
    let w1 = splice-step l at t _ k c.write_told.ensures c.write_command.ensures (told ∙ sym e1) (omega (arith, e1)) in
    let w2 = splice-step l at (t ++ k) _ b w1 c.write_beside.ensures (simp length-append (omega (arith, e2))) (omega (arith, e2)) in
    splice-step l at (t ++ k ++ b) _ j w2 c.write_joined.ensures (simp length-append (omega (arith, e3))) (omega (arith, e3))
