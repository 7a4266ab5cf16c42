use Prim.Native.Nat.{ℕ, ◌+◌}
use mathlib.Core.Path.{◌≡◌}
use native.Mathlib.Omega.{arith}
use Rattle.codec.specs.Parts.{command_at}
use Rattle.codec.proofs.read_command.Goals as goal

pub returns : goal.returns
unfolding command_at
returns c =
    let at : ℕ = c.args.at in
    let e : at + 5 ≡ at + 1 + 4 = omega arith in
    let f : at + 9 ≡ at + 1 + 4 + 4 = omega arith in
    cc
