use mathlib.Core.Path.{◌≡◌}
use Prim.Native.Nat.{ℕ, ◌+◌}
use native.Mathlib.Omega.{arith}
use Rattle.codec.specs.Parts.{command_at, deps_at, vote_at}
use Rattle.codec.proofs.read_vote.Goals as goal

pub returns : goal.returns
unfolding command_at deps_at vote_at
returns c =
    let at : ℕ = c.args.at in
    let e : at + 5 ≡ at + 4 + 1 = omega arith in
    let f : at + 22 ≡ at + 4 + 1 + 1 + 4 + 4 + 8 = omega arith in
    cc
