use mathlib.Core.Path.{◌≡◌}
use Prim.Native.Nat.{ℕ, ◌+◌}
use native.Mathlib.Omega.{arith}
use Rattle.codec.specs.Parts.{deps_at}
use Rattle.codec.proofs.read_deps.Goals as goal

pub returns : goal.returns
unfolding deps_at
returns c =
    let at : ℕ = c.args.at in
    let e : at + 4 ≡ at + 2 + 2 = omega arith in
    let f : at + 6 ≡ at + 2 + 2 + 2 = omega arith in
    let g : at + 8 ≡ at + 2 + 2 + 2 + 2 = omega arith in
    let h : at + 10 ≡ at + 2 + 2 + 2 + 2 + 2 = omega arith in
    let i : at + 12 ≡ at + 2 + 2 + 2 + 2 + 2 + 2 = omega arith in
    cc
