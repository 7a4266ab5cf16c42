use mathlib.Core.Path.{◌∙◌}
use Prim.Native.Nat.{◌^◌, ◌≤◌}
use native.Mathlib.Omega.{arith}
use native.Mathlib.Nat.{one-mul}
use lib.Pow.{shl_exact, pow_mono}
use Rattle.sets.proofs.only_of.Goals as goal

pub returns : goal.returns
returns c =
    let e = shl_exact 1 c.args.q 8 (omega arith) (omega arith) ∙ one-mul (2 ^ c.args.q) in
    let h : 2 ^ c.args.q ≤ 2 ^ 6 = pow_mono {i = c.args.q} {j = 6} (omega arith) in
    (e, rw e h)
