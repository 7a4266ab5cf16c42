use mathlib.Core.Path.{◌∙◌}
use Prim.Native.Nat.{◌^◌}
use native.Mathlib.Omega.{arith}
use native.Mathlib.Nat.{one-mul}
use lib.Pow.{shl_exact}
use Rattle.sound.proofs.power.Goals as goal

pub returns : goal.returns
returns c = shl_exact 1 c.args.n 64 (omega arith) (omega arith) ∙ one-mul (2 ^ c.args.n)
