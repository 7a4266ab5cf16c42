use native.Mathlib.Omega.{arith}
use Rattle.codec.proofs.Laws.{op-other}
use Rattle.codec.proofs.op_of.Goals as goal

pub returns-in_default : goal.returns-in_default
returns-in_default c = op-other c.args.b (λ e. omega arith) (λ e. omega arith) (λ e. omega arith)
