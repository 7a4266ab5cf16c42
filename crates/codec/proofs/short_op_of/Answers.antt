use native.Mathlib.Omega.{arith}
use Rattle.codec.proofs.Laws.{short-other}
use Rattle.codec.proofs.short_op_of.Goals as goal

pub returns-in_default : goal.returns-in_default
returns-in_default c = short-other c.args.b (λ e. omega arith) (λ e. omega arith)
