use native.Mathlib.Omega.{arith}
use Rattle.wire.proofs.Laws.{joined-near}
use Rattle.wire.proofs.rest_end.Goals as goal

pub overflow_add-result : goal.overflow_add-result
overflow_add-result c = let s = c in omega (arith, s.requires, c.joined_start-start.ensures, joined-near s.args.p s.args.at)
