use native.Mathlib.Omega.{arith}
use Rattle.wire.proofs.Laws.{deps-near}
use Rattle.wire.proofs.joined_start.Goals as goal

pub overflow_add-result : goal.overflow_add-result
overflow_add-result c = let s = c in omega (arith, s.requires, c.deps_start-start.ensures, deps-near s.args.p s.args.at)
