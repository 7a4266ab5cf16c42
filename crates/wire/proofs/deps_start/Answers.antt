use native.Mathlib.Omega.{arith}
use Rattle.wire.proofs.Laws.{command-near, sent-most}
use Rattle.wire.proofs.deps_start.Goals as goal

pub overflow_add-result : goal.overflow_add-result
overflow_add-result c =
    let s = c in
    omega (arith, s.requires, c.command_start-start.ensures, c.command_length.ensures, sent-most s.args.p.second, command-near s.args.p s.args.at)
