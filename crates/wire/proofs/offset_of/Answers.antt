use native.Mathlib.Omega.{arith}
use Rattle.wire.proofs.Laws.{edit-last, sent-most, command-near, deps-near}
use Rattle.wire.proofs.offset_of.Goals as goal

pub overflow_add-result-in-Key : goal.overflow_add-result-in-Key
overflow_add-result-in-Key c = omega (arith, c.command_start-in-Key.ensures, command-near c.args.p 10)

pub overflow_add-result-in-Second : goal.overflow_add-result-in-Second
overflow_add-result-in-Second c = omega (arith, c.command_start-in-Second.ensures, command-near c.args.p 10)

pub overflow_add-result-in-Edit : goal.overflow_add-result-in-Edit
overflow_add-result-in-Edit c =
    let p = c.args.p in
    omega (arith, c.command_start-in-Edit.ensures, c.edit_in_command.ensures, edit-last p.second, sent-most p.second, command-near p 10)

pub overflow_add-result-in-Entry : goal.overflow_add-result-in-Entry
overflow_add-result-in-Entry c = omega (arith, c.deps_start.ensures, deps-near c.args.p 10)
