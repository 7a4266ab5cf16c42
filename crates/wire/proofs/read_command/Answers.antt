use native.Mathlib.Omega.{arith}
use borrow.Author.Tests.{not-false}
use Rattle.wire.proofs.Laws.{command-room}
use Rattle.wire.proofs.read_command.Goals as goal

pub read_sent-requires : goal.read_sent-requires
read_sent-requires c = let s = c in omega (arith, s.requires, c.command_start-at.ensures, command-room s.args.p 10 (not-false _ c.if-not-p.false))
