use mathlib.Core.Path.{ap, ◌∙◌}
use native.Mathlib.Omega.{arith}
use borrow.Author.Tests.{not-true, not-false}
use Rattle.numbers.specs.Num.{num_at}
use Rattle.wire.specs.Wire.{op_at}
use Rattle.wire.proofs.Laws.{command-room, sent-least}
use Rattle.wire.proofs.op_at.Goals as goal

pub returns-then-not-p : goal.returns-then-not-p
unfolding op_at
returns-then-not-p c = rw (not-true c.args.p.command c.if-not-p.true)

pub get-requires : goal.get-requires
get-requires c = let s = c in omega (arith, s.requires, c.command_start-at.ensures, command-room s.args.p 10 (not-false _ c.if-not-p.false), sent-least s.args.p.second)

pub returns : goal.returns
unfolding op_at
returns c = rw (not-false c.args.p.command c.if-not-p.false) (c.get.ensures ∙ ap (num_at 1 c.args.b.now) c.command_start-at.ensures)
