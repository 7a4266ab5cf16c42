use mathlib.Core.Path.{ap, ◌∙◌}
use native.Mathlib.Omega.{arith}
use borrow.Author.Tests.{not-true, not-false}
use Rattle.numbers.specs.Num.{num_at}
use Rattle.wire.proofs.Laws.{joined-room}
use Rattle.wire.proofs.read_joined.Goals as goal

pub returns-then-not-p : goal.returns-then-not-p
returns-then-not-p c = rw (not-true c.args.p.joined c.if-not-p.true)

pub get-requires : goal.get-requires
get-requires c = let s = c in omega (arith, s.requires, c.joined_start-at.ensures, joined-room s.args.p 10 (not-false _ c.if-not-p.false))

pub returns : goal.returns
returns c = rw (not-false c.args.p.joined c.if-not-p.false) (c.get.ensures ∙ ap (num_at 4 c.args.b.now) c.joined_start-at.ensures)
