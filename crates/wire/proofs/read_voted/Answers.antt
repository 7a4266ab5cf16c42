use native.Mathlib.Omega.{arith}
use borrow.Author.Tests.{not-true, not-false}
use Rattle.wire.proofs.Laws.{told-room}
use Rattle.wire.proofs.read_voted.Goals as goal

pub returns-then-not-p : goal.returns-then-not-p
returns-then-not-p c = rw (not-true c.args.p.told c.if-not-p.true)

pub get-requires : goal.get-requires
get-requires c = let s = c in omega (arith, s.requires, told-room s.args.p 10 (not-false _ c.if-not-p.false))

pub returns : goal.returns
returns c = rw (not-false c.args.p.told c.if-not-p.false) c.get.ensures
