use native.Mathlib.Omega.{arith}
use borrow.Author.Tests.{not-false}
use Rattle.wire.proofs.Laws.{deps-room}
use Rattle.wire.proofs.read_beside.Goals as goal

pub read_deps-requires : goal.read_deps-requires
read_deps-requires c = let s = c in omega (arith, s.requires, c.deps_start-at.ensures, deps-room s.args.p 10 (not-false _ c.if-not-p.false))
