use native.Mathlib.Omega.{arith}
use Rattle.numbers.proofs.Laws.{splice-nil}
use Rattle.wire.proofs.write_joined.Goals as goal

pub put-requires : goal.put-requires
put-requires c = let s = c in let h = rw c.if-has.true at s.requires in omega (arith, h)

pub returns-then-has : goal.returns-then-has
returns-then-has c = rw c.if-has.true c.put.ensures

pub returns-else-has : goal.returns-else-has
returns-else-has c = rw c.if-has.false (splice-nil _ _)
