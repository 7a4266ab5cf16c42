use native.Mathlib.Omega.{arith}
use Rattle.numbers.proofs.Laws.{splice-nil}
use Rattle.codec.specs.Parts.{deps_bytes}
use Rattle.wire.proofs.write_beside.Goals as goal

pub write_deps-requires : goal.write_deps-requires
unfolding deps_bytes
write_deps-requires c = let s = c in let h = rw c.if-has.true at s.requires in omega (arith, h)

pub returns-else-has : goal.returns-else-has
returns-else-has c = rw c.if-has.false (splice-nil _ _)
