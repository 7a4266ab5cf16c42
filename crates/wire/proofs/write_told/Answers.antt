use mathlib.Core.Path.{refl}
use Prim.Native.Nat.{◌+◌}
use native.Mathlib.Omega.{arith}
use Rattle.numbers.specs.Num.{bytes_of}
use Rattle.numbers.proofs.Laws.{splice-nil, splice-step}
use Rattle.wire.proofs.write_told.Goals as goal

pub put-requires : goal.put-requires
put-requires c = let s = c in let h = rw c.if-has.true at s.requires in omega (arith, h)

pub put-requires-then-has : goal.put-requires-then-has
put-requires-then-has c = let s = c in let h = rw c.if-has.true at s.requires in omega (arith, h)

pub returns-then-has : goal.returns-then-has
returns-then-has c =
    let s = c in
    let a = s.args in
    let h = rw c.if-has.true at s.requires in
    rw c.if-has.true
    (splice-step a.out.now a.at (bytes_of 4 a.x.voted) (a.at + 4) (bytes_of 1 a.x.status) c.put.ensures c.put-then-has.ensures refl (omega (arith, h)))

pub returns-else-has : goal.returns-else-has
returns-else-has c = rw c.if-has.false (splice-nil _ _)
