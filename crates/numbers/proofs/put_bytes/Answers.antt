use native.Mathlib.Omega.{arith}
use Rattle.numbers.proofs.Putting.{putting-none, putting-one, was-put}
use Rattle.numbers.proofs.put_bytes.Goals as goal

pub loop-i-init : goal.loop-i-init
loop-i-init c = putting-none _ _ _ c.requires

pub bounds-bytes-i : goal.bounds-bytes-i
bounds-bytes-i c = omega arith

pub overflow_add-s : goal.overflow_add-s
overflow_add-s c = omega (arith, c.requires)

pub bounds-s-at : goal.bounds-s-at
bounds-s-at c = omega (arith, c.requires, c.loop-i.invariant.long)

pub loop-i-smaller : goal.loop-i-smaller
loop-i-smaller c = omega arith

pub loop-i-preserved : goal.loop-i-preserved
loop-i-preserved c = putting-one _ _ _ c.requires _ _ c.loop-i.invariant c.loop-i-test.true

pub shape_of-s : goal.shape_of-s
shape_of-s c = c.loop-i.invariant.long

pub returns : goal.returns
returns c = was-put _ _ _ c.requires _ _ c.loop-i.invariant c.loop-i-test.false
