use mathlib.Core.Path.{◌≡◌}
use native.Mathlib.Omega.{arith}
use Rattle.numbers.proofs.Laws.{splice-nil}
use Rattle.codec.specs.Parts.{deps_bytes}
use Rattle.codec.proofs.Laws.{deps_front-more}
use Rattle.codec.proofs.write_deps.Goals as goal

pub loop-i-init : goal.loop-i-init
loop-i-init c = splice-nil _ _

pub loop-i-preserved : goal.loop-i-preserved
loop-i-preserved c = deps_front-more _ _ _ c.args.d _ _ c.loop-i.invariant c.put.ensures (omega (arith, c.requires, c.loop-i-test.true))

pub returns : goal.returns
unfolding deps_bytes
returns c = let e : c.loop-i.i ≡ 7 = omega arith in rw e at c.loop-i.invariant
