use mathlib.Core.Path.{◌≡◌, sym, ◌∙◌}
use native.Mathlib.Omega.{arith}
use Rattle.next.proofs.Passed.{low-more}
use Rattle.next.proofs.low_past.Goals as goal

pub loop-j-init : goal.loop-j-init
loop-j-init c = c.requires.3

pub none_at-requires : goal.none_at-requires
none_at-requires c = let g = c.requires in (g.0, omega arith, omega (arith, g.1, c.loop-j-test.true), g.2)

pub returns-then-not-none_at : goal.returns-then-not-none_at
returns-then-not-none_at c = c.loop-j.invariant

pub loop-j-preserved : goal.loop-j-preserved
loop-j-preserved c = low-more _ _ _ _ c.loop-j.invariant c.loop-j-test.true (sym c.none_at.ensures ∙ c.if-not-none_at.false)

pub returns : goal.returns
returns c =
    let e : c.loop-j.j ≡ c.args.s = omega (arith, c.loop-j.invariant.few) in
    rw e at c.loop-j.invariant
