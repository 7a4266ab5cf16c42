use mathlib.Core.Path.{sym, ◌∙◌}
use native.Mathlib.Omega.{arith}
use Rattle.valid.proofs.Laws.{all_fit, bad, good, none_left}
use Rattle.valid.proofs.entries_verdict.Goals as goal

pub returns-then-deps_ok : goal.returns-then-deps_ok
returns-then-deps_ok c = all_fit _ _ _ (sym c.deps_ok.ensures ∙ c.if-deps_ok.true)

pub returns-then-not-entry_ok : goal.returns-then-not-entry_ok
returns-then-not-entry_ok c = bad _ _ _ _ c.loop-i.invariant c.loop-i-test.true (cc)

pub loop-i-preserved : goal.loop-i-preserved
loop-i-preserved c = good _ _ _ _ c.loop-i.invariant c.loop-i-test.true (cc)

pub returns : goal.returns
returns c = none_left _ _ _ _ c.loop-i.invariant (omega arith)
