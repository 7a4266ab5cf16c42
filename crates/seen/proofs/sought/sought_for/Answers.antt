use mathlib.Core.Path.{sym, ◌∙◌}
use Rattle.seen.proofs.Asks.{on_both, on-only}
use Rattle.seen.proofs.sought.sought_for.Goals as goal

pub returns-then-is_rewire : goal.returns-then-is_rewire
returns-then-is_rewire c = on_both c.args.k c.least_op-least.ensures (sym c.is_rewire.ensures ∙ c.if-is_rewire.true)

pub returns : goal.returns
returns c = on-only c.args.k c.least_op-least.ensures (sym c.is_rewire.ensures ∙ c.if-is_rewire.false)
