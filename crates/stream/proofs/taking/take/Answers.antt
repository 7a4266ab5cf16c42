use mathlib.Core.Path.{sym, ◌∙◌}
use Rattle.stream.proofs.Laws.{open-within}
use Rattle.stream.proofs.taking.take.Goals as goal

pub held-requires : goal.held-requires
held-requires c = open-within _ _ (sym c.in_ok-gate_of.was ∙ c.gate_of.ensures)

pub fill-requires : goal.fill-requires
fill-requires c = open-within _ _ (sym c.in_ok-gate_of.was ∙ c.gate_of.ensures)
