use mathlib.Core.Path.{sym, ◌∙◌}
use Rattle.order.proofs.Judged.{passed}
use Rattle.order.proofs.settled.settled.Goals as goal

pub settled_open-requires : goal.settled_open-requires
settled_open-requires c = passed _ _ _ _ (sym c.in_ok-judge_table.was ∙ c.judge_table.ensures)
