use mathlib.Core.Path.{sym, ◌∙◌}
use Rattle.order.proofs.Judged.{passed}
use Rattle.order.proofs.hand_out.hand_out.Goals as goal

pub hand_out_open-requires : goal.hand_out_open-requires
hand_out_open-requires c = passed _ _ _ _ (sym c.in_ok-judge_table.was ∙ c.judge_table.ensures)
