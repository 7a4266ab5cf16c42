use mathlib.Core.Path.{sym, ◌∙◌}
use Rattle.order.proofs.Judged.{passed}
use Rattle.journal.proofs.replaying.replay.Goals as goal

pub replay_open-requires : goal.replay_open-requires
replay_open-requires c = passed _ _ _ _ (sym c.in_ok-judge_table.was ∙ c.judge_table.ensures)
