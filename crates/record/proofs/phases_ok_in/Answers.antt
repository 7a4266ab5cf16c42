use Rattle.record.proofs.Laws.{phase-judged}
use Rattle.record.proofs.phases_ok_in.Goals as goal

pub returns : goal.returns
returns c = phase-judged _ c.get-joined.ensures c.read_vote-v.ensures c.get-phase.ensures c.get-set.ensures _ _ _ c.phases_ok.ensures
