use Rattle.std.proofs.Common.{◌-◌}
use Rattle.course.proofs.work.send_all.Given as goal

abbrev pub decreases-loop-at : goal.decreases-loop-at
decreases-loop-at l = l.written - l.at
