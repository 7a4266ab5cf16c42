use Rattle.std.proofs.Common.{◌≤◌, length}
use Rattle.storage.proofs.walk.Given as goal

abbrev pub invariant-loop-count : goal.invariant-loop-count
invariant-loop-count l = l.at ≤ length l.b
