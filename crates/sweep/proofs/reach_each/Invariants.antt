use Prim.Native.Nat.{◌*◌, ◌-◌, ◌<◌}
use mathlib.Core.Path.{◌≡◌, ◌∙◌}
use Rattle.seen.specs.Records.{records_in}
use Rattle.sweep.proofs.Charts.{Charts}
use Rattle.sweep.proofs.reach_each.Given as goal

abbrev pub invariant-loop-z : goal.invariant-loop-z
invariant-loop-z l = Charts l.n l.s (records_in l.s l.t) l.g l.z l.h × (l.last ≡ 64 * l.n)

abbrev pub decreases-loop-z : goal.decreases-loop-z
decreases-loop-z l = l.last - l.z
