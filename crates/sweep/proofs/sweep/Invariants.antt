use Prim.Native.Nat.{◌-◌}
use mathlib.Core.Path.{◌≡◌, ◌∙◌}
use lib.ListN.{length}
use Rattle.seen.specs.Records.{records_in}
use Rattle.sweep.proofs.Sweeps.{Numbers}
use Rattle.sweep.proofs.sweep.Given as goal

abbrev pub invariant-loop-i : goal.invariant-loop-i
invariant-loop-i l = Numbers l.n l.s (records_in l.s l.t) l.initial.g l.g l.back l.i × (length l.h ≡ 6272)

abbrev pub decreases-loop-i : goal.decreases-loop-i
decreases-loop-i l = l.s - l.i
