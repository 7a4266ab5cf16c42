use Prim.Native.Nat.{◌-◌}
use mathlib.Core.Path.{◌≡◌, ◌∙◌}
use lib.ListN.{length}
use Rattle.seen.specs.Records.{records_in}
use Rattle.sweep.proofs.Sweeps.{Owners}
use Rattle.sweep.proofs.raise_number.Given as goal

abbrev pub invariant-loop-i : goal.invariant-loop-i
invariant-loop-i l = Owners l.n l.s (records_in l.s l.t) l.initial.g l.g l.j l.back l.i × (length l.h ≡ 6272)

abbrev pub decreases-loop-i : goal.decreases-loop-i
decreases-loop-i l = l.n - l.i
