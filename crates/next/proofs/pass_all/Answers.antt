use Rattle.next.proofs.Passed.{past-low}
use Rattle.next.proofs.pass_all.Goals as goal

pub low_past-z-requires : goal.low_past-z-requires
low_past-z-requires c = let g = c.pass_rows.ensures in (g.copies, g.numbers, g.states, rw c.from.ensures g.low)

pub returns : goal.returns
returns c = record { kept = past-low _ _ _ _ c.pass_rows.ensures _ c.low_past-z.ensures; low = c.low_past-z.ensures }
