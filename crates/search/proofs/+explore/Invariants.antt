use Rattle.std.proofs.Common.{◌+◌, ◌-◌, ◌≤◌}
use Rattle.seen.specs.Records.{records_in}
use Rattle.reach.specs.High.{Explored}
use Rattle.reach.proofs.High.{unvisited}
use Rattle.search.proofs.+explore.Given as goal

abbrev pub decreases-explore : goal.decreases-explore
decreases-explore l = unvisited l.n l.s l.m.now

abbrev pub invariant-loop-q : goal.invariant-loop-q
invariant-loop-q l = Explored l.n l.s (records_in l.s l.t) l.p l.k l.q l.initial.m l.m × (l.q ≤ l.n)

abbrev pub decreases-loop-q : goal.decreases-loop-q
decreases-loop-q l = unvisited l.n l.s l.m + (l.n - l.q)
