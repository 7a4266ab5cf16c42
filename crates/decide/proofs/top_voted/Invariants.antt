use Rattle.std.proofs.Common.{◌≡◌, cond}
use Rattle.rules.specs.Sets.{largest_below}
use Rattle.rules.specs.PrepareOk.{told_by, voter}
use Rattle.decide.proofs.top_voted.Given as goal

abbrev pub invariant-loop-q : goal.invariant-loop-q
invariant-loop-q l = l.top ≡ largest_below l.q (λ q. cond (voter l.r q) (told_by l.r q).voted 0)
