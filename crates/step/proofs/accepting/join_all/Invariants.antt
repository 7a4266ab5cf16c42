use Rattle.std.proofs.Common.{◌≡◌, drop}
use Rattle.rules.specs.Accepting.{join_all}
use Rattle.step.proofs.accepting.join_all.Given as goal

abbrev pub invariant-loop-v : goal.invariant-loop-v
invariant-loop-v l = join_all l.all (drop l.v-index l.v-items) ≡ join_all l.fn.d l.fn.vs
