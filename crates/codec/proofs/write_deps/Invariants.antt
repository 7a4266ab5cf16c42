use mathlib.Core.Path.{◌≡◌}
use Rattle.numbers.specs.Num.{splice}
use Rattle.codec.proofs.Laws.{deps_front}
use Rattle.codec.proofs.write_deps.Given as goal

abbrev pub invariant-loop-i : goal.invariant-loop-i
invariant-loop-i l = l.s ≡ splice l.initial.s l.at (deps_front l.d l.i)
