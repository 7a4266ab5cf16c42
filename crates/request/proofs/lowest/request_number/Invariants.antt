use Rattle.request.proofs.Blank.{From}
use Rattle.request.proofs.lowest.request_number.Given as goal

abbrev pub invariant-loop-j : goal.invariant-loop-j
invariant-loop-j l = From l.n l.s l.c l.t l.j
