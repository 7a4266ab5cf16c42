use Rattle.gate.proofs.Sent.{Going}
use Rattle.gate.proofs.send.send_all.Given as goal

abbrev pub invariant-loop-q : goal.invariant-loop-q
invariant-loop-q l = Going l.initial.out l.to l.m l.out l.at l.q
