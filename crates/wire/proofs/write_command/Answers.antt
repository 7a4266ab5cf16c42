use native.Mathlib.Omega.{arith}
use Rattle.numbers.proofs.Laws.{splice-nil}
use Rattle.codec.proofs.Laws.{length-sent_bytes}
use Rattle.wire.proofs.write_command.Goals as goal

pub write_sent-requires : goal.write_sent-requires
write_sent-requires c = let s = c in let h = rw c.if-p.true at s.requires in omega (arith, h, length-sent_bytes s.args.p.second s.args.k)

pub returns-else-p : goal.returns-else-p
returns-else-p c = rw c.if-p.false (splice-nil _ _)
