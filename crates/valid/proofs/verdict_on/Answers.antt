use native.Mathlib.Omega.{arith}
use Rattle.valid.proofs.Parts.{verdict_parts}
use Rattle.valid.proofs.verdict_on.Goals as goal

pub returns-in_err-head_verdict : goal.returns-in_err-head_verdict
returns-in_err-head_verdict c = let a = c.args in grind (arith, verdict_parts a.n a.s a.c a.o a.m a.w c.requires)

pub returns-in_err-way_verdict : goal.returns-in_err-way_verdict
returns-in_err-way_verdict c = let a = c.args in grind (arith, verdict_parts a.n a.s a.c a.o a.m a.w c.requires)

pub returns : goal.returns
returns c = let a = c.args in grind (arith, verdict_parts a.n a.s a.c a.o a.m a.w c.requires)
