use Rattle.sweep.proofs.turned.Goals as goal

pub returns-then-back : goal.returns-then-back
returns-then-back c = rw c.if-back.true
