use Rattle.pumxaqert.proofs.Laws.{other_place, long-op, short-op}
use Rattle.pumxaqert.proofs.fields.can_hold.Goals as goal

pub returns-then-i-ne8 : goal.returns-then-i-ne8
returns-then-i-ne8 c = let a = c.args in other_place a.p a.i a.x c.if-i-ne8.true c.most.ensures

pub returns-then-p : goal.returns-then-p
returns-then-p c = let a = c.args in long-op a.p a.i a.x c.if-i-ne8.false c.if-p.true

pub returns : goal.returns
returns c = let a = c.args in short-op a.p a.i a.x c.if-i-ne8.false c.if-p.false
