use Rattle.wire.proofs.Laws.{empty}
use Rattle.wire.proofs.kind_at.Goals as goal

pub returns-then-b-eq0 : goal.returns-then-b-eq0
returns-then-b-eq0 c = empty c.args.b.now c.if-b-eq0.true
