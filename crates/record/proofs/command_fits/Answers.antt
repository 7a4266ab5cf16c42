use Rattle.record.proofs.Front.{command-two, command-second, command-one, command-key, command-edit}
use Rattle.record.proofs.command_fits.Goals as goal

pub returns-then-op-eq3 : goal.returns-then-op-eq3
returns-then-op-eq3 c = command-two _ c.get-op.ensures c.get-second.ensures c.get-key.ensures c.if-op-eq3.true

pub returns-then-second-ne0 : goal.returns-then-second-ne0
returns-then-second-ne0 c = command-second _ c.get-op.ensures c.get-second.ensures c.get-key.ensures c.if-op-eq3.false c.if-second-ne0.true

pub returns-then-op-ne0 : goal.returns-then-op-ne0
returns-then-op-ne0 c = command-one _ c.get-op.ensures c.get-second.ensures c.get-key.ensures c.if-op-eq3.false c.if-second-ne0.false c.if-op-ne0.true

pub returns-then-key-ne0 : goal.returns-then-key-ne0
returns-then-key-ne0 c = command-key _ c.get-op.ensures c.get-second.ensures c.get-key.ensures c.if-op-ne0.false c.if-second-ne0.false c.if-key-ne0.true

pub returns : goal.returns
returns c = command-edit _ c.get-op.ensures c.get-second.ensures c.get-key.ensures c.if-op-ne0.false c.if-second-ne0.false c.if-key-ne0.false c.get.ensures
