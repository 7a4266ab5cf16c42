-- What a search asks of each record in place of the command that it is for. Assumes nothing.
use Rattle.std.specs.Prelude.{ℕ, ◌&&◌, ◌||◌, cond, leb}
use Rattle.paper.specs.Command.{Interference, op_number, is_rewire, touches}
use Rattle.paper.specs.declared.Op.{Op}
use Rattle.paper.specs.declared.Op.TheVariants.{Noop, Read, Write, Rewire}
use Rattle.paper.specs.declared.Command.{Command}
use Rattle.seen.specs.declared.sought.Sought.{Sought}

-- the least op that interferes on a common object: a no-op meets with none, a read with the ops that write
abbrev pub least_op : Op → ℕ
least_op Noop = 4
least_op Read = 2
least_op Write = 1
least_op Rewire = 1

abbrev pub sought_for : Command → Sought
sought_for k = record { first = k.key; second = cond (is_rewire k) k.second k.key; least = least_op k.op }

-- a command on one of the two objects whose op is no less; the command that is looked for stands in w already
abbrev pub asks : Sought → Interference
asks w k c = (touches c w.first || touches c w.second) && leb w.least (op_number c.op)
