use mathlib.Core.Path.{◌≡◌, ap}
use Prim.Native.Nat.{ℕ, ◌+◌}
use native.Mathlib.Omega.{arith}
use Rattle.paper.specs.declared.Op.TheVariants.{Rewire}
use Rattle.paper.specs.declared.Command.{Command}
use Rattle.codec.specs.Parts.{command_at, sent_at}
use Rattle.codec.proofs.read_sent.Goals as goal

pub returns-then-second : goal.returns-then-second
unfolding command_at sent_at
returns-then-second c = rw c.if-second.true (ap (λ (k : Command). record { op = Rewire; key = k.key; second = k.second; edit = k.edit }) c.read_command.ensures)

pub returns : goal.returns
unfolding sent_at
returns c =
    let at : ℕ = c.args.at in
    let e : at + 5 ≡ at + 1 + 4 = omega arith in
    rw c.if-second.false cc
