use Rattle.order.specs.Calls.{marked_in}
use Rattle.order.proofs.hand_out.marked_in.Goals as goal

pub returns : goal.returns
unfolding marked_in
returns c = c.put_mark.ensures
