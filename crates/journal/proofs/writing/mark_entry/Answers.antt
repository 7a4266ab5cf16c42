use Rattle.std.proofs.lemmas.Result.{err_from_is_err_and}
use Rattle.entries.specs.Entry.{mark_kind}
use Rattle.entries.specs.Writing.{mark_entered}
use Rattle.entries.proofs.Written.{enters, shut, opened}
use Rattle.journal.proofs.writing.mark_entry.Goals as goal

pub mark_open-requires : goal.mark_open-requires
mark_open-requires c = enters _ _ _ _ _ mark_kind _ _ c.in_ok-gate_of.ensures

pub returns-in_err-gate_of : goal.returns-in_err-gate_of
unfolding mark_entered
returns-in_err-gate_of c = let p = err_from_is_err_and c.from_residual.result c.from_residual.ensures.1 in rw (p.1, p.2) (shut _ _ _ _ c.in_err-gate_of.ensures)

pub returns : goal.returns
unfolding mark_entered
returns c = opened _ _ _ c.in_ok-gate_of.ensures c.mark_open.ensures
