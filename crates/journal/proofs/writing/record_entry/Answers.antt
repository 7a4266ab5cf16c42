use Rattle.std.proofs.lemmas.Result.{err_from_is_err_and}
use Rattle.entries.specs.Entry.{record_kind}
use Rattle.entries.specs.Writing.{record_entered}
use Rattle.entries.proofs.Written.{enters, shut, opened}
use Rattle.journal.proofs.writing.record_entry.Goals as goal

pub record_open-requires : goal.record_open-requires
record_open-requires c = enters _ _ _ _ _ record_kind _ _ c.in_ok-gate_of.ensures

pub returns-in_err-gate_of : goal.returns-in_err-gate_of
unfolding record_entered
returns-in_err-gate_of c = let p = err_from_is_err_and c.from_residual.result c.from_residual.ensures.1 in rw (p.1, p.2) (shut _ _ _ _ c.in_err-gate_of.ensures)

pub returns : goal.returns
unfolding record_entered
returns c = opened _ _ _ c.in_ok-gate_of.ensures c.record_open.ensures
