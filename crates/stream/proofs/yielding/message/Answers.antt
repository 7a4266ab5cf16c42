use mathlib.Core.Path.{sym, ◌∙◌}
use lib.Seq.{length-take-le}
use Rattle.stream.proofs.Laws.{open-within, whole-fits}
use Rattle.stream.proofs.yielding.message.Goals as goal

pub held-held-requires : goal.held-held-requires
held-held-requires c = open-within _ _ (sym c.in-Ok.is ∙ c.gate_of.ensures)

pub slice_bounds-result-end-in-Ok : goal.slice_bounds-result-end-in-Ok
slice_bounds-result-end-in-Ok c = sym (length-take-le _ _ (whole-fits _ c.whole_length.ensures c.unwrap_or.ensures))
