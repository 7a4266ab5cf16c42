use mathlib.Core.Path.{refl, sym, ◌∙◌}
use Rattle.receive.proofs.Laws.{prepared-few, prepared-all}
use Rattle.receive.proofs.by_kind.prepared_by.Goals as goal

pub returns-then-not-quorum : goal.returns-then-not-quorum
returns-then-not-quorum c = c.silent.ensures ∙ prepared-few _ _ _ _ _ _ (sym c.quorum.ensures ∙ c.if-not-quorum.true)

pub returns : goal.returns
returns c = c.decide.ensures ∙ prepared-all _ _ _ _ _ _ c.afresh_command.ensures c.seen_for-seen.ensures refl (sym c.quorum.ensures ∙ c.if-not-quorum.false)
