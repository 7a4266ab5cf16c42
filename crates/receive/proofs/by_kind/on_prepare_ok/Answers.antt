use mathlib.Core.Path.{sym, ◌∙◌}
use Rattle.receive.proofs.Laws.{unawaited, awaits}
use Rattle.receive.proofs.by_kind.on_prepare_ok.Goals as goal

pub returns-then-not-awaited : goal.returns-then-not-awaited
returns-then-not-awaited c = c.silent.ensures ∙ unawaited _ _ _ _ _ _ _ (sym c.awaited.ensures ∙ c.if-not-awaited.true)

pub returns : goal.returns
returns c = c.prepared_by.ensures ∙ awaits _ _ _ _ _ _ _ c.vote_in.ensures c.collect.ensures (sym c.awaited.ensures ∙ c.if-not-awaited.false)
