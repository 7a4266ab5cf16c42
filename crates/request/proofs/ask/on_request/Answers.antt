use mathlib.Core.Path.{refl, ◌∙◌}
use Rattle.request.proofs.Laws.{request-step}
use Rattle.request.proofs.ask.on_request.Goals as goal

pub returns : goal.returns
returns c = c.afresh.ensures ∙ request-step _ _ _ _ _ c.requires.2 refl refl c.blank.ensures c.seen-seen.ensures
