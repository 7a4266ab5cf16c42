use Rattle.std.proofs.Common.{rules, tests, refl, ◌∙◌}
use Rattle.std.proofs.lemmas.Iterator.{YieldsList-from_range}
use Rattle.std.proofs.lemmas.Iterator.Search.{all_from_yields_List}
use Rattle.record.specs.Part.{reply_part}
use Rattle.record.proofs.Laws.{all_below-all}
use Rattle.record.proofs.replies_ok.Goals as goal

pub returns : goal.returns
returns c =
    all_from_yields_List (reply_part c.args.n c.args.s c.args.c c.args.b.now) _ _ _ c.all.ensures.ran (YieldsList-from_range 0 7 7 refl refl) (λ x b q k. search (rules, tests))
    ∙ all_below-all _ 7
