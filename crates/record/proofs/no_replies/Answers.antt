use Rattle.std.proofs.Common.{rules, tests}
use lib.Bits.{bit_or}
use Rattle.std.proofs.lemmas.Iterator.{YieldsList-from_slice}
use Rattle.std.proofs.lemmas.Iterator.Consumers.{fold_from_yields_List}
use Rattle.record.proofs.Quick.{clear}
use Rattle.record.proofs.no_replies.Goals as goal

pub returns : goal.returns
returns c =
    let all = fold_from_yields_List _ bit_or 0 c.fold.result c.fold.ensures.ran (YieldsList-from_slice _ c.iter.ensures.rest) (λ a x b q k. search (rules, tests)) in
    rw all (clear c.args.b.now c.requires)
