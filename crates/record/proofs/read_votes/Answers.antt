use Rattle.std.proofs.Common.{rules, arith, ◌∙◌, ◌+◌, ◌*◌}
use Rattle.codec.specs.Parts.{vote_at}
use Rattle.codec.proofs.Made.{made}
use Rattle.record.proofs.Laws.{votes-values}
use Rattle.record.proofs.read_votes.Goals as goal

pub returns : goal.returns
returns c =
    made _ (λ q. vote_at c.args.b.now (c.args.at + 36 * q)) _ (λ q r f' k. search rules) _ _ c.from_fn.ensures.items
    ∙ votes-values c.args.b.now c.args.at _ 7 0 (omega arith)
