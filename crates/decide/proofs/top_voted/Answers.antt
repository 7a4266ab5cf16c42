use Rattle.std.proofs.Common.{ℕ, refl, sym, ap, ◌∙◌}
use Rattle.paper.specs.declared.Vote.{Vote}
use Rattle.rules.specs.Sets.{largest_below}
use Rattle.rules.specs.PrepareOk.{told_by, voter}
use Rattle.decide.proofs.Laws.{top_in, top_out}
use Rattle.decide.proofs.top_voted.Goals.{then-voter, else-voter}
use Rattle.decide.proofs.top_voted.Goals as goal

pub loop-q-init : goal.loop-q-init
unfolding largest_below
loop-q-init c = refl

pub loop-q-preserved : goal.loop-q-preserved
loop-q-preserved c =
    let r = c.args.r.now in
    let told : ℕ → ℕ = λ q. (told_by r q).voted in
    elim c.if-voter.branch [
      | then-voter w ↦ w.top-is ∙ w.max-top.ensures ∙ top_in (voter r) told c.loop-q.q c.loop-q.top _ (sym c.voter.ensures ∙ w.if-voter.true) (ap (λ (v : Vote). v.voted) w.told_by.ensures) c.loop-q.invariant
      | else-voter w ↦ w.top-is ∙ top_out (voter r) told c.loop-q.q c.loop-q.top (sym c.voter.ensures ∙ w.if-voter.false) c.loop-q.invariant
    ]
