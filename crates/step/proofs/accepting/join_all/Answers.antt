use Rattle.std.proofs.Common.{rules, ◌≡◌, length, refl, sym, ◌∙◌, arith}
use Rattle.std.proofs.lemmas.List.{at_drop_more, at_drop_all}
use Rattle.rules.specs.Accepting.{join_all}
use Rattle.step.proofs.accepting.join_all.Goals as goal

pub loop-v-init : goal.loop-v-init
loop-v-init c = refl

pub loop-v-preserved : goal.loop-v-preserved
unfolding join_all
loop-v-preserved c =
    let l : length c.args.vs ≡ 7 = search rules in
    rw c.join-joined.ensures (sym (at_drop_more (join_all c.loop-v.all) c.args.vs c.loop-v.v-index _ (omega arith)) ∙ c.loop-v.invariant)

pub returns : goal.returns
unfolding join_all
returns c = sym (at_drop_all (join_all c.loop-v.all) c.args.vs _ (omega arith)) ∙ c.loop-v.invariant
