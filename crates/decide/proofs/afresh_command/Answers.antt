use Rattle.std.proofs.Common.{rules, ◌≡◌, length, sym, ap, ◌∙◌, arith}
use lib.ListN.{get_or-eq_default}
use borrow.Author.Tests.{ne_eqb}
use Rattle.paper.specs.Vote.{no_vote}
use Rattle.paper.specs.declared.Vote.{Vote}
use Rattle.rules.specs.Sets.{those}
use Rattle.rules.specs.PrepareOk.{voter, top_voter, afresh_command}
use Rattle.sets.proofs.Laws.{lowest_those}
use Rattle.decide.proofs.afresh_command.Goals as goal

pub returns-then-q-lt7 : goal.returns-then-q-lt7
unfolding afresh_command
returns-then-q-lt7 c =
    let r = c.args.r in
    let e = lowest_those (top_voter r) c.top_voters.ensures c.lowest-q.ensures in
    sym (rw (ne_eqb (those (voter r)) 0 (λ z. c.if-voters-eq0.false (c.voters.ensures ∙ z)), ← e, ← c.told_by.ensures))

pub returns-else-q-lt7 : goal.returns-else-q-lt7
unfolding afresh_command
returns-else-q-lt7 c =
    let r = c.args.r in
    let q = c.lowest-q.result in
    let l : length r.replies ≡ 7 = search rules in
    let e = lowest_those (top_voter r) c.top_voters.ensures c.lowest-q.ensures in
    c.noop-else-q-lt7.ensures
    ∙ sym (rw (ne_eqb (those (voter r)) 0 (λ z. c.if-voters-eq0.false (c.voters.ensures ∙ z)), ← e) (ap (λ (v : Vote). v.command) (get_or-eq_default r.replies no_vote {n = q} (omega arith))))
