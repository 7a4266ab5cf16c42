use Rattle.std.proofs.Common.{sym, ◌∙◌}
use borrow.Author.Tests.{eq-eqb, ne_eqb}
use Rattle.rules.specs.Sets.{those}
use Rattle.rules.specs.PrepareOk.{voter, top_accepter, same_voter, accepted_from}
use Rattle.sets.proofs.Laws.{lowest_those}
use Rattle.decide.proofs.accepted_from.Goals as goal

pub returns-then-accepters-ne0 : goal.returns-then-accepters-ne0
unfolding accepted_from
returns-then-accepters-ne0 c =
    let r = c.args.r.now in
    let e = lowest_those (top_accepter r) c.top_accepters-accepters.ensures c.lowest.ensures in
    sym (rw (ne_eqb (those (voter r)) 0 (λ z. c.if-voters-eq0.false (c.voters.ensures ∙ z)), ne_eqb (those (top_accepter r)) 0 (λ z. c.if-accepters-ne0.true (c.top_accepters-accepters.ensures ∙ z))) (sym e))

pub returns-then-maybe_fast : goal.returns-then-maybe_fast
unfolding accepted_from
returns-then-maybe_fast c =
    let r = c.args.r.now in
    let e = lowest_those (same_voter r) c.same_voters.ensures c.lowest-then-maybe_fast.ensures in
    sym (rw (ne_eqb (those (voter r)) 0 (λ z. c.if-voters-eq0.false (c.voters.ensures ∙ z)), eq-eqb (those (top_accepter r)) 0 (sym c.top_accepters-accepters.ensures ∙ c.if-accepters-ne0.false), sym c.maybe_fast.ensures ∙ c.if-maybe_fast.true) (sym e))
