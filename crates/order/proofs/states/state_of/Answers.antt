use mathlib.Core.Path.{sym, ◌∙◌}
use Rattle.order.proofs.Stated.{state-out, state-open, state-settled, state-behind}
use Rattle.order.proofs.states.state_of.Goals as goal

pub returns-then-marked_of : goal.returns-then-marked_of
returns-then-marked_of c =
    let a = c in
    let m = c.marked_of.ensures in
    state-out _ _ _ _ _ _ _ a.requires (sym m ∙ c.if-marked_of.true)

pub returns-then-not-committed_of : goal.returns-then-not-committed_of
returns-then-not-committed_of c =
    let a = c in
    let m = c.marked_of.ensures in
    let d = c.committed_of.ensures in
    state-open _ _ _ _ _ _ _ a.requires (sym m ∙ c.if-marked_of.false) (sym d ∙ c.if-not-committed_of.true)

pub returns-then-behind_none : goal.returns-then-behind_none
returns-then-behind_none c =
    let a = c in
    let m = c.marked_of.ensures in
    let d = c.committed_of.ensures in
    state-settled _ _ _ _ _ _ _ a.requires _ c.slot_of.ensures.0 (sym m ∙ c.if-marked_of.false) (sym d ∙ c.if-not-committed_of.false) (sym c.behind_none.ensures ∙ c.if-behind_none.true)

pub returns : goal.returns
returns c =
    let a = c in
    let m = c.marked_of.ensures in
    state-behind _ _ _ _ _ _ _ a.requires _ c.slot_of.ensures.0 (sym m ∙ c.if-marked_of.false) (sym c.behind_none.ensures ∙ c.if-behind_none.false)
