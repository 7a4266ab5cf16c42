use mathlib.Core.Path.{sym, ◌∙◌}
use Rattle.table.proofs.Laws.{names}
use Rattle.order.proofs.Judged.{passed-long}
use Rattle.order.proofs.Asked.{searching, searched, settled-6, settled-waits, settled-gives}
use Rattle.order.proofs.settled.settled_open.Goals as goal

pub returns-in-Some : goal.returns-in-Some
returns-in-Some c = settled-waits _ _ c.args.c _ _ _ _ _ (sym c.instance_ok.ensures ∙ c.if-not-instance_ok.false) (sym c.in-Some.is ∙ c.first_open-found.ensures)

pub returns : goal.returns
returns c = settled-gives _ _ c.args.c _ _ _ (sym c.instance_ok.ensures ∙ c.if-not-instance_ok.false) (sym c.in_default.is ∙ c.first_open-found.ensures) c.load-r.ensures

pub returns-then-not-instance_ok : goal.returns-then-not-instance_ok
returns-then-not-instance_ok c = settled-6 _ _ c.args.c _ _ _ (sym c.instance_ok.ensures ∙ c.if-not-instance_ok.true)

pub explore-requires : goal.explore-requires
explore-requires c = searching _ _ _ _ _ _ c.requires (sym c.instance_ok.ensures ∙ c.if-not-instance_ok.false)

pub first_open-found-requires : goal.first_open-found-requires
first_open-found-requires c = searched _ _ _ _ _ _ c.requires _ c.explore.ensures

pub load-r-requires : goal.load-r-requires
load-r-requires c =
    let g = c.requires in
    let i = sym c.instance_ok.ensures ∙ c.if-not-instance_ok.false in
    record { names = names _ _ _ _ _ _ g.setup i; long = passed-long _ _ _ _ g }
