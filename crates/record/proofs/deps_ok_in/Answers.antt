use mathlib.Core.Path.{ap, ◌∙◌}
use Rattle.paper.specs.Deps.{deps_ok}
use Rattle.record.proofs.Front.{deps-seven}
use Rattle.record.proofs.deps_ok_in.Goals as goal

pub returns-then-n-ge7 : goal.returns-then-n-ge7
returns-then-n-ge7 c =
    let a = c.args in
    c.deps_ok.ensures ∙ deps-seven a.n a.s _ c.if-n-ge7.true ∙ ap (deps_ok a.n a.s) c.read_deps-d.ensures

pub returns : goal.returns
returns c =
    let a = c.args in
    c.deps_ok-2.ensures ∙ ap (deps_ok a.n a.s) c.read_deps-d.ensures
