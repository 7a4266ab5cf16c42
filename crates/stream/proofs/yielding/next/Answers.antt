use mathlib.Core.Path.{◌≡◌, sym, ◌∙◌}
use mathlib.Core.Bool.{false}
use Rattle.std.specs.Prelude.{Some, None}
use Rattle.stream.specs.Place.{held}
use Rattle.stream.specs.Stream.{is_stopped, whole_length}
use Rattle.stream.proofs.Laws.{open-within, front-within, yielded-open, yields, waits, no_front}
use Rattle.stream.proofs.yielding.next.Goals as goal

pub held-held-requires : goal.held-held-requires
held-held-requires c = open-within _ _ (sym c.in_ok-gate_of.was ∙ c.gate_of.ensures)

pub behind-place-requires : goal.behind-place-requires
behind-place-requires c =
    let e : whole_length (held c.args.buf.now c.args.p) ≡ Some c.in-Some.length = cc in
    front-within c.args.buf.now c.args.p (open-within _ _ (sym c.in_ok-gate_of.was ∙ c.gate_of.ensures)) e

pub returns-in-Some : goal.returns-in-Some
returns-in-Some c =
    let e : whole_length (held c.args.buf.now c.args.p) ≡ Some c.in-Some.length = cc in
    rw (yielded-open _ _ (sym c.in_ok-gate_of.was ∙ c.gate_of.ensures)) (yields _ c.args.p e c.behind-place.ensures)

pub returns : goal.returns
returns c =
    let n : whole_length (held c.args.buf.now c.args.p) ≡ None = cc in
    let s : is_stopped (held c.args.buf.now c.args.p) ≡ false = cc in
    rw (yielded-open _ _ (sym c.in_ok-gate_of.was ∙ c.gate_of.ensures)) (waits _ c.args.p s (no_front _ n))
