use mathlib.Core.Path.{◌≡◌, sym, ap, ◌∙◌}
use native.Mathlib.Omega.{arith}
use borrow.Author.Tests.{eqb-true, eqb-false}
use lib.ListN.{length}
use Rattle.std.specs.Prelude.{Some, Result, Err}
use Rattle.std.proofs.lemmas.Result.{err_from_is_err_and}
use Rattle.entries.specs.declared.Kind.{Kind}
use Rattle.entries.specs.declared.Fault.{Fault}
use Rattle.entries.specs.Entry.{kind_of, kind_in}
use Rattle.entries.proofs.Lengths.{kind-known, kind-some, kind-least, kind-unknown}
use Rattle.entries.proofs.Fronts.{front-none, front-kind, front-short, front-range, front-unsound, front-whole}
use Rattle.journal.proofs.Judged.{in-range, fits_in}
use Rattle.journal.proofs.judging.front_of.Goals as goal

pub returns-then-is_empty : goal.returns-then-is_empty
returns-then-is_empty c = front-none _ _ _ _ _ (eqb-true (length c.args.b.now) 0 (sym c.if-is_empty.ensures))

-- the fault of an answer without a kind
why : {f g : Fault} → ◌≡◌ {A = Result Kind Fault} (Err f) (Err g) → f ≡ g
why e = cc

pub returns-in_err-kind : goal.returns-in_err-kind
returns-in_err-kind c =
    let p = err_from_is_err_and c.from_residual.result c.from_residual.ensures.1 in
    let h = c.in_err-kind.ensures in
    let v = why (rw h.ok_part at h.value) in
    let k = kind-unknown (kind_in c.args.b.now) (sym (c.of.ensures ∙ ap kind_of c.kind_in.ensures) ∙ h.ok_part) in
    rw (p.1, p.2, v) (front-kind _ _ _ _ _ (eqb-false (length c.args.b.now) 0 (sym c.if-is_empty.ensures)) k)

pub returns-then-b-kind_length : goal.returns-then-b-kind_length
returns-then-b-kind_length c =
    let k : kind_of (kind_in c.args.b.now) ≡ Some c.in_ok-kind.kind = sym (c.of.ensures ∙ ap kind_of c.kind_in.ensures) ∙ c.in_ok-kind.ensures.ok_part in
    front-short _ _ _ _ _ (eqb-false (length c.args.b.now) 0 (sym c.if-is_empty.ensures)) (kind-some (kind_in c.args.b.now) k)
    (omega (arith, kind-known (kind_in c.args.b.now) k, c.kind_length.ensures, c.if-b-kind_length.true))

pub owner_in-requires : goal.owner_in-requires
owner_in-requires c = omega (arith, kind-least c.in_ok-kind.kind, c.kind_length.ensures, c.if-b-kind_length.false)

pub number_in-requires : goal.number_in-requires
number_in-requires c = omega (arith, kind-least c.in_ok-kind.kind, c.kind_length.ensures, c.if-b-kind_length.false)

pub returns-then-not-instance_ok : goal.returns-then-not-instance_ok
returns-then-not-instance_ok c =
    let k : kind_of (kind_in c.args.b.now) ≡ Some c.in_ok-kind.kind = sym (c.of.ensures ∙ ap kind_of c.kind_in.ensures) ∙ c.in_ok-kind.ensures.ok_part in
    let r = in-range _ _ c.args.b.now c.owner_in.ensures c.number_in.ensures c.instance_ok.ensures in
    front-range _ _ _ _ _ (eqb-false (length c.args.b.now) 0 (sym c.if-is_empty.ensures)) (kind-some (kind_in c.args.b.now) k)
    (omega (arith, kind-known (kind_in c.args.b.now) k, c.kind_length.ensures, c.if-b-kind_length.false)) (sym r ∙ c.if-not-instance_ok.true)

pub entry_ok-requires : goal.entry_ok-requires
entry_ok-requires c =
    let k : kind_of (kind_in c.args.b.now) ≡ Some c.in_ok-kind.kind = sym (c.of.ensures ∙ ap kind_of c.kind_in.ensures) ∙ c.in_ok-kind.ensures.ok_part in
    (c.requires, fits_in _ _ _ c.owner_in.ensures c.number_in.ensures c.instance_ok.ensures c.requires.copies c.requires.numbers k (omega (arith, c.kind_length.ensures, c.if-b-kind_length.false)) c.if-not-instance_ok.false)

pub returns-then-not-entry_ok : goal.returns-then-not-entry_ok
returns-then-not-entry_ok c =
    let k : kind_of (kind_in c.args.b.now) ≡ Some c.in_ok-kind.kind = sym (c.of.ensures ∙ ap kind_of c.kind_in.ensures) ∙ c.in_ok-kind.ensures.ok_part in
    front-unsound _ _ _ _ _ (fits_in _ _ _ c.owner_in.ensures c.number_in.ensures c.instance_ok.ensures c.requires.copies c.requires.numbers k (omega (arith, c.kind_length.ensures, c.if-b-kind_length.false)) c.if-not-instance_ok.false)
    (sym c.entry_ok.ensures ∙ c.if-not-entry_ok.true)

pub returns : goal.returns
returns c =
    let k : kind_of (kind_in c.args.b.now) ≡ Some c.in_ok-kind.kind = sym (c.of.ensures ∙ ap kind_of c.kind_in.ensures) ∙ c.in_ok-kind.ensures.ok_part in
    front-whole _ _ _ _ _ (fits_in _ _ _ c.owner_in.ensures c.number_in.ensures c.instance_ok.ensures c.requires.copies c.requires.numbers k (omega (arith, c.kind_length.ensures, c.if-b-kind_length.false)) c.if-not-instance_ok.false)
    (sym c.entry_ok.ensures ∙ c.if-not-entry_ok.false)
