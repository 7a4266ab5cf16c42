use mathlib.Core.Path.{ap, ap₂, ◌∙◌}
use Prim.Native.Nat.{ℕ}
use native.Mathlib.Omega.{arith}
use Rattle.paper.specs.Message.{body_of, parts_of}
use Rattle.paper.specs.declared.Parts.{Parts}
use Rattle.wire.specs.Wire.{carried_at, beside_at, message_at}
use Rattle.wire.proofs.Laws.{begins}
use Rattle.wire.proofs.message_at.Goals as goal

pub get-from-requires : goal.get-from-requires
get-from-requires c = let s = c in omega (arith, s.requires.exact, begins s.args.p 10)

pub get-to-requires : goal.get-to-requires
get-to-requires c = let s = c in omega (arith, s.requires.exact, begins s.args.p 10)

pub get-owner-requires : goal.get-owner-requires
get-owner-requires c = let s = c in omega (arith, s.requires.exact, begins s.args.p 10)

pub get-number-requires : goal.get-number-requires
get-number-requires c = let s = c in omega (arith, s.requires.exact, begins s.args.p 10)

pub get-ballot-requires : goal.get-ballot-requires
get-ballot-requires c = let s = c in omega (arith, s.requires.exact, begins s.args.p 10)

pub read_body-body-requires : goal.read_body-body-requires
read_body-body-requires c = c.requires.exact

pub read_beside-deps-requires : goal.read_beside-deps-requires
read_beside-deps-requires c = c.requires.exact

pub returns : goal.returns
unfolding message_at
returns c =
    let s = c in
    let b = s.args.b.now in
    let parts = s.requires.parts ∙ ap parts_of s.requires.kind in
    let body = c.read_body-body.ensures ∙ ap₂ (λ (k : ℕ) (p : Parts). body_of k (carried_at p b)) s.requires.kind parts in
    let deps = c.read_beside-deps.ensures ∙ ap (λ (p : Parts). beside_at p b) parts in
    λ i. record {
      from = c.get-from.ensures i;
      to = c.get-to.ensures i;
      owner = c.get-owner.ensures i;
      number = c.get-number.ensures i;
      ballot = c.get-ballot.ensures i;
      body = body i;
      deps = deps i;
    }
