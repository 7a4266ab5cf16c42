-- An entry by its kind: how long it is, and that one that fits has its parts and names an instance. Assumes nothing.
use Prim.Native.Nat.{ℕ, ◌+◌, ◌≤◌, ◌<◌}
use mathlib.Core.Path.{◌≡◌, refl, ap}
use mathlib.Core.Bool.{Bool, true, false}
use mathlib.Core.List.{List}
use native.Mathlib.Omega.{arith}
use lib.Dec.{leb, eqb}
use lib.ListN.{length, length-take, length-drop}
use borrow.Author.Tests.{leb-true, ltb-true}
use Rattle.std.specs.Prelude.{Some, None}
use Rattle.paper.specs.Instance.{instance_ok, owner_ok, number_ok}
use Rattle.paper.proofs.Laws.{and-true}
use Rattle.table.specs.Sizes.{Names}
use Rattle.table.specs.Calls.{part_size}
use Rattle.entries.specs.declared.Kind.{Kind}
use Rattle.entries.specs.declared.Kind.TheVariants as kind
use Rattle.entries.specs.Entry.{record_kind, mark_kind, kind_of, kind_length, length_of, entry_head, entry_length, kind_in, owner_in, number_in, part_in}
use Rattle.entries.specs.Entry.{Fit}

-- an entry of a known kind has a head at least
pub length-least : (k : ℕ) → (entry_length k ≡ 0 → ⊥) → entry_head ≤ entry_length k
length-least k h = go (eqb k record_kind) (eqb k mark_kind) refl refl
  where
    go : (x y : Bool) → eqb k record_kind ≡ x → eqb k mark_kind ≡ y → entry_head ≤ entry_length k
    go true y e f = rw e (omega arith)
    go false true e f = rw (e, f) (omega arith)
    go false false e f = absurd (h (rw (e, f)))

pub kind-least : (x : Kind) → entry_head ≤ kind_length x
kind-least kind.Record = omega arith
kind-least kind.Mark = omega arith

-- the length of a kind by its number
pub kind-known : (k : ℕ) {x : Kind} → kind_of k ≡ Some x → entry_length k ≡ kind_length x
kind-known k e = ap length_of e

pub kind-some : (k : ℕ) {x : Kind} → kind_of k ≡ Some x → entry_length k ≡ 0 → ⊥
kind-some k {x} e z = omega (arith, kind-known k e, kind-least x)

pub kind-unknown : (k : ℕ) → kind_of k ≡ None → entry_length k ≡ 0
kind-unknown k e = ap length_of e

-- one that carries a record has that too
pub length-record : (k : ℕ) → eqb k record_kind ≡ true → entry_length k ≡ entry_head + part_size
length-record k e = rw e

-- an instance in range, by name
pub range-names : (n s o j : ℕ) → n ≤ 7 → s ≤ 64 → instance_ok n s o j ≡ true → Names n s o j
unfolding instance_ok
range-names n s o j ln ls h =
    let p = and-true (owner_ok n o) (number_ok s j) h in
    let q = and-true (leb 1 j) (leb j s) p.1 in
    record { copies = ln; numbers = ls; owner = ltb-true o n p.0; first = leb-true 1 j q.0; last = leb-true j s q.1 }

-- what one that fits has
module _ (n s : ℕ) (b : List ℕ) (f : Fit n s b) where
  pub fit-head : entry_head ≤ length b
  fit-head = omega (arith, length-least (kind_in b) f.known, f.whole)

  -- all of its record, if it carries one
  pub fit-part : eqb (kind_in b) record_kind ≡ true → entry_head + part_size ≤ length b
  fit-part e = omega (arith, length-record (kind_in b) e, f.whole)

  pub part-size : eqb (kind_in b) record_kind ≡ true → length (part_in b) ≡ part_size
  part-size e = simp (length-take, length-drop) (omega (arith, fit-part e))

  pub fit-names : Names n s (owner_in b) (number_in b)
  fit-names = range-names n s (owner_in b) (number_in b) f.copies f.numbers f.range

  -- and a place among the statuses
  pub fit-slot : {o j : ℕ} → o ≡ owner_in b → j ≡ number_in b → (o < 7) × (1 ≤ j) × (j ≤ 64)
  fit-slot eo ej =
      let a = fit-names in
      (omega (arith, a.owner, f.copies), omega (arith, a.first), omega (arith, a.last, f.numbers))
