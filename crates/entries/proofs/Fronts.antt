-- What stands in front of a journal, outcome by outcome. Assumes nothing.
use Prim.Native.Nat.{ℕ, ◌≤◌, ◌<◌}
use mathlib.Core.Path.{◌≡◌, refl, ◌∙◌}
use mathlib.Core.Bool.{Bool, true, false}
use mathlib.Core.List.{List}
use native.Mathlib.Omega.{arith}
use lib.Dec.{ltb, eqb}
use lib.ListN.{length}
use borrow.Author.Tests.{eqb-false, ltb-false, eq-eqb, ne_eqb, lt-ltb, le-ltb}
use Rattle.std.specs.Prelude.{Result, Ok, Err}
use Rattle.paper.specs.Instance.{instance_ok}
use Rattle.entries.specs.declared.Fault.{Fault}
use Rattle.entries.specs.declared.Fault.TheVariants as fault
use Rattle.entries.specs.declared.Front.{Front}
use Rattle.entries.specs.declared.Front.TheVariants as front
use Rattle.entries.specs.declared.BadEntry.{BadEntry}
use Rattle.entries.specs.Entry.{entry_length, kind_in, owner_in, number_in, Fit}
use Rattle.entries.specs.Replay.{entry_ok, front_of, or_on}
use Rattle.entries.proofs.Lengths.{length-least}

-- what stands in front, outcome by outcome
module _ (n s c : ℕ) (f : ℕ → ℕ → Bool) (b : List ℕ) where
  pub front-none : length b ≡ 0 → Ok front.Rest ≡ front_of n s c f b
  unfolding front_of
  front-none e = rw (eq-eqb (length b) 0 e)

  module _ (some : length b ≡ 0 → ⊥) where
    pub front-kind : entry_length (kind_in b) ≡ 0 → Err fault.Kind ≡ front_of n s c f b
    unfolding front_of
    front-kind e = rw (ne_eqb (length b) 0 some, eq-eqb (entry_length (kind_in b)) 0 e)

    module _ (known : entry_length (kind_in b) ≡ 0 → ⊥) where
      pub front-short : length b < entry_length (kind_in b) → Ok front.Rest ≡ front_of n s c f b
      unfolding front_of
      front-short l = rw (ne_eqb (length b) 0 some, ne_eqb (entry_length (kind_in b)) 0 known, lt-ltb (length b) (entry_length (kind_in b)) l)

      pub front-range : entry_length (kind_in b) ≤ length b → instance_ok n s (owner_in b) (number_in b) ≡ false → Err fault.Instance ≡ front_of n s c f b
      unfolding front_of
      front-range l r = rw (ne_eqb (length b) 0 some, ne_eqb (entry_length (kind_in b)) 0 known, le-ltb (length b) (entry_length (kind_in b)) l, r)

  module _ (g : Fit n s b) where
    some : length b ≡ 0 → ⊥
    some e = omega (arith, length-least (kind_in b) g.known, g.whole)

    pub front-unsound : entry_ok n s c f b ≡ false → Err fault.Unsound ≡ front_of n s c f b
    unfolding front_of
    front-unsound k = rw (ne_eqb (length b) 0 some, ne_eqb (entry_length (kind_in b)) 0 g.known, le-ltb (length b) (entry_length (kind_in b)) g.whole, g.range, k)

    pub front-whole : entry_ok n s c f b ≡ true → Ok front.Whole ≡ front_of n s c f b
    unfolding front_of
    front-whole k = rw (ne_eqb (length b) 0 some, ne_eqb (entry_length (kind_in b)) 0 g.known, le-ltb (length b) (entry_length (kind_in b)) g.whole, g.range, k)

  -- what is whole is neither a rest nor bad
  clash-rest : {A : Type 0} → ◌≡◌ {A = Result Front Fault} (Ok front.Whole) (Ok front.Rest) → A
  clash-rest e = let z : ◌≡◌ {A = ℕ} 0 1 = cc in absurd (omega arith)

  clash-bad : {A : Type 0} (x : Fault) → ◌≡◌ {A = Result Front Fault} (Ok front.Whole) (Err x) → A
  clash-bad x e = let z : ◌≡◌ {A = ℕ} 0 1 = cc in absurd (omega arith)

  -- and what a whole entry tells
  pub front-fit : n ≤ 7 → s ≤ 64 → Ok front.Whole ≡ front_of n s c f b → Fit n s b × (entry_ok n s c f b ≡ true)
  unfolding front_of
  front-fit ln ls e =
      go (eqb (length b) 0) (eqb (entry_length (kind_in b)) 0) (ltb (length b) (entry_length (kind_in b))) (instance_ok n s (owner_in b) (number_in b)) (entry_ok n s c f b) refl refl refl refl refl
    where
      go : (x y z u v : Bool) → eqb (length b) 0 ≡ x → eqb (entry_length (kind_in b)) 0 ≡ y → ltb (length b) (entry_length (kind_in b)) ≡ z
          → instance_ok n s (owner_in b) (number_in b) ≡ u → entry_ok n s c f b ≡ v → Fit n s b × (entry_ok n s c f b ≡ true)
      go true y z u v p q r w k = clash-rest (e ∙ rw p)
      go false true z u v p q r w k = clash-bad fault.Kind (e ∙ rw (p, q))
      go false false true u v p q r w k = clash-rest (e ∙ rw (p, q, r))
      go false false false false v p q r w k = clash-bad fault.Instance (e ∙ rw (p, q, r, w))
      go false false false true false p q r w k = clash-bad fault.Unsound (e ∙ rw (p, q, r, w, k))
      go false false false true true p q r w k =
          (record { known = eqb-false (entry_length (kind_in b)) 0 q; whole = ltb-false (length b) (entry_length (kind_in b)) r; copies = ln; numbers = ls; range = w }, k)

-- only the instance in front is asked for
pub front_same : (n s c : ℕ) (f g : ℕ → ℕ → Bool) (b : List ℕ)
    → (instance_ok n s (owner_in b) (number_in b) ≡ true → f (owner_in b) (number_in b) ≡ g (owner_in b) (number_in b)) → front_of n s c f b ≡ front_of n s c g b
unfolding front_of
front_same n s c f g b h = go (instance_ok n s (owner_in b) (number_in b)) refl
  where
    go : (x : Bool) → instance_ok n s (owner_in b) (number_in b) ≡ x → front_of n s c f b ≡ front_of n s c g b
    go true e = rw (h e)
    go false e = rw e

-- a walk stops at a rest, and at what is bad
pub or-rests : (at : ℕ) (on : Result ℕ BadEntry) → Ok at ≡ or_on (Ok front.Rest) at on
or-rests at on = refl

pub or-stops : (f : Fault) (at : ℕ) (on : Result ℕ BadEntry) → Err (record { why = f; offset = at }) ≡ or_on (Err f) at on
or-stops f at on = refl
