-- A refusal leaves buffer and place as they were, and so does a stop. Assumes nothing.
use mathlib.Core.Path.{◌≡◌, refl, sym, ap, ◌∙◌}
use mathlib.Core.Bool.{Bool, true, false}
use mathlib.Core.List.{List}
use Prim.Native.Nat.{ℕ}
use lib.ListN.{length}
use Rattle.std.specs.Prelude.{Result, Ok, Err}
use Rattle.paper.specs.declared.Refusal.{Refusal}
use Rattle.stream.specs.declared.place.Place.{Place}
use Rattle.stream.specs.declared.place.Halt.{Halt}
use Rattle.stream.specs.Place.{held, gate_of}
use Rattle.stream.specs.Stream.{is_stopped, Filled, unchanged, taken, place_after, yielded, passed}
use Rattle.stream.proofs.Laws.{taken-shut, taken-stopped, taken-fills}

module _ (b : List ℕ) (p : Place) (r : Halt) where
  pub take-refused : (x : List ℕ) → (taken b p x).told ≡ Err r → (taken b p x ≡ unchanged b r) × (place_after p (taken b p x).told ≡ p)
  take-refused x e = (go (gate_of (length b) p) (is_stopped (held b p)) refl refl, rw e)
    where
      other : {y : Filled} → taken b p x ≡ y → y.told ≡ Err r
      other q = ap (λ (z : Filled). z.told) (sym q) ∙ e

      go : (g : Result Unit Refusal) (s : Bool) → gate_of (length b) p ≡ g → is_stopped (held b p) ≡ s → taken b p x ≡ unchanged b r
      go (Err t) s q h = let f = taken-shut b p x (sym q) in let u = other f in cc
      go (Ok u) true q h = let f = taken-stopped b p x (sym q) h in let u = other f in cc
      go (Ok u) false q h = let f = other (taken-fills b p x (sym q) h) in absurd (cc)

  pub next-refused : yielded b p ≡ Err r → passed b p ≡ p
  next-refused e = rw e
