-- From tests to facts and back. Assumes nothing.
use Prim.Native.Nat.{ℕ, zero, suc, ◌<◌}
use mathlib.Core.Path.{◌≡◌, refl}
use mathlib.Core.Logic.{◌⊎◌, inl, inr}
use mathlib.Core.Bool.{Bool, true, false, ◌&&◌, ◌||◌, not, cond}
use native.Mathlib.Omega.{arith}
use lib.Dec.{eqb}
use borrow.Author.Tests.{eq-eqb}
use Rattle.paper.specs.Logic.{implies, all_below}

-- a contradiction of two constructors: `clash (cc)`
pub clash : {A : Type 0} → ◌≡◌ {A = ℕ} 0 1 → A
clash z = absurd (omega arith)

pub tf : {A : Type 0} (b : Bool) → b ≡ true → b ≡ false → A
tf b p q = clash (cc)

pub is_false : (b : Bool) → (b ≡ true → ⊥) → b ≡ false
is_false true n = absurd (n refl)
is_false false n = refl

pub not_in : (b : Bool) → b ≡ false → not b ≡ true
not_in b e = rw e

pub eqb-self : (m : ℕ) → eqb m m ≡ true
eqb-self m = eq-eqb m m refl

-- two to five: what a conjunction that holds says, and a conjunction from its parts
pub two : (a b : Bool) → (a && b) ≡ true → (a ≡ true) × (b ≡ true)
two true b e = (refl, e)
two false b e = clash (cc)

pub three : (a b c : Bool) → (a && b && c) ≡ true → (a ≡ true) × (b ≡ true) × (c ≡ true)
three a b c e = let (p, q) = two (a && b) c e in let (f, g) = two a b p in (f, g, q)

pub four : (a b c d : Bool) → (a && b && c && d) ≡ true → (a ≡ true) × (b ≡ true) × (c ≡ true) × (d ≡ true)
four a b c d e = let (p, q) = two (a && b && c) d e in let (f, g, h) = three a b c p in (f, g, h, q)

pub five : (a b c d x : Bool) → (a && b && c && d && x) ≡ true → (a ≡ true) × (b ≡ true) × (c ≡ true) × (d ≡ true) × (x ≡ true)
five a b c d x e = let (p, q) = two (a && b && c && d) x e in let (f, g, h, k) = four a b c d p in (f, g, h, k, q)

pub both : (a b : Bool) → a ≡ true → b ≡ true → (a && b) ≡ true
both a b e f = rw (e, f)

pub or_cases : (a b : Bool) → (a || b) ≡ true → (a ≡ true) ⊎ (b ≡ true)
or_cases true b e = inl refl
or_cases false b e = inr e

pub or_r : (a b : Bool) → b ≡ true → (a || b) ≡ true
or_r true b e = refl
or_r false b e = e

-- a test that is asked only where another holds
pub imp-in : (a b : Bool) → (a ≡ true → b ≡ true) → implies a b ≡ true
imp-in true b h = h refl
imp-in false b h = refl

pub imp-at : (a b : Bool) → implies a b ≡ true → a ≡ true → b ≡ true
imp-at true b h e = h
imp-at false b h e = clash (cc)

-- what holds of both branches of a test, each where it is taken, holds of the whole
pub by_cond : {A : Type 0} (P : A → Type 0) (b : Bool) {x y : A} → (b ≡ true → P x) → (b ≡ false → P y) → P (cond b x y)
by_cond P true f g = f refl
by_cond P false f g = g refl

-- a test of each number below n, from a test of each
pub all_in : (n : ℕ) (f : ℕ → Bool) → ((k : ℕ) → k < n → f k ≡ true) → all_below n f ≡ true
unfolding all_below
all_in zero f h = refl
all_in (suc n) f h = rw (h n (omega arith), all_in n f (λ k l. h k (omega arith)))
