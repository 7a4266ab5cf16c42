-- From a test to a fact and back. Assumes nothing.
use Prim.Native.Nat.{ℕ, ◌≤◌, ◌<◌}
use mathlib.Core.Path.{◌≡◌, refl}
use mathlib.Core.Logic.{◌⊎◌, inl, inr}
use mathlib.Core.Bool.{Bool, true, false, ◌&&◌, ◌||◌, not, cond}
use native.Mathlib.Omega.{arith}
use lib.Dec.{T, leb, ltb, eqb, leb→le, le→leb, nleb→lt, ltb→lt, lt→ltb, nltb→le, eqb→eq, eqb_refl}

-- a contradiction of two constructors: `clash (cc)`
pub clash : {A : Type 0} → ◌≡◌ {A = ℕ} 0 1 → A
clash z = absurd (omega arith)

pub tf : {A : Type 0} (b : Bool) → b ≡ true → b ≡ false → A
tf b p q = clash (cc)

pub is_true : (b : Bool) → T b → b ≡ true
is_true true u = refl
is_true false u = absurd u

pub bool : (b : Bool) → (b ≡ true) ⊎ (b ≡ false)
bool true = inl refl
bool false = inr refl

pub not-true : (b : Bool) → (b ≡ true → ⊥) → b ≡ false
not-true true n = absurd (n refl)
not-true false n = refl

pub not-not : (b : Bool) → not b ≡ true → b ≡ false
not-not true e = clash (cc)
not-not false e = refl

pub not-false : (b : Bool) → not b ≡ false → b ≡ true
not-false true e = refl
not-false false e = clash (cc)

pub and_l : (a b : Bool) → (a && b) ≡ true → a ≡ true
and_l true b e = refl
and_l false b e = e

pub and_r : (a b : Bool) → (a && b) ≡ true → b ≡ true
and_r true b e = e
and_r false b e = clash (cc)

pub and_in : (a b : Bool) → a ≡ true → b ≡ true → (a && b) ≡ true
and_in a b e f = rw (e, f) refl

pub or_cases : (a b : Bool) → (a || b) ≡ true → (a ≡ true) ⊎ (b ≡ true)
or_cases true b e = inl refl
or_cases false b e = inr e

pub eqb-eq : (m n : ℕ) → eqb m n ≡ true → m ≡ n
eqb-eq m n e = eqb→eq m n (rw e tt)

pub eqb_same : (m n : ℕ) → m ≡ n → eqb m n ≡ true
eqb_same m n e = rw e (is_true (eqb n n) (eqb_refl n))

pub eqb-ne : (m n : ℕ) → eqb m n ≡ false → m ≡ n → ⊥
eqb-ne m n e q = tf (eqb m n) (eqb_same m n q) e

pub eqb-false : (m n : ℕ) → (m ≡ n → ⊥) → eqb m n ≡ false
eqb-false m n k = not-true (eqb m n) (λ e. k (eqb-eq m n e))

pub leb-le : (m n : ℕ) → leb m n ≡ true → m ≤ n
leb-le m n e = leb→le m n (rw e tt)

pub leb-in : (m n : ℕ) → m ≤ n → leb m n ≡ true
leb-in m n l = is_true (leb m n) (le→leb m n l)

pub leb-gt : (m n : ℕ) → leb m n ≡ false → n < m
leb-gt m n e = nleb→lt m n (rw e tt)

pub ltb-lt : (m n : ℕ) → ltb m n ≡ true → m < n
ltb-lt m n e = ltb→lt m n (rw e tt)

pub ltb-in : (m n : ℕ) → m < n → ltb m n ≡ true
ltb-in m n l = is_true (ltb m n) (lt→ltb m n l)

pub ltb-ge : (m n : ℕ) → ltb m n ≡ false → n ≤ m
ltb-ge m n e = nltb→le m n (rw e tt)

-- what holds of both branches of a test, each where it is taken, holds of the whole
pub by_cond : {A : Type 0} (P : A → Type 0) (b : Bool) {x y : A} → (b ≡ true → P x) → (b ≡ false → P y) → P (cond b x y)
by_cond P true f g = f refl
by_cond P false f g = g refl
