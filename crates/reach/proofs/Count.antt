-- Sets as functions to Bool: counts, and quorums that meet, once over F. Assumes nothing.
use Prim.Native.Nat.{ℕ, zero, suc, ◌+◌, ◌*◌, ◌≤◌, ◌<◌}
use mathlib.Core.Path.{◌≡◌, refl}
use mathlib.Core.Bool.{Bool, true, false}
use native.Mathlib.Omega.{arith}
use native.Mathlib.Decide.{dec_lt}

abbrev pub one-if : Bool → ℕ
one-if true = 1
one-if false = 0

abbrev pub both : Bool → Bool → Bool
both true b = b
both false b = false

-- how many of 0 .. n-1 are in the set p
unfoldable pub cnt : ℕ → (ℕ → Bool) → ℕ
cnt zero p = 0
cnt (suc n) p = one-if (p n) + cnt n p

pub cnt-le : (n : ℕ) (p : ℕ → Bool) → cnt n p ≤ n
unfolding cnt
cnt-le zero p = omega arith
cnt-le (suc n) p = go (p n) (cnt-le n p)
  where
    go : (b : Bool) → cnt n p ≤ n → one-if b + cnt n p ≤ suc n
    go true h = omega arith
    go false h = omega arith

-- inclusion and exclusion
pub cnt-both : (n : ℕ) (p q : ℕ → Bool) → cnt n p + cnt n q ≤ n + cnt n (λ i. both (p i) (q i))
unfolding cnt
cnt-both zero p q = omega arith
cnt-both (suc n) p q = go (p n) (q n) (cnt-both n p q)
  where
    go : (a b : Bool) → cnt n p + cnt n q ≤ n + cnt n (λ i. both (p i) (q i))
        → (one-if a + cnt n p) + (one-if b + cnt n q) ≤ suc n + (one-if (both a b) + cnt n (λ i. both (p i) (q i)))
    go true true h = omega arith
    go true false h = omega arith
    go false true h = omega arith
    go false false h = omega arith

-- a set with a member
pub member : (n : ℕ) (p : ℕ → Bool) → 0 < cnt n p → (i : ℕ) × (i < n) × (p i ≡ true)
unfolding cnt
member zero p h = absurd (omega arith)
member (suc n) p h = go (p n) refl (member n p) h
  where
    go : (b : Bool) → p n ≡ b → (0 < cnt n p → (i : ℕ) × (i < n) × (p i ≡ true)) → 0 < one-if b + cnt n p
        → (i : ℕ) × (i < suc n) × (p i ≡ true)
    go true e ih h = (n, omega arith, e)
    go false e ih h = let (i, l, m) = ih (omega arith) in (i, omega arith, m)

pub both_true : (a b : Bool) → both a b ≡ true → (a ≡ true) × (b ≡ true)
both_true true b e = (refl, e)
both_true false b e = (e, absurd (let z : ◌≡◌ {A = ℕ} 0 1 = cc in omega arith))

-- two sets that together outnumber n share a member
pub meet : (n : ℕ) (p q : ℕ → Bool) → n < cnt n p + cnt n q → (i : ℕ) × (i < n) × (p i ≡ true) × (q i ≡ true)
meet n p q h =
    let (i, l, e) = member n (λ i. both (p i) (q i)) (omega (arith, cnt-both n p q)) in
    let (a, b) = both_true (p i) (q i) e in
    (i, l, a, b)

-- majorities of 2F+1
pub quorums-meet : (f : ℕ) (p q : ℕ → Bool) → suc f ≤ cnt (suc (2 * f)) p → suc f ≤ cnt (suc (2 * f)) q
    → (i : ℕ) × (i < suc (2 * f)) × (p i ≡ true) × (q i ≡ true)
quorums-meet f p q h k = meet (suc (2 * f)) p q (omega arith)

pub cnt-mono : (n : ℕ) (p q : ℕ → Bool) → ((i : ℕ) → i < n → p i ≡ true → q i ≡ true) → cnt n p ≤ cnt n q
unfolding cnt
cnt-mono zero p q h = omega arith
cnt-mono (suc n) p q h = go (p n) (q n) refl refl (cnt-mono n p q (λ i l. h i (omega arith)))
  where
    go : (a b : Bool) → p n ≡ a → q n ≡ b → cnt n p ≤ cnt n q → one-if a + cnt n p ≤ one-if b + cnt n q
    go true true e f r = omega arith
    go true false e f r = let g : q n ≡ true = h n (omega arith) e in let z : ◌≡◌ {A = ℕ} 0 1 = cc in omega arith
    go false true e f r = omega arith
    go false false e f r = omega arith

-- where o is in neither, one more
pub cnt-both-out : (n : ℕ) (p q : ℕ → Bool) (o : ℕ) → o < n → p o ≡ false → q o ≡ false
    → suc (cnt n p + cnt n q) ≤ n + cnt n (λ i. both (p i) (q i))
unfolding cnt
cnt-both-out zero p q o l e f = absurd (omega arith)
cnt-both-out (suc n) p q o l e f = go (dec_lt o n) (p n) (q n) refl refl (cnt-both-out n p q o)
  where
    go : Dec (o < n) → (a b : Bool) → p n ≡ a → q n ≡ b
        → (o < n → p o ≡ false → q o ≡ false → suc (cnt n p + cnt n q) ≤ n + cnt n (λ i. both (p i) (q i)))
        → suc ((one-if a + cnt n p) + (one-if b + cnt n q)) ≤ suc n + (one-if (both a b) + cnt n (λ i. both (p i) (q i)))
    go (yes k) true true g h ih = let r = ih k e f in omega arith
    go (yes k) true false g h ih = let r = ih k e f in omega arith
    go (yes k) false true g h ih = let r = ih k e f in omega arith
    go (yes k) false false g h ih = let r = ih k e f in omega arith
    go (no k) a b g h ih =
        let eq : o ≡ n = omega arith in
        let ga : false ≡ a = cc in
        let hb : false ≡ b = cc in
        rw (← ga, ← hb) (omega (arith, cnt-both n p q))

-- 2F-1 and F+1 of the 2F that are not o share F
pub fast-meet : (f o : ℕ) (p q : ℕ → Bool) → o < suc (2 * f) → p o ≡ false → q o ≡ false
    → 2 * f ≤ suc (cnt (suc (2 * f)) p) → suc f ≤ cnt (suc (2 * f)) q
    → f ≤ cnt (suc (2 * f)) (λ i. both (p i) (q i))
fast-meet f o p q l e g h k = omega (arith, cnt-both-out (suc (2 * f)) p q o l e g)
