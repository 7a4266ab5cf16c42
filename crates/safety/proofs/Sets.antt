-- The rules' sets of seven bits, as counts over the places below 7. Assumes nothing.
use Prim.Native.Nat.{ℕ, zero, suc, ◌+◌, ◌/◌, ◌%◌, ◌^◌, ◌≤◌, ◌<◌}
use mathlib.Core.Path.{◌≡◌, refl, sym}
use mathlib.Core.Logic.{◌⊎◌, inl, inr, ⊎_elim}
use mathlib.Core.Bool.{Bool, true, false, ◌&&◌, ◌||◌, not, cond}
use native.Mathlib.Omega.{arith}
use native.Mathlib.Nat.{eq-or-lt_of_le, one-le-pow, add-zero, add-suc}
use lib.Dec.{ltb, eqb}
use lib.Count.{ones}
use Rattle.paper.specs.Logic.{all_below}
use Rattle.paper.specs.Deps.{larger}
use Rattle.paper.specs.Vote.{member}
use Rattle.rules.specs.Sets.{bits_below, those, lowest_from, lowest, largest_below}
use Rattle.reach.proofs.Count.{cnt, one-if}
use Rattle.reach.proofs.Tests.{tf, and_l, and_r, eqb-eq, eqb-ne, ltb-lt, ltb-ge, not-true, not-not}

-- what is tested of each number below n holds of each
pub all-at : (n : ℕ) (f : ℕ → Bool) → all_below n f ≡ true → (k : ℕ) → k < n → f k ≡ true
unfolding all_below
all-at zero f h k l = absurd (omega arith)
all-at (suc n) f h k l =
    ⊎_elim (λ (e : k ≡ n). rw e (and_l (f n) (all_below n f) h)) (λ (m : k < n). all-at n f (and_r (f n) (all_below n f) h) k m)
    (eq-or-lt_of_le {n = k} {m = n} (omega arith))

-- equality of tests
same : Bool → Bool → Bool
same true b = b
same false b = not b

same-eq : (a b : Bool) → same a b ≡ true → a ≡ b
unfolding same
same-eq true b e = sym e
same-eq false true e = e
same-eq false false e = refl

-- a copy that was not in the set joins it: it is a member, the others are as before, and it is one more
joins : ℕ → ℕ → ℕ → Bool
joins q m p = member q m || (same (member p (m + 2 ^ q)) (eqb p q || member p m) && ltb (m + 2 ^ q) 128)

joins-all : all_below 7 (λ q. all_below 128 (λ m. all_below 7 (joins q m))) ≡ true
unfolding all_below joins member same
joins-all = refl

joined : (q m p : ℕ) → q < 7 → m < 128 → p < 7 → member q m ≡ false
    → (same (member p (m + 2 ^ q)) (eqb p q || member p m) && ltb (m + 2 ^ q) 128) ≡ true
unfolding joins
joined q m p lq lm lp e =
    let t : joins q m p ≡ true = all-at 7 (joins q m) (all-at 128 (λ m. all_below 7 (joins q m)) (all-at 7 (λ q. all_below 128 (λ m. all_below 7 (joins q m))) joins-all q lq) m lm) p lp in
    rw e at t

pub member-with : (q m p : ℕ) → q < 7 → m < 128 → p < 7 → member q m ≡ false → member p (m + 2 ^ q) ≡ (eqb p q || member p m)
member-with q m p lq lm lp e = same-eq _ _ (and_l _ _ (joined q m p lq lm lp e))

pub with-small : (q m : ℕ) → q < 7 → m < 128 → member q m ≡ false → m + 2 ^ q < 128
with-small q m lq lm e = ltb-lt _ _ (and_r (same (member q (m + 2 ^ q)) (eqb q q || member q m)) _ (joined q m q lq lm lq e))

-- one copy alone
alone : ℕ → ℕ → Bool
alone q p = same (member p (2 ^ q)) (eqb p q) && ltb (2 ^ q) 128

alone-all : all_below 7 (λ q. all_below 7 (alone q)) ≡ true
unfolding all_below alone member same
alone-all = refl

pub member-only : (q p : ℕ) → q < 7 → p < 7 → member p (2 ^ q) ≡ eqb p q
unfolding alone
member-only q p lq lp = same-eq _ _ (and_l _ _ (all-at 7 (alone q) (all-at 7 (λ q. all_below 7 (alone q)) alone-all q lq) p lp))

pub only-small : (q : ℕ) → q < 7 → 2 ^ q < 128
unfolding alone
only-small q lq = ltb-lt _ _ (and_r (same (member q (2 ^ q)) (eqb q q)) _ (all-at 7 (alone q) (all-at 7 (λ q. all_below 7 (alone q)) alone-all q lq) q lq))

-- nobody
none-all : all_below 7 (λ p. not (eqb (0 / 2 ^ p % 2) 1)) ≡ true
unfolding all_below
none-all = refl

pub member-none : (p : ℕ) → p < 7 → member p 0 ≡ false
unfolding member
member-none p l = not-not (eqb (0 / 2 ^ p % 2) 1) (all-at 7 (λ p. not (eqb (0 / 2 ^ p % 2) 1)) (none-all) p l)

counted : ℕ → Bool
counted m = eqb (ones m) (cnt 7 (λ i. member i m))

counted-all : all_below 128 counted ≡ true
unfolding all_below counted ones cnt member
counted-all = refl

pub ones-cnt : (m : ℕ) → m < 128 → ones m ≡ cnt 7 (λ i. member i m)
unfolding counted
ones-cnt m l = eqb-eq _ _ (all-at 128 counted counted-all m l)

-- a set of places as bits: how many, whether any, and the lowest
each : (Bool → Bool) → Bool
each P = P true && P false

each_at : (P : Bool → Bool) → each P ≡ true → (b : Bool) → P b ≡ true
unfolding each
each_at P h true = and_l (P true) (P false) h
each_at P h false = and_r (P true) (P false) h

bits : Bool → Bool → Bool → Bool → Bool → Bool → Bool → Bool
bits a b c d e f g =
    eqb (ones (cond g 64 0 + (cond f 32 0 + (cond e 16 0 + (cond d 8 0 + (cond c 4 0 + (cond b 2 0 + (cond a 1 0 + 0))))))))
    (one-if g + (one-if f + (one-if e + (one-if d + (one-if c + (one-if b + (one-if a + 0)))))))

bits-all : each (λ a. each (λ b. each (λ c. each (λ d. each (λ e. each (λ f. each (λ g. bits a b c d e f g))))))) ≡ true
unfolding each bits ones
bits-all = refl

pub ones-those : (f : ℕ → Bool) → ones (those f) ≡ cnt 7 f
unfolding bits bits_below cnt
ones-those f = eqb-eq _ _ (each_at (λ g. bits (f 0) (f 1) (f 2) (f 3) (f 4) (f 5) g)
    (each_at (λ x. each (λ g. bits (f 0) (f 1) (f 2) (f 3) (f 4) x g))
    (each_at (λ x. each (λ y. each (λ g. bits (f 0) (f 1) (f 2) (f 3) x y g)))
    (each_at (λ x. each (λ y. each (λ z. each (λ g. bits (f 0) (f 1) (f 2) x y z g))))
    (each_at (λ x. each (λ y. each (λ z. each (λ u. each (λ g. bits (f 0) (f 1) x y z u g)))))
    (each_at (λ x. each (λ y. each (λ z. each (λ u. each (λ v. each (λ g. bits (f 0) x y z u v g))))))
    (each_at (λ x. each (λ y. each (λ z. each (λ u. each (λ v. each (λ w. each (λ g. bits x y z u v w g))))))) bits-all (f 0))
    (f 1)) (f 2)) (f 3)) (f 4)) (f 5)) (f 6))

none_in : (k : ℕ) (f : ℕ → Bool) → bits_below k f ≡ 0 → (i : ℕ) → i < k → f i ≡ false
unfolding bits_below
none_in zero f h i l = absurd (omega arith)
none_in (suc k) f h i l = go (f k) refl h (none_in k f) (eq-or-lt_of_le {n = i} {m = k} (omega arith))
  where
    go : (b : Bool) → f k ≡ b → cond b (2 ^ k) 0 + bits_below k f ≡ 0 → (bits_below k f ≡ 0 → (i : ℕ) → i < k → f i ≡ false) → (i ≡ k) ⊎ (i < k) → f i ≡ false
    go true e h ih m = absurd (omega (arith, one-le-pow k 2 (omega arith)))
    go false e h ih (inl q) = rw q e
    go false e h ih (inr q) = ih (omega arith) i q

some_in : (k : ℕ) (f : ℕ → Bool) → (bits_below k f ≡ 0 → ⊥) → (i : ℕ) × (i < k) × (f i ≡ true)
unfolding bits_below
some_in zero f h = absurd (h refl)
some_in (suc k) f h = go (f k) refl h (some_in k f)
  where
    go : (b : Bool) → f k ≡ b → (cond b (2 ^ k) 0 + bits_below k f ≡ 0 → ⊥) → ((bits_below k f ≡ 0 → ⊥) → (i : ℕ) × (i < k) × (f i ≡ true))
        → (i : ℕ) × (i < suc k) × (f i ≡ true)
    go true e h ih = (k, omega arith, e)
    go false e h ih = let (i, l, q) = ih (λ z. h (omega arith)) in (i, omega arith, q)

lowest-from : (k i : ℕ) (f : ℕ → Bool) (p : ℕ) → i ≤ p → p < i + k → f p ≡ true → (lowest_from k i f < i + k) × (f (lowest_from k i f) ≡ true)
unfolding lowest_from
lowest-from zero i f p l h e = absurd (omega arith)
lowest-from (suc k) i f p l h e = go (f i) refl (λ q. lowest-from k (i + 1) f p q (omega arith) e)
  where
    go : (b : Bool) → f i ≡ b → (i + 1 ≤ p → (lowest_from k (i + 1) f < i + 1 + k) × (f (lowest_from k (i + 1) f) ≡ true))
        → (cond b i (lowest_from k (i + 1) f) < i + suc k) × (f (cond b i (lowest_from k (i + 1) f)) ≡ true)
    go true q ih = (omega arith, q)
    go false q ih = let n : i ≡ p → ⊥ = λ z. tf (f i) (rw z e) q in let (a, b) = ih (omega (arith, n)) in (omega arith, b)

pub none-those : (f : ℕ → Bool) → eqb (those f) 0 ≡ true → (i : ℕ) → i < 7 → f i ≡ false
none-those f e = none_in 7 f (eqb-eq (those f) 0 e)

pub lowest-those : (f : ℕ → Bool) → eqb (those f) 0 ≡ false → (lowest f < 7) × (f (lowest f) ≡ true)
lowest-those f e = let (i, l, q) = some_in 7 f (eqb-ne (those f) 0 e) in lowest-from 7 0 f i (omega arith) (omega arith) q

pub lowest-any : (f : ℕ → Bool) (i : ℕ) → i < 7 → f i ≡ true → (lowest f < 7) × (f (lowest f) ≡ true)
lowest-any f i l q = lowest-from 7 0 f i (omega arith) (omega arith) q

pub larger-l : (a b : ℕ) → a ≤ larger a b
larger-l a b = go (ltb a b) refl
  where
    go : (x : Bool) → ltb a b ≡ x → a ≤ cond x b a
    go true e = omega (arith, ltb-lt a b e)
    go false e = omega arith

pub larger-r : (a b : ℕ) → b ≤ larger a b
larger-r a b = go (ltb a b) refl
  where
    go : (x : Bool) → ltb a b ≡ x → b ≤ cond x b a
    go true e = omega arith
    go false e = ltb-ge a b e

-- a largest value is no smaller than any, and is one of them, or 0
pub largest-ge : (k : ℕ) (g : ℕ → ℕ) (i : ℕ) → i < k → g i ≤ largest_below k g
unfolding largest_below
largest-ge zero g i l = absurd (omega arith)
largest-ge (suc k) g i l = ⊎_elim (λ (e : i ≡ k). rw e (larger-l (g k) (largest_below k g)))
    (λ (m : i < k). omega (arith, largest-ge k g i m, larger-r (g k) (largest_below k g)))
    (eq-or-lt_of_le {n = i} {m = k} (omega arith))

pub largest-one : (k : ℕ) (g : ℕ → ℕ) → ((i : ℕ) × (i < k) × (g i ≡ largest_below k g)) ⊎ (largest_below k g ≡ 0)
unfolding largest_below
largest-one zero g = inr refl
largest-one (suc k) g = go (ltb (g k) (largest_below k g)) (largest-one k g)
  where
    go : (x : Bool) → ((i : ℕ) × (i < k) × (g i ≡ largest_below k g)) ⊎ (largest_below k g ≡ 0)
        → ((i : ℕ) × (i < suc k) × (g i ≡ cond x (largest_below k g) (g k))) ⊎ (cond x (largest_below k g) (g k) ≡ 0)
    go false h = inl (k, omega arith, refl)
    go true (inl h) = inl (h.0, omega (arith, h.1), h.2)
    go true (inr h) = inr h

-- a set of places below n counts the same below 7
pub cnt-cut : (n k : ℕ) (f : ℕ → Bool) → ((i : ℕ) → f i ≡ true → i < n) → cnt (n + k) f ≡ cnt n f
unfolding cnt
cnt-cut n zero f h = rw add-zero refl
cnt-cut n (suc k) f h = rw add-suc (rw (not-true (f (n + k)) (λ e. absurd (omega (arith, h (n + k) e))), cnt-cut n k f h) (omega arith))
