-- Tests and counts over all instances. Assumes nothing.
use Prim.Native.Nat.{ℕ, zero, suc, ◌+◌, ◌-◌, ◌*◌, ◌≤◌, ◌<◌}
use mathlib.Core.Path.{◌≡◌, refl}
use mathlib.Core.Logic.{◌⊎◌, inl, inr, ⊎_elim}
use mathlib.Core.Bool.{Bool, true, false, ◌&&◌, not}
use native.Mathlib.Omega.{arith}
use native.Mathlib.Nat.{eq-or-lt_of_le, suc-mul}
use Rattle.paper.specs.Logic.{all_below}
use Rattle.paper.proofs.Laws.{all_below-at}
use Rattle.rules.specs.Order.{everywhere, somewhere}
use Rattle.reach.proofs.Tests.{clash, tf, bool, not-not, not-false}
use Rattle.reach.proofs.Count.{cnt, cnt-le, cnt-mono}

pub all_in : (n : ℕ) (f : ℕ → Bool) → ((k : ℕ) → k < n → f k ≡ true) → all_below n f ≡ true
unfolding all_below
all_in zero f h = refl
all_in (suc n) f h = rw (h n (omega arith), all_in n f (λ k l. h k (omega arith))) refl

all-not : (n : ℕ) (f : ℕ → Bool) → all_below n f ≡ false → (k : ℕ) × (k < n) × (f k ≡ false)
unfolding all_below
all-not zero f h = clash (cc)
all-not (suc n) f h = go (f n) refl h (all-not n f)
  where
    go : (b : Bool) → f n ≡ b → (b && all_below n f) ≡ false → (all_below n f ≡ false → (k : ℕ) × (k < n) × (f k ≡ false)) → (k : ℕ) × (k < suc n) × (f k ≡ false)
    go true e h ih = let (k, l, q) = ih h in (k, omega arith, q)
    go false e h ih = (n, omega arith, e)

module _ (n s : ℕ) where
  pub every-at : (f : ℕ → ℕ → Bool) → everywhere n s f ≡ true → (o j : ℕ) → o < n → 1 ≤ j → j ≤ s → f o j ≡ true
  unfolding everywhere
  every-at f h o j lo l1 ls =
      let e : j - 1 + 1 ≡ j = omega arith in
      rw e at (all_below-at s (λ i. f o (i + 1)) (all_below-at n (λ o. all_below s (λ i. f o (i + 1))) h o lo) (j - 1) (omega arith))

  pub every_in : (f : ℕ → ℕ → Bool) → ((o j : ℕ) → o < n → 1 ≤ j → j ≤ s → f o j ≡ true) → everywhere n s f ≡ true
  unfolding everywhere
  every_in f h = all_in n (λ o. all_below s (λ i. f o (i + 1))) (λ o lo. all_in s (λ i. f o (i + 1)) (λ i li. h o (i + 1) lo (omega arith) (omega arith)))

  pub every-not : (f : ℕ → ℕ → Bool) → everywhere n s f ≡ false → (o : ℕ) × (j : ℕ) × (o < n) × (1 ≤ j) × (j ≤ s) × (f o j ≡ false)
  unfolding everywhere
  every-not f h =
      let (o, lo, e) = all-not n (λ o. all_below s (λ i. f o (i + 1))) h in
      let (i, li, q) = all-not s (λ i. f o (i + 1)) e in
      (o, i + 1, lo, omega arith, omega arith, q)

  pub some_at : (f : ℕ → ℕ → Bool) → somewhere n s f ≡ true → (o : ℕ) × (j : ℕ) × (o < n) × (1 ≤ j) × (j ≤ s) × (f o j ≡ true)
  unfolding somewhere
  some_at f h = let (o, j, a, b, c, e) = every-not (λ o j. not (f o j)) (not-not _ h) in (o, j, a, b, c, not-false (f o j) e)

  pub some_in : (f : ℕ → ℕ → Bool) (o j : ℕ) → o < n → 1 ≤ j → j ≤ s → f o j ≡ true → somewhere n s f ≡ true
  unfolding somewhere
  some_in f o j lo l1 ls e = go (bool (everywhere n s (λ o j. not (f o j))))
    where
      go : (everywhere n s (λ o j. not (f o j)) ≡ true) ⊎ (everywhere n s (λ o j. not (f o j)) ≡ false) → not (everywhere n s (λ o j. not (f o j))) ≡ true
      go (inl h) = tf (f o j) e (not-not _ (every-at (λ o j. not (f o j)) h o j lo l1 ls))
      go (inr h) = rw h refl

-- how many instances pass a test
unfoldable pub total : ℕ → ℕ → (ℕ → ℕ → Bool) → ℕ
total zero s f = 0
total (suc n) s f = cnt s (λ i. f n (i + 1)) + total n s f

pub total-le : (n s : ℕ) (f : ℕ → ℕ → Bool) → total n s f ≤ n * s
unfolding total
total-le zero s f = omega arith
total-le (suc n) s f = omega (arith, total-le n s f, cnt-le s (λ i. f n (i + 1)), suc-mul n s)

total_mono : (n s : ℕ) (f g : ℕ → ℕ → Bool) → ((o j : ℕ) → o < n → 1 ≤ j → j ≤ s → f o j ≡ true → g o j ≡ true) → total n s f ≤ total n s g
unfolding total
total_mono zero s f g h = omega arith
total_mono (suc n) s f g h = omega (
  arith,
  total_mono n s f g (λ o j l. h o j (omega arith)),
  cnt-mono s (λ i. f n (i + 1)) (λ i. g n (i + 1)) (λ i l. h n (i + 1) (omega arith) (omega arith) (omega arith)),
)

cnt-lt : (s : ℕ) (p q : ℕ → Bool) → ((i : ℕ) → i < s → p i ≡ true → q i ≡ true) → (k : ℕ) → k < s → p k ≡ false → q k ≡ true → cnt s p < cnt s q
unfolding cnt
cnt-lt zero p q h k l a b = absurd (omega arith)
cnt-lt (suc s) p q h k l a b = ⊎_elim
    (λ (e : k ≡ s). let pa : p s ≡ false = (rw e at a) in let qb : q s ≡ true = (rw e at b) in rw (pa, qb) (omega (arith, cnt-mono s p q (λ i l. h i (omega arith)))))
    (λ (m : k < s). let r = cnt-lt s p q (λ i l. h i (omega arith)) k m a b in omega (arith, r, cnt-mono 1 (λ i. p s) (λ i. q s) (λ i l. h s (omega arith))))
    (eq-or-lt_of_le {n = k} {m = s} (omega arith))

-- one that passes more passes more instances
pub total-lt : (n s : ℕ) (f g : ℕ → ℕ → Bool) → ((o j : ℕ) → o < n → 1 ≤ j → j ≤ s → f o j ≡ true → g o j ≡ true)
    → (o j : ℕ) → o < n → 1 ≤ j → j ≤ s → f o j ≡ false → g o j ≡ true → total n s f < total n s g
unfolding total
total-lt zero s f g h o j lo l1 ls a b = absurd (omega arith)
total-lt (suc n) s f g h o j lo l1 ls a b = ⊎_elim
    (λ (e : o ≡ n).
    let q : j - 1 + 1 ≡ j = omega arith in
    omega (
      arith,
      total_mono n s f g (λ o j l. h o j (omega arith)),
      cnt-lt s (λ i. f n (i + 1)) (λ i. g n (i + 1)) (λ i l. h n (i + 1) (omega arith) (omega arith) (omega arith)) (j - 1) (omega arith) (rw q (rw e at a)) (rw q (rw e at b)),
    ))
    (λ (m : o < n). omega (
      arith,
      total-lt n s f g (λ o j l. h o j (omega arith)) o j m l1 ls a b,
      cnt-mono s (λ i. f n (i + 1)) (λ i. g n (i + 1)) (λ i l. h n (i + 1) (omega arith) (omega arith) (omega arith)),
    ))
    (eq-or-lt_of_le {n = o} {m = n} (omega arith))
