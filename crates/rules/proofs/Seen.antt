-- Seen entry by entry, and the highest number that passes, looked for from the top. Assumes nothing.
use Prim.Native.Nat.{ℕ, zero, suc, ◌+◌, ◌-◌, ◌<◌}
use mathlib.Core.Path.{◌≡◌, refl, sym}
use mathlib.Core.Bool.{Bool, true, false}
use native.Mathlib.Omega.{arith}
use lib.ListN.{get_or, length}
use Rattle.paper.specs.Command.{Interference}
use Rattle.paper.specs.declared.Command.{Command}
use Rattle.rules.specs.Sets.{highest}
use Rattle.rules.specs.Seen.{Records, seen_entry, seen_from, seen}

pub highest-here : (k : ℕ) (f : ℕ → Bool) → 0 < k → f k ≡ true → k ≡ highest k f
unfolding highest
highest-here zero f h p = absurd (omega arith)
highest-here (suc k) f h p = sym (rw p)

pub highest-below : (k : ℕ) (f : ℕ → Bool) → 0 < k → f k ≡ false → highest k f ≡ highest (k - 1) f
unfolding highest
highest-below zero f h p = absurd (omega arith)
highest-below (suc k) f h p = let e : suc k - 1 ≡ k = omega arith in rw (p, e)

pub highest-none : (k : ℕ) (f : ℕ → Bool) → k ≡ 0 → highest k f ≡ 0
unfolding highest
highest-none k f e = rw e

module _ (w : Interference) (n s : ℕ) (t : Records) (o j : ℕ) (k : Command) where
  from_at : (i p q : ℕ) → q < i → get_or (seen_from w i p n s t o j k) q 0 ≡ seen_entry w n s t o j k (p + q)
  unfolding seen_from
  from_at zero p q l = absurd (omega arith)
  from_at (suc i) p zero l = let z : p + 0 ≡ p = omega arith in rw z
  from_at (suc i) p (suc q) l = let z : p + suc q ≡ p + 1 + q = omega arith in rw z (from_at i (p + 1) q (omega arith))

  pub seen_at : (q : ℕ) → q < 7 → get_or (seen w n s t o j k) q 0 ≡ seen_entry w n s t o j k q
  seen_at q l = let z : 0 + q ≡ q = omega arith in rw (from_at 7 0 q l, z)

  pub seen-length : length (seen w n s t o j k) ≡ 7
  unfolding seen_from
  seen-length = refl
