-- Bytes put in the place of others one by one. Assumes nothing.
use mathlib.Core.Path.{◌≡◌, refl, ap, ◌∙◌}
use mathlib.Core.List.{List}
use Prim.Native.Nat.{ℕ, suc, ◌+◌, ◌≤◌, ◌<◌}
use native.Mathlib.Omega.{arith}
use native.Mathlib.Numerals.{add-one}
use lib.ListN.{length, get_or, set, take, length-set}
use lib.Seq.{paste, paste-zero, paste-suc, take-length}
use Rattle.numbers.specs.Num.{splice}
use Rattle.numbers.proofs.Laws.{paste-splice}

-- the first i bytes of s stand from `at` on
pub record Putting (l : List ℕ) (at : ℕ) (s b : List ℕ) (i : ℕ) : Type 0 where
  pub short : i ≤ length s
  pub long : length b ≡ length l
  pub is : b ≡ paste l at s i

module _ (l : List ℕ) (at : ℕ) (s : List ℕ) (fits : at + length s ≤ length l) where
  pub putting-none : Putting l at s l 0
  putting-none = record { short = omega arith; long = refl; is = paste-zero l at s }

  pub putting-one : (b : List ℕ) (i : ℕ) → Putting l at s b i → i < length s → Putting l at s (set b (at + i) (get_or s i 0)) (i + 1)
  putting-one b i p lt =
      let turn : set (paste l at s i) (at + i) (get_or s i 0) ≡ paste l at s (suc i) = paste-suc l at s i 0 (omega arith) (omega arith) in
      record { short = omega arith; long = length-set b (at + i) (get_or s i 0) ∙ p.long; is = rw (p.is, add-one) turn }

  pub was-put : (b : List ℕ) (i : ℕ) → Putting l at s b i → length s ≤ i → b ≡ splice l at s
  was-put b i p le =
      let e : i ≡ length s = omega (arith, p.short) in
      let all : take (length s) s ≡ s = take-length s in
      p.is ∙ rw e (paste-splice l at s (length s) (omega arith) ∙ ap (splice l at) all)
