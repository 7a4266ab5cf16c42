-- No second result satisfies a contract of this crate's calls, and the answers' numbers tell them apart. Assumes nothing.
use mathlib.Core.Path.{◌≡◌, refl, sym, ap, ◌∙◌}
use mathlib.Core.Bool.{Bool, true, false, ◌&&◌, not, cond}
use mathlib.Core.List.{List}
use Prim.Native.Nat.{ℕ}
use native.Mathlib.Omega.{arith}
use lib.ListN.{take, drop}
use Rattle.paper.specs.Instance.{instance_ok}
use Rattle.std.specs.Prelude.{Result, Ok, Err}
use Rattle.paper.specs.declared.Refusal.{Refusal}
use Rattle.paper.specs.declared.Refusal.TheVariants.{Setup, Unsound}
use Rattle.paper.proofs.Numbers.{number-apart, number_of-pos}
use Rattle.table.specs.Table.{fits_setup, sound_table}
use Rattle.table.specs.Calls.{blanked, blanked_table, judged, part_of, part_start, part_length, blanking_number, judging_number}

pub blank-table-unique : (n s c : ℕ) (t : List ℕ) (x y : Result Unit Refusal) (u v : List ℕ) → x ≡ blanked n s c t → u ≡ blanked_table n s c t → y ≡ blanked n s c t
    → v ≡ blanked_table n s c t → (x ≡ y) × (u ≡ v)
blank-table-unique n s c t x y u v p q r w = (p ∙ sym r, q ∙ sym w)

pub judge-table-unique : (n s c : ℕ) (t : List ℕ) (x y : Result Unit Refusal) → x ≡ judged n s c t → y ≡ judged n s c t → x ≡ y
judge-table-unique n s c t x y p q = p ∙ sym q

pub record-part-unique : (n s c : ℕ) (t : List ℕ) (o j : ℕ) (x y : List ℕ) → x ≡ part_of n s c t o j → y ≡ part_of n s c t o j → x ≡ y
record-part-unique n s c t o j x y p q = p ∙ sym q

-- of calls on a table none answers 35, so the number is enough
pub blanking-apart : (a b : Result Unit Refusal) → blanking_number a ≡ blanking_number b → (blanking_number a ≡ 35 → ⊥) → a ≡ b
blanking-apart (Ok x) (Ok y) e n = refl
blanking-apart (Ok x) (Err r) e n = absurd (omega (arith, number_of-pos r))
blanking-apart (Err r) (Ok x) e n = absurd (omega (arith, number_of-pos r))
blanking-apart (Err r) (Err t) e n = ap Err (number-apart r t e n)

pub blanked-plain : (n s c : ℕ) (t : List ℕ) → blanking_number (blanked n s c t) ≡ 35 → ⊥
unfolding blanked
blanked-plain n s c t = go (fits_setup n s c t)
  where
    go : (a : Bool) → blanking_number (cond a (Ok tt) (Err Setup)) ≡ 35 → ⊥
    go true e = omega arith
    go false e = omega arith

pub judging-apart : (a b : Result Unit Refusal) → judging_number a ≡ judging_number b → (judging_number a ≡ 35 → ⊥) → a ≡ b
judging-apart (Ok x) (Ok y) e n = refl
judging-apart (Ok x) (Err r) e n = absurd (omega (arith, number_of-pos r))
judging-apart (Err r) (Ok x) e n = absurd (omega (arith, number_of-pos r))
judging-apart (Err r) (Err t) e n = ap Err (number-apart r t e n)

pub judged-plain : (n s c : ℕ) (t : List ℕ) → judging_number (judged n s c t) ≡ 35 → ⊥
unfolding judged
judged-plain n s c t = go (fits_setup n s c t) (sound_table n s c t)
  where
    go : (a b : Bool) → judging_number (cond (not a) (Err Setup) (cond (not b) (Err Unsound) (Ok tt))) ≡ 35 → ⊥
    go false b e = omega arith
    go true false e = omega arith
    go true true e = omega arith

-- start and length are those of the part that is handed back
pub part-is : (n s c : ℕ) (t : List ℕ) (o j : ℕ) → take (part_length n s c t o j) (drop (part_start n s c t o j) t) ≡ part_of n s c t o j
unfolding part_start part_length part_of
part-is n s c t o j = go (fits_setup n s c t && instance_ok n s o j) refl
  where
    go : (b : Bool) → (fits_setup n s c t && instance_ok n s o j) ≡ b → take (part_length n s c t o j) (drop (part_start n s c t o j) t) ≡ part_of n s c t o j
    go true e = rw e
    go false e = rw e
