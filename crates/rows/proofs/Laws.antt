-- Rows that are read and written. Assumes nothing.
use Prim.Native.Nat.{ℕ, zero, suc, ◌+◌, ◌*◌, ◌≤◌, ◌<◌}
use mathlib.Core.Path.{◌≡◌, refl, sym, ap, ◌∙◌}
use mathlib.Core.List.{List, [], ◌∷◌}
use native.Mathlib.Omega.{arith}
use native.Mathlib.Decide.{dec_lt}
use lib.ListN.{length, get_or, take, drop}
use Rattle.numbers.specs.Num.{num_at, splice}
use Rattle.numbers.specs.Fields.{fields_at}
use Rattle.numbers.proofs.Laws.{num_at-part, length-splice, splice-same, splice-before, splice-after}
use Rattle.numbers.proofs.Fields.{fields_at-fields_bytes}
use Rattle.codec.specs.Parts.{deps_at, deps_bytes, deps_widths, deps_numbers}
use Rattle.codec.proofs.Laws.{deps-are, deps_at-fits}
use Rattle.paper.specs.Fits.{DepsFit}
use Rattle.rows.specs.Rows.{marks_at, mark_at, put_row, Within}

-- one mark alone
pub mark-is : (h : List ℕ) (x o : ℕ) → o < 7 → mark_at h x o ≡ num_at 2 h (14 * x + 2 * o)
unfolding deps_at
mark-is h x zero l = ap (num_at 2 h) (omega arith)
mark-is h x (suc zero) l = ap (num_at 2 h) (omega arith)
mark-is h x (suc (suc zero)) l = ap (num_at 2 h) (omega arith)
mark-is h x (suc (suc (suc zero))) l = ap (num_at 2 h) (omega arith)
mark-is h x (suc (suc (suc (suc zero)))) l = ap (num_at 2 h) (omega arith)
mark-is h x (suc (suc (suc (suc (suc zero))))) l = ap (num_at 2 h) (omega arith)
mark-is h x (suc (suc (suc (suc (suc (suc zero)))))) l = ap (num_at 2 h) (omega arith)
mark-is h x (suc (suc (suc (suc (suc (suc (suc o))))))) l = absurd (omega arith)

pub row-seven : (h : List ℕ) (x : ℕ) → length (marks_at h x) ≡ 7
unfolding deps_at
row-seven h x = refl

-- marks are numbers of two bytes
pub row_fits : (h : List ℕ) (x : ℕ) → ((i : ℕ) → get_or h i 0 < 256) → DepsFit (marks_at h x)
row_fits h x b = deps_at-fits h (14 * x) b

-- a row depends on its own bytes
part : (h : List ℕ) (x : ℕ) → marks_at h x ≡ deps_at (take 14 (drop (14 * x) h)) 0
unfolding deps_at
part h x = λ i. fields_part i
  where
    one : (k : ℕ) → k + 2 ≤ 14 → num_at 2 h (14 * x + k) ≡ num_at 2 (take 14 (drop (14 * x) h)) k
    one k l = sym (num_at-part 2 h (14 * x) 14 k l)

    at : (a k : ℕ) → a ≡ 14 * x + k → k + 2 ≤ 14 → num_at 2 h a ≡ num_at 2 (take 14 (drop (14 * x) h)) k
    at a k e l = ap (num_at 2 h) e ∙ one k l

    fields_part : fields_at deps_widths h (14 * x) ≡ fields_at deps_widths (take 14 (drop (14 * x) h)) 0
    fields_part = λ i.
        at (14 * x) 0 (omega arith) (omega arith) i ∷
        at (14 * x + 2) 2 (omega arith) (omega arith) i ∷
        at (14 * x + 2 + 2) 4 (omega arith) (omega arith) i ∷
        at (14 * x + 2 + 2 + 2) 6 (omega arith) (omega arith) i ∷
        at (14 * x + 2 + 2 + 2 + 2) 8 (omega arith) (omega arith) i ∷
        at (14 * x + 2 + 2 + 2 + 2 + 2) 10 (omega arith) (omega arith) i ∷
        at (14 * x + 2 + 2 + 2 + 2 + 2 + 2) 12 (omega arith) (omega arith) i ∷
        []

length-deps : (d : List ℕ) → length (deps_bytes d) ≡ 14
unfolding deps_bytes
length-deps d = refl

read_back : (d : List ℕ) → DepsFit d → deps_at (deps_bytes d) 0 ≡ d
unfolding deps_at deps_bytes
read_back d f =
    let e = f.each in
    fields_at-fields_bytes deps_widths (deps_numbers d) [] [] 0 refl (e 0, (e 1, (e 2, (e 3, (e 4, (e 5, (e 6, tt)))))))
    ∙ deps-are d f

module _ (h : List ℕ) (x : ℕ) (d : List ℕ) (w : Within h x) where
  fits : 14 * x + length (deps_bytes d) ≤ length h
  fits = omega (arith, w.long, w.place, length-deps d)

  pub put-long : length (put_row h x d) ≡ 6272
  unfolding put_row
  put-long = length-splice h (14 * x) (deps_bytes d) fits ∙ w.long

  -- what is written is read back
  pub put-own : DepsFit d → marks_at (put_row h x d) x ≡ d
  unfolding put_row deps_at deps_bytes
  put-own f =
      part (put_row h x d) x
      ∙ ap (λ (b : List ℕ). deps_at b 0) (splice-same h (14 * x) (deps_bytes d) 14 (length-deps d) (omega (arith, w.long, w.place)))
      ∙ read_back d f

  pub put_other : (y : ℕ) → y < 448 → (y ≡ x → ⊥) → marks_at (put_row h x d) y ≡ marks_at h y
  unfolding put_row
  put_other y l e = part (put_row h x d) y ∙ ap (λ (b : List ℕ). deps_at b 0) (go (dec_lt y x)) ∙ sym (part h y)
    where
      go : Dec (y < x) → take 14 (drop (14 * y) (splice h (14 * x) (deps_bytes d))) ≡ take 14 (drop (14 * y) h)
      go (yes a) = splice-before h (14 * x) (deps_bytes d) (14 * y) 14 (omega arith) fits
      go (no a) = ap (take 14) (splice-after h (14 * x) (deps_bytes d) (14 * y) (omega (arith, length-deps d)) (omega (arith, w.long)))
