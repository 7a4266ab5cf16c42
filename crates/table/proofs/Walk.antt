-- Soundness of a row and of all rows, as they are walked. Assumes nothing.
use mathlib.Core.Path.{◌≡◌, refl, sym, ap, ◌∙◌}
use mathlib.Core.Bool.{Bool, true, false, ◌&&◌, cond}
use mathlib.Core.List.{List}
use Prim.Native.Nat.{ℕ, zero, suc, ◌-◌, ◌≤◌, ◌<◌}
use native.Mathlib.Omega.{arith}
use Rattle.paper.specs.Logic.{all_below}
use Rattle.record.specs.Part.{idle_ok, sound_part}
use Rattle.record.proofs.Laws.{all_below-step, all_below-none}
use Rattle.record.proofs.Quick.{idle-sound}
use Rattle.table.specs.Place.{place_at, place_of, part_at}
use Rattle.table.specs.Table.{past_idle, sound_row}
use Rattle.table.specs.Sizes.{Row, Names}

-- the whole is what is left, for any test of each number below a bound
pub left-true : (f : ℕ → Bool) (left : ℕ) {x : Bool} → x ≡ all_below left f → 0 < left → f (left - 1) ≡ true → x ≡ all_below (left - 1) f
left-true f left e h p = e ∙ all_below-step left f h ∙ rw p

pub left_false : (f : ℕ → Bool) (left : ℕ) {x : Bool} → x ≡ all_below left f → 0 < left → f (left - 1) ≡ false → false ≡ x
left_false f left e h p = sym (e ∙ all_below-step left f h ∙ rw p)

pub left-none : (f : ℕ → Bool) (left : ℕ) {x : Bool} → x ≡ all_below left f → left ≡ 0 → true ≡ x
left-none f left e h = sym (e ∙ all_below-none left f h)

-- one record of a row
abbrev pub in_row : ℕ → ℕ → ℕ → List ℕ → ℕ → ℕ → Bool
in_row n s c t o i = sound_part n s c o (part_at t (place_at s o i))

-- records that are passed over are sound
pub past-sound : (n s c o : ℕ) (t : List ℕ) (k : ℕ) → all_below k (in_row n s c t o) ≡ all_below (past_idle n s t o k) (in_row n s c t o)
unfolding past_idle all_below
past-sound n s c o t zero = refl
past-sound n s c o t (suc i) = go (idle_ok n s (part_at t (place_at s o i))) refl (past-sound n s c o t i)
  where
    go : (x : Bool) → idle_ok n s (part_at t (place_at s o i)) ≡ x → all_below i (in_row n s c t o) ≡ all_below (past_idle n s t o i) (in_row n s c t o)
        → (in_row n s c t o i && all_below i (in_row n s c t o)) ≡ all_below (cond x (past_idle n s t o i) (suc i)) (in_row n s c t o)
    go true e h = rw (idle-sound n s c o (part_at t (place_at s o i)) e) h
    go false e h = refl

pub past-few : (n s : ℕ) (t : List ℕ) (o k : ℕ) → past_idle n s t o k ≤ k
unfolding past_idle
past-few n s t o zero = omega arith
past-few n s t o (suc i) = go (idle_ok n s (part_at t (place_at s o i))) (past-few n s t o i)
  where
    go : (x : Bool) → past_idle n s t o i ≤ i → cond x (past_idle n s t o i) (suc i) ≤ suc i
    go true h = omega arith
    go false h = omega arith

-- one record of the walk down
step : (n s o : ℕ) (t : List ℕ) (left : ℕ) → 0 < left → past_idle n s t o left ≡ cond (idle_ok n s (part_at t (place_of s o left))) (past_idle n s t o (left - 1)) left
unfolding past_idle
step n s o t zero h = absurd (omega arith)
step n s o t (suc i) h = let e : suc i - 1 ≡ i = omega arith in rw e

module _ (n s o : ℕ) (t : List ℕ) (left : ℕ) {x : ℕ} (so : x ≡ past_idle n s t o left) where
  pub past_next : 0 < left → idle_ok n s (part_at t (place_of s o left)) ≡ true → x ≡ past_idle n s t o (left - 1)
  past_next h p = so ∙ step n s o t left h ∙ rw p

  pub past_stop : 0 < left → idle_ok n s (part_at t (place_of s o left)) ≡ false → left ≡ x
  past_stop h p = sym (so ∙ step n s o t left h ∙ rw p)

  pub past-none : left ≡ 0 → 0 ≡ x
  unfolding past_idle
  past-none e = sym (so ∙ rw e)

-- the first `left` records of the row are still to be judged
pub record RowLeft (n s c o : ℕ) (t : List ℕ) (left : ℕ) : Type 0 where
  pub row : Row n s c o t
  pub so : sound_row n s c t o ≡ all_below left (in_row n s c t o)
  pub few : left ≤ s

module _ (n s c o : ℕ) (t : List ℕ) where
  pub row-start : Row n s c o t → RowLeft n s c o t s
  unfolding sound_row
  row-start r = record { row = r; so = refl; few = omega arith }

  pub row-names : (left : ℕ) → RowLeft n s c o t left → 0 < left → Names n s o left
  row-names left j h =
      let z = j.row.sizes in
      record { copies = z.copies; numbers = z.numbers; owner = j.row.owner; first = omega arith; last = j.few }

  pub row-past : (left : ℕ) {k : ℕ} → RowLeft n s c o t left → k ≡ past_idle n s t o left → RowLeft n s c o t k
  row-past left j e =
      record {
        row = j.row;
        so = j.so ∙ past-sound n s c o t left ∙ ap (λ (i : ℕ). all_below i (in_row n s c t o)) (sym e);
        few = omega (arith, e, past-few n s t o left, j.few);
      }

  pub row_next : (left : ℕ) → RowLeft n s c o t left → 0 < left → in_row n s c t o (left - 1) ≡ true → RowLeft n s c o t (left - 1)
  row_next left j h q = record { row = j.row; so = left-true (in_row n s c t o) left j.so h q; few = omega (arith, j.few) }
