-- What need not be looked at again, step by step. Assumes nothing.
use Prim.Native.Nat.{ℕ, zero, suc, ◌+◌, ◌*◌, ◌≤◌, ◌<◌}
use mathlib.Core.Path.{◌≡◌, refl, sym, ◌∙◌}
use mathlib.Core.Logic.{⊎_elim}
use mathlib.Core.Bool.{Bool, true, false, not}
use mathlib.Core.List.{List}
use native.Mathlib.Omega.{arith}
use native.Mathlib.Nat.{eq-or-lt_of_le}
use native.Mathlib.Decide.{ℕ_discrete}
use lib.Dec.{eqb}
use lib.ListN.{get_or, set, length-set}
use lib.Seq.{get_or-set_same, get_or-set_other}
use Rattle.paper.proofs.Laws.{all_below-at}
use Rattle.reach.proofs.Tests.{tf, not-true, not-not, eqb_same, eqb-false}
use Rattle.reach.proofs.Instances.{all_in}
use Rattle.reach.proofs.First.{Walk, Row, walk_start, row-start, row_on, row-end}
use Rattle.rows.specs.Rows.{slot_of}
use Rattle.next.specs.Slots.{ready_in, none_at, Out, Low, Past}

pub out-more : (s : ℕ) (st : List ℕ) (q i y : ℕ) → Out s st q i → i < s → y ≡ 64 * q + i → get_or st y 0 ≡ 2 → Out s st q (i + 1)
out-more s st q i y o l e h = record { few = omega arith; each = each }
  where
    each : (j : ℕ) → 1 ≤ j → j ≤ i + 1 → get_or st (slot_of q j) 0 ≡ 2
    each j a b = ⊎_elim
        (λ (z : j ≡ i + 1). let w : slot_of q j ≡ y = omega arith in rw w h)
        (λ (z : j < i + 1). o.each j a (omega arith))
        (eq-or-lt_of_le b)

-- the owners of one number
abbrev Clear : List ℕ → ℕ → ℕ → Type 0
Clear st j o = (q : ℕ) → q < o → get_or st (slot_of q j) 0 ≡ 1 → ⊥

pub none-no : (n : ℕ) (st : List ℕ) (j o y : ℕ) → o < n → y ≡ slot_of o j → get_or st y 0 ≡ 1 → false ≡ none_at n st j
unfolding none_at
none-no n st j o y l e h = sym (not-true _
    (λ a. let z = not-not _ (all_below-at n (λ q. not (eqb (get_or st (slot_of q j) 0) 1)) a o l) in
    tf (eqb (get_or st (slot_of o j) 0) 1) (eqb_same _ 1 (rw e at h)) z))

pub none-all : (n : ℕ) (st : List ℕ) (j o : ℕ) → Clear st j o → n ≤ o → true ≡ none_at n st j
unfolding none_at
none-all n st j o c l = sym (all_in n (λ q. not (eqb (get_or st (slot_of q j) 0) 1)) (λ q a. rw (eqb-false (get_or st (slot_of q j) 0) 1 (c q (omega arith)))))

pub clear-more : (st : List ℕ) (j o y : ℕ) → Clear st j o → y ≡ slot_of o j → (get_or st y 0 ≡ 1 → ⊥) → Clear st j (o + 1)
clear-more st j o y c e h q l = ⊎_elim
    (λ (z : q ≡ o). λ a. h (rw (e, ← z) a))
    (λ (z : q < o). c q z)
    (eq-or-lt_of_le {n = q} {m = o} (omega arith))

pub low-more : (n s : ℕ) (st : List ℕ) (j : ℕ) → Low n s st j → j < s → none_at n st (j + 1) ≡ true → Low n s st (j + 1)
low-more n s st j w l h = record { few = omega arith; each = each }
  where
    each : (i : ℕ) → 1 ≤ i → i ≤ j + 1 → none_at n st i ≡ true
    each i a b = ⊎_elim (λ (z : i ≡ j + 1). rw z h) (λ (z : i < j + 1). w.each i a (omega arith)) (eq-or-lt_of_le b)

module _ (n s : ℕ) (st past : List ℕ) (c : Past n s st past) where
  pub past_row : (q z : ℕ) → q < n → Out s st q z → Past n s st (set past q z)
  past_row q z l o = record {
    copies = c.copies;
    numbers = c.numbers;
    states = c.states;
    long = length-set past q z ∙ c.long;
    rows = rows;
    low = rw (get_or-set_other past q 7 z 0 (λ e. absurd (omega (arith, c.copies)))) c.low;
  }
    where
      rows : (p : ℕ) → p < n → Out s st p (get_or (set past q z) p 0)
      rows p m = go (ℕ_discrete p q)
        where
          go : Dec (p ≡ q) → Out s st p (get_or (set past q z) p 0)
          go (no d) = rw (get_or-set_other past q p z 0 d) (c.rows p m)
          go (yes d) = rw (d, get_or-set_same past q z 0 (omega (arith, c.copies, c.long))) o

  pub past-low : (z : ℕ) → Low n s st z → Past n s st (set past 7 z)
  past-low z o = record {
    copies = c.copies;
    numbers = c.numbers;
    states = c.states;
    long = length-set past 7 z ∙ c.long;
    rows = λ p m. rw (get_or-set_other past 7 p z 0 (λ e. absurd (omega (arith, c.copies)))) (c.rows p m);
    low = rw (get_or-set_same past 7 z 0 (omega (arith, c.long))) o;
  }

-- a walk may start past the numbers where none is ready
module _ (n s : ℕ) (f : ℕ → ℕ → Bool) where
  row-past : (j o : ℕ) → Row n s f j 0 → o ≤ n → ((q : ℕ) → q < n → f q j ≡ false) → Row n s f j o
  row-past j zero r l h = r
  row-past j (suc o) r l h = row_on n s f j o (suc o) (row-past j o r (omega arith) h) (omega arith) (omega arith) (h o (omega arith))

  walk-past : (z : ℕ) → z ≤ s → ((j : ℕ) → 1 ≤ j → j ≤ z → (q : ℕ) → q < n → f q j ≡ false) → Walk n s f (z + 1)
  walk-past zero l h = walk_start n s f (omega arith)
  walk-past (suc z) l h =
      let w : Walk n s f (suc z) = rw (step z) at (walk-past z (omega arith) (λ j a b. h j a (omega arith))) in
      row-end n s f (suc z) (suc z + 1) n (row-past (suc z) n (row-start n s f (suc z) w l) (omega arith) (h (suc z) (omega arith) (omega arith))) (omega arith) refl
    where
      step : (z : ℕ) → z + 1 ≡ suc z
      step z = omega arith

pub walk-low : (n s : ℕ) (h st : List ℕ) (z : ℕ) → Low n s st z → Walk n s (ready_in n s h st) (z + 1)
unfolding ready_in none_at
walk-low n s h st z w = walk-past n s (ready_in n s h st) z w.few
    (λ j a b q l. let e = not-not (eqb (get_or st (slot_of q j) 0) 1) (all_below-at n (λ o. not (eqb (get_or st (slot_of o j) 0) 1)) (w.each j a b) q l) in rw e)
