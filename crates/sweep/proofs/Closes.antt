-- An instance's row takes in what it names until nothing changes. Assumes nothing.
use Prim.Native.Nat.{ℕ, zero, suc, ◌+◌, ◌-◌, ◌≤◌, ◌<◌}
use mathlib.Core.Path.{◌≡◌, refl, sym, ◌∙◌}
use mathlib.Core.Logic.{◌⊎◌, inl, inr, ⊎_elim}
use mathlib.Core.Bool.{Bool, true, false, not}
use mathlib.Core.List.{List}
use native.Mathlib.Omega.{arith}
use native.Mathlib.Nat.{eq-or-lt_of_le}
use native.Mathlib.Decide.{dec_lt}
use lib.Dec.{eqb}
use lib.ListN.{length, get_or, get_or-eq_default}
use Rattle.paper.specs.Deps.{same_deps}
use Rattle.paper.proofs.Laws.{all_below-at}
use Rattle.paper.specs.Fits.{DepsFit}
use Rattle.table.proofs.Round.{fits_in}
use Rattle.seen.specs.Records.{records_in}
use Rattle.reach.proofs.Tests.{tf, clash, eqb-eq, eqb_same}
use Rattle.reach.proofs.Count.{one-if}
use Rattle.reach.proofs.Instances.{all_in}
use Rattle.reach.proofs.Beginnings.{comers-own}
use Rattle.rows.specs.Rows.{slot_of, marks_at, put_row, Within}
use Rattle.rows.proofs.Laws.{row-seven, row_fits, put-long, put-own, put_other}
use Rattle.sweep.specs.Sweeping.{Taking, beyond_in, marks_of, Opened, Closed, Wrote, Closing}
use Rattle.sweep.proofs.Named.{wrote-same, wrote_on, beyond-seven, beyond-few, beyond-old, beyond-held, beyond-comers}

-- a sum of marks
unfoldable pub sum : ℕ → (ℕ → ℕ) → ℕ
sum zero f = 0
sum (suc k) f = f k + sum k f

abbrev Under : ℕ → (ℕ → ℕ) → (ℕ → ℕ) → Type 0
Under k f g = (i : ℕ) → i < k → f i ≤ g i

sum-le : (k : ℕ) (f g : ℕ → ℕ) → Under k f g → sum k f ≤ sum k g
unfolding sum
sum-le zero f g u = omega arith
sum-le (suc k) f g u = omega (arith, u k (omega arith), sum-le k f g (λ i l. u i (omega arith)))

-- it grows, or nothing does
sum-or : (k : ℕ) (f g : ℕ → ℕ) → Under k f g → (sum k f < sum k g) ⊎ ((i : ℕ) → i < k → f i ≡ g i)
unfolding sum
sum-or zero f g u = inr (λ i l. absurd (omega arith))
sum-or (suc k) f g u = go (dec_lt (f k) (g k)) (sum-or k f g (λ i l. u i (omega arith)))
  where
    go : Dec (f k < g k) → (sum k f < sum k g) ⊎ ((i : ℕ) → i < k → f i ≡ g i) → (f k + sum k f < g k + sum k g) ⊎ ((i : ℕ) → i < suc k → f i ≡ g i)
    go (yes h) r = inl (omega (arith, sum-le k f g (λ i l. u i (omega arith))))
    go (no h) (inl r) = inl (omega (arith, u k (omega arith)))
    go (no h) (inr r) = inr (λ i l. ⊎_elim (λ (e : i ≡ k). rw e (omega (arith, u k (omega arith)))) (λ (e : i < k). r i e) (eq-or-lt_of_le {n = i} {m = k} (omega arith)))

abbrev marks : List ℕ → ℕ
marks row = sum 7 (λ i. get_or row i 0)

unfoldable pub most : ℕ
most = sum 7 (λ i. 65535)

-- what is left to be marked, and a turn that finds nothing
unfoldable pub left : List ℕ → Bool → ℕ
left row changed = (most - marks row) + one-if changed

-- the same row again, or one with more marks
module _ (row more : List ℕ) (lr : length row ≡ 7) (lm : length more ≡ 7) (under : (i : ℕ) → get_or row i 0 ≤ get_or more i 0) where
  same_at : same_deps more row ≡ true → (i : ℕ) → get_or more i 0 ≡ get_or row i 0
  unfolding same_deps
  same_at e i = go (dec_lt i 7)
    where
      go : Dec (i < 7) → get_or more i 0 ≡ get_or row i 0
      go (yes l) = eqb-eq _ _ (all_below-at 7 (λ i. eqb (get_or more i 0) (get_or row i 0)) e i l)
      go (no l) = get_or-eq_default more 0 {n = i} (omega (arith, lm)) ∙ sym (get_or-eq_default row 0 {n = i} (omega (arith, lr)))

  more-marks : same_deps more row ≡ false → marks row < marks more
  unfolding same_deps
  more-marks e =
      ⊎_elim (λ (l : marks row < marks more). l)
      (λ (f : (i : ℕ) → i < 7 → get_or row i 0 ≡ get_or more i 0). tf (same_deps more row) (all_in 7 (λ i. eqb (get_or more i 0) (get_or row i 0)) (λ i l. eqb_same _ _ (sym (f i l)))) e)
      (sum-or 7 (λ i. get_or row i 0) (λ i. get_or more i 0) (λ i l. under i))

  left-falls : DepsFit more → (b : Bool) → same_deps more row ≡ b → left more (not b) < left row true
  unfolding left most
  left-falls f true e = omega (arith, sum-le 7 (λ i. get_or row i 0) (λ i. get_or more i 0) (λ i l. under i))
  left-falls f false e = omega (arith, more-marks e, sum-le 7 (λ i. get_or more i 0) (λ i. 65535) (λ i l. omega (arith, f.each i)))

-- at any turn
pub record Turn (n s : ℕ) (t g h₀ : List ℕ) (p k : ℕ) (changed : Bool) (h : List ℕ) : Type 0 where
  pub opened : Opened n s (records_in s t) p k (marks_at h (slot_of p k))
  pub wrote : Wrote h₀ h (slot_of p k)
  pub named : changed ≡ false → (q : ℕ) → q < n → 1 ≤ get_or (marks_at h (slot_of p k)) q 0 → (o : ℕ) → marks_of g q (get_or (marks_at h (slot_of p k)) q 0) o ≤ get_or (marks_at h (slot_of p k)) o 0

module _ (n s : ℕ) (t g h₀ : List ℕ) (p k : ℕ) (a : Closing n s t g h₀ p k) where
  abbrev x : ℕ
  x = slot_of p k

  pub close-place : (h : List ℕ) → length h ≡ 6272 → Within h x
  close-place h l = record { long = l; place = omega (arith, a.inst.owner, a.inst.first, a.inst.last, a.sized.copies, a.sized.numbers) }

  pub turn-first : Opened n s (records_in s t) p k (marks_at h₀ x) → Turn n s t g h₀ p k true h₀
  turn-first o = record { opened = o; wrote = wrote-same h₀ x a.long; named = λ e. clash (cc) }

  module _ (h : List ℕ) (v : Turn n s t g h₀ p k true h) where
    abbrev row : List ℕ
    row = marks_at h x

    abbrev more : List ℕ
    more = beyond_in n n g row

    pub turn-taking : Taking n s g row
    turn-taking = record {
      copies = a.sized.copies;
      numbers = a.sized.numbers;
      long = a.found.rows.long;
      rows = a.found.rows.few;
      seven = row-seven h x;
      few = v.opened.few;
    }

    old : (i : ℕ) → get_or row i 0 ≤ get_or more i 0
    old i = beyond-old n s g row turn-taking i

    seven : length more ≡ 7
    seven = beyond-seven n s g row turn-taking

    -- the row took in what it names
    module _ {y : ℕ} {r m h₁ : List ℕ} {b : Bool} (ey : y ≡ x) (er : r ≡ marks_at h y) (eh : marks_at h₁ y ≡ beyond_in n n g (marks_at h y)) (em : m ≡ marks_at h₁ y) (eb : b ≡ same_deps m r) (w : Wrote h h₁ y)
        (fits : (i : ℕ) → get_or h₁ i 0 < 256) where
      own : marks_at h₁ x ≡ more
      own = rw ey at eh

      same : b ≡ same_deps more row
      same = rw (eb, em, er, eh, ey)

      opened : Opened n s (records_in s t) p k more
      opened = record {
        few = beyond-few n s g row turn-taking;
        own = λ o. omega (arith, v.opened.own o, old o);
        comers = beyond-comers n s g row turn-taking (records_in s t) p k a.inst a.found.rows.from v.opened.comers;
      }

      held : (c : Bool) → same_deps more row ≡ c → not c ≡ false → (q : ℕ) → q < n → 1 ≤ get_or more q 0 → (o : ℕ) → marks_of g q (get_or more q 0) o ≤ get_or more o 0
      held true c d q l f o =
          let z : (i : ℕ) → get_or more i 0 ≡ get_or row i 0 = λ i. same_at row more (row-seven h x) seven old c i in
          same-mark q o (get_or row q 0) (get_or more q 0) (get_or more o 0) (sym (z q)) (omega (arith, beyond-held n s g row turn-taking z q l (omega (arith, z q)) o, z o))
        where
          same-mark : (q o a b m : ℕ) → a ≡ b → marks_of g q a o ≤ m → marks_of g q b o ≤ m
          same-mark q o a b m e l = rw e at l
      held false c d q l f o = clash (cc)

      pub turn_on : Turn n s t g h₀ p k (not b) h₁
      turn_on = record {
        opened = rw own opened;
        wrote = wrote_on h₀ h h₁ x v.wrote (rw ey at w);
        named = λ f. rw own (held b (sym same) f);
      }

      pub turn-less : left (marks_at h₁ x) (not b) < left (marks_at h x) true
      turn-less = rw own (left-falls row more (row-seven h x) seven old (rw own at (row_fits h₁ x fits)) b (sym same))

  pub turn_last : (h : List ℕ) → Turn n s t g h₀ p k false h → Closed n s (records_in s t) g p k (marks_at h x)
  turn_last h v = record { opened = v.opened; named = v.named refl }

  -- the row begins with the entries
  module _ (bt : (i : ℕ) → get_or t i 0 < 256) where
    abbrev d : List ℕ
    d = (records_in s t p k).vote.deps

    first-own : marks_at (put_row h₀ x d) x ≡ d
    first-own = put-own h₀ x d (close-place h₀ a.long) (fits_in s t p k bt).vote.deps

    pub first-opened : Opened n s (records_in s t) p k (marks_at (put_row h₀ x d) x)
    first-opened = rw first-own (record { few = λ o l. a.sized.fit p k a.inst o l; own = λ o. omega arith; comers = comers-own n s (records_in s t) p k a.inst })

    pub first-wrote : Wrote h₀ (put_row h₀ x d) x
    first-wrote = record { long = put-long h₀ x d (close-place h₀ a.long); others = λ y l e. put_other h₀ x d (close-place h₀ a.long) y l e }

  -- as it was read and written
  pub first_made : {y : ℕ} {v h₁ : List ℕ} → y ≡ x → v ≡ (records_in s t p k).vote.deps → h₁ ≡ put_row h₀ y v → h₁ ≡ put_row h₀ x (records_in s t p k).vote.deps
  first_made ey ev eh = eh ∙ rw (ev, ey)

  pub close-next : (h₁ : List ℕ) → Wrote h₀ h₁ x → Closing n s t g h₁ p k
  close-next h₁ w = record { sized = a.sized; found = a.found; long = w.long; inst = a.inst }
