-- Sweeps, instance after instance. Assumes nothing.
use Prim.Native.Nat.{ℕ, ◌+◌, ◌-◌, ◌≤◌, ◌<◌}
use mathlib.Core.Path.{◌≡◌, refl}
use mathlib.Core.Logic.{⊎_elim}
use mathlib.Core.Bool.{Bool, true, false}
use mathlib.Core.List.{List}
use native.Mathlib.Omega.{arith}
use native.Mathlib.Nat.{eq-or-lt_of_le}
use Rattle.rules.specs.Seen.{Records}
use Rattle.reach.specs.High.{Inst, Holds}
use Rattle.reach.proofs.Tests.{clash}
use Rattle.sweep.specs.Sweeping.{marks_of, Rows, Kept, Raised, Numbered, Swept, turned}

-- from the first or from the last, all come once
pub turned-below : (many i : ℕ) (back : Bool) → i < many → turned many i back < many
turned-below many i true l = omega arith
turned-below many i false l = l

turned-twice : (many i : ℕ) (back : Bool) → i < many → turned many (turned many i back) back ≡ i
turned-twice many i true l = omega arith
turned-twice many i false l = refl

module _ (n s : ℕ) (u : Records) where
  kept_on : (g g₁ g₂ : List ℕ) → Kept n s g g₁ → Kept n s g₁ g₂ → Kept n s g g₂
  kept_on g g₁ g₂ a b q i iq o = omega (arith, a q i iq o, b q i iq o)

  holds_on : (g g₁ : List ℕ) → Kept n s g g₁ → (o k : ℕ) → o < n → k ≤ s → Holds n s u (marks_of g) o k → Holds n s u (marks_of g₁) o k
  holds_on g g₁ a o k lo lk h i ii l q =
      let ik : Inst n s o k = record { owner = lo; first = omega (arith, ii.first); last = lk } in
      omega (arith, h i ii l q, a o k ik q)

  -- the first i owners at number j
  pub record Owners (g g₁ : List ℕ) (j : ℕ) (back : Bool) (i : ℕ) : Type 0 where
    pub rows : Rows n s u g₁
    pub kept : Kept n s g g₁
    pub holds : ((o : ℕ) → o < n → Holds n s u (marks_of g) o (j - 1)) → (m : ℕ) → m < i → Holds n s u (marks_of g₁) (turned n m back) j
    pub within : i ≤ n

  pub owners-none : (g : List ℕ) (j : ℕ) (back : Bool) → Rows n s u g → Owners g g j back 0
  owners-none g j back r = record { rows = r; kept = λ q i iq o. omega arith; holds = λ h m l. absurd (omega arith); within = omega arith }

  pub owners-more : (g g₁ g₂ : List ℕ) (j : ℕ) (back : Bool) (i o : ℕ) → j ≤ s → i < n → o ≡ turned n i back → Owners g g₁ j back i → Raised n s u g₁ g₂ o j → Owners g g₂ j back (i + 1)
  owners-more g g₁ g₂ j back i o lj li e a r = record { rows = r.rows; kept = kept_on g g₁ g₂ a.kept r.kept; holds = holds; within = omega arith }
    where
      lo : o < n
      lo = rw e (turned-below n i back li)

      holds : ((o : ℕ) → o < n → Holds n s u (marks_of g) o (j - 1)) → (m : ℕ) → m < i + 1 → Holds n s u (marks_of g₂) (turned n m back) j
      holds h m l =
          ⊎_elim (λ (d : m ≡ i). rw (d, ← e) (r.holds (holds_on g g₁ a.kept o (j - 1) lo (omega arith) (h o lo))))
          (λ (d : m < i). holds_on g₁ g₂ r.kept (turned n m back) j (turned-below n m back (omega arith)) lj (a.holds h m d))
          (eq-or-lt_of_le {n = m} {m = i} (omega arith))

  pub owners-all : (g g₁ : List ℕ) (j : ℕ) (back : Bool) (i : ℕ) → n ≤ i → Owners g g₁ j back i → Numbered n s u g g₁ j
  owners-all g g₁ j back i l a = record {
    rows = a.rows;
    kept = a.kept;
    holds = λ h o lo. rw (turned-twice n o back lo) at (a.holds h (turned n o back) (omega (arith, turned-below n o back lo)));
  }

  -- the first i numbers
  pub record Numbers (g g₁ : List ℕ) (back : Bool) (i : ℕ) : Type 0 where
    pub rows : Rows n s u g₁
    pub kept : Kept n s g g₁
    pub holds : back ≡ false → (o j : ℕ) → o < n → j ≤ i → Holds n s u (marks_of g₁) o j
    pub within : i ≤ s

  pub numbers-none : (g : List ℕ) (back : Bool) → Rows n s u g → Numbers g g back 0
  numbers-none g back r = record { rows = r; kept = λ q i iq o. omega arith; holds = λ e o j lo l i ii li q. absurd (omega (arith, ii.first)); within = omega arith }

  pub numbers_more : (g g₁ g₂ : List ℕ) (back : Bool) (i k : ℕ) → i < s → k ≡ turned s i back → Numbers g g₁ back i → Numbered n s u g₁ g₂ (k + 1) → Numbers g g₂ back (i + 1)
  numbers_more g g₁ g₂ true i k li e a b = record { rows = b.rows; kept = kept_on g g₁ g₂ a.kept b.kept; holds = λ f. clash (cc); within = omega arith }
  numbers_more g g₁ g₂ false i k li e a b = record { rows = b.rows; kept = kept_on g g₁ g₂ a.kept b.kept; holds = λ f. holds; within = omega arith }
    where
      before : (o : ℕ) → o < n → Holds n s u (marks_of g₁) o (k + 1 - 1)
      before o lo = let z : k + 1 - 1 ≡ i = omega (arith, e) in rw z (a.holds refl o i lo (omega arith))

      holds : (o j : ℕ) → o < n → j ≤ i + 1 → Holds n s u (marks_of g₂) o j
      holds o j lo l =
          ⊎_elim (λ (d : j ≡ i + 1). let z : j ≡ k + 1 = omega (arith, e) in rw z (b.holds before o lo))
          (λ (d : j < i + 1). holds_on g₁ g₂ b.kept o j lo (omega arith) (a.holds refl o j lo (omega arith)))
          (eq-or-lt_of_le {n = j} {m = i + 1} l)

  pub numbers-all : (g g₁ : List ℕ) (back : Bool) (i : ℕ) → s ≤ i → Numbers g g₁ back i → Swept n s u g g₁ back
  numbers-all g g₁ back i l a = record { rows = a.rows; kept = a.kept; holds = λ e o j io. a.holds e o j io.owner (omega (arith, io.last)) }

  -- a sweep down keeps what a sweep up holds
  pub found-kept : (g g₁ : List ℕ) → ((o j : ℕ) → Inst n s o j → Holds n s u (marks_of g) o j) → Kept n s g g₁ → (o j : ℕ) → Inst n s o j → Holds n s u (marks_of g₁) o j
  found-kept g g₁ h a o j io = holds_on g g₁ a o j io.owner io.last (h o j io)
