-- Rows that take in the rows of beginnings. Assumes nothing.
-- r: the marks of p.k; g: those of the beginnings.
use Prim.Native.Nat.{ℕ, ◌*◌, ◌≤◌, ◌<◌}
use mathlib.Core.Path.{◌≡◌, refl}
use mathlib.Core.Logic.{inl, ⊎_elim}
use mathlib.Core.Bool.{true}
use native.Mathlib.Omega.{arith}
use native.Mathlib.Decide.{dec_le}
use Rattle.rules.specs.Seen.{Records}
use Rattle.rules.specs.Order.{reaches}
use Rattle.reach.specs.High.{Inst, entry_of, Comes, Highs, Marks, From, Holds}
use Rattle.reach.proofs.High.{comes-on, comes-trans, stays, highs-by}

module _ (n s : ℕ) (t : Records) (p k : ℕ) (ip : Inst n s p k) where
  -- all that is marked comes from p.k
  abbrev pub Comers : (ℕ → ℕ) → Type 0
  Comers r = (o x : ℕ) → Inst n s o x → x ≤ r o → Comes n s t p k o x

  pub comers-own : Comers (λ o. entry_of t p k o)
  comers-own o x io l = comes-on n s t p k o x o x ip io l (inl (refl, refl))

  -- so does what a beginning that is marked marks
  pub comers-named : (g : Marks) (r : ℕ → ℕ) → From n s t g → Comers r → (q : ℕ) → Inst n s q (r q) → (o x : ℕ) → Inst n s o x → x ≤ g q (r q) o → Comes n s t p k o x
  comers-named g r f c q iq o x io l =
      let (y, iy, ly, w) = f q (r q) iq o x io l in
      comes-trans n s t p k q y o x ip iy (c q y iy ly) w

  -- marks that hold the entries, and with a beginning what it marks, are those of p.k
  module _ (g : Marks) (r : ℕ → ℕ) (few : (o : ℕ) → o < n → r o ≤ s) (comers : Comers r) (own : (o : ℕ) → entry_of t p k o ≤ r o)
      (holds : (o j : ℕ) → Inst n s o j → Holds n s t g o j) (named : (q : ℕ) → q < n → 1 ≤ r q → (o : ℕ) → g q (r q) o ≤ r o) where
    within : (o j : ℕ) → Inst n s o j → j ≤ r o → (i : ℕ) → i < n → entry_of t o j i ≤ r i
    within o j io l i li =
        let ir : Inst n s o (r o) = record { owner = io.owner; first = omega (arith, io.first); last = few o io.owner } in
        omega (arith, holds o (r o) ir j io l i, named o io.owner ir.first i)

    pub named-highs : Highs n s t p k r
    unfolding reaches
    named-highs = highs-by n s t p k r (λ o j io e. stays n s t p k r within (n * s) p k o j (λ i li. own i) e) comers

    -- what is marked brings its own marks
    pub named-closed : (q i : ℕ) → Inst n s q i → i ≤ r q → (v : ℕ → ℕ) → ((o x : ℕ) → Inst n s o x → x ≤ v o → Comes n s t q i o x) → ((o : ℕ) → o < n → v o ≤ s)
        → (o : ℕ) → o < n → v o ≤ r o
    unfolding reaches
    named-closed q i iq l v c w o lo = go (dec_le 1 (v o))
      where
        go : Dec (1 ≤ v o) → v o ≤ r o
        go (no a) = omega arith
        go (yes a) =
            ⊎_elim (λ (e : (o ≡ q) × (v o ≡ i)). rw (e.1, e.0) l)
            (λ (e : reaches n s t q i o (v o) ≡ true). stays n s t p k r within (n * s) q i o (v o) (λ j lj. within q i iq l j lj) e)
            (c o (v o) (record { owner = lo; first = a; last = w o lo }) (omega arith))
