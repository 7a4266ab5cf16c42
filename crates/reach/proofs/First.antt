-- The first instance that passes a test, as it is walked to, and where none passes. Assumes nothing.
use Rattle.std.specs.Prelude.{Option, Some, None}
use Prim.Native.Nat.{ℕ, zero, suc, ◌+◌, ◌-◌, ◌≤◌, ◌<◌}
use mathlib.Core.Path.{◌≡◌, refl, sym, ◌∙◌}
use mathlib.Core.Logic.{◌⊎◌, inl, inr, ⊎_elim}
use mathlib.Core.Bool.{Bool, true, false, not, cond}
use native.Mathlib.Omega.{arith}
use native.Mathlib.Nat.{eq-or-lt_of_le}
use Rattle.rules.specs.declared.Instance.{Instance}
use Rattle.rules.specs.Order.{instance, everywhere, first_owner, first_number}
use Rattle.reach.specs.High.{Inst}
use Rattle.reach.proofs.Tests.{clash, tf, bool}
use Rattle.reach.proofs.Instances.{every-at, every_in}

-- the walk, with the places as premises
module _ (n : ℕ) (f : ℕ → ℕ → Bool) where
  pub first-none : (k j : ℕ) → k ≡ 0 → first_number k n j f ≡ None
  unfolding first_number
  first-none k j e = rw e

  pub first-row : (k k' j j' : ℕ) → k ≡ suc k' → j + 1 ≡ j' → first_number k n j f ≡ first_owner n 0 j f (first_number k' n j' f)
  unfolding first_number
  first-row k k' j j' e g = rw (e, g)

  pub first-hit : (k k' o j : ℕ) (later : Option Instance) → k ≡ suc k' → f o j ≡ true → first_owner k o j f later ≡ Some (instance o j)
  unfolding first_owner
  first-hit k k' o j later e h = rw (e, h)

  pub first_on : (k k' o o' j : ℕ) (later : Option Instance) → k ≡ suc k' → o + 1 ≡ o' → f o j ≡ false → first_owner k o j f later ≡ first_owner k' o' j f later
  unfolding first_owner
  first_on k k' o o' j later e g h = rw (e, g, h)

  pub first-end : (k o j : ℕ) (later : Option Instance) → k ≡ 0 → first_owner k o j f later ≡ later
  unfolding first_owner
  first-end k o j later e = rw e

-- two tests that agree on every instance have one first
module _ (n s : ℕ) (f g : ℕ → ℕ → Bool) (same : (o j : ℕ) → Inst n s o j → f o j ≡ g o j) where
  owner-same : (k o j : ℕ) (x y : Option Instance) → o + k ≤ n → 1 ≤ j → j ≤ s → x ≡ y → first_owner k o j f x ≡ first_owner k o j g y
  unfolding first_owner
  owner-same zero o j x y l a b e = e
  owner-same (suc k) o j x y l a b e =
      rw (same o j (record { owner = omega arith; first = a; last = b }), owner-same k (o + 1) j x y (omega arith) a b e)

  pub first-same : (k j : ℕ) → 1 ≤ j → j + k ≤ s + 1 → first_number k n j f ≡ first_number k n j g
  unfolding first_number
  first-same zero j a l = refl
  first-same (suc k) j a l =
      owner-same n 0 j _ _ (omega arith) a (omega arith) (first-same k (j + 1) (omega arith) (omega arith))

  pub every-same : everywhere n s f ≡ everywhere n s g
  every-same = go (bool (everywhere n s f)) (bool (everywhere n s g))
    where
      go : (everywhere n s f ≡ true) ⊎ (everywhere n s f ≡ false) → (everywhere n s g ≡ true) ⊎ (everywhere n s g ≡ false) → everywhere n s f ≡ everywhere n s g
      go (inl a) (inl b) = a ∙ sym b
      go (inr a) (inr b) = a ∙ sym b
      go (inl a) (inr b) = tf (everywhere n s g) (every_in n s g (λ o j x y z. sym (same o j (record { owner = x; first = y; last = z })) ∙ every-at n s f a o j x y z)) b
      go (inr a) (inl b) = tf (everywhere n s f) (every_in n s f (λ o j x y z. same o j (record { owner = x; first = y; last = z }) ∙ every-at n s g b o j x y z)) a

-- a first is found where a test passes, and none where it passes nowhere
module _ (n s : ℕ) (f : ℕ → ℕ → Bool) where
  -- none of the owners from o on passes at j, and later there is none
  owner-nowhere : (k o j : ℕ) (later : Option Instance) → first_owner k o j f later ≡ None → (later ≡ None) × ((q : ℕ) → o ≤ q → q < o + k → f q j ≡ false)
  unfolding first_owner
  owner-nowhere zero o j later e = (e, λ q a b. absurd (omega arith))
  owner-nowhere (suc k) o j later e = go (f o j) refl e (owner-nowhere k (o + 1) j later)
    where
      go : (b : Bool) → f o j ≡ b → cond b (Some (instance o j)) (first_owner k (o + 1) j f later) ≡ None
          → (first_owner k (o + 1) j f later ≡ None → (later ≡ None) × ((q : ℕ) → o + 1 ≤ q → q < o + 1 + k → f q j ≡ false))
          → (later ≡ None) × ((q : ℕ) → o ≤ q → q < o + suc k → f q j ≡ false)
      go true x e more = clash (cc)
      go false x e more =
          let w = more e in
          (w.0, λ q a b. ⊎_elim (λ (z : o ≡ q). rw (← z) x) (λ (z : o < q). w.1 q (omega arith) (omega arith)) (eq-or-lt_of_le a))

  number-nowhere : (k j : ℕ) → first_number k n j f ≡ None → (q i : ℕ) → q < n → j ≤ i → i < j + k → f q i ≡ false
  unfolding first_number
  number-nowhere zero j e q i lq a b = absurd (omega arith)
  number-nowhere (suc k) j e q i lq a b =
      let w = owner-nowhere n 0 j (first_number k n (j + 1) f) e in
      ⊎_elim (λ (z : j ≡ i). rw (← z) (w.1 q (omega arith) (omega arith))) (λ (z : j < i). number-nowhere k (j + 1) w.0 q i lq (omega arith) (omega arith)) (eq-or-lt_of_le a)

  pub nowhere-every : first_number s n 1 f ≡ None → everywhere n s (λ o j. not (f o j)) ≡ true
  nowhere-every e = every_in n s (λ o j. not (f o j)) (λ o j a b c. rw (number-nowhere s 1 e o j a b (omega arith)))

  -- the first that is found is an instance, and passes
  abbrev Passes : Option Instance → Type 0
  Passes None = Unit {0}
  Passes (Some i) = Inst n s i.owner i.number × (f i.owner i.number ≡ true)

  owner-passes : (k o j : ℕ) (later : Option Instance) → o + k ≤ n → 1 ≤ j → j ≤ s → Passes later → Passes (first_owner k o j f later)
  unfolding first_owner
  owner-passes zero o j later l a b g = g
  owner-passes (suc k) o j later l a b g = go (f o j) refl (owner-passes k (o + 1) j later (omega arith) a b g)
    where
      go : (x : Bool) → f o j ≡ x → Passes (first_owner k (o + 1) j f later) → Passes (cond x (Some (instance o j)) (first_owner k (o + 1) j f later))
      go true e more = (record { owner = omega arith; first = a; last = b }, e)
      go false e more = more

  number-passes : (k j : ℕ) → 1 ≤ j → j + k ≤ s + 1 → Passes (first_number k n j f)
  unfolding first_number
  number-passes zero j a l = tt
  number-passes (suc k) j a l = owner-passes n 0 j _ (omega arith) a (omega arith) (number-passes k (j + 1) (omega arith) (omega arith))

  pub first_passes : (o j : ℕ) → first_number s n 1 f ≡ Some (instance o j) → Inst n s o j × (f o j ≡ true)
  first_passes o j e = rw e at (number-passes s 1 (omega arith) (omega arith))

  pub at_every : (o j : ℕ) → first_number s n 1 f ≡ Some (instance o j) → everywhere n s (λ o j. not (f o j)) ≡ false
  at_every o j e = go (bool (everywhere n s (λ o j. not (f o j))))
    where
      go : (everywhere n s (λ o j. not (f o j)) ≡ true) ⊎ (everywhere n s (λ o j. not (f o j)) ≡ false) → everywhere n s (λ o j. not (f o j)) ≡ false
      go (inr h) = h
      go (inl h) =
          let w = first_passes o j e in
          let z = every-at n s (λ o j. not (f o j)) h o j w.0.owner w.0.first w.0.last in
          let y : not true ≡ true = rw w.1 at z in
          clash (cc)

-- a nested walk over numbers, then owners
module _ (n s : ℕ) (f : ℕ → ℕ → Bool) where
  -- no number below j passed
  pub record Walk (j : ℕ) : Type 0 where
    pub first : 1 ≤ j
    pub last : j ≤ s + 1
    pub so : first_number s n 1 f ≡ first_number (s + 1 - j) n j f

  -- nor did an owner below o at j
  pub record Row (j o : ℕ) : Type 0 where
    pub first : 1 ≤ j
    pub last : j ≤ s
    pub owner : o ≤ n
    pub so : first_number s n 1 f ≡ first_owner (n - o) o j f (first_number (s - j) n (j + 1) f)

  pub walk_start : 1 ≤ s + 1 → Walk 1
  walk_start h = let e : s + 1 - 1 ≡ s = omega arith in record { first = omega arith; last = h; so = rw e }

  pub row-start : (j : ℕ) → Walk j → j ≤ s → Row j 0
  row-start j w l =
      let e : n - 0 ≡ n = omega arith in
      record { first = w.first; last = l; owner = omega arith; so = w.so ∙ rw e (first-row n f (s + 1 - j) (s - j) j (j + 1) (omega arith) refl) }

  pub row_inst : (j o : ℕ) → Row j o → o < n → Inst n s o j
  row_inst j o r l = record { owner = l; first = r.first; last = r.last }

  pub row_on : (j o o' : ℕ) → Row j o → o < n → o + 1 ≡ o' → f o j ≡ false → Row j o'
  row_on j o o' r l e h =
      record { first = r.first; last = r.last; owner = omega arith; so = r.so ∙ first_on n f (n - o) (n - o') o o' j _ (omega arith) e h }

  row-later : (j o : ℕ) → Row j o → n ≤ o → first_number s n 1 f ≡ first_number (s - j) n (j + 1) f
  row-later j o r l = r.so ∙ first-end n f (n - o) o j _ (omega arith)

  pub row-end : (j j' o : ℕ) → Row j o → n ≤ o → j + 1 ≡ j' → Walk j'
  row-end j j' o r l e =
      let z : s + 1 - j' ≡ s - j = omega (arith, r.last) in
      record { first = omega arith; last = omega (arith, r.last); so = row-later j o r l ∙ rw (z, e) }

  pub row-hit : (j o : ℕ) → Row j o → o < n → f o j ≡ true → Some (instance o j) ≡ first_number s n 1 f
  row-hit j o r l h = sym (r.so ∙ first-hit n f (n - o) (n - o - 1) o j _ (omega arith) h)

  pub walk_none : (j : ℕ) → Walk j → s < j → None ≡ first_number s n 1 f
  walk_none j w l = sym (w.so ∙ first-none n f (s + 1 - j) j (omega arith))

  pub row-none : (j o : ℕ) → Row j o → n ≤ o → s ≤ j → None ≡ first_number s n 1 f
  row-none j o r l h = sym (row-later j o r l ∙ first-none n f (s - j) (j + 1) (omega arith))
