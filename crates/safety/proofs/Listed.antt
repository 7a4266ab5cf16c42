-- What a copy listed is what its table marks, and nothing is listed twice. Assumes nothing.
use Rattle.std.specs.Prelude.{Some}
use Prim.Native.Nat.{ℕ, ◌%◌, ◌/◌, ◌<◌}
use mathlib.Core.Path.{◌≡◌, refl, sym, ap, subst, ◌∙◌}
use mathlib.Core.Logic.{◌⊎◌, inl, inr, ⊎_elim}
use mathlib.Core.Bool.{true}
use mathlib.Core.List.Memᴰ
use mathlib.Core.List.{List, [], ◌∷◌, ◌++◌, Memᴰ}
use native.Mathlib.Omega.{arith}
use native.Mathlib.Decide.{ℕ_discrete}
use Rattle.paper.specs.Instance.{instance_ok}
use Rattle.reach.proofs.Tests.{eqb_same, eqb-false}
use Rattle.rules.specs.Order.{instance, is_marked, candidate, next_out}
use Rattle.safety.specs.Run.{Instance, State, replaced, Start, blanks, request, receive, recover, nudge, hand_out, question, Run, stay, further}
use Rattle.safety.specs.Demand.{Before}
use Rattle.safety.proofs.Case.{Case, code, code-owner, code-number, in-range}
use Rattle.safety.proofs.Instances.{at_first}
use Rattle.safety.proofs.Inv.HandOut.{never-twice}
use Rattle.safety.proofs.Sim.{newest, Tie}
use Rattle.safety.proofs.Ordered.{early}

-- what is listed stands among the marks, and the other way round
in-old : (J : ℕ) (old : List ℕ) (l : List Instance) → Memᴰ J old → Memᴰ J (newest old l)
in-old J old [] h = h
in-old J old (e ∷ l) h = in-old J (code e.0 e.1 ∷ old) l (Memᴰ.tail h)

in-newest : (o j : ℕ) (old : List ℕ) (l : List Instance) → Memᴰ (o, j) l → Memᴰ (code o j) (newest old l)
in-newest o j old (e ∷ l) (Memᴰ.head q) = in-old (code o j) (code e.0 e.1 ∷ old) l (Memᴰ.head (ap (λ (i : Instance). code i.0 i.1) q))
in-newest o j old (e ∷ l) (Memᴰ.tail h) = in-newest o j (code e.0 e.1 ∷ old) l h
in-newest o j old [] h = elim h [ ]

from-newest : (J : ℕ) (old : List ℕ) (l : List Instance) → Memᴰ J (newest old l) → Memᴰ J old ⊎ ((i : Instance) × Memᴰ i l × (J ≡ code i.0 i.1))
from-newest J old [] h = inl h
from-newest J old (e ∷ l) h =
    ⊎_elim (λ (k : Memᴰ J (code e.0 e.1 ∷ old)). first k) (λ ((i, m, q) : (i : Instance) × Memᴰ i l × (J ≡ code i.0 i.1)). inr (i, Memᴰ.tail m, q))
    (from-newest J (code e.0 e.1 ∷ old) l h)
  where
    first : Memᴰ J (code e.0 e.1 ∷ old) → Memᴰ J old ⊎ ((i : Instance) × Memᴰ i (e ∷ l) × (J ≡ code i.0 i.1))
    first (Memᴰ.head q) = inr (e, Memᴰ.head refl, q)
    first (Memᴰ.tail k) = inl k

-- what is listed is an instance of the group
module _ (n s : ℕ) (lim : n < 8) where
  added : (c o j a : ℕ) (x : State) (i : Instance) → Dec (a ≡ c) → Memᴰ i (replaced x.marks c (x.marks c ++ (o, j) ∷ []) a) → Memᴰ i (x.marks a) ⊎ (i ≡ (o, j))
  added c o j a x i (yes z) h =
      ⊎_elim (λ (k : Memᴰ i (x.marks c)). inl (rw z k)) (λ (k : Memᴰ i ((o, j) ∷ [])). inr (Memᴰ.eq_of_singleton k))
      (Memᴰ.append_cases (x.marks c) (rw (eqb_same a c z) at h))
  added c o j a x i (no z) h = inl (rw (eqb-false a c z) at h)

  out-range : (x : State) (c o j : ℕ) → next_out n s (x.tables c) ≡ Some (instance o j) → instance_ok n s o j ≡ true
  unfolding next_out
  out-range x c o j e = let (lo, l1, l2, cd, lw) = at_first n (omega (arith, lim)) (candidate n s (x.tables c)) s 1 o j e in in-range n s o j lo l1 (omega (arith, l2))

  pub listed-range : {x₀ x : State} → Start n s x₀ → Run n s x₀ x → (a : ℕ) (i : Instance) → Memᴰ i (x.marks a) → instance_ok n s i.0 i.1 ≡ true
  listed-range blanks stay a i h = absurd (Memᴰ.not-nil h)
  listed-range st (further r (request c w k out lc wide nk ls am)) a i h = listed-range st r a i h
  listed-range st (further r (receive c w m out lc wide sent v rf am)) a i h = listed-range st r a i h
  listed-range st (further r (recover c o j out lc ok e ob am)) a i h = listed-range st r a i h
  listed-range st (further r (nudge c o j out lc ok e am)) a i h = listed-range st r a i h
  listed-range st (further r (question c o j lc)) a i h = listed-range st r a i h
  listed-range st (further {y = x} r (hand_out c o j lc e)) a i h =
      ⊎_elim (λ (k : Memᴰ i (x.marks a)). listed-range st r a i k) (λ (q : i ≡ (o, j)). rw q (out-range x c o j e)) (added c o j a x i (ℕ_discrete a c) h)

module _ {C : Case} {z : State} (t : Tie C z) where
  open t use {reach, mark-in, in-mark, listed}

  pub once : (a : ℕ) (i : Instance) → Before i i (z.marks a) → ⊥
  once a i b = never-twice C reach a (code i.0 i.1) (early t a i i b)

  pub listed-marked : (a o j : ℕ) → o < 8 → Memᴰ (o, j) (z.marks a) → is_marked (z.tables a o j) ≡ true
  listed-marked a o j l h =
      rw (code-owner o j l, code-number o j l) at (in-mark a (code o j) (rw (listed a) (in-newest o j [] (z.marks a) h)))

  pub marked-listed : (a o j : ℕ) → o < 8 → ((i : Instance) → Memᴰ i (z.marks a) → i.0 < 8) → is_marked (z.tables a o j) ≡ true → Memᴰ (o, j) (z.marks a)
  marked-listed a o j l low m =
      let g : is_marked (z.tables a (code o j % 8) (code o j / 8)) ≡ true = rw (code-owner o j l, code-number o j l) m in
      ⊎_elim (λ (k : Memᴰ (code o j) []). absurd (Memᴰ.not-nil k))
      (λ ((i, k, q) : (i : Instance) × Memᴰ i (z.marks a) × (code o j ≡ code i.0 i.1)). subst (λ (y : Instance). Memᴰ y (z.marks a)) (same i (low i k) q) k)
      (from-newest (code o j) [] (z.marks a) (rw (listed a) at (mark-in a (code o j) g)))
    where
      same : (i : Instance) → i.0 < 8 → code o j ≡ code i.0 i.1 → i ≡ (o, j)
      same (p, k) lp q =
          let a : p ≡ o = sym (code-owner p k lp) ∙ ap (λ (y : ℕ). y % 8) (sym q) ∙ code-owner o j l in
          let b : k ≡ j = sym (code-number p k lp) ∙ ap (λ (y : ℕ). y / 8) (sym q) ∙ code-number o j l in
          λ r. (a r, b r)
