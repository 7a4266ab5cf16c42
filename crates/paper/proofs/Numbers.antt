-- The paper's number, with the offset beside it, tells any two refusals apart; none is 0, and none is 3. Assumes nothing.
use Prim.Native.Nat.{ℕ, ◌≤◌}
use mathlib.Core.Path.{◌≡◌, refl, sym, ap₂, ◌∙◌}
use mathlib.Core.Bool.{cond}
use native.Mathlib.Omega.{arith}
use lib.Dec.{eqb}
use Rattle.paper.specs.Refusal.{number_of, offset_in}
use Rattle.paper.specs.declared.Refusal.{Refusal}
use Rattle.paper.specs.declared.Refusal.TheVariants.{Setup, Unsound, Room, UnknownKind, WrongLength, WrongWay, WrongLead, WrongField, Op, Instance, RecoverCommitted, NudgeIdle, BallotsUsedUp, NoBlank, OtherCommit}

-- the refusal of a number and an offset
refusal_of : ℕ → ℕ → Refusal
refusal_of k a =
    cond (eqb k 1) Setup
    (cond (eqb k 11) Unsound
    (cond (eqb k 2) Room
    (cond (eqb k 31) UnknownKind
    (cond (eqb k 32) WrongLength
    (cond (eqb k 33) WrongWay
    (cond (eqb k 34) WrongLead
    (cond (eqb k 35) (WrongField a)
    (cond (eqb k 4) Op
    (cond (eqb k 6) Instance (cond (eqb k 8) RecoverCommitted (cond (eqb k 9) NudgeIdle (cond (eqb k 7) BallotsUsedUp (cond (eqb k 5) NoBlank OtherCommit)))))))))))))

back : (r : Refusal) → refusal_of (number_of r) (offset_in r) ≡ r
unfolding refusal_of
back Setup = refl
back Unsound = refl
back Room = refl
back UnknownKind = refl
back WrongLength = refl
back WrongWay = refl
back WrongLead = refl
back (WrongField k) = refl
back Op = refl
back Instance = refl
back RecoverCommitted = refl
back NudgeIdle = refl
back BallotsUsedUp = refl
back NoBlank = refl
back OtherCommit = refl

pub number_of-apart : (a b : Refusal) → number_of a ≡ number_of b → offset_in a ≡ offset_in b → a ≡ b
number_of-apart a b e o = sym (back a) ∙ ap₂ refusal_of e o ∙ back b

-- but for 35 the number is enough
plain : (r : Refusal) → (number_of r ≡ 35 → ⊥) → offset_in r ≡ 0
plain Setup n = refl
plain Unsound n = refl
plain Room n = refl
plain UnknownKind n = refl
plain WrongLength n = refl
plain WrongWay n = refl
plain WrongLead n = refl
plain (WrongField k) n = absurd (n refl)
plain Op n = refl
plain Instance n = refl
plain RecoverCommitted n = refl
plain NudgeIdle n = refl
plain BallotsUsedUp n = refl
plain NoBlank n = refl
plain OtherCommit n = refl

pub number-apart : (a b : Refusal) → number_of a ≡ number_of b → (number_of a ≡ 35 → ⊥) → a ≡ b
number-apart a b e n = number_of-apart a b e (plain a n ∙ sym (plain b (λ h. n (e ∙ h))))

-- 3 is no refusal's number
pub three-none : (r : Refusal) → number_of r ≡ 3 → ⊥
three-none Setup e = omega arith
three-none Unsound e = omega arith
three-none Room e = omega arith
three-none UnknownKind e = omega arith
three-none WrongLength e = omega arith
three-none WrongWay e = omega arith
three-none WrongLead e = omega arith
three-none (WrongField k) e = omega arith
three-none Op e = omega arith
three-none Instance e = omega arith
three-none RecoverCommitted e = omega arith
three-none NudgeIdle e = omega arith
three-none BallotsUsedUp e = omega arith
three-none NoBlank e = omega arith
three-none OtherCommit e = omega arith

pub number_of-pos : (r : Refusal) → 1 ≤ number_of r
number_of-pos Setup = omega arith
number_of-pos Unsound = omega arith
number_of-pos Room = omega arith
number_of-pos UnknownKind = omega arith
number_of-pos WrongLength = omega arith
number_of-pos WrongWay = omega arith
number_of-pos WrongLead = omega arith
number_of-pos (WrongField k) = omega arith
number_of-pos Op = omega arith
number_of-pos Instance = omega arith
number_of-pos RecoverCommitted = omega arith
number_of-pos NudgeIdle = omega arith
number_of-pos BallotsUsedUp = omega arith
number_of-pos NoBlank = omega arith
number_of-pos OtherCommit = omega arith
