-- The setting of a run of many instances: sizes, and what happened by its end. Assumes nothing.
use Prim.Native.Nat.{ℕ, suc, ◌+◌, ◌*◌, ◌/◌, ◌%◌, ◌≤◌, ◌<◌}
use mathlib.Core.Path.{◌≡◌, refl}
use mathlib.Core.Bool.{true, cond}
use mathlib.Core.List.{List, Memᴰ}
use native.Mathlib.Omega.{arith}
use lib.Dec.{leb, ltb}
use lib.ListN.{get_or}
use Rattle.paper.specs.Instance.{instance_ok, owner_ok, number_ok}
use Rattle.paper.specs.declared.Command.{Command}
use Rattle.safety.specs.Run.{Happening, requested, Settling}
use Rattle.reach.proofs.Tests.{and_l, and_r, and_in, leb-le, leb-in, ltb-lt, ltb-in, by_cond}
use Rattle.safety.proofs.Value.{Value, Sub}

-- N = 2F+1, S = s
pub record Case : Type 0 where
  pub F : ℕ
  pub s : ℕ
  pub fit : F ≤ 3
  pub pos : 0 < F
  pub past : List (Happening Settling)

abbrev pub copies : Case → ℕ
copies C = suc (2 * C.F)

-- instances as numbers, in the paper's order
abbrev pub code : ℕ → ℕ → ℕ
code o j = 8 * j + o

pub code-owner : (o j : ℕ) → o < 8 → code o j % 8 ≡ o
code-owner o j l = omega arith

pub code-number : (o j : ℕ) → o < 8 → code o j / 8 ≡ j
code-number o j l = omega arith

-- the owner of an instance; of a number that stands for none, any copy
unfoldable pub own : Case → ℕ → ℕ
own C J = cond (ltb (J % 8) (copies C)) (J % 8) 0

pub inside : (C : Case) (J : ℕ) → own C J < copies C
unfolding own
inside C J = by_cond (λ (y : ℕ). y < copies C) (ltb (J % 8) (copies C)) (λ e. ltb-lt (J % 8) (copies C) e) (λ e. omega arith)

pub own_code : (C : Case) (o j : ℕ) → o < copies C → own C (code o j) ≡ o
unfolding own
own_code C o j l = rw (code-owner o j (omega arith), ltb-in o (copies C) l) refl

-- what was requested of an instance
abbrev pub Req : Case → ℕ → Command → Type 0
Req C J k = Memᴰ (requested (J % 8) (J / 8) k) C.past

-- the dependencies of v reach as far as J, an instance in range
pub record Cover (C : Case) (v : Value) (J : ℕ) : Type 0 where
  pub owner : J % 8 < copies C
  pub first : 1 ≤ J / 8
  pub last : J / 8 ≤ C.s
  pub far : J / 8 ≤ get_or v.deps (J % 8) 0

pub cov-up : (C : Case) (v w : Value) (J : ℕ) → Sub v w → Cover C v J → Cover C w J
cov-up C v w J u c = record { owner = c.owner; first = c.first; last = c.last; far = omega (arith, u (J % 8) (omega (arith, c.owner)), c.far) }

pub range : (n s o j : ℕ) → instance_ok n s o j ≡ true → (o < n) × (1 ≤ j) × (j ≤ s)
unfolding instance_ok
range n s o j e = (ltb-lt o n (and_l _ (number_ok s j) e), leb-le 1 j (and_l _ (leb j s) (and_r (owner_ok n o) _ e)), leb-le j s (and_r (leb 1 j) _ (and_r (owner_ok n o) _ e)))

pub in-range : (n s o j : ℕ) → o < n → 1 ≤ j → j ≤ s → instance_ok n s o j ≡ true
unfolding instance_ok
in-range n s o j a b d = and_in _ _ (ltb-in o n a) (and_in _ _ (leb-in 1 j b) (leb-in j s d))
