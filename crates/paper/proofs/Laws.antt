-- Laws of the tests on nouns: what a test that holds says of its arguments. Assumes nothing.
use Prim.Native.Nat.{ℕ, zero, suc, ◌≤◌, ◌<◌}
use mathlib.Core.Path.{◌≡◌, refl, sym, ap, ◌∙◌}
use mathlib.Core.Bool.{Bool, true, ◌&&◌, and-eq-true_iff}
use mathlib.Core.List.{List}
use mathlib.Core.Logic.{⊎_elim}
use native.Mathlib.Omega.{arith}
use native.Mathlib.Nat.{eq-or-lt_of_le}
use lib.Dec.{eqb}
use lib.ListN.{length, get_or}
use lib.Seq.{ext_get_or}
use borrow.Author.Tests.{eqb-true, eq-eqb}
use Rattle.paper.specs.Logic.{all_below}
use Rattle.paper.specs.Deps.{same_deps}
use Rattle.paper.specs.Command.{op_number, is_noop, noop, key_ok, second_ok, command_ok, same_command}
use Rattle.paper.specs.declared.Op.{Op}
use Rattle.paper.specs.declared.Op.TheVariants.{Noop, Read, Write, Rewire}
use Rattle.paper.specs.declared.Command.{Command}

pub and-true : (a b : Bool) → (a && b) ≡ true → (a ≡ true) × (b ≡ true)
and-true a b = (and-eq-true_iff a b).0

-- a test that holds below n holds at each number below n
pub all_below-at : (n : ℕ) (f : ℕ → Bool) → all_below n f ≡ true → (k : ℕ) → k < n → f k ≡ true
unfolding all_below
all_below-at zero f h k l = absurd (omega arith)
all_below-at (suc n) f h k l =
    let p = and-true (f n) (all_below n f) h in
    ⊎_elim (λ (e : k ≡ n). rw e p.0) (λ (m : k < n). all_below-at n f p.1 k m) (eq-or-lt_of_le (let g : k ≤ n = omega arith in g))

-- equal lists of dependencies are equal
pub same_deps-eq : (d e : List ℕ) → length d ≡ 7 → length e ≡ 7 → same_deps d e ≡ true → d ≡ e
unfolding same_deps
same_deps-eq d e p q h =
    ext_get_or 0 d e (p ∙ sym q)
    (λ i l. eqb-true _ _ (all_below-at 7 (λ j. eqb (get_or d j 0) (get_or e j 0)) h i (omega arith)))

-- the op of a number, to tell ops apart
op_from : ℕ → Op
op_from zero = Noop
op_from (suc zero) = Read
op_from (suc (suc zero)) = Write
op_from (suc (suc (suc k))) = Rewire

op-back : (o : Op) → op_from (op_number o) ≡ o
unfolding op_from
op-back Noop = refl
op-back Read = refl
op-back Write = refl
op-back Rewire = refl

pub op_number-apart : (a b : Op) → op_number a ≡ op_number b → a ≡ b
op_number-apart a b e = sym (op-back a) ∙ ap op_from e ∙ op-back b

-- equal commands are equal
pub same_command-eq : (a b : Command) → same_command a b ≡ true → a ≡ b
unfolding same_command
same_command-eq a b h =
    let p = and-true (eqb (op_number a.op) (op_number b.op) && eqb a.key b.key && eqb a.second b.second) _ h in
    let q = and-true (eqb (op_number a.op) (op_number b.op) && eqb a.key b.key) _ p.0 in
    let r = and-true (eqb (op_number a.op) (op_number b.op)) _ q.0 in
    let o = op_number-apart a.op b.op (eqb-true _ _ r.0) in
    let k = eqb-true a.key b.key r.1 in
    let l = eqb-true a.second b.second q.1 in
    let e = eqb-true a.edit b.edit p.1 in
    λ i. record { op = o i; key = k i; second = l i; edit = e i }

-- a command is the same as itself
pub same_command-refl : (a : Command) → same_command a a ≡ true
unfolding same_command
same_command-refl a =
    rw (eq-eqb (op_number a.op) (op_number a.op) refl, eq-eqb a.key a.key refl, eq-eqb a.second a.second refl, eq-eqb a.edit a.edit refl)

-- a no-op in range is the no-op
pub noop-only : (k : Command) → command_ok k ≡ true → is_noop k ≡ true → same_command k noop ≡ true
unfolding command_ok same_command
noop-only k h n =
    let o : op_number k.op ≡ 0 = eqb-true _ _ n in
    let (keys, edit) = and-true (key_ok k && second_ok k) _ h in
    let (key, second) = and-true (key_ok k) _ keys in
    let a : eqb k.key 0 ≡ true = rw o at key in
    let b : eqb k.second 0 ≡ true = rw o at second in
    let c : eqb k.edit 0 ≡ true = rw o at edit in
    rw (o, a, b, c)
