-- The entries, tried one after the other. Assumes nothing.
use Prim.Native.Nat.{ℕ, zero, suc, ◌+◌, ◌-◌, ◌≤◌, ◌<◌}
use mathlib.Core.Path.{◌≡◌, refl, sym, ◌∙◌}
use mathlib.Core.Bool.{true, false}
use mathlib.Core.List.{List}
use native.Mathlib.Omega.{arith}
use Rattle.std.specs.Prelude.{Ok, Err}
use Rattle.paper.specs.Deps.{entry_ok, deps_ok}
use Rattle.paper.specs.declared.Field.TheVariants as field
use Rattle.paper.specs.declared.Blame.TheVariants as blame
use Rattle.paper.proofs.Laws.{all_below-at}
use Rattle.valid.specs.Groups.{unless, entries_verdict}

module _ (n s : ℕ) (d : List ℕ) where
  -- entries that all fit
  fit : ((i : ℕ) → i < 7 → entry_ok n s d i ≡ true) → (k i : ℕ) → i + k ≤ 7 → entries_verdict n s d k i ≡ Ok tt
  unfolding entries_verdict
  fit f zero i l = refl
  fit f (suc k) i l = rw (f i (omega arith)) (fit f k (i + 1) (omega arith))

  pub all_fit : deps_ok n s d ≡ true → Ok tt ≡ entries_verdict n s d 7 0
  unfolding deps_ok
  all_fit h = sym (fit (λ i l. all_below-at 7 (entry_ok n s d) h i l) 7 0 (omega arith))

  -- those from i on are left
  pub record Left (i : ℕ) : Type 0 where
    pub rest : entries_verdict n s d (7 - i) i ≡ entries_verdict n s d 7 0
    pub few : i ≤ 7

  pub all_left : Left 0
  all_left = record { rest = refl; few = omega arith }

  one : (i : ℕ) → i < 7 → entries_verdict n s d (7 - i) i ≡ unless (entry_ok n s d i) (blame.Of (field.Entry i)) (entries_verdict n s d (7 - (i + 1)) (i + 1))
  unfolding entries_verdict
  one i l = let e : 7 - i ≡ suc (7 - (i + 1)) = omega arith in rw e

  module _ (i : ℕ) (l : Left i) where
    pub bad : i < 7 → entry_ok n s d i ≡ false → Err (blame.Of (field.Entry i)) ≡ entries_verdict n s d 7 0
    bad h f = let e = one i h in sym (rw f at e) ∙ l.rest

    pub good : i < 7 → entry_ok n s d i ≡ true → Left (i + 1)
    good h t = let e = one i h in record { rest = sym (rw t at e) ∙ l.rest; few = omega arith }

    pub none_left : 7 ≤ i → Ok tt ≡ entries_verdict n s d 7 0
    unfolding entries_verdict
    none_left h = let e : 7 - i ≡ 0 = omega arith in (rw e) ∙ l.rest
