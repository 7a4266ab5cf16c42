-- Lists of dependencies: none, and the join, which has the larger entry at each place. Assumes nothing.
use Prim.Native.Nat.{ℕ, zero, suc, ◌+◌, ◌≤◌, ◌<◌}
use mathlib.Core.Path.{◌≡◌, refl}
use mathlib.Core.Logic.{◌⊎◌, inl, inr, ⊎_elim}
use mathlib.Core.Bool.{Bool, true, false, cond}
use mathlib.Core.List.{List}
use native.Mathlib.Omega.{arith}
use native.Mathlib.Decide.{dec_lt}
use lib.Dec.{ltb}
use lib.ListN.{length, get_or, get_or-replicate, get_or-eq_default}
use borrow.Author.Tests.{ltb-true, ltb-false}
use Rattle.paper.specs.Deps.{no_deps, larger, join_from, join}
use Rattle.paper.specs.Fits.{DepsFit}

pub none-at : (i : ℕ) → get_or no_deps i 0 ≡ 0
none-at i = go (dec_lt i 7)
  where
    go : Dec (i < 7) → get_or no_deps i 0 ≡ 0
    go (yes l) = get_or-replicate 7 i 0 0 l
    go (no l) = get_or-eq_default no_deps 0 {n = i} (omega arith)

pub none-fits : DepsFit no_deps
none-fits = record { seven = refl; each = λ i. rw (none-at i) (omega arith) }

-- c is a or b, and no less than either
pub record Larger (a b c : ℕ) : Type 0 where
  pub left : a ≤ c
  pub right : b ≤ c
  pub one : (c ≡ a) ⊎ (c ≡ b)

larger-is : (a b : ℕ) → Larger a b (larger a b)
larger-is a b = go (ltb a b) refl
  where
    go : (x : Bool) → ltb a b ≡ x → Larger a b (cond x b a)
    go true e = record { left = omega (arith, ltb-true a b e); right = omega arith; one = inr refl }
    go false e = record { left = omega arith; right = omega (arith, ltb-false a b e); one = inl refl }

pub join-from : (k : ℕ) (d e : List ℕ) (i q : ℕ) → q < k → get_or (join_from k d e i) q 0 ≡ larger (get_or d (i + q) 0) (get_or e (i + q) 0)
unfolding join_from
join-from zero d e i q l = absurd (omega arith)
join-from (suc k) d e i zero l = let z : i + 0 ≡ i = omega arith in rw z refl
join-from (suc k) d e i (suc q) l = let z : i + suc q ≡ i + 1 + q = omega arith in rw z (join-from k d e (i + 1) q (omega arith))

pub join-seven : (d e : List ℕ) → length (join d e) ≡ 7
unfolding join_from
join-seven d e = refl

pub join-entry : (d e : List ℕ) (i : ℕ) → i < 7 → Larger (get_or d i 0) (get_or e i 0) (get_or (join d e) i 0)
join-entry d e i l = let z : 0 + i ≡ i = omega arith in rw (join-from 7 d e 0 i l, z) (larger-is (get_or d i 0) (get_or e i 0))

-- past the seven all are zero
pub join-at : (d e : List ℕ) → length d ≡ 7 → length e ≡ 7 → (i : ℕ) → Larger (get_or d i 0) (get_or e i 0) (get_or (join d e) i 0)
join-at d e ld le i = go (dec_lt i 7)
  where
    go : Dec (i < 7) → Larger (get_or d i 0) (get_or e i 0) (get_or (join d e) i 0)
    go (yes l) = join-entry d e i l
    go (no l) =
        rw (get_or-eq_default d 0 {n = i} (omega (arith, ld)), get_or-eq_default e 0 {n = i} (omega (arith, le)), get_or-eq_default (join d e) 0 {n = i} (omega (arith, join-seven d e)))
        (record { left = omega arith; right = omega arith; one = inl refl })

pub join-fits : (d e : List ℕ) → DepsFit d → DepsFit e → DepsFit (join d e)
join-fits d e fd fe = record {
  seven = join-seven d e;
  each = λ i. ⊎_elim (λ (x : get_or (join d e) i 0 ≡ get_or d i 0). rw x (fd.each i)) (λ (x : get_or (join d e) i 0 ≡ get_or e i 0). rw x (fe.each i)) (join-at d e fd.seven fe.seven i).one;
}
