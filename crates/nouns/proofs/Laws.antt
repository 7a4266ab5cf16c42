-- Derived equality of dependencies is the paper's; the join, entry by entry. Assumes nothing.
use mathlib.Core.Path.{◌≡◌, refl, sym, ◌∙◌}
use mathlib.Core.Bool.{true}
use Prim.Native.Nat.{ℕ, ◌+◌, ◌<◌}
use mathlib.Core.List.{List}
use native.Mathlib.Omega.{arith}
use lib.Dec.{eqb}
use lib.ListN.{length, get_or}
use lib.Pointwise.{pointwise, bytes_decides}
use lib.Seq.{ext_get_or}
use borrow.Author.Tests.{eq-eqb}
use Rattle.std.proofs.lemmas.Bool.Decides.{same_from_decides}
use Rattle.paper.specs.Deps.{larger, join, same_deps}
use Rattle.paper.specs.Logic.{all_below}
use Rattle.paper.proofs.Laws.{same_deps-eq}
use Rattle.paper.proofs.Deps.{join-from, join-seven}

-- lists of seven are equal where their seven entries are
same-self : (d : List ℕ) → same_deps d d ≡ true
unfolding same_deps all_below
same-self d =
    rw (eq-eqb (get_or d 0 0) _ refl, eq-eqb (get_or d 1 0) _ refl, eq-eqb (get_or d 2 0) _ refl, eq-eqb (get_or d 3 0) _ refl, eq-eqb (get_or d 4 0) _ refl, eq-eqb (get_or d 5 0) _ refl, eq-eqb (get_or d 6 0) _ refl)

pub same_deps_is : (d e : List ℕ) → length d ≡ 7 → length e ≡ 7 → pointwise eqb d e ≡ same_deps d e
same_deps_is d e p q =
    same_from_decides (pointwise eqb d e) (same_deps d e) (bytes_decides d e) (same_deps-eq d e p q, λ (h : d ≡ e). rw h (same-self e))

-- the join of two lists is the list that has the larger entry at each place
pub join_is : (d e x : List ℕ) → length x ≡ 7 → ((k : ℕ) → k < 7 → get_or x k 0 ≡ larger (get_or d k 0) (get_or e k 0)) → x ≡ join d e
join_is d e x l h =
    ext_get_or 0 x (join d e) (l ∙ sym (join-seven d e))
    (λ i b. let z : 0 + i ≡ i = omega arith in h i (omega arith) ∙ sym (rw z at (join-from 7 d e 0 i (omega arith))))
