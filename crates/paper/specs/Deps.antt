-- "Sizes and names": dependencies, covers, join. Assumes nothing.
use Rattle.std.specs.Prelude.{ℕ, zero, suc, ◌+◌, Bool, ◌&&◌, not, cond, List, [], ◌∷◌, leb, ltb, eqb, get_or, replicate}
use Rattle.paper.specs.Logic.{all_below}

-- seven entries, one for each copy there can be
abbrev pub no_deps : List ℕ
no_deps = replicate 7 0

-- 0..S, and zero from copy N on
abbrev pub entry_limit : ℕ → ℕ → ℕ → ℕ
entry_limit n s i = cond (ltb i n) s 0

abbrev pub entry_ok : ℕ → ℕ → List ℕ → ℕ → Bool
entry_ok n s d i = leb (get_or d i 0) (entry_limit n s i)

unfoldable pub deps_ok : ℕ → ℕ → List ℕ → Bool
deps_ok n s d = all_below 7 (entry_ok n s d)

unfoldable pub same_deps : List ℕ → List ℕ → Bool
same_deps d e = all_below 7 (λ i. eqb (get_or d i 0) (get_or e i 0))

-- o.j is within what the dependencies of p.k name of its owner's row, and is another
unfoldable pub covers : ℕ → ℕ → List ℕ → ℕ → ℕ → Bool
covers p k d o j = not (eqb o p && eqb j k) && leb 1 j && leb j (get_or d o 0)

abbrev pub larger : ℕ → ℕ → ℕ
larger a b = cond (ltb a b) b a

-- the larger entry at each of k places, from i on
unfoldable pub join_from : ℕ → List ℕ → List ℕ → ℕ → List ℕ
join_from zero d e i = []
join_from (suc k) d e i = larger (get_or d i 0) (get_or e i 0) ∷ join_from k d e (i + 1)

-- place by place the larger
abbrev pub join : List ℕ → List ℕ → List ℕ
join d e = join_from 7 d e 0
