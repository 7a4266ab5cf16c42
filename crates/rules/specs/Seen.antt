-- "Seen(c, I)", by what a copy takes to interfere: the calls by `interfere`. Assumes nothing.
use Rattle.std.specs.Prelude.{ℕ, zero, suc, ◌+◌, Bool, ◌&&◌, not, cond, List, [], ◌∷◌, leb, ltb, eqb}
use Rattle.paper.specs.Command.{Interference}
use Rattle.paper.specs.declared.Command.{Command}
use Rattle.paper.specs.declared.Record.{Record}
use Rattle.rules.specs.Sets.{highest}

-- a table as what stands at each instance, owner first
abbrev pub Records : Type 0
Records = ℕ → ℕ → Record

-- p.i, which is not o.j, has status >= 1 and a command that interferes with k
unfoldable pub met : Interference → Records → ℕ → ℕ → Command → ℕ → ℕ → Bool
met w t o j k p i = not (eqb p o && eqb i j) && leb 1 (t p i).vote.status && w k (t p i).vote.command

-- the highest such number of owner p, else 0; zero from copy N on
unfoldable pub seen_entry : Interference → ℕ → ℕ → Records → ℕ → ℕ → Command → ℕ → ℕ
seen_entry w n s t o j k p = cond (ltb p n) (highest s (met w t o j k p)) 0

unfoldable pub seen_from : Interference → ℕ → ℕ → ℕ → ℕ → Records → ℕ → ℕ → Command → List ℕ
seen_from w zero p n s t o j k = []
seen_from w (suc i) p n s t o j k = seen_entry w n s t o j k p ∷ seen_from w i (p + 1) n s t o j k

-- in each row the last vote for a command that interferes with k, leaving out o.j
abbrev pub seen : Interference → ℕ → ℕ → Records → ℕ → ℕ → Command → List ℕ
seen w n s t o j k = seen_from w 7 0 n s t o j k
