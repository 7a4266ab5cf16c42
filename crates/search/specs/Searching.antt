-- What a search over a table's bytes rests on. Assumes nothing.
use Rattle.std.specs.Prelude.{ℕ, ◌≤◌, ◌≡◌, List, length, get_or}
use Rattle.table.specs.Place.{table_length}
use Rattle.table.specs.Sizes.{Names}
use Rattle.seen.specs.Records.{records_in}
use Rattle.reach.specs.High.{Inst, Fit, Few, Highs}

-- n, s: the setup; t: the table's bytes; p.k: where the search starts; m: the marks it meets
pub record Searching (n s : ℕ) (t : List ℕ) (p k : ℕ) (m : List ℕ) : Type 0 where
  pub names : Names n s p k
  pub long : length t ≡ table_length n s
  pub fit : Fit n s (records_in s t)
  pub seven : length m ≡ 7
  pub few : Few n s m

-- m: the marks that a search from p.k left
pub record Searched (n s : ℕ) (t : List ℕ) (p k : ℕ) (m : List ℕ) : Type 0 where
  pub copies : n ≤ 7
  pub numbers : s ≤ 64
  pub long : length t ≡ table_length n s
  pub seven : length m ≡ 7
  pub highs : Highs n s (records_in s t) p k (λ o. get_or m o 0)

-- and o.j is asked for
pub record Asked (n s : ℕ) (t : List ℕ) (p k : ℕ) (m : List ℕ) (o j : ℕ) : Type 0 where
  pub searched : Searched n s t p k m
  pub inst : Inst n s o j
