-- What a table's walks rest on once 1 was not refused. Assumes nothing.
use Rattle.std.specs.Prelude.{ℕ, ◌≤◌, ◌<◌, ◌≡◌, List, length}
use Rattle.table.specs.Place.{table_length}

pub record Sizes (n s c : ℕ) (t : List ℕ) : Type 0 where
  pub least : 1 ≤ n
  pub copies : n ≤ 7
  pub numbers : s ≤ 64
  pub copy : c < n
  pub long : length t ≡ table_length n s

-- and an owner
pub record Row (n s c o : ℕ) (t : List ℕ) : Type 0 where
  pub sizes : Sizes n s c t
  pub owner : o < n

-- an instance of a setup in range
pub record Names (n s o j : ℕ) : Type 0 where
  pub copies : n ≤ 7
  pub numbers : s ≤ 64
  pub owner : o < n
  pub first : 1 ≤ j
  pub last : j ≤ s

-- and a table long enough for it
pub record Has (n s o j : ℕ) (t : List ℕ) : Type 0 where
  pub names : Names n s o j
  pub long : length t ≡ table_length n s
