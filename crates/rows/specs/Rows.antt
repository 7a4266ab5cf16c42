-- Lists with a row of seven marks for each instance, kept as a table keeps dependencies. Assumes nothing.
-- h: the list's bytes; x: a place; d: a row.
use Rattle.std.specs.Prelude.{ℕ, ◌+◌, ◌*◌, ◌-◌, ◌<◌, ◌≡◌, List, length, get_or}
use Rattle.numbers.specs.Num.{splice}
use Rattle.codec.specs.Parts.{deps_at, deps_bytes}

-- 64 places to an owner
abbrev pub slot_of : ℕ → ℕ → ℕ
slot_of o j = 64 * o + (j - 1)

-- 14 bytes to a place
abbrev pub marks_at : List ℕ → ℕ → List ℕ
marks_at h x = deps_at h (14 * x)

abbrev pub mark_at : List ℕ → ℕ → ℕ → ℕ
mark_at h x o = get_or (marks_at h x) o 0

unfoldable pub put_row : List ℕ → ℕ → List ℕ → List ℕ
put_row h x d = splice h (14 * x) (deps_bytes d)

-- a place of a list
pub record Within (h : List ℕ) (x : ℕ) : Type 0 where
  pub long : length h ≡ 6272
  pub place : x < 448
