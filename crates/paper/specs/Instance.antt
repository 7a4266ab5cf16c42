-- "Sizes and names": instances. Assumes nothing.
use Rattle.std.specs.Prelude.{ℕ, Bool, ◌&&◌, ◌||◌, leb, ltb, eqb}

abbrev pub owner_ok : ℕ → ℕ → Bool
owner_ok n o = ltb o n

abbrev pub number_ok : ℕ → ℕ → Bool
number_ok s j = leb 1 j && leb j s

-- o.j: owner o, number j in 1..S
unfoldable pub instance_ok : ℕ → ℕ → ℕ → ℕ → Bool
instance_ok n s o j = owner_ok n o && number_ok s j

-- o.j comes before p.k: by number, then owner
abbrev pub comes_before : ℕ → ℕ → ℕ → ℕ → Bool
comes_before o j p k = ltb j k || (eqb j k && ltb o p)
