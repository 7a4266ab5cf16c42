-- What dependencies cover and how they join, by cases that tell each rule from its neighbours. Assumes nothing.
use Prim.Native.Nat.{ℕ}
use mathlib.Core.Path.{◌≡◌, refl}
use mathlib.Core.Bool.{true, false}
use mathlib.Core.List.{List, [], ◌∷◌}
use Rattle.paper.specs.Deps.{covers, join_from, join}

-- what 2.4 covers by an entry of 3 for owner 1 and of 5 for its own row
abbrev named : List ℕ
named = 0 ∷ 3 ∷ 5 ∷ 0 ∷ 0 ∷ 0 ∷ 9 ∷ []

pub record Covering : Type 0 where
  -- the row up to the entry, the entry's own number too, and none past it
  pub first : covers 2 4 named 1 1 ≡ true
  pub last : covers 2 4 named 1 3 ≡ true
  pub past : covers 2 4 named 1 4 ≡ false
  pub zeroth : covers 2 4 named 1 0 ≡ false
  -- nothing of a row that no entry names
  pub unnamed : covers 2 4 named 0 1 ≡ false
  -- of its own row all but itself
  pub itself : covers 2 4 named 2 4 ≡ false
  pub own_row : covers 2 4 named 2 5 ≡ true
  -- the same number of another owner is another instance
  pub same_number : covers 2 4 named 6 4 ≡ true
  -- the larger at each place, from either side
  pub joins : join named (1 ∷ 2 ∷ 5 ∷ 0 ∷ 4 ∷ 0 ∷ 10 ∷ []) ≡ 1 ∷ 3 ∷ 5 ∷ 0 ∷ 4 ∷ 0 ∷ 10 ∷ []

pub covering : Covering
unfolding covers join_from
covering =
    record {
      first = refl;
      last = refl;
      past = refl;
      zeroth = refl;
      unnamed = refl;
      itself = refl;
      own_row = refl;
      same_number = refl;
      joins = refl;
    }
