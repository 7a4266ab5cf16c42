-- A place as three numbers. Assumes nothing.
use mathlib.Core.Path.{◌≡◌, refl}
use mathlib.Core.List.{List, [], ◌∷◌}
use Prim.Native.Nat.{ℕ}
use native.Mathlib.Omega.{arith}
use lib.ListN.{length}
use Rattle.pumxaqert.specs.Streams.{place_from, place_numbers}

-- three numbers are a place, and the place is those numbers
pub place-back : (f : List ℕ) → length f ≡ 3 → place_numbers (place_from f) ≡ f
place-back [] e = absurd (omega arith)
place-back (a ∷ []) e = absurd (omega arith)
place-back (a ∷ b ∷ []) e = absurd (omega arith)
place-back (a ∷ b ∷ c ∷ []) e = refl
place-back (a ∷ b ∷ c ∷ d ∷ f) e = absurd (omega arith)
