-- A place in a stream's buffer as three numbers. Assumes nothing.
use Rattle.std.specs.Prelude.{ℕ, List, [], ◌∷◌, Result, Ok, Err, get_or}
use Rattle.stream.specs.declared.place.Place.{Place}
use Rattle.paper.specs.declared.Refusal.{Refusal}

abbrev pub place_from : List ℕ → Place
place_from f = record { at = get_or f 0 0; end = get_or f 1 0; offset = get_or f 2 0 }

abbrev pub place_numbers : Place → List ℕ
place_numbers p = p.at ∷ p.end ∷ p.offset ∷ []

-- the place of a stream that has begun; a refusal leaves the numbers that were there
abbrev pub begun_place : Result Place Refusal → List ℕ → List ℕ
begun_place (Ok p) f = place_numbers p
begun_place (Err r) f = f
