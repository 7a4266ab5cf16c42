-- A test joined to a sure one. Assumes nothing.
use mathlib.Core.Path.{◌≡◌, refl}
use mathlib.Core.Bool.{Bool, true, false, ◌&&◌}

pub and_one : (a : Bool) → (a && true) ≡ a
and_one true = refl
and_one false = refl
