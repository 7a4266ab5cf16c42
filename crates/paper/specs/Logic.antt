-- Tests joined to tests. Assumes nothing.
use Rattle.std.specs.Prelude.{ℕ, zero, suc, Bool, true, ◌&&◌, ◌||◌, not}

-- b is asked only where a holds
abbrev pub implies : Bool → Bool → Bool
implies a b = not a || b

-- f holds of each number below n
unfoldable pub all_below : ℕ → (ℕ → Bool) → Bool
all_below zero f = true
all_below (suc n) f = f n && all_below n f
