-- What is reached over edges. Assumes nothing.
use Prim.Native.Nat.{ℕ}

pub data Star (E : ℕ → ℕ → Type 0) (a : ℕ) : ℕ → Type 0 where
  here : Star E a a
  on : {b c : ℕ} → Star E a b → E b c → Star E a c

pub star-trans : {E : ℕ → ℕ → Type 0} {a b c : ℕ} → Star E a b → Star E b c → Star E a c
star-trans p here = p
star-trans p (on q e) = on (star-trans p q) e

-- two graphs that agree on what a reaches in the first
pub star-map : {E D : ℕ → ℕ → Type 0} {a c : ℕ} → ((b c : ℕ) → Star D a b → E b c → D b c) → Star E a c → Star D a c
star-map f here = here
star-map f (on p e) = let q = star-map f p in on q (f _ _ q e)

pub star-map2 : {E D : ℕ → ℕ → Type 0} {a c : ℕ} → ((b c : ℕ) → Star E a b → E b c → D b c) → Star E a c → Star D a c
star-map2 f here = here
star-map2 f (on p e) = on (star-map2 f p) (f _ _ p e)
