-- An array made of the answers of one closure, which the calls leave as it is. Assumes nothing.
use mathlib.Core.Path.{◌≡◌, subst}
use mathlib.Core.List.{List, map}
use Prim.Native.Nat.{ℕ, zero, suc, ◌+◌}
use native.Mathlib.Omega.{arith}
use native.Mathlib.Numerals.{add-one}
use lib.ListN.{length, drop, drop_of_length-le}
use lib.Seq.{drop-cons}
use denote.Param.Members.{Mut}
use Rattle.std.specs.List.{range_with_len}
use Rattle.std.specs.Fn.{Called}
use Rattle.std.specs.Array.{IsFromFnResult, IsFromFnResultFrom}

made_from : {F B : Type 0} (g : Mut F (ℕ × Unit {0}) B) (v : ℕ → B) (f : F) → ((i : ℕ) (r : B) (f' : F) → Called g f (i, tt) r f' → (r ≡ v i) × (f' ≡ f))
    → (ys : List B) (i n : ℕ) → length ys ≡ i + n → IsFromFnResultFrom g f ys i n → drop i ys ≡ map v (range_with_len i n)
made_from g v f step ys i zero e h = drop_of_length-le ys {i = i} (omega arith)
made_from {F = F} g v f step ys i (suc n) e h =
    let s = step i h.1 h.0 h.3 in
    let more : drop (i + 1) ys ≡ map v (range_with_len (i + 1) n) = made_from g v f step ys (i + 1) n (omega arith) (subst (λ (q : F). IsFromFnResultFrom g q ys (i + 1) n) s.1 h.4) in
    rw (drop-cons ys i h.1 (omega arith), ← add-one i, more, h.2.1 h.1, s.0)

-- what is made is what the closure gives at each place
pub made : {F B : Type 0} (g : Mut F (ℕ × Unit {0}) B) (v : ℕ → B) (f : F) → ((i : ℕ) (r : B) (f' : F) → Called g f (i, tt) r f' → (r ≡ v i) × (f' ≡ f))
    → (ys : List B) (n : ℕ) → IsFromFnResult g f ys n → ys ≡ map v (range_with_len 0 n)
made g v f step ys n h = made_from g v f step ys 0 n (omega (arith, h.long)) h.each
