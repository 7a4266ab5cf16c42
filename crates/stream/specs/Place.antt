-- 2/12: the place in a lent buffer, what a run of calls can leave there, and what each call refuses first. Assumes nothing.
use Rattle.std.specs.Prelude.{ℕ, zero, suc, ◌+◌, ◌-◌, ◌≤◌, ◌<◌, Bool, false, ◌&&◌, ◌||◌, not, cond, List, [], ◌∷◌, Result, Ok, Err, eqb, leb, ltb, length, get_or, take, drop}
use Rattle.paper.specs.Message.{rows, row_of}
use Rattle.paper.specs.declared.Refusal.{Refusal}
use Rattle.paper.specs.declared.Refusal.TheVariants.{Unsound, Room}
use Rattle.wire.specs.Wire.{length_of}
use Rattle.stream.specs.declared.place.Place.{Place}

-- one of the kinds below k passes
abbrev pub some_kind : ℕ → (ℕ → Bool) → Bool
some_kind zero p = false
some_kind (suc k) p = ((row_of k).known && p k) || some_kind k p

-- at most f whole messages can have x bytes together
unfoldable pub sums : ℕ → ℕ → Bool
sums zero x = eqb x 0
sums (suc f) x = eqb x 0 || some_kind (suc (length rows)) (λ k. leb (length_of k) x && sums f (x - length_of k))

-- any number of them: each has a byte at least
unfoldable pub is_sum : ℕ → Bool
is_sum x = sums x x

-- the least of them with each last digit, which the code goes by; proofs/Sums shows that it comes to the same
abbrev pub least : ℕ → ℕ
least d = get_or (0 ∷ 41 ∷ 42 ∷ 83 ∷ 14 ∷ 55 ∷ 46 ∷ 37 ∷ 28 ∷ []) d 69

-- no stream is longer: its offsets fit a u64
abbrev pub longest : ℕ
longest = 18446744073709551615

-- a buffer of this length, and a place that a run of calls can leave in it: in order, within buffer and offsets, at messages' ends
unfoldable pub place_ok : ℕ → Place → Bool
place_ok l p =
    leb p.at p.end && leb p.end l && leb p.at p.offset && leb (p.offset + (p.end - p.at)) longest
    && is_sum p.at && is_sum (p.offset - p.at)

-- what the calls rest on of such a place
pub record Within (l : ℕ) (p : Place) : Type 0 where
  pub ordered : p.at ≤ p.end
  pub inside : p.end ≤ l
  pub counted : p.offset + (p.end - p.at) < 18446744073709551616

-- the bytes that are taken and not yielded
unfoldable pub held : List ℕ → Place → List ℕ
held b p = take (p.end - p.at) (drop p.at b)

-- nothing is taken yet
abbrev pub start : Place
start = record { at = 0; end = 0; offset = 0 }

-- a buffer under 64 bytes is refused
unfoldable pub begun : ℕ → Result Place Refusal
begun l = cond (ltb l 64) (Err Room) (Ok start)

-- 11 for the place, then 2 for the buffer
unfoldable pub gate_of : ℕ → Place → Result Unit Refusal
gate_of l p = cond (not (place_ok l p)) (Err Unsound) (cond (ltb l 64) (Err Room) (Ok tt))
