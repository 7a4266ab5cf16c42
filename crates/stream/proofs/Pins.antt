-- Each rule of the stream in numbers: what is taken and where it stands, what is yielded, the stop, every refusal. Assumes nothing.
use mathlib.Core.Path.{◌≡◌, refl}
use mathlib.Core.Bool.{true, false}
use mathlib.Core.List.{List, [], ◌∷◌, ◌++◌}
use Prim.Native.Nat.{ℕ, ◌-◌}
use lib.ListN.{replicate}
use Rattle.std.specs.Prelude.{Some, None, Ok, Err}
use Rattle.numbers.specs.Num.{splice}
use Rattle.paper.specs.Message.{row_of}
use Rattle.paper.specs.declared.Refusal.TheVariants.{Unsound, Room}
use Rattle.wire.specs.Wire.{length_of, past}
use Rattle.stream.specs.declared.place.Place.{Place}
use Rattle.stream.specs.declared.place.Halt.TheVariants.{Stopped, Refused}
use Rattle.stream.specs.Place.{sums, is_sum, place_ok, held, begun, gate_of}
use Rattle.stream.specs.Stream.{is_stopped, is_whole, whole_length, room_for, unchanged, taken_open, taken, place_after, behind, yielded_open, yielded, passed, message_in}
use Rattle.stream.specs.Cutting.{whole_in, rest_in, uncut}

abbrev at : ℕ → ℕ → ℕ → Place
at a e o = record { at = a; end = e; offset = o }

-- a message with this first byte and length, its other bytes alike
abbrev message : ℕ → ℕ → ℕ → List ℕ
message k n x = k ∷ replicate (n - 1) x

pub beginnings : (begun 63 ≡ Err Room) × (begun 64 ≡ Ok (at 0 0 0))
unfolding begun
beginnings = (refl, refl)

-- all twelve kinds, one after another, in any bytes that begin so
pub kinds : uncut (message 1 37 9 ++ message 2 24 0 ++ message 3 37 9 ++ message 4 10 9 ++ message 5 37 0 ++ message 6 10 9 ++ message 7 42 9 ++ message 8 14 9 ++ message 9 41 9
    ++ message 10 41 0 ++ message 11 41 9 ++ message 12 46 9)
    ≡ record {
      messages = message 1 37 9 ∷ message 2 24 0 ∷ message 3 37 9 ∷ message 4 10 9 ∷ message 5 37 0 ∷ message 6 10 9 ∷ message 7 42 9 ∷ message 8 14 9
          ∷ message 9 41 9 ∷ message 10 41 0 ∷ message 11 41 9 ∷ message 12 46 9 ∷ [];
      rest = 380;
      stopped = false;
    }
unfolding uncut whole_in rest_in is_whole is_stopped row_of length_of past
kinds = refl

-- what is left of a message, and a byte that is no kind: the same bytes within a message stop nothing
pub rests : (uncut (message 4 10 0 ++ message 8 13 9) ≡ record { messages = message 4 10 0 ∷ []; rest = 10; stopped = false })
    × (uncut (message 4 10 0 ++ 13 ∷ message 4 10 0) ≡ record { messages = message 4 10 0 ∷ []; rest = 10; stopped = true })
    × (uncut (0 ∷ []) ≡ record { messages = []; rest = 0; stopped = true })
    × (uncut [] ≡ record { messages = []; rest = 0; stopped = false })
unfolding uncut whole_in rest_in is_whole is_stopped row_of length_of past
rests = (refl, refl, refl, refl)

-- ten bytes are yielded, four are held and fifty are free; before the buffer there were ten more
abbrev buffer : List ℕ
buffer = message 4 10 7 ++ (1 ∷ 2 ∷ 3 ∷ 4 ∷ []) ++ replicate 50 6

-- what is held goes to the front and two bytes follow; no byte behind them is touched
pub refill : taken buffer (at 10 14 20) (5 ∷ 8 ∷ [])
    ≡ record { told = Ok (record { count = 2; place = at 0 6 20 }); buffer = (1 ∷ 2 ∷ 3 ∷ 4 ∷ 5 ∷ 8 ∷ []) ++ (7 ∷ 7 ∷ 7 ∷ 7 ∷ 1 ∷ 2 ∷ 3 ∷ 4 ∷ []) ++ replicate 50 6 }
unfolding taken taken_open gate_of place_ok is_sum sums row_of length_of past held is_stopped room_for splice
refill = refl

-- no more than there is room for, and no more than the offsets can count
pub rooms : (room_for 64 (at 10 14 20) 61 ≡ 60)
    × (room_for 64 (at 10 14 20) 60 ≡ 60)
    × (room_for 64 (at 10 14 20) 59 ≡ 59)
    × (room_for 64 (at 10 14 20) 0 ≡ 0)
    × (room_for 64 (at 0 64 0) 9 ≡ 0)
    × (room_for 64 (at 10 14 18446744073709551608) 9 ≡ 3)
unfolding room_for
rooms = (refl, refl, refl, refl, refl, refl)

-- where the stream stands still nothing is taken, and the offset is the stream's
pub standing : (taken buffer (at 14 20 34) (5 ∷ []) ≡ record { told = Ok (record { count = 1; place = at 0 7 34 }); buffer = replicate 6 6 ++ 5 ∷ (7 ∷ 7 ∷ 7 ∷ 1 ∷ 2 ∷ 3 ∷ 4 ∷ []) ++ replicate 50 6 })
    × (taken (0 ∷ replicate 63 1) (at 0 1 10) (1 ∷ []) ≡ unchanged (0 ∷ replicate 63 1) (Stopped 10))
    × (place_after (at 0 1 10) (taken (0 ∷ replicate 63 1) (at 0 1 10) (1 ∷ [])).told ≡ at 0 1 10)
    × (yielded (message 4 10 7 ++ replicate 54 13) (at 10 12 34) ≡ Err (Stopped 34))
    × (passed (message 4 10 7 ++ replicate 54 13) (at 10 12 34) ≡ at 10 12 34)
unfolding taken taken_open yielded yielded_open gate_of place_ok is_sum sums row_of length_of past held is_stopped is_whole room_for splice
standing = (refl, refl, refl, refl, refl)

-- a message that is whole to its last byte, one that is a byte short, and nothing at all
pub yields : (yielded buffer (at 0 10 0) ≡ Ok (Some (record { length = 10; place = at 10 10 10 })))
    × (message_in buffer (at 0 10 0) ≡ message 4 10 7)
    × (passed buffer (at 0 10 0) ≡ at 10 10 10)
    × (yielded buffer (at 0 9 0) ≡ Ok None)
    × (passed buffer (at 0 9 0) ≡ at 0 9 0)
    × (message_in buffer (at 0 9 0) ≡ [])
    × (yielded buffer (at 10 10 20) ≡ Ok None)
    × (passed buffer (at 10 10 20) ≡ at 10 10 20)
unfolding yielded yielded_open message_in whole_length gate_of place_ok is_sum sums row_of length_of past held is_stopped is_whole behind
yields = (refl, refl, refl, refl, refl, refl, refl, refl)

-- a place out of order, past the buffer, before its own offset, past all offsets, or not at a message's end; then the buffer
pub refusals : (yielded buffer (at 10 9 20) ≡ Err (Refused Unsound))
    × (yielded buffer (at 10 65 20) ≡ Err (Refused Unsound))
    × (yielded buffer (at 10 14 0) ≡ Err (Refused Unsound))
    × (yielded buffer (at 0 8 18446744073709551608) ≡ Err (Refused Unsound))
    × (yielded buffer (at 9 14 19) ≡ Err (Refused Unsound))
    × (yielded buffer (at 10 14 19) ≡ Err (Refused Unsound))
    × (yielded (replicate 63 4) (at 0 64 0) ≡ Err (Refused Unsound))
    × (yielded (replicate 63 4) (at 0 63 0) ≡ Err (Refused Room))
    × (taken (replicate 63 4) (at 0 63 0) (1 ∷ []) ≡ unchanged (replicate 63 4) (Refused Room))
    × (place_after (at 0 63 0) (taken (replicate 63 4) (at 0 63 0) (1 ∷ [])).told ≡ at 0 63 0)
    × (taken buffer (at 9 14 19) (1 ∷ []) ≡ unchanged buffer (Refused Unsound))
    × (place_after (at 9 14 19) (taken buffer (at 9 14 19) (1 ∷ [])).told ≡ at 9 14 19)
unfolding yielded taken gate_of place_ok is_sum sums row_of length_of past held
refusals = (refl, refl, refl, refl, refl, refl, refl, refl, refl, refl, refl, refl)

-- the small numbers that whole messages can have together, and the last that they cannot
pub small-sums : (is_sum 9 ≡ false) × (is_sum 10 ≡ true) × (is_sum 24 ≡ true) × (is_sum 27 ≡ false) × (is_sum 37 ≡ true) × (is_sum 41 ≡ true) × (is_sum 42 ≡ true) × (is_sum 46 ≡ true) × (is_sum 51 ≡ true) × (is_sum 73 ≡ false)
unfolding is_sum sums row_of length_of past
small-sums = (refl, refl, refl, refl, refl, refl, refl, refl, refl, refl)
