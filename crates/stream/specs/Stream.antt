-- 2/12: what taking bytes and yielding a message answer, and the buffer and the place after it. Assumes nothing.
use Rattle.std.specs.Prelude.{ℕ, ◌+◌, ◌-◌, min, Bool, ◌&&◌, not, cond, List, [], ◌∷◌, Option, Some, None, Result, Ok, Err, eqb, leb, length, take, unwrap_or}
use Rattle.numbers.specs.Num.{splice}
use Rattle.paper.specs.Message.{row_of}
use Rattle.paper.specs.Refusal.{number_of}
use Rattle.paper.specs.declared.Refusal.{Refusal}
use Rattle.wire.specs.Wire.{length_of, kind_at}
use Rattle.stream.specs.declared.place.Place.{Place}
use Rattle.stream.specs.declared.place.Halt.{Halt}
use Rattle.stream.specs.declared.place.Halt.TheVariants.{Stopped, Refused}
use Rattle.stream.specs.declared.taking.Taken.{Taken}
use Rattle.stream.specs.declared.yielding.Yielded.{Yielded}
use Rattle.stream.specs.Place.{longest, held, gate_of}

-- bytes that begin with no known kind: the stream stands still there, for good
unfoldable pub is_stopped : List ℕ → Bool
is_stopped h = not (eqb (length h) 0) && not (row_of (kind_at h)).known

-- a whole message stands in front: the kind byte alone gives its length
unfoldable pub is_whole : List ℕ → Bool
is_whole h = (row_of (kind_at h)).known && leb (length_of (kind_at h)) (length h)

-- the length of the message in front, if it is whole
unfoldable pub whole_length : List ℕ → Option ℕ
whole_length h = cond (is_whole h) (Some (length_of (kind_at h))) None

-- the answer of a call that takes bytes, and the buffer after it
pub record Filled : Type 0 where
  pub told : Result Taken Halt
  pub buffer : List ℕ

abbrev pub unchanged : List ℕ → Halt → Filled
unchanged b h = record { told = Err h; buffer = b }

-- as many of x bytes as a buffer of l bytes has room for beside what is held, and as the stream's offsets can count
unfoldable pub room_for : ℕ → Place → ℕ → ℕ
room_for l p x = min x (min (l - (p.end - p.at)) (longest - (p.offset + (p.end - p.at))))

-- how many of these bytes are taken, and which
abbrev pub count : List ℕ → Place → List ℕ → ℕ
count b p x = room_for (length b) p (length x)

abbrev pub first : List ℕ → Place → List ℕ → List ℕ
first b p x = take (count b p x) x

abbrev pub filled : List ℕ → Place → List ℕ → Taken
filled b p x = record { count = count b p x; place = record { at = 0; end = (p.end - p.at) + count b p x; offset = p.offset } }

-- what is held goes to the front, they follow it; later bytes of the buffer keep their contents
abbrev pub fill : List ℕ → Place → List ℕ → Filled
fill b p x = record { told = Ok (filled b p x); buffer = splice (splice b 0 (held b p)) (p.end - p.at) (first b p x) }

-- a stream that stands still takes nothing
unfoldable pub taken_open : List ℕ → Place → List ℕ → Filled
taken_open b p x = cond (is_stopped (held b p)) (unchanged b (Stopped p.offset)) (fill b p x)

abbrev pub taken_in : Result Unit Refusal → List ℕ → Place → List ℕ → Filled
taken_in (Err r) b p x = unchanged b (Refused r)
taken_in (Ok u) b p x = taken_open b p x

unfoldable pub taken : List ℕ → Place → List ℕ → Filled
taken b p x = taken_in (gate_of (length b) p) b p x

-- the place after taking
abbrev pub place_after : Place → Result Taken Halt → Place
place_after p (Ok t) = t.place
place_after p (Err h) = p

-- the place behind n bytes more
unfoldable pub behind : Place → ℕ → Place
behind p n = record { at = p.at + n; end = p.end; offset = p.offset + n }

-- the message in front, of what is held; the stop; or nothing yet
unfoldable pub yielded_open : List ℕ → Place → Result (Option Yielded) Halt
yielded_open h p =
    cond (is_stopped h) (Err (Stopped p.offset))
    (cond (is_whole h) (Ok (Some (record { length = length_of (kind_at h); place = behind p (length_of (kind_at h)) }))) (Ok None))

abbrev pub yielded_in : Result Unit Refusal → List ℕ → Place → Result (Option Yielded) Halt
yielded_in (Err r) h p = Err (Refused r)
yielded_in (Ok u) h p = yielded_open h p

unfoldable pub yielded : List ℕ → Place → Result (Option Yielded) Halt
yielded b p = yielded_in (gate_of (length b) p) (held b p) p

-- the answer without the place
abbrev pub front_of : Result (Option Yielded) Halt → Result (Option ℕ) Halt
front_of (Ok (Some y)) = Ok (Some y.length)
front_of (Ok None) = Ok None
front_of (Err h) = Err h

abbrev pub front : List ℕ → Place → Result (Option ℕ) Halt
front b p = front_of (yielded b p)

-- the place after yielding: it stays where no message is yielded
abbrev pub place_behind : Place → Result (Option Yielded) Halt → Place
place_behind p (Ok (Some y)) = y.place
place_behind p (Ok None) = p
place_behind p (Err h) = p

abbrev pub passed : List ℕ → Place → Place
passed b p = place_behind p (yielded b p)

abbrev pub message_through : Result Unit Refusal → List ℕ → List ℕ
message_through (Err r) h = []
message_through (Ok u) h = take (unwrap_or (whole_length h) 0) h

-- its bytes, as they stand in the buffer; none where no message is yielded
unfoldable pub message_in : List ℕ → Place → List ℕ
message_in b p = message_through (gate_of (length b) p) (held b p)

-- the paper's number of an answer, 0 for none
abbrev pub begun_number : Result Place Refusal → ℕ
begun_number (Ok p) = 0
begun_number (Err r) = number_of r

abbrev pub halt_number : Halt → ℕ
halt_number (Stopped o) = 0
halt_number (Refused r) = number_of r

abbrev pub took_number : Result Taken Halt → ℕ
took_number (Ok t) = 0
took_number (Err h) = halt_number h

abbrev pub found_number : Result (Option Yielded) Halt → ℕ
found_number (Ok y) = 0
found_number (Err h) = halt_number h

-- and its values: how many bytes were taken, whether the stream has stopped, and where
abbrev pub took_values : Result Taken Halt → List ℕ
took_values (Ok t) = t.count ∷ 0 ∷ 0 ∷ []
took_values (Err (Stopped o)) = 0 ∷ 1 ∷ o ∷ []
took_values (Err (Refused r)) = 0 ∷ 0 ∷ 0 ∷ []

-- 1, where in the buffer a message begins and its length; 2 and the offset of the stop; 0 for nothing
abbrev pub found_values : ℕ → Result (Option Yielded) Halt → List ℕ
found_values at (Ok (Some y)) = 1 ∷ at ∷ y.length ∷ []
found_values at (Ok None) = 0 ∷ 0 ∷ 0 ∷ []
found_values at (Err (Stopped o)) = 2 ∷ o ∷ 0 ∷ []
found_values at (Err (Refused r)) = 0 ∷ 0 ∷ 0 ∷ []
