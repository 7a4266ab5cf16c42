-- 2/12: what an uncut stream is, what a run of calls makes of bytes that are cut anywhere, and that the two agree; proofs/Kept, Reached and
-- Written show the statements. Assumes nothing.
use Rattle.std.specs.Prelude.{ℕ, zero, suc, ◌+◌, ◌≤◌, ◌<◌, ◌≡◌, Bool, true, false, cond, List, [], ◌∷◌, ◌++◌, Option, Some, None, Result, Ok, Err, length, take, drop}
use Rattle.paper.specs.Fits.{MessageFits}
use Rattle.paper.specs.declared.Message.{Message}
use Rattle.wire.specs.Wire.{length_of, kind_at}
use Rattle.wire.specs.Calls.{read_message, wrote}
use Rattle.stream.specs.declared.place.Place.{Place}
use Rattle.stream.specs.declared.place.Halt.{Halt}
use Rattle.stream.specs.declared.place.Halt.TheVariants.{Stopped, Refused}
use Rattle.stream.specs.declared.taking.Taken.{Taken}
use Rattle.stream.specs.declared.yielding.Yielded.{Yielded}
use Rattle.stream.specs.Place.{start, place_ok, held}
use Rattle.stream.specs.Stream.{is_stopped, is_whole, taken, place_after, yielded, passed, message_in}

-- lists one after another
abbrev pub joined : List (List ℕ) → List ℕ
joined [] = []
joined (m ∷ ms) = m ++ joined ms

-- the whole messages in front of these bytes, f at most, and what is left behind them
unfoldable pub whole_in : ℕ → List ℕ → List (List ℕ)
whole_in zero x = []
whole_in (suc f) x = cond (is_whole x) (take (length_of (kind_at x)) x ∷ whole_in f (drop (length_of (kind_at x)) x)) []

unfoldable pub rest_in : ℕ → List ℕ → List ℕ
rest_in zero x = x
rest_in (suc f) x = cond (is_whole x) (rest_in f (drop (length_of (kind_at x)) x)) x

-- its messages, where its rest begins, and whether it stands still there
pub record Uncut : Type 0 where
  pub messages : List (List ℕ)
  pub rest : ℕ
  pub stopped : Bool

-- a stream that nobody cut: a message has a byte at least, so there are no more messages than bytes
unfoldable pub uncut : List ℕ → Uncut
uncut x =
    record {
      messages = whole_in (length x) x;
      rest = length (joined (whole_in (length x) x));
      stopped = is_stopped (rest_in (length x) x);
    }

-- a call: bytes are offered, or the next message is asked for
pub data Call : Type 0 where
  offer : List ℕ → Call
  ask : Call

-- buffer and place as the caller has them, all bytes that were taken and all messages that were yielded
pub record State : Type 0 where
  pub buffer : List ℕ
  pub place : Place
  pub taken : List ℕ
  pub yielded : List (List ℕ)

-- a new stream
abbrev pub opened : List ℕ → State
opened b = record { buffer = b; place = start; taken = []; yielded = [] }

abbrev pub count_in : Result Taken Halt → ℕ
count_in (Ok t) = t.count
count_in (Err h) = 0

abbrev pub is_message : Result (Option Yielded) Halt → Bool
is_message (Ok (Some y)) = true
is_message (Ok None) = false
is_message (Err h) = false

abbrev pub is_stop : Result (Option Yielded) Halt → Bool
is_stop (Ok y) = false
is_stop (Err (Stopped o)) = true
is_stop (Err (Refused r)) = false

-- what the next call would answer
abbrev pub answer : State → Result (Option Yielded) Halt
answer s = yielded s.buffer s.place

-- the state after a call: what the calls' contracts cite
abbrev pub after : State → Call → State
after s (offer x) =
    record {
      buffer = (taken s.buffer s.place x).buffer;
      place = place_after s.place (taken s.buffer s.place x).told;
      taken = s.taken ++ take (count_in (taken s.buffer s.place x).told) x;
      yielded = s.yielded;
    }
after s ask =
    record {
      buffer = s.buffer;
      place = passed s.buffer s.place;
      taken = s.taken;
      yielded = s.yielded ++ cond (is_message (yielded s.buffer s.place)) (message_in s.buffer s.place ∷ []) [];
    }

abbrev pub run : State → List Call → State
run s [] = s
run s (c ∷ cs) = run (after s c) cs

-- no message is left to be yielded
abbrev pub Drained : State → Type 0
Drained s = is_message (answer s) ≡ false

-- what a run shows: messages, where the rest begins, the stop
abbrev pub shown : State → Uncut
shown s = record { messages = s.yielded; rest = s.place.offset; stopped = is_stop (answer s) }

-- any cutting of a stream into calls shows what the uncut stream is
abbrev pub AnyCutting : Type 0
AnyCutting = (b : List ℕ) → 64 ≤ length b → (cs : List Call) → Drained (run (opened b) cs) → shown (run (opened b) cs) ≡ uncut (run (opened b) cs).taken

-- any two cuttings of one stream agree
abbrev pub TwoCuttings : Type 0
TwoCuttings = (b b' : List ℕ) → 64 ≤ length b → 64 ≤ length b' → (cs cs' : List Call) → Drained (run (opened b) cs) → Drained (run (opened b') cs')
    → (run (opened b) cs).taken ≡ (run (opened b') cs').taken → shown (run (opened b) cs) ≡ shown (run (opened b') cs')

-- at any moment of a run: what was yielded, and then what is whole in the buffer, are the messages whole in what was taken
abbrev pub InOrder : Type 0
InOrder = (b : List ℕ) → 64 ≤ length b → (cs : List Call)
    → (uncut (run (opened b) cs).taken).messages ≡ (run (opened b) cs).yielded ++ (uncut (held (run (opened b) cs).buffer (run (opened b) cs).place)).messages

-- where a stream stands still, no later call changes anything
abbrev pub ForGood : Type 0
ForGood = (s : State) (o : ℕ) → answer s ≡ Err (Stopped o) → (c : Call) → after s c ≡ s

-- a reader that has nothing left to yield, and is not stopped, takes at least a byte of a call that offers one
abbrev pub Progress : Type 0
Progress = (b : List ℕ) → 64 ≤ length b → (cs : List Call) (x : List ℕ) → answer (run (opened b) cs) ≡ Ok None → 0 < length x
    → length (run (opened b) cs).taken + 1 < 18446744073709551616
    → 0 < count_in (taken (run (opened b) cs).buffer (run (opened b) cs).place x).told

-- a run that leaves this place in a buffer of l bytes
pub record Leaves (l : ℕ) (p : Place) : Type 0 where
  pub buffer : List ℕ
  pub long : length buffer ≡ l
  pub calls : List Call
  pub place : (run (opened buffer) calls).place ≡ p

-- no place is refused that a run leaves behind, and every other is
abbrev pub Reached : Type 0
Reached = (l : ℕ) → 64 ≤ l → ((b : List ℕ) (cs : List Call) → length b ≡ l → place_ok l (run (opened b) cs).place ≡ true) × ((p : Place) → place_ok l p ≡ true → Leaves l p)

-- messages that the writer took, and the bytes that it wrote for each
pub data Written (n s c : ℕ) : List Message → List (List ℕ) → Type 0 where
  none : Written n s c [] []
  more : {ms : List Message} {bs : List (List ℕ)} (m : Message) (out : List ℕ) (k : ℕ) → MessageFits m → (wrote n s c out m).answer ≡ Ok k → Written n s c ms bs
      → Written n s c (m ∷ ms) (take k (wrote n s c out m).out ∷ bs)

-- each is read as its message by the copy named in `to`
abbrev pub EachRead : ℕ → ℕ → List Message → List (List ℕ) → Type 0
EachRead n s [] [] = Unit {0}
EachRead n s [] (b ∷ bs) = ⊥
EachRead n s (m ∷ ms) [] = ⊥
EachRead n s (m ∷ ms) (b ∷ bs) = (read_message n s m.to b ≡ Ok m) × EachRead n s ms bs

-- written messages one after another come out as they were through any cutting, and each reads back equal
abbrev pub WrittenThrough : Type 0
WrittenThrough = (n s c : ℕ) (ms : List Message) (bs : List (List ℕ)) → Written n s c ms bs → (b : List ℕ) → 64 ≤ length b → (cs : List Call) → Drained (run (opened b) cs)
    → (run (opened b) cs).taken ≡ joined bs
    → (shown (run (opened b) cs) ≡ record { messages = bs; rest = length (joined bs); stopped = false }) × EachRead n s ms bs
