-- What the reader and the writer answer, and every lent byte after. Assumes nothing.
use Rattle.std.specs.Prelude.{ℕ, not, cond, List, ltb, length, Result, Ok, Err}
use Rattle.numbers.specs.Num.{splice}
use Rattle.paper.specs.Setup.{setup_ok}
use Rattle.paper.specs.Message.{kind_of, parts_of, parts_in}
use Rattle.paper.specs.Valid.{op_in, verdict_on}
use Rattle.paper.specs.Refusal.{number_of, offset_in}
use Rattle.paper.specs.declared.Refusal.{Refusal}
use Rattle.paper.specs.declared.Refusal.TheVariants.{Setup, Room}
use Rattle.paper.specs.declared.Refusal.TheVariants as why
use Rattle.paper.specs.declared.Parts.{Parts}
use Rattle.paper.specs.declared.Message.{Message}
use Rattle.paper.specs.declared.Blame.{Blame}
use Rattle.paper.specs.declared.Blame.TheVariants as blame
use Rattle.wire.specs.Wire.{length_of, kind_at, message_at, message_bytes, verdict_at, offset_of}

-- the refusal that a blame is, in a message with these parts
abbrev pub refusal_of : Parts → Blame → Refusal
refusal_of p blame.Kind = why.UnknownKind
refusal_of p blame.Length = why.WrongLength
refusal_of p blame.Way = why.WrongWay
refusal_of p blame.Lead = why.WrongLead
refusal_of p (blame.Of f) = why.WrongField (offset_of p f)

-- the message, unless it is blamed
abbrev pub unless_blamed : Parts → Result Unit Blame → Message → Result Message Refusal
unless_blamed p (Ok u) m = Ok m
unless_blamed p (Err x) m = Err (refusal_of p x)

-- 1, then what is wrong with the bytes
unfoldable pub read_message : ℕ → ℕ → ℕ → List ℕ → Result Message Refusal
read_message n s c b =
    cond (not (setup_ok n s c)) (Err Setup) (unless_blamed (parts_of (kind_at b)) (verdict_at n s c b) (message_at b))

-- the writer's answer and the room after it
pub record Wrote : Type 0 where
  pub answer : Result ℕ Refusal
  pub out : List ℕ

abbrev pub unwritten : Refusal → List ℕ → Wrote
unwritten r out = record { answer = Err r; out = out }

-- a message that nobody blames is written; later bytes keep their contents
abbrev pub write_unless_blamed : Result Unit Blame → List ℕ → Message → Wrote
write_unless_blamed (Ok u) out m = record { answer = Ok (length_of (kind_of m.body)); out = splice out 0 (message_bytes m) }
write_unless_blamed (Err x) out m = unwritten (refusal_of (parts_in m.body) x) out

-- 1, then 2, then what the copy that it goes to would say
unfoldable pub wrote : ℕ → ℕ → ℕ → List ℕ → Message → Wrote
wrote n s c out m =
    cond (not (setup_ok n s c)) (unwritten Setup out)
    (cond (ltb (length out) 256) (unwritten Room out) (write_unless_blamed (verdict_on n s m.to (op_in m) m) out m))

-- the paper's number of an answer, 0 for none, and the count beside it
abbrev pub reading_number : Result Message Refusal → ℕ
reading_number (Ok m) = 0
reading_number (Err r) = number_of r

-- the offset of a bad field, 0 for none
abbrev pub reading_offset : Result Message Refusal → ℕ
reading_offset (Ok m) = 0
reading_offset (Err r) = offset_in r

abbrev pub writing_number : Result ℕ Refusal → ℕ
writing_number (Ok k) = 0
writing_number (Err r) = number_of r

abbrev pub writing_count : Result ℕ Refusal → ℕ
writing_count (Ok k) = k
writing_count (Err r) = 0

abbrev pub writing_offset : Result ℕ Refusal → ℕ
writing_offset (Ok k) = 0
writing_offset (Err r) = offset_in r
