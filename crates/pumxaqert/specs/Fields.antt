-- A message as nineteen numbers: kind, from, to, owner, number, ballot, voted or joined, status, op, key, second key, edit, dependencies.
-- Assumes nothing.
use Rattle.std.specs.Prelude.{ℕ, zero, suc, ◌+◌, ◌%◌, Bool, ◌||◌, not, cond, List, [], ◌∷◌, leb, ltb, eqb, length, get_or, replicate, Result, Ok, Err}
use Rattle.codec.specs.Parts.{op_of}
use Rattle.paper.specs.Logic.{all_below}
use Rattle.paper.specs.Command.{op_number}
use Rattle.paper.specs.Setup.{setup_ok}
use Rattle.paper.specs.Message.{row_of, parts_of, parts_in, kind_of, body_of, command_in, voted_in, status_in, joined_in}
use Rattle.paper.specs.Valid.{op_range, has_field}
use Rattle.paper.specs.declared.Command.{Command}
use Rattle.paper.specs.declared.Body.{Body}
use Rattle.paper.specs.declared.Parts.{Parts}
use Rattle.paper.specs.declared.Field.{Field}
use Rattle.paper.specs.declared.Field.TheVariants as field
use Rattle.paper.specs.declared.Blame.{Blame}
use Rattle.paper.specs.declared.Blame.TheVariants as blame
use Rattle.paper.specs.declared.Refusal.{Refusal}
use Rattle.paper.specs.declared.Refusal.TheVariants.{Setup, Room}
use Rattle.paper.specs.declared.Message.{Message}
use Rattle.wire.specs.Calls.{refusal_of, unwritten, Wrote, wrote}

-- voted, or joined where the body carries that
unfoldable pub other_ballot : Body → ℕ
other_ballot b = cond (parts_in b).joined (joined_in b) (voted_in b)

unfoldable pub fields_of : Message → List ℕ
fields_of m =
    kind_of m.body ∷ m.from ∷ m.to ∷ m.owner ∷ m.number ∷ m.ballot ∷ other_ballot m.body ∷ status_in m.body
    ∷ op_number (command_in m.body).op ∷ (command_in m.body).key ∷ (command_in m.body).second ∷ (command_in m.body).edit ∷ get_or m.deps 0 0
    ∷ get_or m.deps 1 0 ∷ get_or m.deps 2 0 ∷ get_or m.deps 3 0 ∷ get_or m.deps 4 0 ∷ get_or m.deps 5 0 ∷ get_or m.deps 6 0 ∷ []

-- the numbers of a message that was read; all 0 for a refusal
abbrev pub read_values : Result Message Refusal → List ℕ
read_values (Ok m) = fields_of m
read_values (Err r) = replicate 19 0

-- back, each number cut to its place
unfoldable pub command_from : List ℕ → Command
command_from fs =
    record { op = op_of (get_or fs 8 0 % 256); key = get_or fs 9 0 % 4294967296; second = get_or fs 10 0 % 4294967296; edit = get_or fs 11 0 }

-- the other ballot is the voted or the joined one, as the kind has it
unfoldable pub body_from : ℕ → ℕ → ℕ → Command → Body
body_from k v t c = body_of k (record { voted = v; status = t; command = c; joined = v })

unfoldable pub deps_from : List ℕ → List ℕ
deps_from fs =
    get_or fs 12 0 % 65536 ∷ get_or fs 13 0 % 65536 ∷ get_or fs 14 0 % 65536 ∷ get_or fs 15 0 % 65536 ∷ get_or fs 16 0 % 65536
    ∷ get_or fs 17 0 % 65536 ∷ get_or fs 18 0 % 65536 ∷ []

unfoldable pub message_from : List ℕ → Message
message_from fs =
    record {
      from = get_or fs 1 0 % 256;
      to = get_or fs 2 0 % 256;
      owner = get_or fs 3 0 % 256;
      number = get_or fs 4 0 % 65536;
      ballot = get_or fs 5 0 % 4294967296;
      body = body_from (get_or fs 0 0) (get_or fs 6 0 % 4294967296) (get_or fs 7 0 % 256) (command_from fs);
      deps = deps_from fs;
    }

unfoldable pub same_fields : List ℕ → List ℕ → Bool
same_fields f g = all_below 19 (λ i. eqb (get_or f i 0) (get_or g i 0))

-- the fields by their place among the numbers, with this other ballot; the first is the kind, and counts as none
unfoldable pub number_fields : Field → List Field
number_fields other =
    field.From ∷ field.From ∷ field.To ∷ field.Owner ∷ field.Number ∷ field.Ballot ∷ other ∷ field.Status ∷ field.Op ∷ field.Key ∷ field.Second
    ∷ field.Edit ∷ field.Entry 0 ∷ field.Entry 1 ∷ field.Entry 2 ∷ field.Entry 3 ∷ field.Entry 4 ∷ field.Entry 5 ∷ field.Entry 6 ∷ []

abbrev pub other_field : Parts → Field
other_field p = cond p.joined field.Joined field.Voted

abbrev pub field_of : Parts → ℕ → Field
field_of p i = get_or (number_fields (other_field p)) i field.From

-- the most that can stand in each place; what the op's place holds, its kind says
unfoldable pub most : List ℕ
most =
    255 ∷ 255 ∷ 255 ∷ 255 ∷ 65535 ∷ 4294967295 ∷ 4294967295 ∷ 255 ∷ 3 ∷ 4294967295 ∷ 4294967295 ∷ 18446744073709551615 ∷ 65535 ∷ 65535 ∷ 65535
    ∷ 65535 ∷ 65535 ∷ 65535 ∷ 65535 ∷ []

abbrev pub can_hold : Parts → ℕ → ℕ → Bool
can_hold p i x = cond (eqb i 8) (op_range p.second x) (leb x (get_or most i 0))

-- what the kind does not carry is 0
unfoldable pub carried_only : Parts → List ℕ → Bool
carried_only p fs = all_below 19 (λ i. has_field p (field_of p i) || eqb (get_or fs i 0) 0)

-- the first of k numbers, from the i-th on, that its place cannot hold
unfoldable pub first_unheld : Parts → List ℕ → ℕ → ℕ → Blame
first_unheld p fs zero i = blame.Length
first_unheld p fs (suc k) i = cond (can_hold p i (get_or fs i 0)) (first_unheld p fs k (i + 1)) (blame.Of (field_of p i))

-- whom numbers blame that are no message's: the kind, one that stands where the kind has none and would make the message longer, then the
-- first that its place cannot hold; where neither, they are a message's
unfoldable pub misfit : List ℕ → Blame
misfit fs =
    cond (not (row_of (get_or fs 0 0)).known) blame.Kind
    (cond (not (carried_only (parts_of (get_or fs 0 0)) fs)) blame.Length (first_unheld (parts_of (get_or fs 0 0)) fs 18 1))

-- 1, 2, then that
unfoldable pub wrote_misfit : ℕ → ℕ → ℕ → List ℕ → List ℕ → Wrote
wrote_misfit n s c out fs =
    cond (not (setup_ok n s c)) (unwritten Setup out)
    (cond (ltb (length out) 256) (unwritten Room out) (unwritten (refusal_of (parts_of (get_or fs 0 0)) (misfit fs)) out))

-- what is written of numbers: the message that they are, if they are one
unfoldable pub wrote_fields : ℕ → ℕ → ℕ → List ℕ → List ℕ → Wrote
wrote_fields n s c out fs = cond (same_fields fs (fields_of (message_from fs))) (wrote n s c out (message_from fs)) (wrote_misfit n s c out fs)
