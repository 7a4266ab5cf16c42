-- "Messages": the bytes of each kind: the head, then the parts that its row has, in their order. Length, reader and writer go by
-- the places that follow from the parts' widths. Assumes nothing.
use Rattle.std.specs.Prelude.{ℕ, ◌+◌, ◌*◌, ◌≡◌, Bool, true, false, ◌&&◌, not, cond, List, [], ◌∷◌, ◌++◌, eqb, length, take, Result, Err}
use Rattle.numbers.specs.Num.{num_at}
use Rattle.numbers.specs.Fields.{size_of, fields_bytes}
use Rattle.codec.specs.Parts.{sent_widths, deps_widths, sent_at, deps_at, sent_bytes, deps_bytes}
use Rattle.paper.specs.Deps.{no_deps}
use Rattle.paper.specs.Message.{row_of, parts_of, parts_in, kind_of, carried_in, body_of, kept}
use Rattle.paper.specs.Valid.{op_range, valid, verdict_on}
use Rattle.paper.specs.declared.Body.{Body}
use Rattle.paper.specs.declared.Carried.{Carried}
use Rattle.paper.specs.declared.Parts.{Parts}
use Rattle.paper.specs.declared.Message.{Message}
use Rattle.paper.specs.declared.Field.{Field}
use Rattle.paper.specs.declared.Field.TheVariants as field
use Rattle.paper.specs.declared.Blame.{Blame}
use Rattle.paper.specs.declared.Blame.TheVariants as blame

-- kind, from, to, owner, number, ballot
abbrev pub head_widths : List ℕ
head_widths = 1 ∷ 1 ∷ 1 ∷ 1 ∷ 2 ∷ 4 ∷ []

-- voted ballot and status
abbrev pub told_widths : List ℕ
told_widths = 4 ∷ 1 ∷ []

-- joined ballot
abbrev pub joined_widths : List ℕ
joined_widths = 4 ∷ []

abbrev pub head_size : ℕ
head_size = size_of head_widths

-- the place after a part of these widths, which stands at `at` if at all
unfoldable pub past : Bool → List ℕ → ℕ → ℕ
past b ws at = cond b (at + size_of ws) at

-- the places of the parts of a rest that begins at `at`, and its end
abbrev pub command_start : Parts → ℕ → ℕ
command_start p at = past p.told told_widths at

abbrev pub deps_start : Parts → ℕ → ℕ
deps_start p at = past p.command (sent_widths p.second) (command_start p at)

abbrev pub joined_start : Parts → ℕ → ℕ
joined_start p at = past p.deps deps_widths (deps_start p at)

abbrev pub rest_end : Parts → ℕ → ℕ
rest_end p at = past p.joined joined_widths (joined_start p at)

-- the kind byte alone gives the length
unfoldable pub length_of : ℕ → ℕ
length_of k = rest_end (parts_of k) head_size

abbrev pub head_numbers : Message → List ℕ
head_numbers m = kind_of m.body ∷ m.from ∷ m.to ∷ m.owner ∷ m.number ∷ m.ballot ∷ []

unfoldable pub head_bytes : Message → List ℕ
head_bytes m = fields_bytes head_widths (head_numbers m)

abbrev pub told_bytes : Carried → List ℕ
told_bytes x = fields_bytes told_widths (x.voted ∷ x.status ∷ [])

abbrev pub joined_bytes : Carried → List ℕ
joined_bytes x = fields_bytes joined_widths (x.joined ∷ [])

-- a part's bytes, where there is such a part
abbrev pub part : Bool → List ℕ → List ℕ
part b l = cond b l []

-- the rest: the parts of x that these are, and of the dependencies beside it
unfoldable pub rest_bytes : Parts → Carried → List ℕ → List ℕ
rest_bytes p x d =
    part p.told (told_bytes x) ++ part p.command (sent_bytes p.second x.command) ++ part p.deps (deps_bytes d) ++ part p.joined (joined_bytes x)

-- a message as written
unfoldable pub message_bytes : Message → List ℕ
message_bytes m = head_bytes m ++ rest_bytes (parts_in m.body) (carried_in m.body) m.deps

abbrev pub kind_at : List ℕ → ℕ
kind_at b = num_at 1 b 0

-- what stands at the places of these parts
unfoldable pub carried_at : Parts → List ℕ → Carried
carried_at p b =
    kept p (record {
      voted = num_at 4 b head_size;
      status = num_at 1 b (head_size + 4);
      command = sent_at p.second b (command_start p head_size);
      joined = num_at 4 b (joined_start p head_size);
    })

unfoldable pub beside_at : Parts → List ℕ → List ℕ
beside_at p b = cond p.deps (deps_at b (deps_start p head_size)) no_deps

abbrev pub body_at : ℕ → List ℕ → Body
body_at k b = body_of k (carried_at (parts_of k) b)

-- a message as read
unfoldable pub message_at : List ℕ → Message
message_at b =
    record {
      from = num_at 1 b 1;
      to = num_at 1 b 2;
      owner = num_at 1 b 3;
      number = num_at 2 b 4;
      ballot = num_at 4 b 6;
      body = body_at (kind_at b) b;
      deps = beside_at (parts_of (kind_at b)) b;
    }

-- a known kind, at its exact length
unfoldable pub framed : List ℕ → Bool
framed b = (row_of (kind_at b)).known && eqb (length b) (length_of (kind_at b))

-- bytes of this kind, which has these parts, at its exact length
pub record OfKind (k : ℕ) (p : Parts) (b : List ℕ) : Type 0 where
  pub kind : k ≡ kind_at b
  pub known : (row_of k).known ≡ true
  pub parts : p ≡ parts_of k
  pub exact : length b ≡ rest_end p head_size

-- the op byte, 0 where there is none
unfoldable pub op_at : Parts → List ℕ → ℕ
op_at p b = cond p.command (num_at 1 b (command_start p head_size)) 0

-- as the kind has it: a message read from other bytes could not be told from a valid one
abbrev pub op_fits : List ℕ → Bool
op_fits b = op_range (parts_of (kind_at b)).second (op_at (parts_of (kind_at b)) b)

-- valid as received by copy c
unfoldable pub valid_bytes : ℕ → ℕ → ℕ → List ℕ → Bool
valid_bytes n s c b = framed b && op_fits b && valid n s c (message_at b)

-- 1/12: what copy c finds these bytes to be: the kind first, then the length, then the clauses
unfoldable pub verdict_at : ℕ → ℕ → ℕ → List ℕ → Result Unit Blame
verdict_at n s c b =
    cond (not (row_of (kind_at b)).known) (Err blame.Kind)
    (cond (not (eqb (length b) (length_of (kind_at b)))) (Err blame.Length)
    (verdict_on n s c (op_at (parts_of (kind_at b)) b) (message_at b)))

-- the edit stands in a command behind the keys
abbrev pub edit_in_command : Bool → ℕ
edit_in_command second = cond second (size_of (take 3 (sent_widths true))) (size_of (take 2 (sent_widths false)))

-- the first byte of a field, in a message with these parts
abbrev pub offset_of : Parts → Field → ℕ
offset_of p field.From = size_of (take 1 head_widths)
offset_of p field.To = size_of (take 2 head_widths)
offset_of p field.Owner = size_of (take 3 head_widths)
offset_of p field.Number = size_of (take 4 head_widths)
offset_of p field.Ballot = size_of (take 5 head_widths)
offset_of p field.Voted = head_size
offset_of p field.Status = head_size + size_of (take 1 told_widths)
offset_of p field.Op = command_start p head_size
offset_of p field.Key = command_start p head_size + size_of (take 1 (sent_widths true))
offset_of p field.Second = command_start p head_size + size_of (take 2 (sent_widths true))
offset_of p field.Edit = command_start p head_size + edit_in_command p.second
offset_of p (field.Entry i) = deps_start p head_size + 2 * i
offset_of p field.Joined = joined_start p head_size

-- how many bytes it takes
abbrev pub width_of : Field → ℕ
width_of field.From = 1
width_of field.To = 1
width_of field.Owner = 1
width_of field.Number = 2
width_of field.Ballot = 4
width_of field.Voted = 4
width_of field.Status = 1
width_of field.Op = 1
width_of field.Key = 4
width_of field.Second = 4
width_of field.Edit = 8
width_of (field.Entry i) = 2
width_of field.Joined = 4
