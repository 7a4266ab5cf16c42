-- The bytes of a command, of dependencies and of a vote: one description of each, by the widths of its fields. A command in a
-- message is without its second key where the kind has none.
-- Assumes nothing.
use Rattle.std.specs.Prelude.{ℕ, zero, suc, Bool, true, false, List, [], ◌∷◌, ◌++◌, get_or, drop}
use Rattle.numbers.specs.Fields.{fields_at, fields_bytes, entries}
use Rattle.paper.specs.Command.{op_number}
use Rattle.paper.specs.declared.Op.{Op}
use Rattle.paper.specs.declared.Op.TheVariants.{Noop, Read, Write, Rewire}
use Rattle.paper.specs.declared.Command.{Command}
use Rattle.paper.specs.declared.Vote.{Vote}

-- the op of a number; whoever reads one above 3 refuses it
abbrev pub op_of : ℕ → Op
op_of zero = Noop
op_of (suc zero) = Read
op_of (suc (suc zero)) = Write
op_of (suc (suc (suc k))) = Rewire

-- op, key, second key, edit
abbrev pub command_widths : List ℕ
command_widths = 1 ∷ 4 ∷ 4 ∷ 8 ∷ []

abbrev pub command_numbers : Command → List ℕ
command_numbers c = op_number c.op ∷ c.key ∷ c.second ∷ c.edit ∷ []

abbrev pub command_of : List ℕ → Command
command_of ns = record { op = op_of (get_or ns 0 0); key = get_or ns 1 0; second = get_or ns 2 0; edit = get_or ns 3 0 }

-- the op of a number without a second key; whoever reads one above 2 refuses it
abbrev pub short_op_of : ℕ → Op
short_op_of zero = Noop
short_op_of (suc zero) = Read
short_op_of (suc (suc k)) = Write

-- in a message: with a second key the same, without one that much shorter
abbrev pub sent_widths : Bool → List ℕ
sent_widths true = command_widths
sent_widths false = 1 ∷ 4 ∷ 8 ∷ []

abbrev pub sent_numbers : Bool → Command → List ℕ
sent_numbers true c = command_numbers c
sent_numbers false c = op_number c.op ∷ c.key ∷ c.edit ∷ []

-- a second key is a rewire's, so the op follows from the kind; whoever reads another op refuses it
abbrev pub sent_of : Bool → List ℕ → Command
sent_of true ns = record { op = Rewire; key = get_or ns 1 0; second = get_or ns 2 0; edit = get_or ns 3 0 }
sent_of false ns = record { op = short_op_of (get_or ns 0 0); key = get_or ns 1 0; second = 0; edit = get_or ns 2 0 }

abbrev pub deps_widths : List ℕ
deps_widths = 2 ∷ 2 ∷ 2 ∷ 2 ∷ 2 ∷ 2 ∷ 2 ∷ []

abbrev pub deps_numbers : List ℕ → List ℕ
deps_numbers d = entries 7 d 0

abbrev pub vote_widths : List ℕ
vote_widths = 4 ∷ 1 ∷ (command_widths ++ deps_widths)

abbrev pub vote_numbers : Vote → List ℕ
vote_numbers v = v.voted ∷ v.status ∷ (command_numbers v.command ++ deps_numbers v.deps)

abbrev pub vote_of : List ℕ → Vote
vote_of ns = record { voted = get_or ns 0 0; status = get_or ns 1 0; command = command_of (drop 2 ns); deps = drop 6 ns }

-- read at a place
unfoldable pub command_at : List ℕ → ℕ → Command
command_at s at = command_of (fields_at command_widths s at)

unfoldable pub sent_at : Bool → List ℕ → ℕ → Command
sent_at second s at = sent_of second (fields_at (sent_widths second) s at)

unfoldable pub deps_at : List ℕ → ℕ → List ℕ
deps_at s at = fields_at deps_widths s at

unfoldable pub vote_at : List ℕ → ℕ → Vote
vote_at s at = vote_of (fields_at vote_widths s at)

-- as written
unfoldable pub command_bytes : Command → List ℕ
command_bytes c = fields_bytes command_widths (command_numbers c)

unfoldable pub sent_bytes : Bool → Command → List ℕ
sent_bytes second c = fields_bytes (sent_widths second) (sent_numbers second c)

unfoldable pub deps_bytes : List ℕ → List ℕ
deps_bytes d = fields_bytes deps_widths (deps_numbers d)

unfoldable pub vote_bytes : Vote → List ℕ
vote_bytes v = fields_bytes vote_widths (vote_numbers v)
