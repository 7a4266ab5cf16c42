-- "Messages", and document 02, 1/12: when a message is valid: the clauses, in the order in which a refusal names the first that
-- fails, and whom it blames. Kind byte and length are the bytes' own: the wire asks them. Assumes nothing.
-- n, s: the setup; c: the copy that receives; m: the message; w: the row of its kind; v: the vote that it carries; o: the op's
-- number as it stands in the bytes; j: the joined ballot that it carries.
use Rattle.std.specs.Prelude.{ℕ, zero, suc, ◌+◌, Bool, true, false, ◌&&◌, ◌||◌, not, cond, List, [], ◌∷◌, ◌++◌, leb, ltb, eqb, Result, Ok, Err}
use Rattle.paper.specs.Logic.{implies}
use Rattle.paper.specs.Instance.{owner_ok, number_ok}
use Rattle.paper.specs.Setup.{copy_ok}
use Rattle.paper.specs.Command.{op_number, is_noop, key_ok, second_ok, edit_ok}
use Rattle.paper.specs.Deps.{entry_ok, same_deps, no_deps}
use Rattle.paper.specs.Ballot.{ballot_ok, lead}
use Rattle.paper.specs.Vote.{voted_ok, status_ok, voted_below, none_voted, none_op, none_entry}
use Rattle.paper.specs.Message.{row_in, command_in, vote_in, joined_in, is_word, is_reply, is_fresh, is_recovery}
use Rattle.paper.specs.declared.Vote.{Vote}
use Rattle.paper.specs.declared.Parts.{Parts}
use Rattle.paper.specs.declared.Row.{Row}
use Rattle.paper.specs.declared.Message.{Message}
use Rattle.paper.specs.declared.Field.{Field}
use Rattle.paper.specs.declared.Field.TheVariants as field
use Rattle.paper.specs.declared.Blame.{Blame}
use Rattle.paper.specs.declared.Blame.TheVariants as blame

abbrev pub lead_of : Message → ℕ
lead_of m = lead m.owner m.ballot

-- a body without dependencies has zero ones beside it: others would make it longer. What is read from bytes always does
abbrev pub deps_carried : Row → Message → Bool
deps_carried w m = w.parts.deps || same_deps m.deps no_deps

-- 5/12: nor has a short kind a second key
abbrev pub second_carried : Row → Vote → Bool
second_carried w v = w.parts.second || eqb v.command.second 0

-- all ranges above
abbrev pub from_range : ℕ → Message → Bool
from_range n m = copy_ok n m.from

abbrev pub to_range : ℕ → Message → Bool
to_range n m = copy_ok n m.to

abbrev pub owner_range : ℕ → Message → Bool
owner_range n m = owner_ok n m.owner

abbrev pub number_range : ℕ → Message → Bool
number_range s m = number_ok s m.number

abbrev pub ballot_range : ℕ → Message → Bool
ballot_range n m = ballot_ok n m.ballot

-- kinds 6, 7 have ballot >= 8
abbrev pub recovery_ballot : Row → Message → Bool
recovery_ballot w m = implies (is_recovery w.ballots) (leb 8 m.ballot)

-- to = this copy, from another
abbrev pub to_here : ℕ → Message → Bool
to_here c m = eqb m.to c

abbrev pub from_another : ℕ → Message → Bool
from_another c m = not (eqb m.from c)

-- only the lead says its word
abbrev pub from_lead : Row → Message → Bool
from_lead w m = implies (is_word w.role) (eqb m.from (lead_of m))

-- kinds 2, 4, 7, 8 come to it
abbrev pub to_lead : Row → Message → Bool
to_lead w m = implies (is_reply w.role) (eqb m.to (lead_of m))

-- a told vote is older than the ballot, and blank without a status: each field as far as it has been read
abbrev pub told_below : Row → Message → Vote → Bool
told_below w m v = implies w.parts.told (voted_below m.ballot v)

abbrev pub told_voted : Row → Vote → Bool
told_voted w v = implies w.parts.told (none_voted v)

abbrev pub told_op : Row → Vote → Bool
told_op w v = implies w.parts.told (none_op v)

abbrev pub told_entry : Row → Vote → ℕ → Bool
told_entry w v i = implies w.parts.told (none_entry v i)

-- 0, 1 or 2; beside a second key 3 alone
abbrev pub op_range : Bool → ℕ → Bool
op_range second o = cond second (eqb o 3) (leb o 2)

-- kind 1 at ballot 0 has no no-op
abbrev pub fresh_op : Row → Message → Vote → Bool
fresh_op w m v = implies (is_fresh w.ballots && eqb m.ballot 0) (not (is_noop v.command))

-- the Nack's ballot
abbrev pub joined_range : ℕ → ℕ → Bool
joined_range n j = ballot_ok n j

-- kind 8 has joined > ballot
abbrev pub joined_above : Row → Message → ℕ → Bool
joined_above w m j = implies w.parts.joined (ltb m.ballot j)

pub data Clause : Type 0 where
  DepsCarried SecondCarried : Clause
  FromRange ToRange OwnerRange NumberRange BallotRange RecoveryBallot : Clause
  ToHere FromAnother FromLead ToLead : Clause
  VotedRange ToldBelow StatusRange ToldVoted : Clause
  OpRange FreshOp ToldOp KeyRange SecondRange EditRange : Clause
  EntryRange ToldEntry : ℕ → Clause
  JoinedRange JoinedAbove : Clause

unfoldable pub holds_of : ℕ → ℕ → ℕ → Row → Message → Vote → ℕ → ℕ → Clause → Bool
holds_of n s c w m v o j DepsCarried = deps_carried w m
holds_of n s c w m v o j SecondCarried = second_carried w v
holds_of n s c w m v o j FromRange = from_range n m
holds_of n s c w m v o j ToRange = to_range n m
holds_of n s c w m v o j OwnerRange = owner_range n m
holds_of n s c w m v o j NumberRange = number_range s m
holds_of n s c w m v o j BallotRange = ballot_range n m
holds_of n s c w m v o j RecoveryBallot = recovery_ballot w m
holds_of n s c w m v o j ToHere = to_here c m
holds_of n s c w m v o j FromAnother = from_another c m
holds_of n s c w m v o j FromLead = from_lead w m
holds_of n s c w m v o j ToLead = to_lead w m
holds_of n s c w m v o j VotedRange = voted_ok n v
holds_of n s c w m v o j ToldBelow = told_below w m v
holds_of n s c w m v o j StatusRange = status_ok 3 v
holds_of n s c w m v o j ToldVoted = told_voted w v
holds_of n s c w m v o j OpRange = op_range w.parts.second o
holds_of n s c w m v o j FreshOp = fresh_op w m v
holds_of n s c w m v o j ToldOp = told_op w v
holds_of n s c w m v o j KeyRange = key_ok v.command
holds_of n s c w m v o j SecondRange = second_ok v.command
holds_of n s c w m v o j EditRange = edit_ok v.command
holds_of n s c w m v o j (EntryRange i) = entry_ok n s v.deps i
holds_of n s c w m v o j (ToldEntry i) = told_entry w v i
holds_of n s c w m v o j JoinedRange = joined_range n j
holds_of n s c w m v o j JoinedAbove = joined_above w m j

-- a clause, of a message as received by copy c
abbrev pub holds : ℕ → ℕ → ℕ → ℕ → Message → Clause → Bool
holds n s c o m x = holds_of n s c (row_in m.body) m (vote_in m) o (joined_in m.body) x

-- in the order in which they are tried: what makes it longer, the head's ranges, the way, the body's fields as they stand in the bytes
abbrev pub carried_clauses : List Clause
carried_clauses = DepsCarried ∷ SecondCarried ∷ []

abbrev pub head_clauses : List Clause
head_clauses = FromRange ∷ ToRange ∷ OwnerRange ∷ NumberRange ∷ BallotRange ∷ RecoveryBallot ∷ []

abbrev pub way_clauses : List Clause
way_clauses = ToHere ∷ FromAnother ∷ FromLead ∷ ToLead ∷ []

abbrev pub told_clauses : List Clause
told_clauses = VotedRange ∷ ToldBelow ∷ StatusRange ∷ ToldVoted ∷ []

abbrev pub command_clauses : List Clause
command_clauses = OpRange ∷ FreshOp ∷ ToldOp ∷ KeyRange ∷ SecondRange ∷ EditRange ∷ []

-- those of k entries, from i on
unfoldable pub entry_clauses : ℕ → ℕ → List Clause
entry_clauses zero i = []
entry_clauses (suc k) i = EntryRange i ∷ ToldEntry i ∷ entry_clauses k (i + 1)

abbrev pub deps_clauses : List Clause
deps_clauses = entry_clauses 7 0

abbrev pub joined_clauses : List Clause
joined_clauses = JoinedRange ∷ JoinedAbove ∷ []

abbrev pub clauses : List Clause
clauses = carried_clauses ++ head_clauses ++ way_clauses ++ told_clauses ++ command_clauses ++ deps_clauses ++ joined_clauses

-- the first of these clauses that fails
pub data Failing : Type 0 where
  none : Failing
  first : Clause → Failing

unfoldable pub first_of : (Clause → Bool) → List Clause → Failing
first_of f [] = none
first_of f (x ∷ xs) = cond (f x) (first_of f xs) (first x)

unfoldable pub first_failing : ℕ → ℕ → ℕ → ℕ → Message → Failing
first_failing n s c o m = first_of (holds n s c o m) clauses

abbrev pub is_none : Failing → Bool
is_none none = true
is_none (first x) = false

-- the op's number in a message by value
abbrev pub op_in : Message → ℕ
op_in m = op_number (command_in m.body).op

-- none fails
unfoldable pub valid : ℕ → ℕ → ℕ → Message → Bool
valid n s c m = is_none (first_failing n s c (op_in m) m)

-- whom a clause blames that fails: of two fields the one that stands later
unfoldable pub blame_of : Clause → Blame
blame_of DepsCarried = blame.Length
blame_of SecondCarried = blame.Length
blame_of FromRange = blame.Of field.From
blame_of ToRange = blame.Of field.To
blame_of OwnerRange = blame.Of field.Owner
blame_of NumberRange = blame.Of field.Number
blame_of BallotRange = blame.Of field.Ballot
blame_of RecoveryBallot = blame.Of field.Ballot
blame_of ToHere = blame.Way
blame_of FromAnother = blame.Way
blame_of FromLead = blame.Lead
blame_of ToLead = blame.Lead
blame_of VotedRange = blame.Of field.Voted
blame_of ToldBelow = blame.Of field.Voted
blame_of StatusRange = blame.Of field.Status
blame_of ToldVoted = blame.Of field.Status
blame_of OpRange = blame.Of field.Op
blame_of FreshOp = blame.Of field.Op
blame_of ToldOp = blame.Of field.Op
blame_of KeyRange = blame.Of field.Key
blame_of SecondRange = blame.Of field.Second
blame_of EditRange = blame.Of field.Edit
blame_of (EntryRange i) = blame.Of (field.Entry i)
blame_of (ToldEntry i) = blame.Of (field.Entry i)
blame_of JoinedRange = blame.Of field.Joined
blame_of JoinedAbove = blame.Of field.Joined

abbrev pub verdict_of : Failing → Result Unit Blame
verdict_of none = Ok tt
verdict_of (first x) = Err (blame_of x)

-- what a message, received by copy c with this op in its bytes, is found to be
unfoldable pub verdict_on : ℕ → ℕ → ℕ → ℕ → Message → Result Unit Blame
verdict_on n s c o m = verdict_of (first_failing n s c o m)

-- whether a message with these parts has such a field
abbrev pub has_field : Parts → Field → Bool
has_field p field.From = true
has_field p field.To = true
has_field p field.Owner = true
has_field p field.Number = true
has_field p field.Ballot = true
has_field p field.Voted = p.told
has_field p field.Status = p.told
has_field p field.Op = p.command
has_field p field.Key = p.command
has_field p field.Second = p.command && p.second
has_field p field.Edit = p.command
has_field p (field.Entry i) = p.deps && ltb i 7
has_field p field.Joined = p.joined
