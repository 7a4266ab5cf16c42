-- "Messages": the table of bodies, a row for each kind, and beside it all that goes by a body's cases. Lengths, reader, writer,
-- roles and validity follow from the rows. Assumes nothing.
use Rattle.std.specs.Prelude.{ℕ, Bool, true, false, cond, List, [], ◌∷◌, get_or}
use Rattle.paper.specs.Command.{noop, is_rewire}
use Rattle.paper.specs.Deps.{no_deps}
use Rattle.paper.specs.declared.Command.{Command}
use Rattle.paper.specs.declared.Body.{Body}
use Rattle.paper.specs.declared.Body.TheVariants.{PreAccept, PreAcceptOk, Accept, AcceptOk, Commit, Prepare, PrepareOk, Nack}
use Rattle.paper.specs.declared.Carried.{Carried}
use Rattle.paper.specs.declared.Role.{Role}
use Rattle.paper.specs.declared.Role.TheVariants.{Lead, Reply, Anyone}
use Rattle.paper.specs.declared.Ballots.{Ballots}
use Rattle.paper.specs.declared.Ballots.TheVariants.{Any, Fresh, Recovery}
use Rattle.paper.specs.declared.Parts.{Parts}
use Rattle.paper.specs.declared.Row.{Row}
use Rattle.paper.specs.declared.Vote.{Vote}
use Rattle.paper.specs.declared.Message.{Message}

-- the rest of a kind: what stands after the head
abbrev pub nothing : Parts
nothing = record { told = false; command = false; second = false; deps = false; joined = false }

abbrev pub dependencies : Parts
dependencies = record { told = false; command = false; second = false; deps = true; joined = false }

abbrev pub proposal : Parts
proposal = record { told = false; command = true; second = false; deps = true; joined = false }

abbrev pub whole_vote : Parts
whole_vote = record { told = true; command = true; second = false; deps = true; joined = false }

abbrev pub higher_ballot : Parts
higher_ballot = record { told = false; command = false; second = false; deps = false; joined = true }

-- 5/12: the same with a second key
abbrev pub longer : Parts → Parts
longer p = record { told = p.told; command = p.command; second = true; deps = p.deps; joined = p.joined }

abbrev pub said_by : Role → Ballots → Parts → Row
said_by r b p = record { known = true; role = r; ballots = b; parts = p }

-- a kind that is none
abbrev pub unknown : Row
unknown = record { known = false; role = Anyone; ballots = Any; parts = nothing }

-- the table of bodies, from kind 1 on; the last four say of a rewire what kinds 1, 3, 5 and 7 say of all else
abbrev pub rows : List Row
rows =
    said_by Lead Fresh proposal
    ∷ said_by Reply Any dependencies
    ∷ said_by Lead Any proposal
    ∷ said_by Reply Any nothing
    ∷ said_by Anyone Any proposal
    ∷ said_by Lead Recovery nothing
    ∷ said_by Reply Recovery whole_vote
    ∷ said_by Reply Any higher_ballot
    ∷ said_by Lead Fresh (longer proposal)
    ∷ said_by Lead Any (longer proposal)
    ∷ said_by Anyone Any (longer proposal)
    ∷ said_by Reply Recovery (longer whole_vote)
    ∷ []

unfoldable pub row_of : ℕ → Row
row_of k = get_or (unknown ∷ rows) k unknown

-- of a body's short and long kind the one that carries this command
abbrev pub kind_by : ℕ → ℕ → Command → ℕ
kind_by short long c = cond (is_rewire c) long short

abbrev pub kind_of : Body → ℕ
kind_of (PreAccept c) = kind_by 1 9 c
kind_of PreAcceptOk = 2
kind_of (Accept c) = kind_by 3 10 c
kind_of AcceptOk = 4
kind_of (Commit c) = kind_by 5 11 c
kind_of Prepare = 6
kind_of (PrepareOk v t c) = kind_by 7 12 c
kind_of (Nack j) = 8

-- whatever a body carries, it is said by the same copy, at the same ballots, with the same parts but for a second key: as its short
-- kind has them
abbrev pub short_kind : Body → ℕ
short_kind (PreAccept c) = 1
short_kind PreAcceptOk = 2
short_kind (Accept c) = 3
short_kind AcceptOk = 4
short_kind (Commit c) = 5
short_kind Prepare = 6
short_kind (PrepareOk v t c) = 7
short_kind (Nack j) = 8

abbrev pub said_in : Body → Row
said_in b = row_of (short_kind b)

abbrev pub is_commit : Body → Bool
is_commit (PreAccept c) = false
is_commit PreAcceptOk = false
is_commit (Accept c) = false
is_commit AcceptOk = false
is_commit (Commit c) = true
is_commit Prepare = false
is_commit (PrepareOk v t c) = false
is_commit (Nack j) = false

-- a body carries nothing; a command; a joined ballot
abbrev pub none_carried : Carried
none_carried = record { voted = 0; status = 0; command = noop; joined = 0 }

abbrev pub command_carried : Command → Carried
command_carried c = record { voted = 0; status = 0; command = c; joined = 0 }

abbrev pub joined_carried : ℕ → Carried
joined_carried j = record { voted = 0; status = 0; command = noop; joined = j }

abbrev pub carried_in : Body → Carried
carried_in (PreAccept c) = command_carried c
carried_in PreAcceptOk = none_carried
carried_in (Accept c) = command_carried c
carried_in AcceptOk = none_carried
carried_in (Commit c) = command_carried c
carried_in Prepare = none_carried
carried_in (PrepareOk v t c) = record { voted = v; status = t; command = c; joined = 0 }
carried_in (Nack j) = joined_carried j

-- a body of each kind that carries x, from kind 1 on
abbrev pub bodies : Carried → List Body
bodies x =
    PreAccept x.command
    ∷ PreAcceptOk
    ∷ Accept x.command
    ∷ AcceptOk
    ∷ Commit x.command
    ∷ Prepare
    ∷ PrepareOk x.voted x.status x.command
    ∷ Nack x.joined
    ∷ PreAccept x.command
    ∷ Accept x.command
    ∷ Commit x.command
    ∷ PrepareOk x.voted x.status x.command
    ∷ []

unfoldable pub body_of : ℕ → Carried → Body
body_of k x = get_or (Prepare ∷ bodies x) k Prepare

abbrev pub row_in : Body → Row
row_in b = row_of (kind_of b)

abbrev pub parts_of : ℕ → Parts
parts_of k = (row_of k).parts

abbrev pub parts_in : Body → Parts
parts_in b = parts_of (kind_of b)

abbrev pub command_in : Body → Command
command_in b = (carried_in b).command

abbrev pub voted_in : Body → ℕ
voted_in b = (carried_in b).voted

abbrev pub status_in : Body → ℕ
status_in b = (carried_in b).status

abbrev pub joined_in : Body → ℕ
joined_in b = (carried_in b).joined

-- the vote that is told: what the body carries, with the dependencies beside it
abbrev pub vote_in : Message → Vote
vote_in m = record { voted = voted_in m.body; status = status_in m.body; command = command_in m.body; deps = m.deps }

-- what these parts hold of it
unfoldable pub kept : Parts → Carried → Carried
kept p x =
    record {
      voted = cond p.told x.voted 0;
      status = cond p.told x.status 0;
      command = cond p.command x.command noop;
      joined = cond p.joined x.joined 0;
    }

-- the lead's word; a reply to the lead
abbrev pub is_word : Role → Bool
is_word Lead = true
is_word Reply = false
is_word Anyone = false

abbrev pub is_reply : Role → Bool
is_reply Lead = false
is_reply Reply = true
is_reply Anyone = false

-- of no no-op at ballot 0; in recovery alone
abbrev pub is_fresh : Ballots → Bool
is_fresh Any = false
is_fresh Fresh = true
is_fresh Recovery = false

abbrev pub is_recovery : Ballots → Bool
is_recovery Any = false
is_recovery Fresh = false
is_recovery Recovery = true

-- what a refused reader hands back
abbrev pub no_message : Message
no_message = record { from = 0; to = 0; owner = 0; number = 0; ballot = 0; body = Prepare; deps = no_deps }
