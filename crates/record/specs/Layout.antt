-- The bytes of a record, as docs/LAYOUT.md has them: where each part stands follows from the widths of those before it.
-- Assumes nothing.
use Rattle.std.specs.Prelude.{ℕ, zero, suc, ◌+◌, ◌*◌, List, [], ◌∷◌, ◌++◌}
use Rattle.numbers.specs.Num.{num_at, bytes_of}
use Rattle.numbers.specs.Fields.{size_of}
use Rattle.codec.specs.Parts.{command_widths, vote_widths, vote_at, vote_bytes}
use Rattle.paper.specs.declared.Vote.{Vote}
use Rattle.paper.specs.declared.Record.{Record}

-- how long a vote is
abbrev pub vote_length : ℕ
vote_length = size_of vote_widths

-- the op stands in a vote behind voted and status
abbrev pub op_in_vote : ℕ
op_in_vote = 4 + 1

-- joined u32, then the copy's own vote: voted u32, status u8, command, dependencies
abbrev pub joined_place : ℕ
joined_place = 0

abbrev pub vote_place : ℕ
vote_place = joined_place + 4

abbrev pub status_place : ℕ
status_place = vote_place + 4

abbrev pub command_place : ℕ
command_place = status_place + 1

abbrev pub deps_place : ℕ
deps_place = command_place + size_of command_widths

-- mark, phase and set, a byte each
abbrev pub mark_place : ℕ
mark_place = vote_place + vote_length

abbrev pub phase_place : ℕ
phase_place = mark_place + 1

abbrev pub set_place : ℕ
set_place = phase_place + 1

-- seven replies, laid out as votes
abbrev pub replies_place : ℕ
replies_place = set_place + 1

abbrev pub reply_place : ℕ → ℕ
reply_place q = replies_place + vote_length * q

abbrev pub replies_length : ℕ
replies_length = 7 * vote_length

abbrev pub record_length : ℕ
record_length = replies_place + replies_length

-- k votes one after the other, from `at` on
unfoldable pub votes_at : ℕ → List ℕ → ℕ → List Vote
votes_at zero b at = []
votes_at (suc k) b at = vote_at b at ∷ votes_at k b (at + vote_length)

unfoldable pub votes_bytes : List Vote → List ℕ
votes_bytes [] = []
votes_bytes (v ∷ vs) = vote_bytes v ++ votes_bytes vs

-- a record as read
unfoldable pub record_at : List ℕ → Record
record_at b =
    record {
      joined = num_at 4 b joined_place;
      vote = vote_at b vote_place;
      mark = num_at 1 b mark_place;
      phase = num_at 1 b phase_place;
      set = num_at 1 b set_place;
      replies = votes_at 7 b replies_place;
    }

-- all that stands before the replies
unfoldable pub front_bytes : Record → List ℕ
front_bytes r = bytes_of 4 r.joined ++ vote_bytes r.vote ++ bytes_of 1 r.mark ++ bytes_of 1 r.phase ++ bytes_of 1 r.set

-- a record as written
unfoldable pub record_bytes : Record → List ℕ
record_bytes r = front_bytes r ++ votes_bytes r.replies

-- a record with another mark
abbrev pub with_mark : Record → ℕ → Record
with_mark r x = record { joined = r.joined; vote = r.vote; mark = x; phase = r.phase; set = r.set; replies = r.replies }
