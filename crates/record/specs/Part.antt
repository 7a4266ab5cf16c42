-- When the bytes of a record are sound: the record is, and each op byte is the number of an op, so that no byte can differ
-- unseen. Assumes nothing.
use Rattle.std.specs.Prelude.{ℕ, ◌+◌, Bool, ◌&&◌, List, leb, eqb, get_or}
use Rattle.numbers.specs.Num.{num_at}
use Rattle.paper.specs.Logic.{all_below}
use Rattle.paper.specs.Command.{command_ok}
use Rattle.paper.specs.Deps.{deps_ok}
use Rattle.paper.specs.Vote.{none_is_blank}
use Rattle.paper.specs.Sound.{phases_ok, reply_ok, sound_record}
use Rattle.codec.specs.Parts.{command_at, deps_at, vote_at}
use Rattle.sound.specs.Asked.{ballots_ok, marked_ok, phased_ok}
use Rattle.record.specs.Layout.{op_in_vote, joined_place, vote_place, status_place, command_place, deps_place, mark_place, phase_place, set_place, replies_place, replies_length, reply_place, record_at}

-- the op byte of the vote at a place
abbrev pub op_fits : List ℕ → ℕ → Bool
op_fits b at = leb (num_at 1 b (at + op_in_vote)) 3

unfoldable pub ops_fit : List ℕ → Bool
ops_fit b = op_fits b vote_place && all_below 7 (λ q. op_fits b (reply_place q))

unfoldable pub sound_part : ℕ → ℕ → ℕ → ℕ → List ℕ → Bool
sound_part n s c o b = ops_fit b && sound_record n s c o (record_at b)

-- the same, as it is judged: what holds in any phase, what the phase asks, then each reply's place
unfoldable pub command_fits : List ℕ → Bool
command_fits b = op_fits b vote_place && command_ok (command_at b command_place)

unfoldable pub front_ok : ℕ → ℕ → List ℕ → Bool
front_ok n s b =
    ballots_ok n (num_at 4 b joined_place) (num_at 4 b vote_place)
    && (command_fits b && (marked_ok (num_at 1 b status_place) (num_at 1 b mark_place) && (none_is_blank (vote_at b vote_place) && deps_ok n s (deps_at b deps_place))))

unfoldable pub plain_ok : ℕ → ℕ → List ℕ → Bool
plain_ok n s b = front_ok n s b && phased_ok n (num_at 1 b phase_place) (num_at 1 b set_place)

unfoldable pub reply_part : ℕ → ℕ → ℕ → List ℕ → ℕ → Bool
reply_part n s c b q = op_fits b (reply_place q) && reply_ok n s c (record_at b) q

unfoldable pub busy_part : ℕ → ℕ → ℕ → ℕ → List ℕ → Bool
busy_part n s c o b = phases_ok n c o (record_at b) && all_below 7 (reply_part n s c b)

-- the bytes of all replies are zero
unfoldable pub no_replies : List ℕ → Bool
no_replies b = all_below replies_length (λ i. eqb (get_or b (replies_place + i) 0) 0)

-- no phase, which asks nothing more, and nothing collected
unfoldable pub is_idle : List ℕ → Bool
is_idle b = eqb (num_at 1 b phase_place) 0 && (eqb (num_at 1 b set_place) 0 && no_replies b)

unfoldable pub idle_ok : ℕ → ℕ → List ℕ → Bool
idle_ok n s b = is_idle b && front_ok n s b
