-- What a replay's two passes rest on. The first keeps the status of each instance, 64 places to an owner, in place of the table.
-- Assumes nothing.
-- st: the statuses.
use Rattle.std.specs.Prelude.{ℕ, zero, suc, ◌+◌, ◌*◌, ◌≤◌, ◌<◌, ◌≡◌, Bool, cond, List, Result, Ok, eqb, length, get_or, set}
use Rattle.table.specs.Place.{table_length}
use Rattle.table.specs.Sizes.{Names}
use Rattle.table.specs.Table.{record_in, Whole}
use Rattle.table.specs.Calls.{record_of}
use Rattle.rows.specs.Rows.{slot_of}
use Rattle.entries.specs.declared.BadEntry.{BadEntry}
use Rattle.entries.specs.Entry.{record_kind, entry_length, kind_in, owner_in, number_in, part_in, Fit}
use Rattle.entries.specs.Replay.{front_of, behind, or_on, end_of}

-- o.j is committed by its status
abbrev pub told : List ℕ → ℕ → ℕ → Bool
told st o j = eqb (get_or st (slot_of o j) 0) 4

-- the statuses after the entry in front: a mark changes none
abbrev pub noted : List ℕ → List ℕ → List ℕ
noted st b = cond (eqb (kind_in b) record_kind) (set st (slot_of (owner_in b) (number_in b)) (record_of (part_in b)).vote.status) st

-- where the walk ends, by statuses
unfoldable pub end_by : ℕ → ℕ → ℕ → ℕ → List ℕ → List ℕ → ℕ → Result ℕ BadEntry
end_by zero n s c st b at = Ok at
end_by (suc k) n s c st b at = or_on (front_of n s c (told st) b) at (end_by k n s c (noted st b) (behind b) (at + entry_length (kind_in b)))

-- sizes of the setup, and a place for each status
pub record Asked (n s c : ℕ) (st : List ℕ) : Type 0 where
  pub least : 1 ≤ n
  pub copies : n ≤ 7
  pub numbers : s ≤ 64
  pub copy : c < n
  pub long : length st ≡ 448

-- the statuses of the instances of a table whose places are below z
pub record Charted (n s : ℕ) (t : List ℕ) (z : ℕ) (st : List ℕ) : Type 0 where
  pub long : length st ≡ 448
  pub each : (o j : ℕ) → Names n s o j → slot_of o j < z → get_or st (slot_of o j) 0 ≡ (record_in s t o j).vote.status

-- the statuses of all of them
pub record Tells (n s : ℕ) (t st : List ℕ) : Type 0 where
  pub long : length st ≡ 448
  pub each : (o j : ℕ) → Names n s o j → get_or st (slot_of o j) 0 ≡ (record_in s t o j).vote.status

pub record RowCharting (n s : ℕ) (t st : List ℕ) (o : ℕ) : Type 0 where
  pub copies : n ≤ 7
  pub numbers : s ≤ 64
  pub table : length t ≡ table_length n s
  pub owner : o < n
  pub charted : Charted n s t (64 * o) st

pub record Charting (n s : ℕ) (t st : List ℕ) : Type 0 where
  pub copies : n ≤ 7
  pub numbers : s ≤ 64
  pub table : length t ≡ table_length n s
  pub long : length st ≡ 448

-- a table whose every record is written back as its bytes
pub record Held (n s : ℕ) (t : List ℕ) : Type 0 where
  pub copies : n ≤ 7
  pub numbers : s ≤ 64
  pub long : length t ≡ table_length n s
  pub whole : (o j : ℕ) → Names n s o j → Whole s t o j

-- a journal of whole entries, judged by some copy
pub record Ready (n s : ℕ) (t b : List ℕ) : Type 0 where
  pub held : Held n s t
  pub copy : ℕ
  pub ends : end_of (length b) n s copy t b 0 ≡ Ok (length b)

-- the entry in front can be put
pub record Puts (n s : ℕ) (t b : List ℕ) : Type 0 where
  pub fit : Fit n s b
  pub held : Held n s t
