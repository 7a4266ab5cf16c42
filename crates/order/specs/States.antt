-- What a hand-out works out once, and what each of its parts rests on. Assumes nothing.
-- n, s: the setup; t: the table's bytes; u: the records; h, st, know, past: the lists of `next`.
use Rattle.std.specs.Prelude.{ℕ, ◌+◌, ◌*◌, ◌≤◌, ◌<◌, ◌≡◌, Bool, true, false, ◌&&◌, not, List, leb, eqb, length, get_or}
use Rattle.paper.specs.Logic.{all_below}
use Rattle.table.specs.Place.{table_length}
use Rattle.table.specs.Sizes.{Has}
use Rattle.table.specs.Table.{Whole}
use Rattle.rules.specs.Seen.{Records}
use Rattle.rules.specs.Step.{is_committed}
use Rattle.rules.specs.Order.{is_marked, is_settled}
use Rattle.seen.specs.Records.{records_in}
use Rattle.reach.specs.High.{Inst}
use Rattle.rows.specs.Rows.{slot_of, mark_at}
use Rattle.sweep.specs.Sweeping.{Sized, Charted}
use Rattle.next.specs.Slots.{Going}

-- owner q's row begins with z committed instances
pub record Prefix (s : ℕ) (u : Records) (q z : ℕ) : Type 0 where
  pub few : z ≤ s
  pub all : (j : ℕ) → 1 ≤ j → j ≤ z → is_committed (u q j) ≡ true
  pub stops : z < s → is_committed (u q (z + 1)) ≡ false

pub record Prefixes (n s : ℕ) (u : Records) (lead : List ℕ) : Type 0 where
  pub seven : length lead ≡ 7
  pub each : (q : ℕ) → q < n → Prefix s u q (get_or lead q 0)

-- no mark at place x is above its owner's lead
unfoldable pub behind_none : ℕ → List ℕ → ℕ → List ℕ → Bool
behind_none n h x lead = all_below n (λ q. leb (mark_at h x q) (get_or lead q 0))

-- x is the state of p.k: 2 handed out, 1 settled and not handed out
pub record State (n s : ℕ) (u : Records) (p k x : ℕ) : Type 0 where
  pub out : eqb x 2 ≡ is_marked (u p k)
  pub ready : eqb x 1 ≡ (is_settled n s u p k && not (is_marked (u p k)))

-- the states of the places below z
pub record States (n s : ℕ) (u : Records) (z : ℕ) (st : List ℕ) : Type 0 where
  pub long : length st ≡ 448
  pub done : (p k : ℕ) → Inst n s p k → slot_of p k < z → State n s u p k (get_or st (slot_of p k) 0)

pub record Stated (n s : ℕ) (u : Records) (st : List ℕ) : Type 0 where
  pub long : length st ≡ 448
  pub each : (p k : ℕ) → Inst n s p k → State n s u p k (get_or st (slot_of p k) 0)

pub record Stating (n s : ℕ) (t h st : List ℕ) : Type 0 where
  pub sized : Sized n s t
  pub charted : Charted n s (records_in s t) h
  pub long : length st ≡ 448

-- what a state goes by
pub record Seen (n s : ℕ) (t h lead : List ℕ) : Type 0 where
  pub sized : Sized n s t
  pub charted : Charted n s (records_in s t) h
  pub prefixes : Prefixes n s (records_in s t) lead

pub record Asking (n s : ℕ) (t h lead : List ℕ) (p k : ℕ) : Type 0 where
  pub seen : Seen n s t h lead
  pub inst : Inst n s p k

pub record RowStating (n s : ℕ) (t h lead st : List ℕ) (o : ℕ) : Type 0 where
  pub seen : Seen n s t h lead
  pub owner : o < n
  pub states : States n s (records_in s t) (64 * o) st

-- o.j can be marked in the table
pub record Marking (n s : ℕ) (t : List ℕ) (o j : ℕ) : Type 0 where
  pub has : Has n s o j t
  pub whole : Whole s t o j

-- the lists agree with the table
pub record Listing (n s : ℕ) (t h st know past : List ℕ) : Type 0 where
  pub long : length t ≡ table_length n s
  pub charted : Charted n s (records_in s t) h
  pub stated : Stated n s (records_in s t) st
  pub going : Going n s h st know past
  pub whole : (o j : ℕ) → Inst n s o j → Whole s t o j
