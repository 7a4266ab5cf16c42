-- 3/12: what a journal of whole entries is, what a replay makes of it, and what a cut at any byte leaves. Assumes nothing.
-- n, s: the setup; c: the copy; t: the table that the journal was begun with; b: its bytes; u: the table after it.
use Rattle.std.specs.Prelude.{ℕ, ◌+◌, ◌≤◌, ◌≡◌, true, List, [], ◌++◌, Result, Ok, Err, length, take, drop}
use Rattle.numbers.specs.Num.{Bytes}
use Rattle.paper.specs.Instance.{instance_ok}
use Rattle.record.specs.Part.{sound_part}
use Rattle.table.specs.Table.{record_in, Judged}
use Rattle.table.specs.Calls.{part_size, put_part}
use Rattle.rules.specs.Step.{is_committed}
use Rattle.order.specs.Calls.{marked_in}
use Rattle.entries.specs.declared.Fault.{Fault}
use Rattle.entries.specs.declared.Front.{Front}
use Rattle.entries.specs.declared.Front.TheVariants as front
use Rattle.entries.specs.declared.Unreplayed.TheVariants as unreplayed
use Rattle.entries.specs.Entry.{record_entry, mark_entry}
use Rattle.entries.specs.Replay.{committed_in, front_of, replayed}

-- whole entries one after another, each fit where it stands
pub data Journal (n s c : ℕ) (t : List ℕ) : List ℕ → List ℕ → Type 0 where
  none : Journal n s c t [] t
  record-then : {b u : List ℕ} → Journal n s c t b u → (o j : ℕ) (part : List ℕ) → instance_ok n s o j ≡ true → length part ≡ part_size → sound_part n s c o part ≡ true
      → Journal n s c t (b ++ record_entry o j part) (put_part s u o j part)
  mark-then : {b u : List ℕ} → Journal n s c t b u → (o j : ℕ) → instance_ok n s o j ≡ true → is_committed (record_in s u o j) ≡ true
      → Journal n s c t (b ++ mark_entry o j) (marked_in s u o j)

-- a whole journal gives the table after it, and has no rest
abbrev pub Replays : Type 0
Replays = (n s c : ℕ) (t b u : List ℕ) → Judged n s c t → Journal n s c t b u → replayed n s c t b ≡ record { answer = Ok (length b); table = u }

-- what the first p bytes of a journal are: whole entries, and less than one more
pub record Cut (n s c : ℕ) (t b u : List ℕ) (p : ℕ) : Type 0 where
  pub kept : List ℕ
  pub lost : List ℕ
  pub table : List ℕ
  pub whole : b ≡ kept ++ lost
  pub before : Journal n s c t kept table
  pub after : Journal n s c table lost u
  pub within : length kept ≤ p
  pub less : front_of n s c (committed_in s table) (drop (length kept) (take p b)) ≡ Ok front.Rest
  -- the replay of what the cut left: the table as it was saved then, and where that many entries end
  pub answer : replayed n s c t (take p b) ≡ record { answer = Ok (length kept); table = table }
  -- cut off there, it is the journal of those entries
  pub off : take (length kept) (take p b) ≡ kept

-- a cut at any byte
abbrev pub AnyCut : Type 0
AnyCut = (n s c : ℕ) (t b u : List ℕ) → Judged n s c t → Journal n s c t b u → (p : ℕ) → p ≤ length b → Cut n s c t b u p

-- a journal with further entries replays to what follows
abbrev pub GoesOn : Type 0
GoesOn = (n s c : ℕ) (t b u more v : List ℕ) → Judged n s c t → Journal n s c t b u → Journal n s c u more v
    → replayed n s c t (b ++ more) ≡ record { answer = Ok (length b + length more); table = v }

-- the first bad entry counts, whatever follows it: its fault, where it begins, and the table as it was
abbrev pub FirstBad : Type 0
FirstBad = (n s c : ℕ) (t b u rest : List ℕ) (f : Fault) → Judged n s c t → Journal n s c t b u → front_of n s c (committed_in s u) rest ≡ Err f
    → replayed n s c t (b ++ rest) ≡ record { answer = Err (unreplayed.Bad (record { why = f; offset = length b })); table = t }

-- of any bytes: what stands before an offset is a journal, and this stands behind it
pub record Upto (n s c : ℕ) (t b u : List ℕ) (at : ℕ) (f : Result Front Fault) : Type 0 where
  pub journal : Journal n s c t (take at b) u
  pub front : front_of n s c (committed_in s u) (drop at b) ≡ f

-- where a replay answers, what it took is a journal that gives its table, and less than an entry is left
abbrev pub Answered : Type 0
Answered = (n s c : ℕ) (t b : List ℕ) (at : ℕ) → Judged n s c t → Bytes b → (replayed n s c t b).answer ≡ Ok at
    → Upto n s c t b (replayed n s c t b).table at (Ok front.Rest)

-- where it refuses an entry, what stands before that entry is a journal: it is the first bad one
abbrev pub Refused : Type 0
Refused = (n s c : ℕ) (t b : List ℕ) (f : Fault) (at : ℕ) → Judged n s c t → Bytes b → (replayed n s c t b).answer ≡ Err (unreplayed.Bad (record { why = f; offset = at }))
    → (u : List ℕ) × Upto n s c t b u at (Err f)
