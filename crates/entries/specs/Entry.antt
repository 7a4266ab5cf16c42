-- 3/12: an entry in its bytes, as docs/LAYOUT.md has it. Assumes nothing.
use Rattle.std.specs.Prelude.{ℕ, ◌+◌, ◌≤◌, ◌≡◌, true, cond, List, [], ◌∷◌, ◌++◌, Option, Some, None, eqb, length, take, drop}
use Rattle.numbers.specs.Num.{num_at}
use Rattle.numbers.specs.Fields.{size_of, fields_bytes}
use Rattle.paper.specs.Instance.{instance_ok}
use Rattle.table.specs.Calls.{part_size}
use Rattle.entries.specs.declared.Kind.{Kind}
use Rattle.entries.specs.declared.Kind.TheVariants as kind

-- an instance and its record
abbrev pub record_kind : ℕ
record_kind = 20

-- an instance that was newly marked as handed out
abbrev pub mark_kind : ℕ
mark_kind = 21

abbrev pub kind_number : Kind → ℕ
kind_number kind.Record = record_kind
kind_number kind.Mark = mark_kind

-- the kind of a number, if there is one
abbrev pub kind_of : ℕ → Option Kind
kind_of k = cond (eqb k record_kind) (Some kind.Record) (cond (eqb k mark_kind) (Some kind.Mark) None)

-- kind u8, owner u8, number u16
abbrev pub head_widths : List ℕ
head_widths = 1 ∷ 1 ∷ 2 ∷ []

abbrev pub entry_head : ℕ
entry_head = size_of head_widths

-- the kind alone says how long an entry is; 0 where there is no such kind
abbrev pub kind_length : Kind → ℕ
kind_length kind.Record = entry_head + part_size
kind_length kind.Mark = entry_head

abbrev pub length_of : Option Kind → ℕ
length_of (Some k) = kind_length k
length_of None = 0

abbrev pub entry_length : ℕ → ℕ
entry_length k = length_of (kind_of k)

-- as read
abbrev pub kind_in : List ℕ → ℕ
kind_in b = num_at 1 b 0

abbrev pub owner_in : List ℕ → ℕ
owner_in b = num_at 1 b 1

abbrev pub number_in : List ℕ → ℕ
number_in b = num_at 2 b 2

abbrev pub part_in : List ℕ → List ℕ
part_in b = take part_size (drop entry_head b)

-- as written
abbrev pub head_bytes : ℕ → ℕ → ℕ → List ℕ
head_bytes k o j = fields_bytes head_widths (k ∷ o ∷ j ∷ [])

abbrev pub record_entry : ℕ → ℕ → List ℕ → List ℕ
record_entry o j part = head_bytes record_kind o j ++ part

abbrev pub mark_entry : ℕ → ℕ → List ℕ
mark_entry o j = head_bytes mark_kind o j

-- a whole entry of a known kind, with its instance in range
pub record Fit (n s : ℕ) (b : List ℕ) : Type 0 where
  pub known : entry_length (kind_in b) ≡ 0 → ⊥
  pub whole : entry_length (kind_in b) ≤ length b
  pub copies : n ≤ 7
  pub numbers : s ≤ 64
  pub range : instance_ok n s (owner_in b) (number_in b) ≡ true
