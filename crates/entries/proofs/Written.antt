-- The calls that write an entry, one law for each outcome. Assumes nothing.
use Prim.Native.Nat.{ℕ, ◌+◌, ◌≤◌, ◌<◌}
use mathlib.Core.Path.{◌≡◌, refl, ap, ◌∙◌}
use mathlib.Core.Bool.{Bool, true, false, ◌&&◌}
use mathlib.Core.List.{List}
use native.Mathlib.Omega.{arith}
use lib.Dec.{ltb}
use lib.ListN.{length}
use borrow.Author.Tests.{ltb-false}
use Rattle.std.specs.Prelude.{Result, Ok, Err}
use Rattle.numbers.specs.Num.{splice}
use Rattle.numbers.proofs.Laws.{splice-step, length-splice}
use Rattle.paper.specs.Instance.{instance_ok}
use Rattle.paper.specs.declared.Refusal.{Refusal}
use Rattle.paper.specs.declared.Refusal.TheVariants as why
use Rattle.record.specs.Part.{sound_part}
use Rattle.table.specs.Sizes.{Has}
use Rattle.table.specs.Table.{fits_setup, record_in}
use Rattle.table.specs.Calls.{part_of, part_size}
use Rattle.table.proofs.Laws.{sizes, names}
use Rattle.table.proofs.Saved.{part-size}
use Rattle.rules.specs.Step.{is_committed}
use Rattle.rules.specs.Order.{is_marked}
use Rattle.entries.specs.declared.Unwritten.{Unwritten}
use Rattle.entries.specs.declared.Unwritten.TheVariants as unwritten
use Rattle.entries.specs.Entry.{record_kind, entry_head, entry_length, head_bytes, mark_entry}
use Rattle.entries.specs.Writing.{gate_of, Entered, Enters, through, record_open, mark_open}

-- a gate is not both
clash : {A : Type 0} {u : Unit {0}} (r : Refusal) → Ok u ≡ Err r → A
clash r e = let z : ◌≡◌ {A = ℕ} 0 1 = cc in absurd (omega arith)

-- what an open gate has asked
pub enters : (n s c : ℕ) (t out : List ℕ) (k o j : ℕ) → Ok tt ≡ gate_of n s c t (length out) (entry_length k) o j → Enters n s c t out k o j
unfolding gate_of
enters n s c t out k o j e = go (fits_setup n s c t) (ltb (length out) (entry_length k)) (instance_ok n s o j) refl refl refl
  where
    go : (x y z : Bool) → fits_setup n s c t ≡ x → ltb (length out) (entry_length k) ≡ y → instance_ok n s o j ≡ z → Enters n s c t out k o j
    go true false true p q r = record { setup = p; room = ltb-false (length out) (entry_length k) q; range = r }
    go false y z p q r = clash why.Setup (e ∙ rw p)
    go true true z p q r = clash why.Room (e ∙ rw (p, q))
    go true false false p q r = clash why.Instance (e ∙ rw (p, q, r))

-- the answer and the room of what a call writes
abbrev pub Met : Entered → Result ℕ Unwritten → List ℕ → Type 0
Met e a l = record { answers : a ≡ e.answer; out : l ≡ e.out }

-- a shut gate leaves the room as it was; an open one hands on
pub shut : (g : Result (Unit {0}) Refusal) (out : List ℕ) (rest : Entered) (r : Refusal) → Err r ≡ g → Met (through g out rest) (Err (unwritten.Refused r)) out
shut g out rest r e = rw (← e) (record { answers = refl; out = refl })

pub opened : (g : Result (Unit {0}) Refusal) (out : List ℕ) (rest : Entered) → Ok tt ≡ g → {x : Result ℕ Unwritten} {l : List ℕ} → Met rest x l → Met (through g out rest) x l
opened g out rest e p = rw (← e) p

-- past the gate
module _ (n s c : ℕ) (t out : List ℕ) (k o j : ℕ) (e : Enters n s c t out k o j) where
  -- its instance stands in the table
  pub enters-has : Has n s o j t
  enters-has = record { names = names n s c t o j e.setup e.range; long = (sizes n s c t e.setup).long }

  -- and fits the fields of a head
  pub enters-small : (o < 256) × (j < 65536)
  enters-small = let a = enters-has.names in (omega (arith, a.owner, a.copies), omega (arith, a.last, a.numbers))

-- a record that is not sound, and one that is
module _ (n s c : ℕ) (t out : List ℕ) (o j : ℕ) where
  pub record-unsound : {part : List ℕ} → part ≡ part_of n s c t o j → sound_part n s c o part ≡ false
      → Met (record_open n s c t out o j) (Err unwritten.Unsound) out
  unfolding record_open
  record-unsound p h = rw (← p, h) (record { answers = refl; out = refl })

  -- the part that is read there has the length of a record's
  pub record-size : Enters n s c t out record_kind o j → {part : List ℕ} → part ≡ part_of n s c t o j → length part ≡ part_size
  record-size e p = ap length p ∙ part-size n s c t o j e.setup e.range

  -- behind the head there is room for the part
  pub record-room : Enters n s c t out record_kind o j → {part l : List ℕ} → part ≡ part_of n s c t o j → l ≡ splice out 0 (head_bytes record_kind o j)
      → entry_head + length part ≤ length l
  record-room e {part = part} {l = l} p w =
      let same : length l ≡ length out = ap length w ∙ length-splice out 0 (head_bytes record_kind o j) (omega (arith, e.room)) in
      omega (arith, e.room, record-size e p)

  pub record-put : Enters n s c t out record_kind o j → {part l₁ l₂ : List ℕ} → part ≡ part_of n s c t o j → sound_part n s c o part ≡ true
      → l₁ ≡ splice out 0 (head_bytes record_kind o j) → l₂ ≡ splice l₁ entry_head part
      → Met (record_open n s c t out o j) (Ok (entry_head + part_size)) l₂
  unfolding record_open
  record-put e {part = part} p h v w =
      let size = record-size e p in
      rw (← p, h)
      (record {
        answers = ap (λ (k : ℕ). Ok k) (omega (arith, size));
        out = splice-step out 0 (head_bytes record_kind o j) entry_head part v w refl (omega (arith, size, e.room));
      })

-- a mark on an instance that is not committed and marked, and on one that is
module _ (s : ℕ) (t out : List ℕ) (o j : ℕ) where
  pub mark-unsound : (is_committed (record_in s t o j) && is_marked (record_in s t o j)) ≡ false
      → Met (mark_open s t out o j) (Err unwritten.Unsound) out
  unfolding mark_open
  mark-unsound h = rw h (record { answers = refl; out = refl })

  pub mark-put : (is_committed (record_in s t o j) && is_marked (record_in s t o j)) ≡ true → {l : List ℕ} → l ≡ splice out 0 (mark_entry o j)
      → Met (mark_open s t out o j) (Ok entry_head) l
  unfolding mark_open
  mark-put h v = rw h (record { answers = refl; out = v })
