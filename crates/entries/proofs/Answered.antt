-- Of any bytes: what a replay takes is a journal, and what it stops at stands behind it. Assumes nothing.
use Prim.Native.Nat.{ℕ, zero, suc, ◌+◌, ◌≤◌}
use mathlib.Core.Path.{◌≡◌, refl, sym, ap, ap₂, ◌∙◌, subst}
use mathlib.Core.Bool.{Bool, true, false, cond}
use mathlib.Core.List.{List, [], ◌∷◌, ◌++◌, append_assoc}
use native.Mathlib.Omega.{arith}
use lib.Dec.{eqb}
use lib.ListN.{length, take, drop, length-append, length-drop, take-append-drop}
use lib.Seq.{take-add, take-append_seam, drop-append_seam, get_or-drop}
use borrow.Author.Tests.{eqb-true}
use Rattle.std.specs.Prelude.{Result, Ok, Err}
use Rattle.numbers.specs.Num.{Bytes}
use Rattle.numbers.proofs.Fields.{fields_bytes-fields_at}
use Rattle.record.specs.Part.{sound_part}
use Rattle.table.specs.Table.{Judged}
use Rattle.table.specs.Calls.{part_size, put_part}
use Rattle.table.proofs.Laws.{sizes}
use Rattle.order.specs.Calls.{marked_in}
use Rattle.entries.specs.declared.Fault.{Fault}
use Rattle.entries.specs.declared.Front.{Front}
use Rattle.entries.specs.declared.Front.TheVariants as front
use Rattle.entries.specs.declared.BadEntry.{BadEntry}
use Rattle.entries.specs.declared.Unreplayed.{Unreplayed}
use Rattle.entries.specs.declared.Unreplayed.TheVariants as unreplayed
use Rattle.entries.specs.Entry.{record_kind, mark_kind, head_widths, entry_head, entry_length, kind_in, owner_in, number_in, part_in, head_bytes, record_entry, mark_entry}
use Rattle.entries.specs.Replay.{committed_in, entry_ok, front_of, applied, behind, or_on, end_of, puts, Replayed, replayed_at, replayed, replaying_offset}
use Rattle.entries.specs.Entry.{Fit}
use Rattle.entries.specs.Journal.{Journal, none, record-then, mark-then, Upto, Answered, Refused}
use Rattle.entries.proofs.Lengths.{length-least, part-size, fit-head}
use Rattle.entries.proofs.Fronts.{front-fit}
use Rattle.entries.proofs.Framed.{none_rest}
use Rattle.entries.proofs.Journal.{joined, replayed-is, all-puts}

-- a known kind is one of two
other-kind : (k : ℕ) → (entry_length k ≡ 0 → ⊥) → eqb k record_kind ≡ false → k ≡ mark_kind
other-kind k known e = go (eqb k mark_kind) refl
  where
    go : (x : Bool) → eqb k mark_kind ≡ x → k ≡ mark_kind
    go true f = eqb-true k mark_kind f
    go false f = absurd (known (rw (e, f)))

module _ (n s : ℕ) (b : List ℕ) (byte : Bytes b) (fit : Fit n s b) where
  -- its head is written as it was read
  head-back : head_bytes (kind_in b) (owner_in b) (number_in b) ≡ take entry_head b
  head-back = fields_bytes-fields_at head_widths b 0 byte (fit-head n s b fit)

  mark-back : eqb (kind_in b) record_kind ≡ false → b ≡ mark_entry (owner_in b) (number_in b) ++ behind b
  mark-back e =
      let k = other-kind (kind_in b) fit.known e in
      sym (take-append-drop entry_head b)
      ∙ ap₂ (λ (h l : List ℕ). h ++ l) (sym head-back ∙ ap (λ (x : ℕ). head_bytes x (owner_in b) (number_in b)) k) (sym (ap (λ (x : ℕ). drop (entry_length x) b) k))

  record-back : eqb (kind_in b) record_kind ≡ true → b ≡ record_entry (owner_in b) (number_in b) (part_in b) ++ behind b
  record-back e =
      let k = eqb-true (kind_in b) record_kind e in
      sym (take-append-drop (entry_head + part_size) b)
      ∙ ap₂ (λ (h l : List ℕ). h ++ l) (take-add entry_head part_size b ∙ ap (λ (l : List ℕ). l ++ part_in b) (sym head-back ∙ ap (λ (x : ℕ). head_bytes x (owner_in b) (number_in b)) k))
      (sym (ap (λ (x : ℕ). drop (entry_length x) b) k))

-- the bytes behind the first ones
drop-bytes : (k : ℕ) (b : List ℕ) → Bytes b → Bytes (drop k b)
drop-bytes k b h i = rw (get_or-drop k b i 0) (h (k + i))

-- where a walk stands still, and what stands there
abbrev stop : Result ℕ BadEntry → ℕ
stop (Ok at) = at
stop (Err x) = x.offset

abbrev there : Result ℕ BadEntry → Result Front Fault
there (Ok at) = Ok front.Rest
there (Err x) = Err x.why

-- how far a walk comes: whole entries, and what it stands still at
record Came (n s c : ℕ) (t b : List ℕ) (at : ℕ) (e : Result ℕ BadEntry) : Type 0 where
  kept : List ℕ
  lost : List ℕ
  table : List ℕ
  whole : b ≡ kept ++ lost
  journal : Journal n s c t kept table
  end : stop e ≡ at + length kept
  front : front_of n s c (committed_in s table) lost ≡ there e

module _ (n s c : ℕ) (few : n ≤ 7) (low : s ≤ 64) where
  -- at once
  stays : (t b : List ℕ) (at : ℕ) (e : Result ℕ BadEntry) → stop e ≡ at → front_of n s c (committed_in s t) b ≡ there e → Came n s c t b at e
  stays t b at e i f = record { kept = []; lost = b; table = t; whole = refl; journal = none; end = omega arith; front = f }

  -- over one entry
  over : (t b : List ℕ) (at : ℕ) (entry u : List ℕ) (e : Result ℕ BadEntry) → b ≡ entry ++ behind b → entry_length (kind_in b) ≡ length entry → Journal n s c t entry u
      → Came n s c u (behind b) (at + entry_length (kind_in b)) e → Came n s c t b at e
  over t b at entry u e split size one z =
      record {
        kept = entry ++ z.kept;
        lost = z.lost;
        table = z.table;
        whole = split ∙ ap (λ (l : List ℕ). entry ++ l) z.whole ∙ sym (append_assoc entry z.kept z.lost);
        journal = joined one z.journal;
        end = z.end ∙ rw (length-append entry z.kept) (omega arith);
        front = z.front;
      }

  -- the entry in front is whole
  module _ (t b : List ℕ) (byte : Bytes b) (w : front_of n s c (committed_in s t) b ≡ (Ok front.Whole)) where
    abbrev seen : Fit n s b × (entry_ok n s c (committed_in s t) b ≡ true)
    seen = front-fit n s c (committed_in s t) b few low (sym w)

    on : (at : ℕ) (e : Result ℕ BadEntry) → Came n s c (applied s t b) (behind b) (at + entry_length (kind_in b)) e → Came n s c t b at e
    unfolding applied
    on at e z = go (eqb (kind_in b) record_kind) refl
      where
        go : (x : Bool) → eqb (kind_in b) record_kind ≡ x → Came n s c t b at e
        go true f =
            let split = record-back n s b byte seen.0 f in
            let k = eqb-true (kind_in b) record_kind f in
            let p = part-size n s b seen.0 f in
            let sound : sound_part n s c (owner_in b) (part_in b) ≡ true =
            sym (ap (λ (x : Bool). cond x (sound_part n s c (owner_in b) (part_in b)) (committed_in s t (owner_in b) (number_in b))) f) ∙ seen.1 in
            let a : applied s t b ≡ put_part s t (owner_in b) (number_in b) (part_in b) =
            ap (λ (x : Bool). cond x (put_part s t (owner_in b) (number_in b) (part_in b)) (marked_in s t (owner_in b) (number_in b))) f in
            over t b at (record_entry (owner_in b) (number_in b) (part_in b)) (put_part s t (owner_in b) (number_in b) (part_in b)) e split
            (ap entry_length k ∙ sym (simp length-append (omega arith))) (record-then none (owner_in b) (number_in b) (part_in b) seen.0.range p sound)
            (subst (λ (u : List ℕ). Came n s c u (behind b) (at + entry_length (kind_in b)) e) a z)
        go false f =
            let split = mark-back n s b byte seen.0 f in
            let k = other-kind (kind_in b) seen.0.known f in
            let done : committed_in s t (owner_in b) (number_in b) ≡ true =
            sym (ap (λ (x : Bool). cond x (sound_part n s c (owner_in b) (part_in b)) (committed_in s t (owner_in b) (number_in b))) f) ∙ seen.1 in
            let a : applied s t b ≡ marked_in s t (owner_in b) (number_in b) =
            ap (λ (x : Bool). cond x (put_part s t (owner_in b) (number_in b) (part_in b)) (marked_in s t (owner_in b) (number_in b))) f in
            over t b at (mark_entry (owner_in b) (number_in b)) (marked_in s t (owner_in b) (number_in b)) e split (ap entry_length k)
            (mark-then none (owner_in b) (number_in b) seen.0.range done)
            (subst (λ (u : List ℕ). Came n s c u (behind b) (at + entry_length (kind_in b)) e) a z)

  came : (k : ℕ) (t b : List ℕ) (at : ℕ) → length b ≤ k → Bytes b → Came n s c t b at (end_of k n s c t b at)
  unfolding end_of
  came zero t b at le byte = stays t b at (Ok at) refl (nothing b (omega arith))
    where
      nothing : (l : List ℕ) → length l ≤ 0 → front_of n s c (committed_in s t) l ≡ Ok front.Rest
      nothing [] z = none_rest n s c (committed_in s t)
      nothing (x ∷ l) z = absurd (omega arith)
  came (suc k) t b at le byte = go (front_of n s c (committed_in s t) b) refl (λ z. came k (applied s t b) (behind b) (at + entry_length (kind_in b)) z (drop-bytes (entry_length (kind_in b)) b byte))
    where
      go : (f : Result Front Fault) → front_of n s c (committed_in s t) b ≡ f
          → (length (behind b) ≤ k → Came n s c (applied s t b) (behind b) (at + entry_length (kind_in b)) (end_of k n s c (applied s t b) (behind b) (at + entry_length (kind_in b))))
          → Came n s c t b at (or_on f at (end_of k n s c (applied s t b) (behind b) (at + entry_length (kind_in b))))
      go (Ok front.Rest) e more = stays t b at (Ok at) refl e
      go (Err x) e more = stays t b at (Err (record { why = x; offset = at })) refl e
      go (Ok front.Whole) e more =
          let fit = (front-fit n s c (committed_in s t) b few low (sym e)).0 in
          let y = length-drop (entry_length (kind_in b)) b in
          let z = length-least (kind_in b) fit.known in
          let h = fit.whole in
          on t b byte e at (end_of k n s c (applied s t b) (behind b) (at + entry_length (kind_in b))) (more (rw y (omega arith)))

apart : (x : BadEntry) (k : ℕ) → ◌≡◌ {A = Result ℕ Unreplayed} (Err (unreplayed.Bad x)) (Ok k) → ⊥
apart x k e = let z : ◌≡◌ {A = ℕ} 1 0 = cc in absurd (omega arith)

same_bad : {x y : BadEntry} → ◌≡◌ {A = Result ℕ Unreplayed} (Err (unreplayed.Bad x)) (Err (unreplayed.Bad y)) → x ≡ y
same_bad e = cc

from_zero : (k : ℕ) → 0 + k ≡ k
from_zero k = omega arith

module _ (n s c : ℕ) (t b : List ℕ) (h : Judged n s c t) (byte : Bytes b) where
  abbrev e : Result ℕ BadEntry
  e = end_of (length b) n s c t b 0

  abbrev few : n ≤ 7
  few = (sizes n s c t h.setup).copies

  abbrev low : s ≤ 64
  low = (sizes n s c t h.setup).numbers

  abbrev z : Came n s c t b 0 (end_of (length b) n s c t b 0)
  z = came n s c few low (length b) t b 0 (omega arith) byte

  -- cut off where the walk ended
  front-part : take (stop e) b ≡ z.kept
  front-part = ap₂ (λ (i : ℕ) (l : List ℕ). take i l) (z.end ∙ from_zero (length z.kept)) z.whole ∙ take-append_seam z.kept z.lost

  back-part : drop (stop e) b ≡ z.lost
  back-part = ap₂ (λ (i : ℕ) (l : List ℕ). drop i l) (z.end ∙ from_zero (length z.kept)) z.whole ∙ drop-append_seam z.kept z.lost

  upto : (x : Result ℕ BadEntry) → e ≡ x → Upto n s c t b z.table (stop x) (there x)
  upto x is =
      subst (λ (y : Result ℕ BadEntry). Upto n s c t b z.table (stop y) (there y)) is
      (record {
        journal = subst (λ (l : List ℕ). Journal n s c t l z.table) (sym front-part) z.journal;
        front = ap (front_of n s c (committed_in s z.table)) back-part ∙ z.front;
      })

  table_is : (at : ℕ) → e ≡ Ok at → puts (length b) s t (take at b) ≡ z.table
  table_is at is =
      let y = ap length z.whole ∙ length-append z.kept z.lost in
      ap (λ (x : Result ℕ BadEntry). puts (length b) s t (take (stop x) b)) (sym is) ∙ ap (puts (length b) s t) front-part ∙ all-puts n s c few low z.journal (length b) (omega arith)

  answer-is : (x : Result ℕ BadEntry) → e ≡ x → (replayed n s c t b).answer ≡ (replayed_at x s t b).answer
  answer-is x is = ap (λ (r : Replayed). r.answer) (replayed-is n s c t b h x is)

  took : (at : ℕ) → (replayed n s c t b).answer ≡ Ok at → Upto n s c t b (replayed n s c t b).table at (Ok front.Rest)
  took at a = go e refl
    where
      go : (x : Result ℕ BadEntry) → e ≡ x → Upto n s c t b (replayed n s c t b).table at (Ok front.Rest)
      go (Err x) is = absurd (apart x at (sym (answer-is (Err x) is) ∙ a))
      go (Ok k) is =
          let i : k ≡ at = ap replaying_offset (sym (answer-is (Ok k) is) ∙ a) in
          let u : z.table ≡ (replayed n s c t b).table = sym (table_is k is) ∙ sym (ap (λ (r : Replayed). r.table) (replayed-is n s c t b h (Ok k) is)) in
          rw (← u, ← i) (upto (Ok k) is)

  stood : (x : BadEntry) → (replayed n s c t b).answer ≡ Err (unreplayed.Bad x) → Upto n s c t b z.table x.offset (Err x.why)
  stood x a = go e refl
    where
      go : (y : Result ℕ BadEntry) → e ≡ y → Upto n s c t b z.table x.offset (Err x.why)
      go (Ok k) is = absurd (apart x k (sym a ∙ answer-is (Ok k) is))
      go (Err y) is =
          subst (λ (w : BadEntry). Upto n s c t b z.table w.offset (Err w.why)) (same_bad (sym (answer-is (Err y) is) ∙ a)) (upto (Err y) is)

pub answered : Answered
answered n s c t b at h byte a = took n s c t b h byte at a

pub refused : Refused
refused n s c t b f at h byte a = (_, stood n s c t b h byte (record { why = f; offset = at }) a)
