-- What a hand-out starts from, and its outcomes, one law each. Assumes nothing.
use Rattle.std.specs.Prelude.{Result, Ok, Err}
use Prim.Native.Nat.{ℕ, ◌≤◌}
use mathlib.Core.Path.{◌≡◌, refl, ap, ◌∙◌}
use mathlib.Core.List.{List}
use native.Mathlib.Omega.{arith}
use lib.ListN.{length, get_or, replicate, length-replicate}
use Rattle.numbers.specs.Num.{splice}
use Rattle.codec.specs.Parts.{deps_at}
use Rattle.paper.specs.declared.Refusal.{Refusal}
use Rattle.numbers.specs.Num.{Bytes}
use Rattle.table.specs.Table.{Whole}
use Rattle.table.specs.Calls.{judged}
use Rattle.table.proofs.Laws.{sizes}
use Rattle.table.proofs.Round.{record-whole}
use Rattle.seen.specs.Records.{records_in}
use Rattle.reach.specs.High.{Inst}
use Rattle.rows.specs.Rows.{marks_at, mark_at}
use Rattle.sweep.specs.Sweeping.{Sized, Charting, Charted}
use Rattle.next.specs.Slots.{Past, Known}
use Rattle.table.specs.Table.{Judged}
use Rattle.order.specs.States.{Stating, Stated, Listing}
use Rattle.order.specs.Calls.{handed_table, handed_codes, handed_open, handed}
use Rattle.order.proofs.Judged.{passed-names, passed-fit}
use Rattle.order.proofs.Asked.{no-mark}

-- lists of zeros: no marks, nothing known, nothing past
no-marks : (k x i : ℕ) → mark_at (replicate k 0) x i ≡ 0
unfolding deps_at
no-marks k x i = ap (λ (r : List ℕ). get_or r i 0) row ∙ no-mark 7 i
  where
    row : marks_at (replicate k 0) x ≡ replicate 7 0
    row = simp no-mark

no-past : (n s k : ℕ) (st : List ℕ) → n ≤ 7 → s ≤ 64 → length st ≡ 448 → k ≡ 8 → Past n s st (replicate k 0)
no-past n s k st ln ls lt e = record {
  copies = ln;
  numbers = ls;
  states = lt;
  long = length-replicate k 0 ∙ e;
  rows = λ q l. rw (no-mark k q) (record { few = omega arith; each = λ i a b. absurd (omega arith) });
  low = rw (no-mark k 7) (record { few = omega arith; each = λ j a b. absurd (omega arith) });
}

none-known : (n s k : ℕ) (h st : List ℕ) (p j x : ℕ) → Known n s h st p j (get_or (replicate k 0) x 0)
none-known n s k h st p j x = rw (no-mark k x) (record { ready = λ e. absurd (omega arith); held = λ l. absurd (omega arith); below = λ o i a l. absurd (omega arith) })

module _ (n s c : ℕ) (t : List ℕ) (g : Judged n s c t) where
  sized : Sized n s t
  sized =
      let z = sizes n s c t g.setup in
      record { copies = z.copies; numbers = z.numbers; long = z.long; fit = passed-fit n s c t g }

  pub charting : (k m : ℕ) → k ≡ 6272 → m ≡ 6272 → Charting n s t (replicate k 0) (replicate m 0)
  charting k m e f = record { sized = sized; rows = length-replicate k 0 ∙ e; long = length-replicate m 0 ∙ f; blank = no-marks k }

  pub stating : (k : ℕ) → k ≡ 448 → (h : List ℕ) → Charted n s (records_in s t) h → Stating n s t h (replicate k 0)
  stating k e h a = record { sized = sized; charted = a; long = length-replicate k 0 ∙ e }

  whole : Bytes t → (o j : ℕ) → Inst n s o j → Whole s t o j
  whole byte o j i = record-whole n s c t (record { bytes = byte; setup = g.setup; sound = g.sound }) o j (passed-names n s c t g o j i)

  pub listing : Bytes t → (k m : ℕ) → k ≡ 448 → m ≡ 8 → (h st : List ℕ) → Charted n s (records_in s t) h
      → Stated n s (records_in s t) st
      → Listing n s t h st (replicate k 0) (replicate m 0)
  listing byte k m e f h st a d = record {
    long = sized.long;
    charted = a;
    stated = d;
    going = record {
      lists = record {
        copies = sized.copies;
        numbers = sized.numbers;
        marks = a.long;
        states = d.long;
        few = λ p j i. (a.each p j i).few;
        closed = λ p j i. (a.each p j i).closed;
      };
      long = length-replicate k 0 ∙ e;
      known = λ p j i. none-known n s k h st p j _;
      passed = no-past n s m st sized.copies sized.numbers d.long f;
    };
    whole = whole byte;
  }

-- the answer, the table and the list
pub handed-gives : (n s : ℕ) (t list : List ℕ) {x : ℕ} {t₁ l₁ : List ℕ}
    → (x ≡ length (handed_codes (length list) n s t)) × ((t₁ ≡ handed_table (length list) n s t) × (l₁ ≡ splice list 0 (handed_codes (length list) n s t)))
    → (Ok x ≡ (handed_open n s t list).answer) × ((t₁ ≡ (handed_open n s t list).table) × (l₁ ≡ (handed_open n s t list).list))
unfolding handed_open
handed-gives n s t list (e, f) = (ap Ok e, f)

module _ (n s c : ℕ) (t list : List ℕ) where
  pub handed-refused : (r : Refusal) → Err r ≡ judged n s c t
      → (Err r ≡ (handed n s c t list).answer) × ((t ≡ (handed n s c t list).table) × (list ≡ (handed n s c t list).list))
  unfolding handed
  handed-refused r e = rw (← e) (refl, (refl, refl))

  pub handed-past : Ok tt ≡ judged n s c t → {x : Result ℕ Refusal} {t₁ l₁ : List ℕ}
      → (x ≡ (handed_open n s t list).answer) × ((t₁ ≡ (handed_open n s t list).table) × (l₁ ≡ (handed_open n s t list).list))
      → (x ≡ (handed n s c t list).answer) × ((t₁ ≡ (handed n s c t list).table) × (l₁ ≡ (handed n s c t list).list))
  unfolding handed
  handed-past e p = rw (← e) p
