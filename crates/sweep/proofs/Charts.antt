-- The rows of all instances, closed place by place. Assumes nothing.
use Prim.Native.Nat.{ℕ, ◌+◌, ◌*◌, ◌/◌, ◌%◌, ◌≤◌, ◌<◌}
use mathlib.Core.Path.{◌≡◌}
use mathlib.Core.Logic.{⊎_elim}
use mathlib.Core.List.{List}
use native.Mathlib.Omega.{arith}
use native.Mathlib.Nat.{eq-or-lt_of_le}
use lib.ListN.{length, get_or}
use Rattle.rules.specs.Seen.{Records}
use Rattle.seen.specs.Records.{records_in}
use Rattle.reach.specs.High.{Inst}
use Rattle.reach.proofs.Beginnings.{named-highs, named-closed}
use Rattle.rows.specs.Rows.{slot_of, marks_at}
use Rattle.sweep.specs.Sweeping.{Sized, Row, Charted, Charting, marks_of, Sweeping, Found, Closed, Wrote, Closing}

-- nothing is marked yet
pub rows-blank : (n s : ℕ) (t g h : List ℕ) → Charting n s t g h → Sweeping n s t g h
rows-blank n s t g h c = record {
  sized = c.sized;
  rows = record {
    long = c.rows;
    few = λ q i iq o l. rw (c.blank (slot_of q i) o) (omega arith);
    from = λ q i iq o x io l. absurd (omega (arith, c.blank (slot_of q i) o, io.first));
  };
  long = c.long;
}

-- the places below z are closed
pub record Charts (n s : ℕ) (u : Records) (g : List ℕ) (z : ℕ) (h : List ℕ) : Type 0 where
  pub within : z ≤ 64 * n
  pub long : length h ≡ 6272
  pub done : (p k : ℕ) → Inst n s p k → slot_of p k < z → Closed n s u g p k (marks_at h (slot_of p k))

pub charts-start : (n s : ℕ) (u : Records) (g h : List ℕ) → length h ≡ 6272 → Charts n s u g 0 h
charts-start n s u g h l = record { within = omega arith; long = l; done = λ p k i e. absurd (omega arith) }

module _ (n s : ℕ) (t g h : List ℕ) (z : ℕ) (d : Sized n s t) (c : Charts n s (records_in s t) g z h) (lz : z < 64 * n) where
  -- a place is an instance's own
  own : (p k : ℕ) → Inst n s p k → slot_of p k ≡ z → (p ≡ z / 64) × (k ≡ z % 64 + 1)
  own p k i e = (omega (arith, i.first, i.last, d.numbers), omega (arith, i.first, i.last, d.numbers))

  -- no instance stands there
  pub charts-skip : s < z % 64 + 1 → Charts n s (records_in s t) g (z + 1) h
  charts-skip l = record {
    within = omega arith;
    long = c.long;
    done = λ p k i e.
        ⊎_elim (λ (y : slot_of p k ≡ z). absurd (omega (arith, (own p k i y).1, i.last))) (λ (y : slot_of p k < z). c.done p k i y)
        (eq-or-lt_of_le {n = slot_of p k} {m = z} (omega arith));
  }

  pub charts-ask : Found n s (records_in s t) g → z % 64 + 1 ≤ s → Closing n s t g h (z / 64) (z % 64 + 1)
  charts-ask f j = record { sized = d; found = f; long = c.long; inst = record { owner = omega arith; first = omega arith; last = j } }

  pub charts-more : (h₁ : List ℕ) → Closed n s (records_in s t) g (z / 64) (z % 64 + 1) (marks_at h₁ (slot_of (z / 64) (z % 64 + 1))) → Wrote h h₁ (slot_of (z / 64) (z % 64 + 1)) → Charts n s (records_in s t) g (z + 1) h₁
  charts-more h₁ v w = record { within = omega arith; long = w.long; done = done }
    where
      done : (p k : ℕ) → Inst n s p k → slot_of p k < z + 1 → Closed n s (records_in s t) g p k (marks_at h₁ (slot_of p k))
      done p k i l =
          ⊎_elim (λ (y : slot_of p k ≡ z). let e = own p k i y in rw (e.0, e.1) v)
          (λ (y : slot_of p k < z). rw (w.others (slot_of p k) (omega (arith, d.copies)) (λ a. absurd (omega arith))) (c.done p k i y))
          (eq-or-lt_of_le {n = slot_of p k} {m = z} (omega arith))

pub charts-all : (n s : ℕ) (u : Records) (g h : List ℕ) (z : ℕ) → s ≤ 64 → Found n s u g → Charts n s u g z h → 64 * n ≤ z → Charted n s u h
charts-all n s u g h z l f c e = record { long = c.long; each = each }
  where
    at : (p k : ℕ) → Inst n s p k → Closed n s u g p k (marks_at h (slot_of p k))
    at p k i = c.done p k i (omega (arith, i.owner, i.last, i.first))

    each : (p k : ℕ) → Inst n s p k → Row n s u h p k
    each p k i =
        let v = at p k i in
        let r : ℕ → ℕ = λ o. get_or (marks_at h (slot_of p k)) o 0 in
        record {
          few = v.opened.few;
          highs = named-highs n s u p k i (marks_of g) r v.opened.few v.opened.comers v.opened.own f.holds v.named;
          closed = λ q x iq lx o lo.
              let w = at q x iq in
              named-closed n s u p k i (marks_of g) r v.opened.few v.opened.comers v.opened.own f.holds v.named q x iq lx (λ o. get_or (marks_at h (slot_of q x)) o 0) w.opened.comers w.opened.few o lo;
        }
