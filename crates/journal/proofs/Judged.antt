-- The first pass: the statuses of a table place by place, what stands in front of a journal, and the walk over its entries.
-- Assumes nothing.
use Prim.Native.Nat.{ℕ, zero, suc, ◌+◌, ◌*◌, ◌-◌, ◌≤◌, ◌<◌}
use mathlib.Core.Path.{◌≡◌, refl, sym, ap, ◌∙◌}
use mathlib.Core.Bool.{Bool, true, false, cond}
use mathlib.Core.List.{List}
use native.Mathlib.Omega.{arith}
use native.Mathlib.Decide.{ℕ_discrete}
use lib.Dec.{eqb}
use lib.ListN.{length, get_or, set, take, drop, length-set, length-drop}
use lib.Seq.{get_or-set_same, get_or-set_other, take_all, drop-drop}
use Rattle.std.specs.Prelude.{Some, Result, Ok, Err}
use Rattle.paper.specs.Instance.{instance_ok}
use Rattle.table.specs.Sizes.{Names}
use Rattle.table.specs.Table.{record_in}
use Rattle.table.specs.Calls.{record_of}
use Rattle.rows.specs.Rows.{slot_of}
use Rattle.entries.specs.declared.Fault.{Fault}
use Rattle.entries.specs.declared.Front.{Front}
use Rattle.entries.specs.declared.Front.TheVariants as front
use Rattle.entries.specs.declared.BadEntry.{BadEntry}
use Rattle.entries.specs.declared.Kind.{Kind}
use Rattle.entries.specs.Entry.{record_kind, kind_of, kind_length, entry_length, kind_in, owner_in, number_in, part_in}
use Rattle.entries.specs.Replay.{front_of, behind, or_on}
use Rattle.entries.specs.Entry.{Fit}
use Rattle.journal.specs.Judging.{told, noted, end_by, Charted, Tells}
use Rattle.entries.proofs.Lengths.{kind-known, kind-some, length-least}
use Rattle.entries.proofs.Fronts.{front-none, front-fit, or-rests, or-stops}

-- statuses, place by place
pub chart-start : (n s : ℕ) (t st : List ℕ) → length st ≡ 448 → Charted n s t (64 * 0) st
chart-start n s t st l = record { long = l; each = λ p k i e. absurd (omega arith) }

module _ (n s : ℕ) (t st : List ℕ) where
  pub chart-first : (o : ℕ) → Charted n s t (64 * o) st → Charted n s t (64 * o + (1 - 1)) st
  chart-first o c = record { long = c.long; each = λ p k i e. c.each p k i (omega arith) }

  -- what is past an owner's last number is the next owner's
  pub chart-next : (o j : ℕ) → Charted n s t (64 * o + (j - 1)) st → s < j → Charted n s t (64 * (o + 1)) st
  chart-next o j c m = record { long = c.long; each = λ p k i e. c.each p k i (omega (arith, i.first, i.last, i.numbers)) }

  pub chart-more : (o j x v : ℕ) → Names n s o j → x ≡ slot_of o j → Charted n s t (64 * o + (j - 1)) st → v ≡ (record_in s t o j).vote.status
      → Charted n s t (64 * o + (j + 1 - 1)) (set st x v)
  chart-more o j x v io ex c w = record { long = length-set st x v ∙ c.long; each = each }
    where
      each : (p k : ℕ) → Names n s p k → slot_of p k < 64 * o + (j + 1 - 1) → get_or (set st x v) (slot_of p k) 0 ≡ (record_in s t p k).vote.status
      each p k i e = go (ℕ_discrete (slot_of p k) x)
        where
          go : Dec (slot_of p k ≡ x) → get_or (set st x v) (slot_of p k) 0 ≡ (record_in s t p k).vote.status
          go (yes y) =
              let a : p ≡ o = omega (arith, i.first, i.last, i.numbers, io.first, io.last) in
              let b : k ≡ j = omega (arith, i.first, i.last, i.numbers, io.first, io.last) in
              let q : get_or (set st x v) (slot_of p k) 0 ≡ v = rw y (get_or-set_same st x v 0 (omega (arith, c.long, io.copies, io.numbers, io.owner, io.first, io.last))) in
              rw (q, a, b) w
          go (no y) = rw (get_or-set_other st x (slot_of p k) v 0 y) (c.each p k i (omega (arith, io.first)))

  pub chart-all : (o : ℕ) → Charted n s t (64 * o) st → n ≤ o → Tells n s t st
  chart-all o c e = record { long = c.long; each = λ p k i. c.each p k i (omega (arith, i.owner, i.last, i.first, i.numbers)) }

-- what was asked of an entry, of its fields as they were read
module _ (n s : ℕ) (b : List ℕ) {o j : ℕ} (eo : o ≡ owner_in b) (ej : j ≡ number_in b) {r : Bool} (er : r ≡ instance_ok n s o j) where
  pub in-range : r ≡ instance_ok n s (owner_in b) (number_in b)
  in-range = er ∙ rw (eo, ej)

  pub fits_in : n ≤ 7 → s ≤ 64 → {x : Kind} → kind_of (kind_in b) ≡ Some x → kind_length x ≤ length b → r ≡ true → Fit n s b
  fits_in ln ls k whole e =
      record { known = kind-some (kind_in b) k; whole = rw (kind-known (kind_in b) k) whole; copies = ln; numbers = ls; range = sym in-range ∙ e }

-- what is left behind an offset
pub rest-is : (b : List ℕ) (at : ℕ) → take (length b - at) (drop at b) ≡ drop at b
rest-is b at = take_all (length b - at) (drop at b) (simp length-drop (omega arith))

-- an entry that fits there is not empty, and lies within the journal
pub rest-room : (n s : ℕ) (b : List ℕ) (at : ℕ) → at < length b → Fit n s (take (length b - at) (drop at b)) → {x : ℕ}
    → x ≡ entry_length (kind_in (take (length b - at) (drop at b))) → (0 < x) × (at + x ≤ length b)
rest-room n s b at l g ex =
    let z : length (take (length b - at) (drop at b)) ≡ length b - at = ap length (rest-is b at) ∙ length-drop at b in
    (omega (arith, length-least (kind_in (take (length b - at) (drop at b))) g.known), omega (arith, g.whole))

-- an entry leaves as many statuses as there are
noted-long : (st b : List ℕ) → length (noted st b) ≡ length st
noted-long st b = go (eqb (kind_in b) record_kind)
  where
    go : (x : Bool) → length (cond x (set st (slot_of (owner_in b) (number_in b)) (record_of (part_in b)).vote.status) st) ≡ length st
    go true = length-set st (slot_of (owner_in b) (number_in b)) (record_of (part_in b)).vote.status
    go false = refl

-- after the entries before `at`: as many steps are left as the walk can need
pub record Walked (n s c : ℕ) (st₀ b st : List ℕ) (at : ℕ) : Type 0 where
  pub few : at ≤ length b
  pub long : length st ≡ 448
  pub left : ℕ
  pub enough : length b ≤ at + left
  pub so : end_by (length b) n s c st₀ b 0 ≡ end_by left n s c st (drop at b) at

pub walk_start : (n s c : ℕ) (st b : List ℕ) → length st ≡ 448 → Walked n s c st b st 0
walk_start n s c st b l = record { few = omega arith; long = l; left = length b; enough = omega arith; so = refl }

-- one step, where one is left
by-step : (k n s c : ℕ) (st b : List ℕ) (at : ℕ) → 0 < k
    → end_by k n s c st b at ≡ or_on (front_of n s c (told st) b) at (end_by (k - 1) n s c (noted st b) (behind b) (at + entry_length (kind_in b)))
unfolding end_by
by-step zero n s c st b at l = absurd (omega arith)
by-step (suc k) n s c st b at l = let e : suc k - 1 ≡ k = omega arith in rw e

-- nothing left
by-none : (k n s c : ℕ) (st b : List ℕ) (at : ℕ) → length b ≡ 0 → Ok at ≡ end_by k n s c st b at
unfolding end_by
by-none zero n s c st b at e = refl
by-none (suc k) n s c st b at e = rw (← front-none n s c (told st) b e)

-- the walk at an offset: at the end, before what is no whole entry, and before one
module _ (n s c : ℕ) (st₀ b st : List ℕ) (at : ℕ) (w : Walked n s c st₀ b st at) where
  pub walk_end : length b ≤ at → Ok at ≡ end_by (length b) n s c st₀ b 0
  walk_end l = by-none w.left n s c st (drop at b) at (simp length-drop (omega arith)) ∙ sym w.so

  module _ (l : at < length b) where
    one_left : 0 < w.left
    one_left = omega (arith, w.enough)

    -- where the walk ends further on, and here, by what stands here
    abbrev on : Result ℕ BadEntry
    on = end_by (w.left - 1) n s c (noted st (drop at b)) (behind (drop at b)) (at + entry_length (kind_in (drop at b)))

    here : {x : Result Front Fault} → x ≡ front_of n s c (told st) (take (length b - at) (drop at b))
        → or_on x at on ≡ end_by (length b) n s c st₀ b 0
    here {x} e =
        let f : x ≡ front_of n s c (told st) (drop at b) = e ∙ ap (front_of n s c (told st)) (rest-is b at) in
        ap (λ (y : Result Front Fault). or_on y at on) f
        ∙ sym (w.so ∙ by-step w.left n s c st (drop at b) at one_left)

    pub walk-rests : Ok front.Rest ≡ front_of n s c (told st) (take (length b - at) (drop at b)) → Ok at ≡ end_by (length b) n s c st₀ b 0
    walk-rests e = or-rests at on ∙ here e

    pub walk-stops : {f : Fault} → Err f ≡ front_of n s c (told st) (take (length b - at) (drop at b)) → Err (record { why = f; offset = at }) ≡ end_by (length b) n s c st₀ b 0
    walk-stops {f} e = or-stops f at on ∙ here e

    -- the entry in front fits
    pub walk-fit : n ≤ 7 → s ≤ 64 → Ok front.Whole ≡ front_of n s c (told st) (take (length b - at) (drop at b)) → Fit n s (take (length b - at) (drop at b))
    walk-fit ln ls e = (front-fit n s c (told st) (take (length b - at) (drop at b)) ln ls e).0

    pub walk-room : n ≤ 7 → s ≤ 64 → Ok front.Whole ≡ front_of n s c (told st) (take (length b - at) (drop at b)) → {x : ℕ}
        → x ≡ entry_length (kind_in (take (length b - at) (drop at b))) → (0 < x) × (at + x ≤ length b)
    walk-room ln ls e ex = rest-room n s b at l (walk-fit ln ls e) ex

    pub walk-on : n ≤ 7 → s ≤ 64 → Ok front.Whole ≡ front_of n s c (told st) (take (length b - at) (drop at b)) → {st₁ : List ℕ} {x : ℕ}
        → st₁ ≡ noted st (take (length b - at) (drop at b)) → x ≡ entry_length (kind_in (take (length b - at) (drop at b))) → Walked n s c st₀ b st₁ (at + x)
    walk-on ln ls e {st₁} {x} es ex =
        let room = walk-room ln ls e ex in
        let f : Ok front.Whole ≡ front_of n s c (told st) (drop at b) = rw rest-is at e in
        let v : st₁ ≡ noted st (drop at b) = es ∙ ap (noted st) (rest-is b at) in
        let y : x ≡ entry_length (kind_in (drop at b)) = ex ∙ ap (λ (r : List ℕ). entry_length (kind_in r)) (rest-is b at) in
        let d : behind (drop at b) ≡ drop (at + x) b = ap (λ (k : ℕ). drop k (drop at b)) (sym y) ∙ drop-drop x at b in
        record {
          few = room.1;
          long = ap length es ∙ noted-long st (take (length b - at) (drop at b)) ∙ w.long;
          left = w.left - 1;
          enough = omega (arith, w.enough, room.0);
          so = w.so ∙ by-step w.left n s c st (drop at b) at one_left ∙ rw (← f, ← v, d, ← y);
        }
