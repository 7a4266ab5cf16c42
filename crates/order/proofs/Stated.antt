-- The state of every instance, as it is worked out place by place. Assumes nothing.
use Prim.Native.Nat.{ℕ, ◌+◌, ◌*◌, ◌-◌, ◌≤◌, ◌<◌}
use mathlib.Core.Path.{◌≡◌, refl, sym, ap, ◌∙◌}
use mathlib.Core.Logic.{◌⊎◌, inl, inr, ⊎_elim}
use mathlib.Core.Bool.{Bool, true, false, ◌&&◌, ◌||◌, not}
use mathlib.Core.List.{List}
use native.Mathlib.Omega.{arith}
use native.Mathlib.Nat.{eq-or-lt_of_le}
use native.Mathlib.Decide.{dec_lt, ℕ_discrete}
use lib.Dec.{leb, eqb}
use lib.ListN.{length, get_or, set, length-set}
use lib.Seq.{get_or-set_same, get_or-set_other}
use Rattle.paper.proofs.Laws.{all_below-at}
use Rattle.table.specs.Sizes.{Names, Has}
use Rattle.rules.specs.Seen.{Records}
use Rattle.rules.specs.Step.{is_committed}
use Rattle.rules.specs.Order.{is_marked, waits_for, is_settled}
use Rattle.seen.specs.Records.{records_in}
use Rattle.reach.specs.High.{Inst, itself}
use Rattle.reach.proofs.Tests.{tf, bool, and_l, and_r, not-true, not-not, eqb-eq, eqb_same, leb-le, leb-in}
use Rattle.reach.proofs.Instances.{all_in, every-at, every_in}
use Rattle.rows.specs.Rows.{slot_of, mark_at, Within}
use Rattle.sweep.specs.Sweeping.{Sized, Row}
use Rattle.order.specs.States.{Prefix, Prefixes, behind_none, State, States, Stated, Asking}

sized-names : (n s : ℕ) (t : List ℕ) → Sized n s t → (o j : ℕ) → Inst n s o j → Names n s o j
sized-names n s t g o j i = record { copies = g.copies; numbers = g.numbers; owner = i.owner; first = i.first; last = i.last }

pub sized-has : (n s : ℕ) (t : List ℕ) → Sized n s t → (o j : ℕ) → Inst n s o j → Has n s o j t
sized-has n s t g o j i = record { names = sized-names n s t g o j i; long = g.long }

-- the commits that a row begins with
module _ (s : ℕ) (u : Records) (q : ℕ) where
  abbrev pub All : ℕ → Type 0
  All z = (j : ℕ) → 1 ≤ j → j ≤ z → is_committed (u q j) ≡ true

  pub all_more : (z : ℕ) → All z → is_committed (u q (z + 1)) ≡ true → All (z + 1)
  all_more z a e j l m = ⊎_elim (λ (w : j ≡ z + 1). rw w e) (λ (w : j < z + 1). a j l (omega arith)) (eq-or-lt_of_le m)

  pub prefix_here : (z : ℕ) → z < s → All z → is_committed (u q (z + 1)) ≡ false → Prefix s u q z
  prefix_here z l a e = record { few = omega arith; all = a; stops = λ m. e }

  pub prefix-whole : (z : ℕ) → z ≤ s → s ≤ z → All z → Prefix s u q z
  prefix-whole z l m a = record { few = l; all = a; stops = λ k. absurd (omega arith) }

abbrev Led : ℕ → Records → List ℕ → ℕ → Type 0
Led s u lead o = (q : ℕ) → q < o → Prefix s u q (get_or lead q 0)

pub led-more : (s : ℕ) (u : Records) (lead : List ℕ) (o z : ℕ) → Led s u lead o → o < length lead → Prefix s u o z
    → Led s u (set lead o z) (o + 1)
led-more s u lead o z c l d q m = go (ℕ_discrete q o)
  where
    go : Dec (q ≡ o) → Prefix s u q (get_or (set lead o z) q 0)
    go (yes e) = rw (e, get_or-set_same lead o z 0 l) d
    go (no e) = rw (get_or-set_other lead o q z 0 e) (c q (omega arith))

-- marks up to an owner, within the prefixes
abbrev Within-to : ℕ → List ℕ → ℕ → List ℕ → Type 0
Within-to o h x lead = (q : ℕ) → q < o → mark_at h x q ≤ get_or lead q 0

module _ (n : ℕ) (h : List ℕ) (x : ℕ) (lead : List ℕ) where
  pub within_more : (o : ℕ) → Within-to o h x lead → mark_at h x o ≤ get_or lead o 0 → Within-to (o + 1) h x lead
  within_more o c l q m = ⊎_elim (λ (e : q ≡ o). rw e l) (λ (e : q < o). c q e) (eq-or-lt_of_le {n = q} {m = o} (omega arith))

  pub behind-no : (o : ℕ) → o < n → get_or lead o 0 < mark_at h x o → false ≡ behind_none n h x lead
  unfolding behind_none
  behind-no o l m = sym (not-true _
      (λ e. absurd (omega (arith, leb-le (mark_at h x o) (get_or lead o 0) (all_below-at n (λ q. leb (mark_at h x q) (get_or lead q 0)) e o l)))))

  pub behind-none : (o : ℕ) → Within-to o h x lead → n ≤ o → true ≡ behind_none n h x lead
  unfolding behind_none
  behind-none o c l = sym (all_in n (λ q. leb (mark_at h x q) (get_or lead q 0)) (λ q m. leb-in (mark_at h x q) (get_or lead q 0) (c q (omega arith))))

  within_of : behind_none n h x lead ≡ true → Within-to n h x lead
  unfolding behind_none
  within_of e q l = leb-le (mark_at h x q) (get_or lead q 0) (all_below-at n (λ q. leb (mark_at h x q) (get_or lead q 0)) e q l)

-- settled: committed, and whatever is marked is among the commits that its owner's row begins with
module _ (n s : ℕ) (u : Records) (h : List ℕ) (p k : ℕ) (i : Inst n s p k) (r : Row n s u h p k) where
  waits-is : (o j : ℕ) → Inst n s o j
      → waits_for n s u p k o j ≡ ((itself p k o j || leb j (mark_at h (slot_of p k) o)) && not (is_committed (u o j)))
  unfolding waits_for
  waits-is o j io = ap (λ (b : Bool). b && not (is_committed (u o j))) (r.highs o j io)

  -- an uncommitted one that is marked, or the instance itself
  open-one : (o j : ℕ) → Inst n s o j → (itself p k o j || leb j (mark_at h (slot_of p k) o)) ≡ true
      → is_committed (u o j) ≡ false → is_settled n s u p k ≡ false
  unfolding is_settled
  open-one o j io m c = not-true _
      (λ e. tf (waits_for n s u p k o j) (waits-is o j io ∙ rw (m, c)) (not-not _ (every-at n s (λ o j. not (waits_for n s u p k o j)) e o j io.owner io.first io.last)))

  first-true : (a b : Bool) → a ≡ true → (a || b) ≡ true
  first-true a b e = rw e

  second-true : (a b : Bool) → b ≡ true → (a || b) ≡ true
  second-true true b e = refl
  second-true false b e = e

  open-itself : is_committed (u p k) ≡ false → is_settled n s u p k ≡ false
  open-itself c = open-one p k i (first-true (itself p k p k) _ (rw (eqb_same p p refl, eqb_same k k refl))) c

  module _ (lead : List ℕ) (l : Prefixes n s u lead) where
    behind : (q : ℕ) → q < n → get_or lead q 0 < mark_at h (slot_of p k) q → is_settled n s u p k ≡ false
    behind q lq m =
        let a : get_or lead q 0 < s = omega (arith, r.few q lq) in
        open-one q (get_or lead q 0 + 1) (record { owner = lq; first = omega arith; last = omega arith })
        (second-true (itself p k q (get_or lead q 0 + 1)) _ (leb-in (get_or lead q 0 + 1) (mark_at h (slot_of p k) q) (omega arith)))
        ((l.each q lq).stops a)

    open-behind : behind_none n h (slot_of p k) lead ≡ false → is_settled n s u p k ≡ false
    open-behind e = not-true (is_settled n s u p k)
        (λ z. tf (behind_none n h (slot_of p k) lead) (sym (behind-none n h (slot_of p k) lead n (within z) (omega arith))) e)
      where
        within : is_settled n s u p k ≡ true → Within-to n h (slot_of p k) lead
        within z q lq = go (dec_lt (get_or lead q 0) (mark_at h (slot_of p k) q))
          where
            go : Dec (get_or lead q 0 < mark_at h (slot_of p k) q) → mark_at h (slot_of p k) q ≤ get_or lead q 0
            go (yes m) = tf (is_settled n s u p k) z (behind q lq m)
            go (no m) = omega arith

    settled-all : is_committed (u p k) ≡ true → behind_none n h (slot_of p k) lead ≡ true → is_settled n s u p k ≡ true
    unfolding is_settled
    settled-all c e = every_in n s (λ o j. not (waits_for n s u p k o j)) (λ o j a b d. one o j (record { owner = a; first = b; last = d }))
      where
        one : (o j : ℕ) → Inst n s o j → not (waits_for n s u p k o j) ≡ true
        one o j io = rw (waits-is o j io) (go (bool (itself p k o j)) (bool (leb j (mark_at h (slot_of p k) o))))
          where
            none : (a : Bool) → not (a && false) ≡ true
            none true = refl
            none false = refl

            go : (itself p k o j ≡ true) ⊎ (itself p k o j ≡ false)
                → (leb j (mark_at h (slot_of p k) o) ≡ true) ⊎ (leb j (mark_at h (slot_of p k) o) ≡ false)
                → not ((itself p k o j || leb j (mark_at h (slot_of p k) o)) && not (is_committed (u o j))) ≡ true
            go (inl x) y =
                let eo = eqb-eq o p (and_l (eqb o p) (eqb j k) x) in
                let ej = eqb-eq j k (and_r (eqb o p) (eqb j k) x) in
                let w : is_committed (u o j) ≡ true = rw (eo, ej) c in
                rw w (none (itself p k o j || leb j (mark_at h (slot_of p k) o)))
            go (inr x) (inl y) =
                let m = leb-le j (mark_at h (slot_of p k) o) y in
                let w : is_committed (u o j) ≡ true = (l.each o io.owner).all j io.first (omega (arith, within_of n h (slot_of p k) lead e o io.owner)) in
                rw w (none (itself p k o j || leb j (mark_at h (slot_of p k) o)))
            go (inr x) (inr y) = rw (x, y)

-- the state of one instance
module _ (n s : ℕ) (t h lead : List ℕ) (p k : ℕ) (a : Asking n s t h lead p k) where
  none : (a : Bool) → false ≡ (a && false)
  none true = refl
  none false = refl

  row : Row n s (records_in s t) h p k
  row = a.seen.charted.each p k a.inst

  pub state-out : is_marked (records_in s t p k) ≡ true → State n s (records_in s t) p k 2
  state-out m = record { out = sym m; ready = rw m (none (is_settled n s (records_in s t) p k)) }

  state-waits : is_marked (records_in s t p k) ≡ false → is_settled n s (records_in s t) p k ≡ false → State n s (records_in s t) p k 0
  state-waits m e = record { out = sym m; ready = rw (m, e) }

  pub state-open : is_marked (records_in s t p k) ≡ false → is_committed (records_in s t p k) ≡ false
      → State n s (records_in s t) p k 0
  state-open m c = state-waits m (open-itself n s (records_in s t) h p k a.inst row c)

  module _ (x : ℕ) (ex : x ≡ slot_of p k) where
    pub state-place : x < 448 → Within h x
    state-place l = record { long = a.seen.charted.long; place = l }

    pub state-settled : is_marked (records_in s t p k) ≡ false → is_committed (records_in s t p k) ≡ true
        → behind_none n h x lead ≡ true → State n s (records_in s t) p k 1
    state-settled m c e = record { out = sym m; ready = rw (m, settled-all n s (records_in s t) h p k a.inst row lead a.seen.prefixes c (rw ex at e)) }

    pub state-behind : is_marked (records_in s t p k) ≡ false → behind_none n h x lead ≡ false → State n s (records_in s t) p k 0
    state-behind m e = state-waits m (open-behind n s (records_in s t) h p k a.inst row lead a.seen.prefixes (rw ex at e))

-- place by place
pub states-start : (n s : ℕ) (u : Records) (st : List ℕ) → length st ≡ 448 → States n s u (64 * 0) st
states-start n s u st l = record { long = l; done = λ p k i e. absurd (omega arith) }

module _ (n s : ℕ) (u : Records) (st : List ℕ) where
  pub states-first : (o : ℕ) → States n s u (64 * o) st → States n s u (64 * o + (1 - 1)) st
  states-first o c = record { long = c.long; done = λ p k i e. c.done p k i (omega arith) }

  -- what is past an owner's last number is the next owner's
  pub states-row : (o j : ℕ) → s ≤ 64 → States n s u (64 * o + (j - 1)) st → s < j → States n s u (64 * (o + 1)) st
  states-row o j l c m = record { long = c.long; done = λ p k i e. c.done p k i (omega (arith, i.first, i.last)) }

  pub states-more : (o j x v : ℕ) → n ≤ 7 → s ≤ 64 → Inst n s o j → x ≡ slot_of o j → States n s u (64 * o + (j - 1)) st
      → State n s u o j v
      → States n s u (64 * o + (j + 1 - 1)) (set st x v)
  states-more o j x v ln ls io ex c w = record { long = length-set st x v ∙ c.long; done = done }
    where
      done : (p k : ℕ) → Inst n s p k → slot_of p k < 64 * o + (j + 1 - 1) → State n s u p k (get_or (set st x v) (slot_of p k) 0)
      done p k i e = go (ℕ_discrete (slot_of p k) x)
        where
          go : Dec (slot_of p k ≡ x) → State n s u p k (get_or (set st x v) (slot_of p k) 0)
          go (yes y) =
              let a : p ≡ o = omega (arith, i.first, i.last, io.first, io.last) in
              let b : k ≡ j = omega (arith, i.first, i.last, io.first, io.last) in
              let q : get_or (set st x v) (slot_of p k) 0 ≡ v = rw y (get_or-set_same st x v 0 (omega (arith, c.long, io.owner, io.first, io.last))) in
              rw (q, a, b) w
          go (no y) = rw (get_or-set_other st x (slot_of p k) v 0 y) (c.done p k i (omega (arith, io.first)))

  pub states-all : (o : ℕ) → s ≤ 64 → States n s u (64 * o) st → n ≤ o → Stated n s u st
  states-all o l c e = record { long = c.long; each = λ p k i. c.done p k i (omega (arith, i.owner, i.last, i.first)) }
