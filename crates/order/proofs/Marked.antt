-- The table and the lists after one instance is marked. Assumes nothing.
use Prim.Native.Nat.{ℕ, ◌<◌}
use mathlib.Core.Path.{◌≡◌, refl, sym, ap, ◌∙◌}
use mathlib.Core.Bool.{Bool, true, false, ◌&&◌}
use mathlib.Core.List.{List}
use native.Mathlib.Omega.{arith}
use native.Mathlib.Decide.{ℕ_discrete}
use lib.Dec.{eqb}
use lib.ListN.{length, get_or, set, length-set}
use lib.Seq.{get_or-set_same, get_or-set_other}
use Rattle.paper.specs.declared.Record.{Record}
use Rattle.table.specs.Sizes.{Names, Has}
use Rattle.table.specs.Table.{record_in, Whole}
use Rattle.table.proofs.Round.{put-long, get-put-other, replies-seven}
use Rattle.table.proofs.Mark.{get-mark, whole-mark, whole-other}
use Rattle.rules.specs.Events.{put}
use Rattle.rules.specs.Order.{is_marked, marked, mark, is_settled}
use Rattle.seen.specs.Records.{records_in}
use Rattle.reach.specs.High.{Inst}
use Rattle.reach.proofs.Tests.{and_l, and_r, eqb-eq, eqb_same, not-true}
use Rattle.reach.proofs.Same.{reaches_same, settled_same}
use Rattle.rows.specs.Rows.{slot_of}
use Rattle.sweep.specs.Sweeping.{Charted}
use Rattle.next.specs.Slots.{Going}
use Rattle.next.proofs.Still.{going-still}
use Rattle.order.specs.Calls.{marked_in}
use Rattle.order.specs.States.{State, Listing}

module _ (n s : ℕ) (t h st know past : List ℕ) (g : Listing n s t h st know past) (o j : ℕ) (io : Inst n s o j) where
  names : (p k : ℕ) → Inst n s p k → Names n s p k
  names p k i = record { copies = g.going.lists.copies; numbers = g.going.lists.numbers; owner = i.owner; first = i.first; last = i.last }

  has : Has n s o j t
  has = record { names = names o j io; long = g.long }

  seven : length (marked (record_in s t o j)).replies ≡ 7
  seven = replies-seven s t o j

  own : record_in s (marked_in s t o j) o j ≡ marked (record_in s t o j)
  unfolding marked_in
  own = get-mark n s t o j has (g.whole o j io)

  other : (p k : ℕ) → Inst n s p k → ((o ≡ p) × (j ≡ k) → ⊥) → record_in s (marked_in s t o j) p k ≡ record_in s t p k
  unfolding marked_in
  other p k i d = get-put-other n s t g.long o j (names o j io) (marked (record_in s t o j)) seven p k (names p k i) d

  -- it is o.j, or another
  by : {A : Type 0} (p k : ℕ) → ((o ≡ p) × (j ≡ k) → A) → (((o ≡ p) × (j ≡ k) → ⊥) → A) → A
  by {A = A} p k f e = go (ℕ_discrete o p) (ℕ_discrete j k)
    where
      go : Dec (o ≡ p) → Dec (j ≡ k) → A
      go (yes a) (yes b) = f (a, b)
      go (yes a) (no b) = e (λ w. b w.1)
      go (no a) b = e (λ w. a w.0)

  -- the bytes' records are the rules'
  pub alike : (p k : ℕ) → Inst n s p k → mark (records_in s t) o j p k ≡ records_in s (marked_in s t o j) p k
  unfolding put
  alike p k i = by p k
      (λ w. rw (← w.0, ← w.1, eqb_same o o refl, eqb_same j j refl) (sym own))
      (λ d. rw (apart d) (sym (other p k i d)))
    where
      apart : ((o ≡ p) × (j ≡ k) → ⊥) → (eqb p o && eqb k j) ≡ false
      apart d = not-true (eqb p o && eqb k j)
          (λ e. d (sym (eqb-eq p o (and_l (eqb p o) (eqb k j) e)), sym (eqb-eq k j (and_r (eqb p o) (eqb k j) e))))

  votes : (p k : ℕ) → Inst n s p k → (records_in s t p k).vote ≡ (records_in s (marked_in s t o j) p k).vote
  votes p k i = by p k
      (λ w. rw (← w.0, ← w.1) (ap (λ (r : Record). r.vote) (sym own)))
      (λ d. ap (λ (r : Record). r.vote) (sym (other p k i d)))

  charted : Charted n s (records_in s (marked_in s t o j)) h
  charted = record {
    long = g.charted.long;
    each = λ p k i. record {
      few = (g.charted.each p k i).few;
      highs = λ q x iq. rw (← reaches_same n s (records_in s t) (records_in s (marked_in s t o j)) votes p k q x i) ((g.charted.each p k i).highs q x iq);
      closed = (g.charted.each p k i).closed;
    };
  }

  module _ (x : ℕ) (ex : x ≡ slot_of o j) where
    inside : x < length st
    inside = omega (arith, g.stated.long, io.owner, io.first, io.last, g.going.lists.copies, g.going.lists.numbers)

    at_own : (p k : ℕ) → (o ≡ p) × (j ≡ k) → get_or (set st x 2) (slot_of p k) 0 ≡ 2
    at_own p k w = rw (← w.0, ← w.1, ← ex) (get_or-set_same st x 2 0 inside)

    at_other : (p k : ℕ) → Inst n s p k → ((o ≡ p) × (j ≡ k) → ⊥) → get_or (set st x 2) (slot_of p k) 0 ≡ get_or st (slot_of p k) 0
    at_other p k i d = get_or-set_other st x (slot_of p k) 2 0
        (λ e.
        let a : o ≡ p = omega (arith, io.first, io.last, i.first, i.last, g.going.lists.numbers) in
        let b : j ≡ k = omega (arith, io.first, io.last, i.first, i.last, g.going.lists.numbers) in
        d (a, b))

    state : (p k : ℕ) → Inst n s p k → State n s (records_in s (marked_in s t o j)) p k (get_or (set st x 2) (slot_of p k) 0)
    state p k i = by p k
        (λ w. let m : is_marked (records_in s (marked_in s t o j) p k) ≡ true = rw (← w.0, ← w.1, own) in
        rw (at_own p k w) (record { out = sym m; ready = rw m (none (is_settled n s (records_in s (marked_in s t o j)) p k)) }))
        (λ d. let v = g.stated.each p k i in
        rw (at_other p k i d) (record {
          out = v.out ∙ ap is_marked (sym (other p k i d));
          ready = v.ready ∙ rw (other p k i d, settled_same n s (records_in s t) (records_in s (marked_in s t o j)) votes p k i);
        }))
      where
        none : (a : Bool) → false ≡ (a && false)
        none true = refl
        none false = refl

    whole : (p k : ℕ) → Inst n s p k → Whole s (marked_in s t o j) p k
    unfolding marked_in
    whole p k i = by p k
        (λ w. rw (← w.0, ← w.1) (whole-mark n s t o j has (g.whole o j io)))
        (λ d. whole-other n s t o j has (g.whole o j io) p k (names p k i) d (g.whole p k i))

    pub listing-on : (know₁ past₁ : List ℕ) → Going n s h st know₁ past₁ → Listing n s (marked_in s t o j) h (set st x 2) know₁ past₁
    unfolding marked_in
    listing-on know₁ past₁ f = record {
      long = put-long n s t g.long o j (names o j io) (marked (record_in s t o j)) seven ∙ g.long;
      charted = charted;
      stated = record { long = length-set st x 2 ∙ g.stated.long; each = state };
      going = going-still st x inside n s h know₁ past₁ f;
      whole = whole;
    }
