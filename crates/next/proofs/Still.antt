-- What is kept stays true where one more is handed out. Assumes nothing.
use Prim.Native.Nat.{ℕ, ◌<◌}
use mathlib.Core.Path.{◌≡◌, refl, ◌∙◌}
use mathlib.Core.Bool.{Bool, true, false, ◌&&◌, not}
use mathlib.Core.List.{List}
use native.Mathlib.Decide.{ℕ_discrete}
use lib.Dec.{leb, eqb}
use lib.ListN.{length, get_or, set, length-set}
use lib.Seq.{get_or-set_same, get_or-set_other}
use Rattle.paper.specs.Logic.{implies}
use Rattle.paper.proofs.Laws.{all_below-at}
use Rattle.rules.specs.Order.{everywhere}
use Rattle.reach.proofs.Instances.{all_in, every-at, every_in}
use Rattle.rows.specs.Rows.{slot_of, mark_at}
use Rattle.next.specs.Slots.{lets, none_at, Past, Going}

module _ (st : List ℕ) (x : ℕ) (inside : x < length st) where
  -- the state at a place is what it was, or 2
  by : (P : ℕ → Type 0) (y : ℕ) → P (get_or st y 0) → P 2 → P (get_or (set st x 2) y 0)
  by P y a b = go (ℕ_discrete y x)
    where
      go : Dec (y ≡ x) → P (get_or (set st x 2) y 0)
      go (yes e) = rw (e, get_or-set_same st x 2 0 inside) b
      go (no d) = rw (get_or-set_other st x y 2 0 d) a

  lets-still : (h : List ℕ) (p k q i : ℕ) → lets h st p k q i ≡ true → lets h (set st x 2) p k q i ≡ true
  unfolding lets
  lets-still h p k q i e =
      by (λ z. implies (leb i (mark_at h (slot_of p k) q) && not (leb k (mark_at h (slot_of q i) p))) (eqb z 2) ≡ true) (slot_of q i) e
      (all (leb i (mark_at h (slot_of p k) q) && not (leb k (mark_at h (slot_of q i) p))))
    where
      all : (a : Bool) → implies a true ≡ true
      all true = refl
      all false = refl

  every-still : (n s : ℕ) (h : List ℕ) (p k : ℕ) → everywhere n s (lets h st p k) ≡ true
      → everywhere n s (lets h (set st x 2) p k) ≡ true
  every-still n s h p k e = every_in n s (lets h (set st x 2) p k) (λ o j a b c. lets-still h p k o j (every-at n s (lets h st p k) e o j a b c))

  none-still : (n j : ℕ) → none_at n st j ≡ true → none_at n (set st x 2) j ≡ true
  unfolding none_at
  none-still n j e = all_in n (λ o. not (eqb (get_or (set st x 2) (slot_of o j) 0) 1))
      (λ o l. by (λ z. not (eqb z 1) ≡ true) (slot_of o j) (all_below-at n (λ o. not (eqb (get_or st (slot_of o j) 0) 1)) e o l) refl)

  past-still : (n s : ℕ) (past : List ℕ) → Past n s st past → Past n s (set st x 2) past
  past-still n s past c = record {
    copies = c.copies;
    numbers = c.numbers;
    states = length-set st x 2 ∙ c.states;
    long = c.long;
    rows = λ q l. record { few = (c.rows q l).few; each = λ i a b. by (λ z. z ≡ 2) (slot_of q i) ((c.rows q l).each i a b) refl };
    low = record { few = c.low.few; each = λ j a b. none-still n j (c.low.each j a b) };
  }

  pub going-still : (n s : ℕ) (h know past : List ℕ) → Going n s h st know past → Going n s h (set st x 2) know past
  going-still n s h know past g =
      let l = g.lists in
      record {
        lists = record { copies = l.copies; numbers = l.numbers; marks = l.marks; states = length-set st x 2 ∙ l.states; few = l.few; closed = l.closed };
        long = g.long;
        known = λ p k i. record { ready = λ e. every-still n s h p k ((g.known p k i).ready e); held = (g.known p k i).held; below = λ o j io l. lets-still h p k o j ((g.known p k i).below o j io l) };
        passed = past-still n s past g.passed;
      }
