-- The walk down an owner's row. Assumes nothing.
use mathlib.Core.Path.{◌≡◌, refl, sym, ap, fun_ext, ◌∙◌}
use mathlib.Core.Bool.{Bool, true, false, ◌&&◌, not, cond}
use mathlib.Core.List.{List}
use Prim.{Dec, yes, no}
use Prim.Native.Nat.{ℕ, zero, suc, ◌+◌, ◌-◌, ◌≤◌, ◌<◌}
use mathlib.Core.Logic.{⊎_elim}
use native.Mathlib.Omega.{arith}
use native.Mathlib.Nat.{eq-or-lt_of_le}
use native.Mathlib.Decide.{dec_lt}
use lib.Dec.{leb, ltb, eqb}
use lib.ListN.{length, get_or, set, replicate, length-set}
use lib.Seq.{get_or-set_same, get_or-set_other, ext_get_or}
use borrow.Author.Tests.{lt-ltb, le-ltb}
use Rattle.paper.specs.Command.{Interference, noop, interfere}
use Rattle.paper.specs.declared.Command.{Command}
use Rattle.table.specs.Sizes.{Sizes, Row, Has}
use Rattle.rules.specs.Sets.{highest}
use Rattle.rules.specs.Seen.{Records, met, seen_entry, seen}
use Rattle.rules.proofs.Seen.{highest-here, highest-below, highest-none, seen_at, seen-length}
use Rattle.seen.specs.Records.{records_in}
use Rattle.seen.specs.Sought.{sought_for, asks}
use Rattle.seen.specs.declared.sought.Sought.{Sought}
use Rattle.seen.proofs.Asks.{sought}

-- the test that was made is the definition's
pub asked : (v : Interference) (t : Records) (o j : ℕ) (k : Command) (p left : ℕ) {a b : Bool}
    → a ≡ (leb 1 (t p left).vote.status && v k (t p left).vote.command) → b ≡ not (eqb p o && eqb left j) → (a && b) ≡ met v t o j k p left
unfolding met
asked v t o j k p left ea eb = rw (ea, eb) (turned (leb 1 (t p left).vote.status) (v k (t p left).vote.command) (not (eqb p o && eqb left j)))
  where
    turned : (x y z : Bool) → (x && y && z) ≡ (z && x && y)
    turned true true true = refl
    turned true true false = refl
    turned true false true = refl
    turned true false false = refl
    turned false y true = refl
    turned false y false = refl

-- a record that is not met, whichever instance it is of
pub unmet : (v : Interference) (t : Records) (o j : ℕ) (k : Command) (p left : ℕ) → false ≡ (leb 1 (t p left).vote.status && v k (t p left).vote.command)
    → met v t o j k p left ≡ false
unmet v t o j k p left e = sym (asked v t o j k p left {b = not (eqb p o && eqb left j)} e refl)

module _ (v : Interference) (n s c o j : ℕ) (k : Command) (p : ℕ) (t : List ℕ) where
  -- the numbers up to `left` are still to be looked at
  pub record Left (left : ℕ) : Type 0 where
    pub row : Row n s c p t
    pub so : highest s (met v (records_in s t) o j k p) ≡ highest left (met v (records_in s t) o j k p)
    pub few : left ≤ s

  pub start : Row n s c p t → Left s
  start r = record { row = r; so = refl; few = omega arith }

  pub has : (left : ℕ) → Left left → 0 < left → Has n s p left t
  has left l h =
      let z = l.row.sizes in
      record {
        names = record { copies = z.copies; numbers = z.numbers; owner = l.row.owner; first = omega arith; last = l.few };
        long = z.long;
      }

  pub here : (left i : ℕ) → Left left → 0 < left → i ≡ left → met v (records_in s t) o j k p i ≡ true → i ≡ highest s (met v (records_in s t) o j k p)
  here left i l h e m = e ∙ highest-here left (met v (records_in s t) o j k p) h (rw e at m) ∙ sym l.so

  pub next : (left i : ℕ) → Left left → 0 < left → i ≡ left → met v (records_in s t) o j k p i ≡ false → Left (left - 1)
  next left i l h e m = record { row = l.row; so = l.so ∙ highest-below left (met v (records_in s t) o j k p) h (rw e at m); few = omega (arith, l.few) }

  pub none : (left : ℕ) → Left left → left ≡ 0 → 0 ≡ highest s (met v (records_in s t) o j k p)
  none left l e = sym (l.so ∙ highest-none left (met v (records_in s t) o j k p) e)

-- the rows that are done have their entries, the others are zero still
module _ (v : Interference) (n s c o j : ℕ) (k : Command) (t : List ℕ) where
  abbrev entry : ℕ → ℕ
  entry p = seen_entry v n s (records_in s t) o j k p

  pub entry_in : (p : ℕ) {x : ℕ} → p < n → x ≡ highest s (met v (records_in s t) o j k p) → x ≡ entry p
  unfolding seen_entry
  entry_in p l h = rw (lt-ltb p n l) h

  pub entry-out : (p : ℕ) → n ≤ p → 0 ≡ entry p
  unfolding seen_entry
  entry-out p h = rw (le-ltb p n h)

  pub record Done (p : ℕ) (d : List ℕ) : Type 0 where
    pub sizes : Sizes n s c t
    pub few : p ≤ n
    pub seven : length d ≡ 7
    pub below : (q : ℕ) → q < p → get_or d q 0 ≡ entry q
    pub above : (q : ℕ) → p ≤ q → get_or d q 0 ≡ 0

  pub begin : Sizes n s c t → Done 0 (replicate 7 0)
  begin z = record { sizes = z; few = omega arith; seven = refl; below = λ q l. absurd (omega arith); above = λ q l. zeros 7 q }
    where
      zeros : (i q : ℕ) → ◌≡◌ {A = ℕ} (get_or (replicate i 0) q 0) 0
      zeros zero q = refl
      zeros (suc i) zero = refl
      zeros (suc i) (suc q) = zeros i q

  pub row : (p : ℕ) (d : List ℕ) → Done p d → p < n → Row n s c p t
  row p d m l = record { sizes = m.sizes; owner = l }

  pub put : (p : ℕ) (d : List ℕ) {x : ℕ} → Done p d → p < n → x ≡ highest s (met v (records_in s t) o j k p) → Done (p + 1) (set d p x)
  put p d {x} m l h =
      record {
        sizes = m.sizes;
        few = omega arith;
        seven = length-set d p x ∙ m.seven;
        below =
            λ q r.
            ⊎_elim (λ (z : q ≡ p). rw z (get_or-set_same d p x 0 (omega (arith, m.seven, m.sizes.copies)) ∙ entry_in p l h))
            (λ (z : q < p). get_or-set_other d p q x 0 (λ a. omega (arith, a, z)) ∙ m.below q z)
            (eq-or-lt_of_le (omega arith));
        above = λ q r. get_or-set_other d p q x 0 (λ a. omega (arith, a, r)) ∙ m.above q (omega arith);
      }

  pub end : (p : ℕ) (d : List ℕ) → Done p d → n ≤ p → d ≡ seen v n s (records_in s t) o j k
  end p d m l =
      ext_get_or 0 d _ (m.seven ∙ sym (seen-length v n s (records_in s t) o j k))
      (λ i r. go i (dec_lt i p) ∙ sym (seen_at v n s (records_in s t) o j k i (omega (arith, m.seven))))
    where
      go : (i : ℕ) → Dec (i < p) → get_or d i 0 ≡ entry i
      go i (yes z) = m.below i z
      go i (no z) = let u : p ≤ i = omega (arith, z) in m.above i u ∙ entry-out i (omega (arith, u))

-- what was sought is what interferes
module _ (n s : ℕ) (t : Records) (o j : ℕ) (k : Command) {w : Sought} (e : w ≡ sought_for k) where
  met-is : (p i : ℕ) → met (asks w) t o j noop p i ≡ met interfere t o j k p i
  unfolding met
  met-is p i = rw (e, sought k noop (t p i).vote.command)

  entry-is : (p : ℕ) → seen_entry (asks w) n s t o j noop p ≡ seen_entry interfere n s t o j k p
  unfolding seen_entry
  entry-is p = ap (λ (f : ℕ → Bool). cond (ltb p n) (highest s f) 0) (fun_ext (met-is p))

  pub sought-is : seen (asks w) n s t o j noop ≡ seen interfere n s t o j k
  sought-is =
      ext_get_or 0 _ _ (seen-length (asks w) n s t o j noop ∙ sym (seen-length interfere n s t o j k))
      (λ i l.
      let l7 : i < 7 = omega (arith, l, seen-length (asks w) n s t o j noop) in
      seen_at (asks w) n s t o j noop i l7 ∙ entry-is i ∙ sym (seen_at interfere n s t o j k i l7))
