-- A row that takes in the beginnings that it names. Assumes nothing.
use Prim.Native.Nat.{ℕ, zero, suc, ◌+◌, ◌-◌, ◌≤◌, ◌<◌}
use mathlib.Core.Path.{◌≡◌, refl, ◌∙◌}
use mathlib.Core.Logic.{⊎_elim}
use mathlib.Core.Bool.{Bool, true, false, ◌&&◌, cond}
use mathlib.Core.List.{List}
use native.Mathlib.Omega.{arith}
use lib.Dec.{leb, ltb}
use lib.ListN.{length, get_or}
use Rattle.paper.specs.Deps.{no_deps, join}
use Rattle.rules.specs.Seen.{Records}
use Rattle.rows.specs.Rows.{slot_of, marks_at, put_row, Within}
use Rattle.rows.proofs.Laws.{row-seven, row_fits, put-long, put-own, put_other}
use Rattle.reach.specs.High.{Inst, From}
use Rattle.reach.proofs.Tests.{and_l, and_r, and_in, leb-le, leb-in, ltb-lt, ltb-in, not-true}
use Rattle.reach.proofs.Beginnings.{Comers, comers-named}
use Rattle.sweep.specs.Sweeping.{Naming, Taking, Wrote, with_named, beyond_in, before_in, marks_of}
use Rattle.paper.proofs.Deps.{join-seven, join-at, join-fits}

-- one row is written
pub wrote-same : (h : List ℕ) (x : ℕ) → length h ≡ 6272 → Wrote h h x
wrote-same h x l = record { long = l; others = λ y a d. refl }

pub wrote_on : (h h₁ h₂ : List ℕ) (x : ℕ) → Wrote h h₁ x → Wrote h₁ h₂ x → Wrote h h₂ x
wrote_on h h₁ h₂ x a b = record { long = b.long; others = λ y l d. b.others y l d ∙ a.others y l d }

pub take-made : (g h : List ℕ) (y x : ℕ) {a b r h₁ : List ℕ} → Within h x → ((i : ℕ) → get_or g i 0 < 256) → ((i : ℕ) → get_or h i 0 < 256) → a ≡ marks_at h x → b ≡ marks_at g y → r ≡ join a b
    → h₁ ≡ put_row h x r → (marks_at h₁ x ≡ join (marks_at h x) (marks_at g y)) × Wrote h h₁ x
take-made g h y x {r = r} w bg bh ea eb er eh =
    let e : r ≡ join (marks_at h x) (marks_at g y) = er ∙ rw (ea, eb) in
    let f = rw (← e) at (join-fits (marks_at h x) (marks_at g y) (row_fits h x bh) (row_fits g y bg)) in
    rw eh (put-own h x r w f ∙ e, record { long = put-long h x r w; others = λ z l d. put_other h x r w z l d })

-- named: the row is taken in; else nothing is
named_in : (n : ℕ) (g : List ℕ) (q entry : ℕ) (row : List ℕ) → (ltb q n && leb 1 entry) ≡ true → join row (marks_at g (slot_of q entry)) ≡ with_named n g q entry row
unfolding with_named
named_in n g q entry row e = rw e

named-out : (n : ℕ) (g : List ℕ) (q entry : ℕ) (row : List ℕ) → (ltb q n && leb 1 entry) ≡ false → row ≡ with_named n g q entry row
unfolding with_named
named-out n g q entry row e = rw e

-- as it was tested and read
module _ (n : ℕ) (g : List ℕ) (q entry : ℕ) where
  pub named-place : Naming n g q entry → {e : ℕ} → e ≡ entry → 1 ≤ e → (q < 7) × (1 ≤ e) × (e ≤ 64)
  named-place a re le = (omega (arith, a.copies, a.owner), le, omega (arith, a.last))

  pub named_none : (row : List ℕ) → {e : ℕ} → e ≡ entry → e ≡ 0 → row ≡ with_named n g q entry row
  named_none row re z = named-out n g q entry row (not-true _ (λ t. absurd (omega (arith, leb-le 1 entry (and_r (ltb q n) (leb 1 entry) t)))))

  pub named-taken : (row : List ℕ) → q < n → {e x : ℕ} {r : List ℕ} → e ≡ entry → 1 ≤ e → x ≡ slot_of q e → r ≡ join row (marks_at g x) → r ≡ with_named n g q entry row
  named-taken row lq re le rx rr = rr ∙ rw (rx, re) (named_in n g q entry row (and_in _ _ (ltb-in q n lq) (leb-in 1 entry (omega arith))))

  by : (P : List ℕ → Type 0) (row : List ℕ) → (q < n → 1 ≤ entry → P (join row (marks_at g (slot_of q entry)))) → P row → P (with_named n g q entry row)
  by P row f h = go (ltb q n && leb 1 entry) refl
    where
      go : (b : Bool) → (ltb q n && leb 1 entry) ≡ b → P (with_named n g q entry row)
      go true e = rw (← named_in n g q entry row e) (f (ltb-lt q n (and_l (ltb q n) (leb 1 entry) e)) (leb-le 1 entry (and_r (ltb q n) (leb 1 entry) e)))
      go false e = rw (← named-out n g q entry row e) h

  -- it holds the row that it had, and the one that is named
  with-old : (row : List ℕ) → length row ≡ 7 → (o : ℕ) → get_or row o 0 ≤ get_or (with_named n g q entry row) o 0
  with-old row l o = by (λ v. get_or row o 0 ≤ get_or v o 0) row (λ a b. (join-at row (marks_at g (slot_of q entry)) l (row-seven g (slot_of q entry)) o).left) (omega arith)

  with-new : (row : List ℕ) → length row ≡ 7 → q < n → 1 ≤ entry → (o : ℕ) → marks_of g q entry o ≤ get_or (with_named n g q entry row) o 0
  with-new row l lq le o =
      rw (← named_in n g q entry row (and_in _ _ (ltb-in q n lq) (leb-in 1 entry le))) (join-at row (marks_at g (slot_of q entry)) l (row-seven g (slot_of q entry)) o).right

-- after k owners
record Upto (n s : ℕ) (r : List ℕ) : Type 0 where
  seven : length r ≡ 7
  few : (o : ℕ) → o < n → get_or r o 0 ≤ s

module _ (n s : ℕ) (g row : List ℕ) (a : Taking n s g row) where
  upto : (k : ℕ) → Upto n s (beyond_in k n g row)
  unfolding beyond_in
  upto zero = record { seven = a.seven; few = a.few }
  upto (suc k) = step (beyond_in k n g row) (upto k)
    where
      step : (r : List ℕ) → Upto n s r → Upto n s (with_named n g k (get_or r k 0) r)
      step r u = by n g k (get_or r k 0) (Upto n s) r
          (λ l e. record {
            seven = join-seven r (marks_at g (slot_of k (get_or r k 0)));
            few = λ o lo.
                let x = a.rows k (get_or r k 0) (record { owner = l; first = e; last = u.few k l }) o lo in
                ⊎_elim (λ (f : get_or (join r (marks_at g (slot_of k (get_or r k 0)))) o 0 ≡ get_or r o 0). rw f (u.few o lo))
                (λ (f : get_or (join r (marks_at g (slot_of k (get_or r k 0)))) o 0 ≡ marks_of g k (get_or r k 0) o). rw f x)
                (join-at r (marks_at g (slot_of k (get_or r k 0))) u.seven (row-seven g (slot_of k (get_or r k 0))) o).one;
          })
          u

  pub beyond-seven : length (beyond_in n n g row) ≡ 7
  beyond-seven = (upto n).seven

  pub beyond-few : (o : ℕ) → o < n → get_or (beyond_in n n g row) o 0 ≤ s
  beyond-few = (upto n).few

  -- the entry that is read next
  pub beyond-named : (k : ℕ) {r : List ℕ} → k < n → r ≡ beyond_in k n g row → Naming n g k (get_or r k 0)
  beyond-named k l e = record { copies = a.copies; long = a.long; owner = l; last = rw e (omega (arith, (upto k).few k l, a.numbers)) }

  rises : (k e o : ℕ) → get_or (beyond_in k n g row) o 0 ≤ get_or (beyond_in (k + e) n g row) o 0
  unfolding beyond_in
  rises k zero o = let z : k + 0 ≡ k = omega arith in rw z (omega arith)
  rises k (suc e) o =
      let z : k + suc e ≡ suc (k + e) = omega arith in
      rw z (omega (arith, rises k e o, with-old n g (k + e) (get_or (beyond_in (k + e) n g row) (k + e) 0) (beyond_in (k + e) n g row) (upto (k + e)).seven o))

  rise : (k m o : ℕ) → k ≤ m → get_or (beyond_in k n g row) o 0 ≤ get_or (beyond_in m n g row) o 0
  rise k m o l = let z : k + (m - k) ≡ m = omega arith in rw z at (rises k (m - k) o)

  pub beyond-old : (o : ℕ) → get_or row o 0 ≤ get_or (beyond_in n n g row) o 0
  unfolding beyond_in
  beyond-old o = rise 0 n o (omega arith)

  same-mark : (q o a b m : ℕ) → a ≡ b → marks_of g q a o ≤ m → marks_of g q b o ≤ m
  same-mark q o a b m e l = rw e at l

  -- where nothing changes, what is named is held
  pub beyond-held : ((i : ℕ) → get_or (beyond_in n n g row) i 0 ≡ get_or row i 0) → (q : ℕ) → q < n → 1 ≤ get_or row q 0 → (o : ℕ) → marks_of g q (get_or row q 0) o ≤ get_or row o 0
  unfolding beyond_in
  beyond-held e q l f o =
      let w : get_or (beyond_in q n g row) q 0 ≡ get_or row q 0 = omega (arith, rise 0 q q (omega arith), rise q n q (omega arith), e q) in
      let v : marks_of g q (get_or (beyond_in q n g row) q 0) o ≤ get_or (beyond_in (suc q) n g row) o 0 = with-new n g q (get_or (beyond_in q n g row) q 0) (beyond_in q n g row) (upto q).seven l (omega arith) o in
      let x = same-mark q o (get_or (beyond_in q n g row) q 0) (get_or row q 0) (get_or (beyond_in (suc q) n g row) o 0) w v in
      omega (arith, rise (suc q) n o (omega arith), e o)

  -- all that is marked comes from where the row's marks come from
  module _ (u : Records) (p k : ℕ) (ip : Inst n s p k) (from : From n s u (marks_of g)) where
    comers-upto : (m : ℕ) → Comers n s u p k ip (λ o. get_or row o 0) → Comers n s u p k ip (λ o. get_or (beyond_in m n g row) o 0)
    unfolding beyond_in
    comers-upto zero c = c
    comers-upto (suc m) c = step (beyond_in m n g row) (upto m) (comers-upto m c)
      where
        step : (r : List ℕ) → Upto n s r → Comers n s u p k ip (λ o. get_or r o 0) → Comers n s u p k ip (λ o. get_or (with_named n g m (get_or r m 0) r) o 0)
        step r v c = by n g m (get_or r m 0) (λ w. Comers n s u p k ip (λ o. get_or w o 0)) r
            (λ l e o x io h.
            ⊎_elim (λ (f : get_or (join r (marks_at g (slot_of m (get_or r m 0)))) o 0 ≡ get_or r o 0). c o x io (rw f at h))
            (λ (f : get_or (join r (marks_at g (slot_of m (get_or r m 0)))) o 0 ≡ marks_of g m (get_or r m 0) o).
            comers-named n s u p k ip (marks_of g) (λ o. get_or r o 0) from c m (record { owner = l; first = e; last = v.few m l }) o x io (rw f at h))
            (join-at r (marks_at g (slot_of m (get_or r m 0))) v.seven (row-seven g (slot_of m (get_or r m 0))) o).one)
            c

    pub beyond-comers : Comers n s u p k ip (λ o. get_or row o 0) → Comers n s u p k ip (λ o. get_or (beyond_in n n g row) o 0)
    beyond-comers = comers-upto n

-- one owner after the other
pub beyond-first : (n : ℕ) (g row : List ℕ) → row ≡ beyond_in 0 n g row
unfolding beyond_in
beyond-first n g row = refl

pub beyond-next : (n : ℕ) (g row : List ℕ) (k : ℕ) {r v : List ℕ} → r ≡ beyond_in k n g row → v ≡ with_named n g k (get_or r k 0) r → v ≡ beyond_in (k + 1) n g row
unfolding beyond_in
beyond-next n g row k er ev = let z : k + 1 ≡ suc k = omega arith in rw z (ev ∙ rw er)

pub beyond-last : (n : ℕ) (g row : List ℕ) (k : ℕ) {r : List ℕ} → r ≡ beyond_in k n g row → n ≤ k → k ≤ n → r ≡ beyond_in n n g row
beyond-last n g row k e a b = let z : k ≡ n = omega arith in rw z at e

-- the beginning before: none, or one shorter by its last instance
pub before-first : (g : List ℕ) (o j : ℕ) → j ≤ 1 → no_deps ≡ before_in g o j
unfolding before_in
before-first g o j l = rw (leb-in j 1 l)

pub before-later : (g : List ℕ) (o j : ℕ) → 1 < j → marks_at g (slot_of o (j - 1)) ≡ before_in g o j
unfolding before_in
before-later g o j l = go (leb j 1) refl
  where
    go : (b : Bool) → leb j 1 ≡ b → marks_at g (slot_of o (j - 1)) ≡ cond b no_deps (marks_at g (slot_of o (j - 1)))
    go true e = absurd (omega (arith, leb-le j 1 e))
    go false e = refl
