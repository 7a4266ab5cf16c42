-- One beginning's row is raised. Assumes nothing.
use Prim.Native.Nat.{ℕ, ◌-◌, ◌≤◌, ◌<◌}
use mathlib.Core.Path.{◌≡◌, refl, ◌∙◌}
use mathlib.Core.Logic.{◌⊎◌, inl, inr, ⊎_elim}
use mathlib.Core.List.{List}
use native.Mathlib.Omega.{arith}
use native.Mathlib.Nat.{eq-or-lt_of_le}
use native.Mathlib.Decide.{ℕ_discrete, dec_lt}
use lib.ListN.{length, get_or}
use Rattle.paper.specs.Deps.{no_deps, join}
use Rattle.paper.specs.Fits.{DepsFit}
use Rattle.table.proofs.Round.{fits_in, deps-seven}
use Rattle.rules.specs.Seen.{Records}
use Rattle.seen.specs.Records.{records_in}
use Rattle.reach.specs.High.{Inst, entry_of, Comes, From, Holds}
use Rattle.reach.proofs.Beginnings.{comers-own}
use Rattle.rows.specs.Rows.{slot_of, marks_at, put_row, Within}
use Rattle.rows.proofs.Laws.{row-seven, row_fits, put-long, put-own, put_other}
use Rattle.sweep.specs.Sweeping.{Sized, Taking, beyond_in, before_in, marks_of, Rows, Kept, Raised}
use Rattle.paper.proofs.Deps.{none-at, none-fits, Larger, join-seven, join-at, join-fits}
use Rattle.sweep.proofs.Named.{beyond-seven, beyond-few, beyond-old, beyond-comers, before-first, before-later}

-- a row is written and read back
pub put_first : (h : List ℕ) (x : ℕ) (d : List ℕ) {h₁ : List ℕ} → Within h x → DepsFit d → h₁ ≡ put_row h x d → (marks_at h₁ x ≡ d) × Within h₁ x
put_first h x d w f e = rw e (put-own h x d w f, record { long = put-long h x d w; place = w.place })

pub read_fits : (h : List ℕ) (x : ℕ) {r : List ℕ} → marks_at h x ≡ r → ((i : ℕ) → get_or h i 0 < 256) → DepsFit r
read_fits h x e b = rw e at (row_fits h x b)

-- a row that takes in two others
module _ (old more before : List ℕ) (lo : length old ≡ 7) (lm : length more ≡ 7) (lb : length before ≡ 7) where
  abbrev new : List ℕ
  new = join (join old more) before

  inner : (i : ℕ) → Larger (get_or old i 0) (get_or more i 0) (get_or (join old more) i 0)
  inner i = join-at old more lo lm i

  outer : (i : ℕ) → Larger (get_or (join old more) i 0) (get_or before i 0) (get_or new i 0)
  outer i = join-at (join old more) before (join-seven old more) lb i

  new-old : (i : ℕ) → get_or old i 0 ≤ get_or new i 0
  new-old i = omega (arith, (inner i).left, (outer i).left)

  new-more : (i : ℕ) → get_or more i 0 ≤ get_or new i 0
  new-more i = omega (arith, (inner i).right, (outer i).left)

  new-before : (i : ℕ) → get_or before i 0 ≤ get_or new i 0
  new-before i = (outer i).right

  new-one : (i : ℕ) → (get_or new i 0 ≡ get_or old i 0) ⊎ ((get_or new i 0 ≡ get_or more i 0) ⊎ (get_or new i 0 ≡ get_or before i 0))
  new-one i =
      ⊎_elim (λ (e : get_or new i 0 ≡ get_or (join old more) i 0).
      ⊎_elim (λ (f : get_or (join old more) i 0 ≡ get_or old i 0). inl (e ∙ f)) (λ (f : get_or (join old more) i 0 ≡ get_or more i 0). inr (inl (e ∙ f))) (inner i).one)
      (λ (e : get_or new i 0 ≡ get_or before i 0). inr (inr e)) (outer i).one

module _ (n s : ℕ) (t g : List ℕ) (z : Sized n s t) (r : Rows n s (records_in s t) g) (o j : ℕ) (io : Inst n s o j) where
  abbrev u : Records
  u = records_in s t

  abbrev x : ℕ
  x = slot_of o j

  abbrev old : List ℕ
  old = marks_at g x

  abbrev more : List ℕ
  more = beyond_in n n g (u o j).vote.deps

  abbrev before : List ℕ
  before = before_in g o j

  abbrev row : List ℕ
  row = join (join old more) before

  pub at_place : Within g x
  at_place = record { long = r.long; place = omega (arith, io.owner, io.first, io.last, z.copies, z.numbers) }

  pub raise-taking : Taking n s g (u o j).vote.deps
  raise-taking = record { copies = z.copies; numbers = z.numbers; long = r.long; rows = r.few; seven = deps-seven s t o j; few = λ q l. z.fit o j io q l }

  seven-more : length more ≡ 7
  seven-more = beyond-seven n s g (u o j).vote.deps raise-taking

  -- the beginning before: no instance, or a shorter beginning
  before-by : (P : List ℕ → Type 0) → P no_deps → (1 < j → P (marks_at g (slot_of o (j - 1)))) → P before
  before-by P a b = go (dec_lt 1 j)
    where
      go : Dec (1 < j) → P before
      go (yes l) = rw (← before-later g o j l) (b l)
      go (no l) = rw (← before-first g o j (omega arith)) a

  seven-before : length before ≡ 7
  seven-before = before-by (λ b. length b ≡ 7) refl (λ l. row-seven g (slot_of o (j - 1)))

  shorter : 1 < j → Inst n s o (j - 1)
  shorter l = record { owner = io.owner; first = omega arith; last = omega (arith, io.last) }

  -- the entries in h, where what o.j reaches is worked out
  pub raise-first : (h : List ℕ) → length h ≡ 6272 → ((i : ℕ) → get_or t i 0 < 256) → {y : ℕ} {d h₁ : List ℕ} → y ≡ x → d ≡ (u o j).vote.deps → h₁ ≡ put_row h y d
      → (marks_at h₁ y ≡ (u o j).vote.deps) × Within h₁ y
  raise-first h l b {y = y} {d = d} ey e eh =
      let w = put_first h y d (record { long = l; place = rw ey at_place.place }) (rw e (fits_in s t o j b).vote.deps) eh in
      (w.0 ∙ e, w.1)

  -- as it was read, with h₁ the list where what o.j reaches was worked out
  pub raise-read : (h₁ : List ℕ) {y : ℕ} {v m w b k : List ℕ} → y ≡ slot_of o j → marks_at h₁ y ≡ beyond_in n n g (u o j).vote.deps → v ≡ marks_at g y → m ≡ marks_at h₁ y → w ≡ join v m → b ≡ before_in g o j
      → k ≡ join w b → k ≡ row
  raise-read h₁ ey eh ev em ew eb ek = ek ∙ rw (ew, eb, ev, em, eh, ey)

  module _ (bytes : (i : ℕ) → get_or g i 0 < 256) (reached : DepsFit more) where
    abbrev g' : List ℕ
    g' = put_row g x row

    fits : DepsFit row
    fits = join-fits (join old more) before (join-fits old more (row_fits g x bytes) reached)
        (before-by DepsFit none-fits (λ l. row_fits g (slot_of o (j - 1)) bytes))

    own : marks_at g' x ≡ row
    own = put-own g x row at_place fits

    -- o.j's own row, or another's
    by : (P : ℕ → ℕ → List ℕ → Type 0) → P o j row → ((q i : ℕ) → Inst n s q i → P q i (marks_at g (slot_of q i))) → (q i : ℕ) → Inst n s q i → P q i (marks_at g' (slot_of q i))
    by P a b q i iq = go (ℕ_discrete q o) (ℕ_discrete i j)
      where
        apart : (slot_of q i ≡ x → ⊥) → P q i (marks_at g' (slot_of q i))
        apart d = rw (put_other g x row at_place (slot_of q i) (omega (arith, iq.owner, iq.first, iq.last, z.copies, z.numbers)) d) (b q i iq)

        go : Dec (q ≡ o) → Dec (i ≡ j) → P q i (marks_at g' (slot_of q i))
        go (yes v) (yes w) = rw (v, w, own) a
        go (yes v) (no w) = apart (λ d. w (omega (arith, iq.first, iq.last, io.first, io.last, z.numbers)))
        go (no v) w = apart (λ d. v (omega (arith, iq.first, iq.last, io.first, io.last, z.numbers)))

    -- a mark of the new row is one of three rows'
    one : (P : ℕ → Type 0) (m : ℕ) → P (get_or old m 0) → P (get_or more m 0) → P 0 → (1 < j → P (get_or (marks_at g (slot_of o (j - 1))) m 0)) → P (get_or row m 0)
    one P m a b c d =
        ⊎_elim (λ (f : get_or row m 0 ≡ get_or old m 0). rw f a)
        (⊎_elim (λ (f : get_or row m 0 ≡ get_or more m 0). rw f b)
        (λ (f : get_or row m 0 ≡ get_or before m 0). rw f (before-by (λ v. P (get_or v m 0)) (rw (none-at m) c) d)))
        (new-one old more before (row-seven g x) seven-more seven-before m)

    few : (q i : ℕ) → Inst n s q i → (m : ℕ) → m < n → marks_of g' q i m ≤ s
    few = by (λ q i v. (m : ℕ) → m < n → get_or v m 0 ≤ s)
        (λ m l. one (λ v. v ≤ s) m (r.few o j io m l) (beyond-few n s g (u o j).vote.deps raise-taking m l) (omega arith) (λ w. r.few o (j - 1) (shorter w) m l))
        (λ q i iq m l. r.few q i iq m l)

    from : From n s u (marks_of g')
    from = by (λ q i v. (p k : ℕ) → Inst n s p k → k ≤ get_or v p 0 → (y : ℕ) × Inst n s q y × (y ≤ i) × Comes n s u q y p k)
        (λ p k ip. one (λ v. k ≤ v → (y : ℕ) × Inst n s o y × (y ≤ j) × Comes n s u o y p k) p
        (λ l. r.from o j io p k ip l)
        (λ l. (j, io, omega arith, beyond-comers n s g (u o j).vote.deps raise-taking u o j io r.from (comers-own n s u o j io) p k ip l))
        (λ l. absurd (omega (arith, ip.first)))
        (λ w l. longer p k w (r.from o (j - 1) (shorter w) p k ip l)))
        (λ q i iq p k ip l. r.from q i iq p k ip l)
      where
        longer : (p k : ℕ) → 1 < j → (y : ℕ) × Inst n s o y × (y ≤ j - 1) × Comes n s u o y p k → (y : ℕ) × Inst n s o y × (y ≤ j) × Comes n s u o y p k
        longer p k w (y, iy, ly, c) = (y, iy, omega arith, c)

    kept : Kept n s g g'
    kept q i iq m = by (λ q i v. (m : ℕ) → get_or (marks_at g (slot_of q i)) m 0 ≤ get_or v m 0) (λ m. new-old old more before (row-seven g x) seven-more seven-before m) (λ q i iq m. omega arith) q i iq m

    holds : Holds n s u (marks_of g) o (j - 1) → Holds n s u (marks_of g') o j
    holds h i ii l q = rw own (⊎_elim (λ (e : i ≡ j). rw e last) (λ (e : i < j). sooner e) (eq-or-lt_of_le {n = i} {m = j} l))
      where
        last : entry_of u o j q ≤ get_or row q 0
        last = omega (arith, beyond-old n s g (u o j).vote.deps raise-taking q, new-more old more before (row-seven g x) seven-more seven-before q)

        sooner : i < j → entry_of u o i q ≤ get_or row q 0
        sooner e =
            let w : 1 < j = omega (arith, ii.first) in
            let b : get_or (marks_at g (slot_of o (j - 1))) q 0 ≤ get_or row q 0 = rw (before-later g o j w) (new-before old more before (row-seven g x) seven-more seven-before q) in
            omega (arith, h i ii (omega arith) q)

    pub raise-raised : Raised n s u g g' o j
    raise-raised = record { rows = record { long = put-long g x row at_place; few = few; from = from }; kept = kept; holds = holds }
