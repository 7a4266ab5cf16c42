-- One record in and out of a table: get after put, put after get, and every byte that a put leaves. Assumes nothing.
use mathlib.Core.Path.{◌≡◌, refl, sym, ap, ◌∙◌}
use mathlib.Core.Bool.{Bool, true, false}
use mathlib.Core.List.{List, [], ◌∷◌}
use mathlib.Core.Logic.{◌⊎◌, inl, inr, ⊎_elim}
use Prim.Native.Nat.{ℕ, zero, suc, ◌+◌, ◌*◌, ◌-◌, ◌≤◌, ◌<◌}
use native.Mathlib.Omega.{arith}
use native.Mathlib.Nat.{mul-le-mul_right, suc-mul, eq-or-lt_of_le}
use lib.Dec.{leb}
use borrow.Author.Tests.{leb-true, leb-false}
use lib.ListN.{length, get_or, take, drop, length-take, length-drop}
use lib.Seq.{get_or-take, get_or-drop}
use Rattle.numbers.specs.Num.{splice}
use Rattle.numbers.proofs.Laws.{splice-same, splice-before, splice-after, splice-own, length-splice}
use Rattle.paper.specs.Logic.{all_below}
use Rattle.paper.specs.Sound.{sound_record}
use Rattle.paper.proofs.Laws.{and-true, all_below-at}
use Rattle.paper.specs.declared.Record.{Record}
use Rattle.record.specs.Layout.{record_length, record_at, record_bytes}
use Rattle.numbers.specs.Num.{Bytes}
use Rattle.record.specs.Part.{sound_part}
use Rattle.record.proofs.Laws.{length-record_bytes}
use Rattle.record.proofs.Round.{record_at-record_bytes, part_sound, part-whole}
use Rattle.record.proofs.Written as written
use Rattle.record.proofs.Written.{record_at-fits}
use Rattle.paper.specs.Fits.{RecordFits}
use Rattle.table.specs.Place.{table_length, place_at, place_of, part_at}
use Rattle.table.specs.Table.{head_is, sound_row, sound_table, record_in, put_record, Whole, Kept}
use Rattle.table.specs.Sizes.{Names}
use Rattle.table.proofs.Laws.{sizes, place_end}

le-or-gt : (a b : ℕ) → (a ≤ b) ⊎ (b < a)
le-or-gt a b = go (leb a b) refl
  where
    go : (x : Bool) → leb a b ≡ x → (a ≤ b) ⊎ (b < a)
    go true e = inl (leb-true a b e)
    go false e = inr (leb-false a b e)

-- two instances stand apart
pub place-apart : (n s o j p k : ℕ) → Names n s o j → Names n s p k → ((o ≡ p) × (j ≡ k) → ⊥)
    → (place_of s o j + record_length ≤ place_of s p k) ⊎ (place_of s p k + record_length ≤ place_of s o j)
unfolding place_at
place-apart n s o j p k a b ne =
    ⊎_elim
    (λ (l : o ≤ p). ⊎_elim
    (λ (e : o ≡ p). ⊎_elim
    (λ (m : j ≤ k). ⊎_elim
    (λ (f : j ≡ k). absurd (ne (e, f)))
    (λ (g : j < k). inl (let q : o * s ≡ p * s = ap (λ (x : ℕ). x * s) e in omega (arith, a.first)))
    (eq-or-lt_of_le m))
    (λ (m : k < j). inr (let q : o * s ≡ p * s = ap (λ (x : ℕ). x * s) e in omega (arith, b.first)))
    (le-or-gt j k))
    (λ (g : o < p). inl (let q : suc o * s ≤ p * s = mul-le-mul_right s g in omega (arith, suc-mul o s, a.last, a.first, b.first)))
    (eq-or-lt_of_le l))
    (λ (g : p < o). inr (let q : suc p * s ≤ o * s = mul-le-mul_right s g in omega (arith, suc-mul p s, b.last, b.first, a.first)))
    (le-or-gt o p)

part-of-after : (t : List ℕ) (a : ℕ) (v : List ℕ) (b : ℕ) → a + length v ≤ b → b ≤ length t → part_at (splice t a v) b ≡ part_at t b
part-of-after t a v b h l = ap (take record_length) (splice-after t a v b h l)

-- a table long enough for the setup, an instance, and a record to put there
module _ (n s : ℕ) (t : List ℕ) (long : length t ≡ table_length n s) (o j : ℕ) (a : Names n s o j) (r : Record) (seven : length r.replies ≡ 7) where
  fit : place_of s o j + length (record_bytes r) ≤ length t
  fit = omega (arith, place_end n s o j a, length-record_bytes r seven)

  pub put-long : length (put_record s t o j r) ≡ length t
  unfolding put_record
  put-long = length-splice t (place_of s o j) (record_bytes r) fit

  pub put-own : part_at (put_record s t o j r) (place_of s o j) ≡ record_bytes r
  unfolding put_record
  put-own = splice-same t (place_of s o j) (record_bytes r) record_length (length-record_bytes r seven) (omega (arith, place_end n s o j a))

  -- reading back what was written
  pub get-put : RecordFits r → record_in s (put_record s t o j r) o j ≡ r
  unfolding record_in
  get-put f = ap record_at put-own ∙ record_at-record_bytes r f

  -- another record's part stays
  pub put-part : (p k : ℕ) → Names n s p k → ((o ≡ p) × (j ≡ k) → ⊥) → part_at (put_record s t o j r) (place_of s p k) ≡ part_at t (place_of s p k)
  unfolding put_record
  put-part p k b ne =
      ⊎_elim
      (λ (h : place_of s o j + record_length ≤ place_of s p k). part-of-after t (place_of s o j) (record_bytes r) (place_of s p k) (omega (arith, length-record_bytes r seven)) (omega (arith, place_end n s p k b)))
      (λ (h : place_of s p k + record_length ≤ place_of s o j). splice-before t (place_of s o j) (record_bytes r) (place_of s p k) record_length h fit)
      (place-apart n s o j p k a b ne)

  pub get-put-other : (p k : ℕ) → Names n s p k → ((o ≡ p) × (j ≡ k) → ⊥) → record_in s (put_record s t o j r) p k ≡ record_in s t p k
  unfolding record_in
  get-put-other p k b ne = ap record_at (put-part p k b ne)

  -- each byte outside the record's part stays
  pub put-frame : (i : ℕ) → (i < place_of s o j) ⊎ (place_of s o j + record_length ≤ i) → i < length t → get_or (put_record s t o j r) i 0 ≡ get_or t i 0
  unfolding put_record
  put-frame i h l =
      ⊎_elim
      (λ (b : i < place_of s o j).
      let e = splice-before t (place_of s o j) (record_bytes r) i 1 (omega arith) fit in
      at_of i 0 (put_record s t o j r) t e)
      (λ (b : place_of s o j + record_length ≤ i).
      let e = splice-after t (place_of s o j) (record_bytes r) i (omega (arith, length-record_bytes r seven)) (omega arith) in
      at_of i 0 (put_record s t o j r) t (ap (take 1) e))
      h
    where
      at_of : (i d : ℕ) (x y : List ℕ) → take 1 (drop i x) ≡ take 1 (drop i y) → get_or x i d ≡ get_or y i d
      at_of i d x y e =
          let z : i + 0 ≡ i = omega arith in
          let one : (l : List ℕ) → get_or (take 1 (drop i l)) 0 d ≡ get_or l i d =
          λ l. get_or-take 1 (drop i l) 0 d (omega arith) ∙ get_or-drop i l 0 d ∙ ap (λ (k : ℕ). get_or l k d) z in
          sym (one x) ∙ ap (λ (l : List ℕ). get_or l 0 d) e ∙ one y

-- a record of a sound table is sound in its bytes
pub sound-at : (n s c : ℕ) (t : List ℕ) → sound_table n s c t ≡ true → (o j : ℕ) → Names n s o j → sound_part n s c o (part_at t (place_of s o j)) ≡ true
unfolding sound_table sound_row
sound-at n s c t h o j a =
    let rows = (and-true (head_is n s c t) (all_below n (sound_row n s c t)) h).1 in
    let row = all_below-at n (sound_row n s c t) rows o a.owner in
    all_below-at s (λ i. sound_part n s c o (part_at t (place_at s o i))) row (j - 1) (omega (arith, a.first, a.last))

get_d_past : (l : List ℕ) (i : ℕ) → length l ≤ i → get_or l i 0 ≡ 0
get_d_past [] i h = refl
get_d_past (x ∷ l) zero h = absurd (omega arith)
get_d_past (x ∷ l) (suc i) h = get_d_past l i (omega arith)

pub part_bytes : (t : List ℕ) (at : ℕ) → Bytes t → Bytes (part_at t at)
part_bytes t at b i =
    ⊎_elim
    (λ (h : record_length ≤ i). rw (get_d_past (part_at t at) i (simp length-take (omega arith))) (omega arith))
    (λ (h : i < record_length). rw (get_or-take record_length (drop at t) i 0 h, get_or-drop at t i 0) (b (at + i)))
    (le-or-gt record_length i)

-- a record as read: it fits its fields
pub fits_in : (s : ℕ) (t : List ℕ) (o j : ℕ) → Bytes t → RecordFits (record_in s t o j)
unfolding record_in
fits_in s t o j b = record_at-fits (part_at t (place_of s o j)) (part_bytes t (place_of s o j) b)

pub replies-seven : (s : ℕ) (t : List ℕ) (o j : ℕ) → length (record_in s t o j).replies ≡ 7
unfolding record_in
replies-seven s t o j = written.replies-seven (part_at t (place_of s o j))

pub deps-seven : (s : ℕ) (t : List ℕ) (o j : ℕ) → length (record_in s t o j).vote.deps ≡ 7
unfolding record_in
deps-seven s t o j = written.deps-seven (part_at t (place_of s o j))

-- a record of a sound table is sound
pub record-sound : (n s c : ℕ) (t : List ℕ) → sound_table n s c t ≡ true → (o j : ℕ) → Names n s o j → sound_record n s c o (record_in s t o j) ≡ true
unfolding record_in
record-sound n s c t h o j a = part_sound n s c o (part_at t (place_of s o j)) (sound-at n s c t h o j a)

-- and is written back as its bytes
pub record-whole : (n s c : ℕ) (t : List ℕ) → Kept n s c t → (o j : ℕ) → Names n s o j → Whole s t o j
unfolding Whole record_in
record-whole n s c t k o j a =
    let p : List ℕ = part_at t (place_of s o j) in
    let l : length p ≡ record_length = simp (length-take, length-drop) (omega (arith, place_end n s o j a, (sizes n s c t k.setup).long)) in
    part-whole n s c o p (sound-at n s c t k.sound o j a) (part_bytes t (place_of s o j) k.bytes) l

-- writing back what was read
pub put-get : (n s : ℕ) (t : List ℕ) → length t ≡ table_length n s → (o j : ℕ) → Names n s o j → Whole s t o j → put_record s t o j (record_in s t o j) ≡ t
unfolding put_record Whole record_in
put-get n s t long o j a w =
    ap (λ (v : List ℕ). splice t (place_of s o j) v) w ∙ splice-own t (place_of s o j) record_length (omega (arith, place_end n s o j a))
