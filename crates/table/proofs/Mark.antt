-- A mark is one byte of its record: written alone, it is the record put with that mark. Assumes nothing.
use Prim.Native.Nat.{ℕ, ◌+◌, ◌≤◌, ◌<◌}
use mathlib.Core.Path.{◌≡◌, sym, ap, ◌∙◌}
use mathlib.Core.List.{List}
use native.Mathlib.Omega.{arith}
use lib.ListN.{length, set, take, drop, length-set, length-take, length-drop}
use lib.Seq.{take-set-le, take-set-lt, drop-set-lt, drop-set-add}
use Rattle.numbers.specs.Num.{splice}
use Rattle.numbers.proofs.Laws.{splice-own}
use Rattle.record.specs.Layout.{mark_place, record_length, record_at, record_bytes, with_mark}
use Rattle.record.proofs.Written.{marked-bytes, marked-back}
use Rattle.table.specs.Place.{place_of, part_at}
use Rattle.table.specs.Sizes.{Names, Has}
use Rattle.table.specs.Table.{record_in, put_record, Whole}
use Rattle.table.proofs.Laws.{place_end}
use Rattle.table.proofs.Round.{put-own, put-part, replies-seven}

-- one byte of a part, written alone
set-part : (t : List ℕ) (a k i x : ℕ) → a + k ≤ length t → i < k → set t (a + i) x ≡ splice t a (set (take k (drop a t)) i x)
unfolding splice
set-part t a k i x l m =
    let v : take k (drop a (set t (a + i) x)) ≡ set (take k (drop a t)) i x = ap (take k) (drop-set-add a t i x) ∙ take-set-lt k (drop a t) i x m in
    let b : take a (set t (a + i) x) ≡ take a t = take-set-le a t (a + i) x (omega arith) in
    let n : length (set (take k (drop a t)) i x) ≡ k =
    length-set (take k (drop a t)) i x ∙ simp (length-take, length-drop) (omega arith) in
    let d : drop (a + k) (set t (a + i) x) ≡ drop (a + k) t = drop-set-lt (a + k) t (a + i) x (omega arith) in
    sym (splice-own (set t (a + i) x) a k (omega (arith, length-set t (a + i) x))) ∙ rw (v, b, n, d)

module _ (n s : ℕ) (t : List ℕ) (o j : ℕ) (h : Has n s o j t) (w : Whole s t o j) where
  fit : place_of s o j + record_length ≤ length t
  fit = omega (arith, place_end n s o j h.names, h.long)

  -- the byte that is written
  pub mark-put : {at : ℕ} → at ≡ place_of s o j → set t (at + mark_place) 1 ≡ put_record s t o j (with_mark (record_in s t o j) 1)
  unfolding put_record Whole
  mark-put ea =
      rw ea (set-part t (place_of s o j) record_length mark_place 1 fit (omega arith)
      ∙ ap (splice t (place_of s o j)) (sym (marked-bytes (record_in s t o j) ∙ ap (λ (b : List ℕ). set b mark_place 1) w)))

  seven : length (with_mark (record_in s t o j) 1).replies ≡ 7
  seven = replies-seven s t o j

  own-part : part_at (put_record s t o j (with_mark (record_in s t o j) 1)) (place_of s o j) ≡ record_bytes (with_mark (record_in s t o j) 1)
  own-part = put-own n s t h.long o j h.names (with_mark (record_in s t o j) 1) seven

  -- what is read back, and that it is still written as its bytes
  pub get-mark : record_in s (put_record s t o j (with_mark (record_in s t o j) 1)) o j ≡ with_mark (record_in s t o j) 1
  unfolding record_in Whole
  get-mark = ap record_at own-part ∙ marked-back (record_in s t o j) (ap record_at w)

  pub whole-mark : Whole s (put_record s t o j (with_mark (record_in s t o j) 1)) o j
  unfolding Whole
  whole-mark = ap record_bytes get-mark ∙ sym own-part

  pub whole-other : (p k : ℕ) → Names n s p k → ((o ≡ p) × (j ≡ k) → ⊥) → Whole s t p k → Whole s (put_record s t o j (with_mark (record_in s t o j) 1)) p k
  unfolding Whole record_in
  whole-other p k a d v =
      let e = put-part n s t h.long o j h.names (with_mark (record_in s t o j) 1) seven p k a d in
      ap (λ (b : List ℕ). record_bytes (record_at b)) e ∙ v ∙ sym e
