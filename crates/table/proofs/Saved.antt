-- A part that was saved: what it holds, and what it is to put it back. Assumes nothing.
use Prim.Native.Nat.{ℕ}
use mathlib.Core.Path.{◌≡◌, sym, ap, ◌∙◌}
use mathlib.Core.Bool.{true}
use mathlib.Core.List.{List}
use native.Mathlib.Omega.{arith}
use lib.ListN.{length, length-take, length-drop}
use Rattle.numbers.specs.Num.{Bytes, splice}
use Rattle.paper.specs.Instance.{instance_ok}
use Rattle.record.specs.Part.{sound_part}
use Rattle.record.specs.Layout.{record_at, record_bytes}
use Rattle.record.proofs.Round.{part-whole}
use Rattle.record.proofs.Written as written
use Rattle.record.proofs.Written.{record_at-fits}
use Rattle.table.specs.Place.{table_length, place_of, part_at}
use Rattle.table.specs.Sizes.{Names}
use Rattle.table.specs.Table.{fits_setup, record_in, put_record, Whole, Kept}
use Rattle.table.specs.Calls.{part_of, part_size, record_of, put_part}
use Rattle.table.proofs.Laws.{sizes, names, place_end}
use Rattle.table.proofs.Round.{put-long, put-own, put-part, get-put, sound-at, part_bytes}

-- put back as it is, or its record written anew: the same bytes
pub part-put : (n s c : ℕ) (t : List ℕ) (o j : ℕ) (part : List ℕ) → length part ≡ part_size → Bytes part → sound_part n s c o part ≡ true
    → put_part s t o j part ≡ put_record s t o j (record_of part)
unfolding put_part put_record
part-put n s c t o j part long bytes sound = ap (splice t (place_of s o j)) (sym (part-whole n s c o part sound bytes long))

-- the part of an instance
module _ (n s c : ℕ) (t : List ℕ) (o j : ℕ) (fits : fits_setup n s c t ≡ true) (range : instance_ok n s o j ≡ true) where
  here : Names n s o j
  here = names n s c t o j fits range

  pub part-size : length (part_of n s c t o j) ≡ part_size
  unfolding part_of
  part-size = rw (fits, range) (simp (length-take, length-drop) (omega (arith, place_end n s o j here, (sizes n s c t fits).long)))

  pub part-record : record_of (part_of n s c t o j) ≡ record_in s t o j
  unfolding part_of record_in
  part-record = rw (fits, range)

  pub part-of-bytes : Bytes t → Bytes (part_of n s c t o j)
  unfolding part_of
  part-of-bytes b = rw (fits, range) (part_bytes t (place_of s o j) b)

pub part-of-sound : (n s c : ℕ) (t : List ℕ) → Kept n s c t → (o j : ℕ) → instance_ok n s o j ≡ true → sound_part n s c o (part_of n s c t o j) ≡ true
unfolding part_of
part-of-sound n s c t k o j range = rw (k.setup, range) (sound-at n s c t k.sound o j (names n s c t o j k.setup range))

-- a part that was saved is put back: what is read of its instance, what of every other, and that each is written as its bytes
module _ (n s c : ℕ) (t : List ℕ) (long : length t ≡ table_length n s) (o j : ℕ) (a : Names n s o j) (part : List ℕ) (size : length part ≡ part_size) (bytes : Bytes part) (sound : sound_part n s c o part ≡ true) where
  as-record : put_part s t o j part ≡ put_record s t o j (record_of part)
  as-record = part-put n s c t o j part size bytes sound

  seven : length (record_of part).replies ≡ 7
  seven = written.replies-seven part

  own-part : part_at (put_record s t o j (record_of part)) (place_of s o j) ≡ record_bytes (record_of part)
  own-part = put-own n s t long o j a (record_of part) seven

  own : record_in s (put_record s t o j (record_of part)) o j ≡ record_of part
  own = get-put n s t long o j a (record_of part) seven (record_at-fits part bytes)

  pub back_long : length (put_part s t o j part) ≡ length t
  back_long = ap length as-record ∙ put-long n s t long o j a (record_of part) seven

  pub back-own : record_in s (put_part s t o j part) o j ≡ record_of part
  back-own = rw as-record own

  pub back_whole : Whole s (put_part s t o j part) o j
  unfolding Whole
  back_whole = rw as-record (ap record_bytes own ∙ sym own-part)

  module _ (p k : ℕ) (b : Names n s p k) (d : (o ≡ p) × (j ≡ k) → ⊥) where
    other-part : part_at (put_record s t o j (record_of part)) (place_of s p k) ≡ part_at t (place_of s p k)
    other-part = put-part n s t long o j a (record_of part) seven p k b d

    pub back-other : record_in s (put_part s t o j part) p k ≡ record_in s t p k
    unfolding record_in
    back-other = rw as-record (ap record_at other-part)

    pub back-whole-other : Whole s t p k → Whole s (put_part s t o j part) p k
    unfolding Whole record_in
    back-whole-other v = rw as-record (ap (λ (b : List ℕ). record_bytes (record_at b)) other-part ∙ v ∙ sym other-part)
