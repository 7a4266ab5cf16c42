-- Tables that neither 1 nor 11 refuses: a blank one is, and one stays so when a sound record is put into it. Assumes nothing.
use Prim.Native.Nat.{ℕ, zero, suc, ◌+◌, ◌*◌, ◌-◌, ◌≤◌, ◌<◌}
use mathlib.Core.Path.{◌≡◌, refl, sym, ap, ◌∙◌}
use mathlib.Core.Logic.{inl}
use mathlib.Core.Bool.{Bool, true, ◌&&◌}
use mathlib.Core.List.{List, [], ◌∷◌}
use native.Mathlib.Omega.{arith}
use native.Mathlib.Decide.{ℕ_discrete}
use lib.Dec.{eqb}
use lib.ListN.{length, get_or, take, drop, replicate, length-replicate, length-take, length-drop}
use lib.Seq.{get_or-take, get_or-drop, ext_get_or}
use borrow.Author.Tests.{eq-eqb}
use Rattle.numbers.specs.Num.{splice}
use Rattle.paper.specs.Fits.{RecordFits}
use Rattle.paper.specs.Setup.{setup_ok}
use Rattle.paper.specs.Instance.{instance_ok}
use Rattle.paper.specs.Sound.{sound_record}
use Rattle.paper.specs.Vote.{blank}
use Rattle.paper.proofs.Laws.{and-true}
use Rattle.paper.specs.declared.Record.{Record}
use Rattle.record.specs.Layout.{record_length, record_at, record_bytes}
use Rattle.numbers.specs.Num.{Bytes}
use Rattle.record.specs.Part.{sound_part}
use Rattle.record.proofs.Round.{record_at-record_bytes}
use Rattle.record.proofs.Written.{Are, append, written-bytes, all_in, written-sound, blank-bytes}
use Rattle.table.specs.Place.{head_length, table_length, place_at, place_of, part_at}
use Rattle.table.specs.Table.{fits_setup, head_is, sound_row, sound_table, blank_table, record_in, put_record, Whole, Kept}
use Rattle.table.specs.Calls.{part_of, part_start, put_part}
use Rattle.table.specs.Sizes.{Names}
use Rattle.table.proofs.Laws.{sizes, names, place_end, setup-bounds}
use Rattle.table.proofs.Round.{put-long, put-own, put-part, put-frame, sound-at}

take_at : (k : ℕ) (a : List ℕ) → Bytes a → Bytes (take k a)
take_at zero a f i = omega arith
take_at (suc k) [] f i = omega arith
take_at (suc k) (x ∷ a) f zero = f zero
take_at (suc k) (x ∷ a) f (suc i) = take_at k a (λ m. f (suc m)) i

drop_at : (k : ℕ) (a : List ℕ) → Bytes a → Bytes (drop k a)
drop_at k a f i = rw (get_or-drop k a i 0) (f (k + i))

splice_at : (t : List ℕ) (at : ℕ) (v : List ℕ) → Bytes t → Are v → Bytes (splice t at v)
unfolding splice
splice_at t at v f g =
    let front : Are (take at t) = record { at = take_at at t f } in
    let back : Are (drop (at + length v) t) = record { at = drop_at (at + length v) t f } in
    (append (append front g) back).at

both : (a b : Bool) → a ≡ true → b ≡ true → (a && b) ≡ true
both a b e f = rw (e, f)

-- a table's soundness from that of its parts
sound-in : (n s c : ℕ) (t : List ℕ) → head_is n s c t ≡ true
    → ((o j : ℕ) → o < n → 1 ≤ j → j ≤ s → sound_part n s c o (part_at t (place_of s o j)) ≡ true) → sound_table n s c t ≡ true
unfolding sound_table sound_row
sound-in n s c t h each =
    both _ _ h
    (all_in n (sound_row n s c t)
    (λ o l. all_in s (λ i. sound_part n s c o (part_at t (place_at s o i)))
    (λ i m. let e : i + 1 - 1 ≡ i = omega arith in rw e at (each o (i + 1) l (omega arith) (omega arith)))))

-- a sound record is put into a table
module _ (n s c : ℕ) (t : List ℕ) (k : Kept n s c t) (o j : ℕ) (i : instance_ok n s o j ≡ true) (r : Record) (f : RecordFits r) (h : sound_record n s c o r ≡ true) where
  abbrev here : Names n s o j
  here = names n s c t o j k.setup i

  abbrev long : length t ≡ table_length n s
  long = (sizes n s c t k.setup).long

  other : (p q : ℕ) → p < n → 1 ≤ q → q ≤ s → ((o ≡ p) × (j ≡ q) → ⊥) → sound_part n s c p (part_at (put_record s t o j r) (place_of s p q)) ≡ true
  other p q lp l1 ls ne =
      let a : Names n s p q = record { copies = here.copies; numbers = here.numbers; owner = lp; first = l1; last = ls } in
      rw (put-part n s t long o j here r f.seven p q a ne) (sound-at n s c t k.sound p q a)

  head-stays : head_is n s c (put_record s t o j r) ≡ head_is n s c t
  unfolding head_is place_at
  head-stays =
      let l = place_end n s o j here in
      let g : (i : ℕ) → i < head_length → get_or (put_record s t o j r) i 0 ≡ get_or t i 0 =
      λ i m. put-frame n s t long o j here r f.seven i (inl (omega arith)) (omega (arith, long)) in
      rw (g 0 (omega arith), g 1 (omega arith), g 2 (omega arith))

  part : (p q : ℕ) → p < n → 1 ≤ q → q ≤ s → Dec (o ≡ p) → Dec (j ≡ q) → sound_part n s c p (part_at (put_record s t o j r) (place_of s p q)) ≡ true
  part p q lp l1 ls (yes e) (yes g) = rw (← e, ← g, put-own n s t long o j here r f.seven) (written-sound n s c o r f h)
  part p q lp l1 ls (yes e) (no g) = other p q lp l1 ls (λ z. g z.1)
  part p q lp l1 ls (no g) e = other p q lp l1 ls (λ z. g z.0)

  put-bytes : Bytes (put_record s t o j r)
  unfolding put_record
  put-bytes = splice_at t (place_of s o j) (record_bytes r) k.bytes (written-bytes r)

  pub put-kept : Kept n s c (put_record s t o j r)
  unfolding fits_setup sound_table
  put-kept = record {
    bytes = put-bytes;
    setup = rw (put-long n s t long o j here r f.seven) k.setup;
    sound = sound-in n s c _ (head-stays ∙ (and-true _ _ k.sound).0) (λ p q lp l1 ls. part p q lp l1 ls (ℕ_discrete o p) (ℕ_discrete j q));
  }

-- what is saved of o.j is the record that stands in the table t
pub saved-is : (n s c : ℕ) (disk t : List ℕ) (o j : ℕ) → fits_setup n s c t ≡ true → instance_ok n s o j ≡ true → Whole s t o j
    → put_part s disk o j (part_of n s c t o j) ≡ put_record s disk o j (record_in s t o j)
unfolding put_part part_of put_record Whole
saved-is n s c disk t o j f i w = rw (f, i) (ap (splice disk (place_of s o j)) (sym w))

-- and that part goes where the library says that it starts
pub saved-at : (n s c : ℕ) (disk t : List ℕ) (o j : ℕ) → fits_setup n s c t ≡ true → instance_ok n s o j ≡ true
    → put_part s disk o j (part_of n s c t o j) ≡ splice disk (part_start n s c t o j) (part_of n s c t o j)
unfolding put_part part_of part_start
saved-at n s c disk t o j f i = rw (f, i)

zero-at : (k i : ℕ) → ◌≡◌ {A = ℕ} (get_or (replicate k 0) i 0) 0
zero-at zero i = refl
zero-at (suc k) zero = refl
zero-at (suc k) (suc i) = zero-at k i

-- a blank table
module _ (n s c : ℕ) where
  blank-long : length (blank_table n s c) ≡ table_length n s
  unfolding blank_table
  blank-long = omega (arith, length-replicate {A = ℕ} (record_length * (n * s)) 0)

  blank-at : (i : ℕ) → get_or (blank_table n s c) (head_length + i) 0 ≡ 0
  unfolding blank_table
  blank-at i = let e : head_length + i ≡ suc (suc (suc i)) = omega arith in rw e (zero-at (record_length * (n * s)) i)

  blank_part : (o j : ℕ) → Names n s o j → part_at (blank_table n s c) (place_of s o j) ≡ record_bytes blank
  unfolding place_at
  blank_part o j a =
      let at : ℕ = o * s + (j - 1) in
      let l = blank-long in
      let p : head_length + record_length * at + record_length ≤ table_length n s = place_end n s o j a in
      let z : length (part_at (blank_table n s c) (head_length + record_length * at)) ≡ record_length = simp (length-take, length-drop) (omega arith) in
      ext_get_or 0 _ _ (z ∙ sym (ap length blank-bytes ∙ length-replicate {A = ℕ} record_length 0))
      (λ i m.
      let e : head_length + record_length * at + i ≡ head_length + (record_length * at + i) = omega arith in
      rw (get_or-take record_length (drop (head_length + record_length * at) (blank_table n s c)) i 0 (omega arith), get_or-drop (head_length + record_length * at) (blank_table n s c) i 0, e, blank-at (record_length * at + i), blank-bytes)
      (sym (zero-at record_length i)))

  -- its records are blank
  pub blank-record : (o j : ℕ) → Names n s o j → RecordFits blank → record_in s (blank_table n s c) o j ≡ blank
  unfolding record_in
  blank-record o j a f = ap record_at (blank_part o j a) ∙ record_at-record_bytes blank f

  head : 1 ≤ n → n ≤ 7 → 1 ≤ s → s ≤ 64 → c < n → Bytes (blank_table n s c)
  unfolding blank_table
  head n1 n7 s1 s64 cn zero = omega arith
  head n1 n7 s1 s64 cn (suc zero) = omega arith
  head n1 n7 s1 s64 cn (suc (suc zero)) = omega arith
  head n1 n7 s1 s64 cn (suc (suc (suc i))) = rw (zero-at (record_length * (n * s)) i) (omega arith)

  fit : setup_ok n s c ≡ true → fits_setup n s c (blank_table n s c) ≡ true
  unfolding fits_setup
  fit h = both _ _ h (eq-eqb _ _ blank-long)

  heads : head_is n s c (blank_table n s c) ≡ true
  unfolding head_is blank_table
  heads =
      let z : (x : ℕ) → eqb (x + 256 * 0) x ≡ true = λ x. eq-eqb (x + 256 * 0) x (omega arith) in
      both _ _ (both _ _ (z n) (z s)) (z c)

  pub blank-kept : setup_ok n s c ≡ true → RecordFits blank → ((o : ℕ) → sound_record n s c o blank ≡ true) → Kept n s c (blank_table n s c)
  blank-kept h f b =
      let (n1, n7, s1, s64, cn) = setup-bounds n s c h in
      record {
        bytes = head n1 n7 s1 s64 cn;
        setup = fit h;
        sound =
            sound-in n s c _ heads
            (λ o j lo l1 ls. rw (blank_part o j (record { copies = n7; numbers = s64; owner = lo; first = l1; last = ls })) (written-sound n s c o blank f (b o)));
      }
