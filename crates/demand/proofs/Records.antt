-- A table's bytes as records, blank out of range: put into the bytes is put into the records. Assumes nothing.
use Prim.Native.Nat.{ℕ, ◌<◌}
use mathlib.Core.Path.{◌≡◌, refl, sym, fun_ext}
use mathlib.Core.Bool.{Bool, true, false, ◌&&◌, ◌||◌, cond}
use mathlib.Core.List.{List}
use native.Mathlib.Omega.{arith}
use lib.Dec.{eqb}
use borrow.Author.Tests.{eqb-true, lt-ltb}
use Rattle.paper.specs.Setup.{setup_ok, copies_ok}
use Rattle.paper.specs.Instance.{instance_ok}
use Rattle.paper.specs.Vote.{blank}
use Rattle.paper.specs.declared.Record.{Record}
use Rattle.rules.specs.Seen.{Records}
use Rattle.rules.specs.Events.{put}
use Rattle.table.specs.Table.{blank_table, record_in, put_record, Kept}
use Rattle.table.specs.Calls.{part_of, put_part}
use Rattle.table.specs.Sizes.{Names}
use Rattle.table.proofs.Laws.{sizes, names}
use Rattle.table.proofs.Round.{get-put, get-put-other, record-whole}
use Rattle.table.proofs.Kept.{put-kept, saved-is, blank-record, blank-kept}
use Rattle.seen.specs.Records.{records_in}
use Rattle.closed.specs.Held.{Held, SoundRecords}
use Rattle.closed.proofs.Laws.{two, both, clash, eqb-self}
use Rattle.closed.proofs.Shapes.{blank-held}
use Rattle.gate.proofs.Held.{sound-records}
use Rattle.safety.specs.Run.{Setup}
use Rattle.demand.proofs.Range.{Alike}

-- the records of a table, blank where there is no instance
pub records : ℕ → ℕ → List ℕ → Records
records n s t o j = cond (instance_ok n s o j) (record_in s t o j) blank

module _ (n s : ℕ) where
  pub at-range : (t : List ℕ) (o j : ℕ) → instance_ok n s o j ≡ true → records n s t o j ≡ record_in s t o j
  unfolding records
  at-range t o j i = rw i

  pub alike : (t : List ℕ) → Alike n s (records_in s t) (records n s t)
  alike t o j i = sym (at-range t o j i)

  -- every copy of a setup has its numbers
  pub setup-at : Setup n s → (c : ℕ) → c < n → setup_ok n s c ≡ true
  unfolding setup_ok
  setup-at h c l = both _ _ (both _ _ h.copies h.numbers) (lt-ltb c n l)

  some-copy : copies_ok n ≡ true → 0 < n
  some-copy h = go (eqb n 3) (eqb n 5) refl refl h
    where
      go : (a b : Bool) → eqb n 3 ≡ a → eqb n 5 ≡ b → (a || b || eqb n 7) ≡ true → 0 < n
      go true b e f k = omega (arith, eqb-true n 3 e)
      go false true e f k = omega (arith, eqb-true n 5 f)
      go false false e f k = omega (arith, eqb-true n 7 k)

  -- a blank table is sound, and its records are blank
  pub blank-table : Setup n s → (c : ℕ) → c < n → Kept n s c (blank_table n s c)
  blank-table h c l = blank-kept n s c (setup-at h c l) (blank-held n s c 0).fits (λ o. (blank-held n s c o).sound)

  pub blank-records : Setup n s → (c : ℕ) → records n s (blank_table n s c) ≡ (λ o j. blank)
  unfolding records
  blank-records h c = fun_ext (λ o. fun_ext (λ j. go o j (instance_ok n s o j) refl))
    where
      go : (o j : ℕ) (b : Bool) → instance_ok n s o j ≡ b → cond b (record_in s (blank_table n s c) o j) blank ≡ blank
      go o j false e = refl
      go o j true e =
          let a : Names n s o j = names n s 0 (blank_table n s 0) o j (blank-table h 0 (some-copy h.copies)).setup e in
          blank-record n s c o j a (blank-held n s c o).fits

  module _ (c : ℕ) (t : List ℕ) (k : Kept n s c t) where
    pub held : SoundRecords n s c (records_in s t)
    held = sound-records n s c t k.bytes k.setup k.sound

    -- what is saved of an instance is its record
    pub saved-record : (disk : List ℕ) (o j : ℕ) → instance_ok n s o j ≡ true → put_part s disk o j (part_of n s c t o j) ≡ put_record s disk o j (record_in s t o j)
    saved-record disk o j i = saved-is n s c disk t o j k.setup i (record-whole n s c t k o j (names n s c t o j k.setup i))

    -- a record that holds is put into the table
    module _ (o j : ℕ) (i : instance_ok n s o j ≡ true) (r : Record) (h : Held n s c o r) where
      pub put-held : Kept n s c (put_record s t o j r)
      put-held = put-kept n s c t k o j i r h.fits h.sound

      pub put-here : record_in s (put_record s t o j r) o j ≡ r
      put-here = get-put n s t (sizes n s c t k.setup).long o j (names n s c t o j k.setup i) r h.fits.seven h.fits

      pub put_other : (p q : ℕ) → instance_ok n s p q ≡ true → ((o ≡ p) × (j ≡ q) → ⊥) → record_in s (put_record s t o j r) p q ≡ record_in s t p q
      put_other p q e ne =
          get-put-other n s t (sizes n s c t k.setup).long o j (names n s c t o j k.setup i) r h.fits.seven p q (names n s c t p q k.setup e) ne

      pub put-records : records n s (put_record s t o j r) ≡ put (records n s t) o j r
      unfolding records put
      put-records = fun_ext (λ p. fun_ext (λ q. go p q (eqb p o && eqb q j) refl))
        where
          other : (p q : ℕ) → ((o ≡ p) × (j ≡ q) → ⊥) → (b : Bool) → instance_ok n s p q ≡ b
              → cond b (record_in s (put_record s t o j r) p q) blank ≡ cond b (record_in s t p q) blank
          other p q ne false e = refl
          other p q ne true e = put_other p q e ne

          go : (p q : ℕ) (b : Bool) → (eqb p o && eqb q j) ≡ b
              → cond (instance_ok n s p q) (record_in s (put_record s t o j r) p q) blank ≡ cond b r (cond (instance_ok n s p q) (record_in s t p q) blank)
          go p q true e = let (x, y) = two _ _ e in rw (eqb-true p o x, eqb-true q j y, i) put-here
          go p q false e =
              other p q (λ (x, y). let z : (eqb p o && eqb q j) ≡ true = rw (← x, ← y) (both _ _ (eqb-self o) (eqb-self j)) in clash (cc)) (instance_ok n s p q) refl
