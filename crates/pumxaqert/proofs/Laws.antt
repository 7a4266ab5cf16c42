-- Answers as numbers: one law for each outcome. Assumes nothing.
use mathlib.Core.Path.{◌≡◌, refl, sym, ap, ◌∙◌}
use mathlib.Core.Bool.{Bool, true, false, cond}
use mathlib.Core.List.{List}
use Prim.Native.Nat.{ℕ, zero, suc, ◌+◌, ◌-◌, ◌≤◌, ◌<◌}
use native.Mathlib.Omega.{arith}
use lib.Dec.{leb, eqb}
use lib.Pointwise.{pointwise, bytes_decides}
use lib.Seq.{ext_get_or}
use borrow.Author.Tests.{lt-ltb, le-ltb, ne_eqb, eq-eqb, eqb-true}
use Rattle.std.proofs.lemmas.Bool.Decides.{same_from_decides}
use Rattle.paper.specs.Logic.{all_below}
use Rattle.paper.proofs.Laws.{all_below-at}
use lib.ListN.{length, get_or}
use Rattle.std.specs.Prelude.{Result}
use Rattle.paper.specs.Setup.{setup_ok}
use Rattle.paper.specs.Message.{row_of, parts_of, parts_in, voted_in, joined_in}
use Rattle.paper.specs.declared.Body.{Body}
use Rattle.paper.specs.declared.Message.{Message}
use Rattle.paper.specs.declared.Parts.{Parts}
use Rattle.paper.specs.declared.Row.{Row}
use Rattle.paper.specs.declared.Field.{Field}
use Rattle.paper.specs.declared.Blame.{Blame}
use Rattle.paper.specs.declared.Blame.TheVariants as blame
use Rattle.paper.specs.declared.Refusal.{Refusal}
use Rattle.paper.specs.declared.Refusal.TheVariants.{Setup, Room, UnknownKind, WrongLength}
use Rattle.wire.specs.Calls.{refusal_of, unwritten, reading_number, reading_offset, Wrote, wrote, writing_number, writing_count, writing_offset}
use Rattle.pumxaqert.specs.Fields.{other_ballot, fields_of, read_values, message_from, same_fields, field_of, most, can_hold, carried_only, first_unheld, misfit, wrote_misfit, wrote_fields}

-- derived equality of nineteen numbers is that of each
same-self : (n : ℕ) (f : List ℕ) → all_below n (λ i. eqb (get_or f i 0) (get_or f i 0)) ≡ true
unfolding all_below
same-self zero f = refl
same-self (suc n) f = rw (eq-eqb (get_or f n 0) _ refl) (same-self n f)

pub same_fields_is : (f g : List ℕ) → length f ≡ 19 → length g ≡ 19 → pointwise eqb f g ≡ same_fields f g
unfolding same_fields
same_fields_is f g p q =
    same_from_decides (pointwise eqb f g) (same_fields f g) (bytes_decides f g) (
      (λ h. ext_get_or 0 f g (p ∙ sym q) (λ i l. eqb-true _ _ (all_below-at 19 (λ j. eqb (get_or f j 0) (get_or g j 0)) h i (omega (arith, p, l))))),
      λ (h : f ≡ g). rw h (same-self 19 g),
    )

pub other-joined : (b : Body) → (parts_in b).joined ≡ true → joined_in b ≡ other_ballot b
unfolding other_ballot
other-joined b e = rw e

pub other-voted : (b : Body) → (parts_in b).joined ≡ false → voted_in b ≡ other_ballot b
unfolding other_ballot
other-voted b e = rw e

-- what the reader ensures of its number, the fields and the offset, and the writer of its number, the count, the offset and the room
abbrev pub Reads : Result Message Refusal → ℕ → List ℕ → ℕ → Type 0
Reads x r f a = (r ≡ reading_number x) × ((f ≡ read_values x) × (a ≡ reading_offset x))

abbrev pub Writes : Wrote → ℕ → ℕ → ℕ → List ℕ → Type 0
Writes x r k a o = (r ≡ writing_number x.answer) × ((k ≡ writing_count x.answer) × ((a ≡ writing_offset x.answer) × (o ≡ x.out)))

-- numbers that are a message's, and others
module _ (n s c : ℕ) (out fs g : List ℕ) {m : Message} (em : m ≡ message_from fs) (eg : g ≡ fields_of m) where
  tested : same_fields fs g ≡ same_fields fs (fields_of (message_from fs))
  tested = ap (same_fields fs) (eg ∙ ap fields_of em)

  pub fields-message : same_fields fs g ≡ true → wrote n s c out m ≡ wrote_fields n s c out fs
  unfolding wrote_fields
  fields-message e = let q : same_fields fs (fields_of (message_from fs)) ≡ true = sym tested ∙ e in ap (wrote n s c out) em ∙ rw q

  no-message : same_fields fs g ≡ false → wrote_misfit n s c out fs ≡ wrote_fields n s c out fs
  unfolding wrote_fields
  no-message e = let q : same_fields fs (fields_of (message_from fs)) ≡ false = sym tested ∙ e in rw q

  pub fields-1 : same_fields fs g ≡ false → setup_ok n s c ≡ false → unwritten Setup out ≡ wrote_fields n s c out fs
  unfolding wrote_misfit
  fields-1 e p = (rw p) ∙ no-message e

  pub fields-2 : same_fields fs g ≡ false → setup_ok n s c ≡ true → length out < 256 → unwritten Room out ≡ wrote_fields n s c out fs
  unfolding wrote_misfit
  fields-2 e p l = (rw (p, lt-ltb (length out) 256 l)) ∙ no-message e

  pub fields-misfit : same_fields fs g ≡ false → setup_ok n s c ≡ true → 256 ≤ length out → {r : Refusal} → r ≡ refusal_of (parts_of (get_or fs 0 0)) (misfit fs)
      → unwritten r out ≡ wrote_fields n s c out fs
  unfolding wrote_misfit
  fields-misfit e p l er = ap (λ (r : Refusal). unwritten r out) er ∙ (rw (p, le-ltb (length out) 256 l)) ∙ no-message e

-- numbers that are no message's, outcome by outcome
module _ (fs : List ℕ) {r : Row} (row : r ≡ row_of (get_or fs 0 0)) where
  pub misfit-kind : r.known ≡ false → UnknownKind ≡ refusal_of (parts_of (get_or fs 0 0)) (misfit fs)
  unfolding misfit
  misfit-kind h = let k : (row_of (get_or fs 0 0)).known ≡ false = sym (ap (λ (w : Row). w.known) row) ∙ h in rw k

  module _ (h : r.known ≡ true) {t : Bool} (e : t ≡ carried_only r.parts fs) where
    known : (row_of (get_or fs 0 0)).known ≡ true
    known = sym (ap (λ (w : Row). w.known) row) ∙ h

    only : t ≡ carried_only (parts_of (get_or fs 0 0)) fs
    only = e ∙ ap (λ (w : Row). carried_only w.parts fs) row

    pub misfit-length : t ≡ false → WrongLength ≡ refusal_of (parts_of (get_or fs 0 0)) (misfit fs)
    unfolding misfit
    misfit-length f = let c : carried_only (parts_of (get_or fs 0 0)) fs ≡ false = sym only ∙ f in rw (known, c)

    pub misfit-rest : t ≡ true → {x : Blame} → x ≡ first_unheld r.parts fs 18 1 → refusal_of r.parts x ≡ refusal_of (parts_of (get_or fs 0 0)) (misfit fs)
    unfolding misfit
    misfit-rest f ex =
        let c : carried_only (parts_of (get_or fs 0 0)) fs ≡ true = sym only ∙ f in
        let q : r.parts ≡ parts_of (get_or fs 0 0) = ap (λ (w : Row). w.parts) row in
        rw (ex, q, known, c)

-- what is left of the numbers, from the i-th on
module _ (p : Parts) (fs : List ℕ) where
  pub record Left (i : ℕ) : Type 0 where
    pub rest : first_unheld p fs (19 - i) i ≡ first_unheld p fs 18 1
    pub few : i ≤ 19

  pub all_left : Left 1
  all_left = record { rest = refl; few = omega arith }

  one : (i : ℕ) → i < 19 → first_unheld p fs (19 - i) i ≡ cond (can_hold p i (get_or fs i 0)) (first_unheld p fs (19 - (i + 1)) (i + 1)) (blame.Of (field_of p i))
  unfolding first_unheld
  one i l = let e : 19 - i ≡ suc (19 - (i + 1)) = omega arith in rw e

  module _ (i : ℕ) (l : Left i) (h : i < 19) {t : Bool} (et : t ≡ can_hold p i (get_or fs i 0)) where
    pub unheld : t ≡ false → {f : Field} → f ≡ field_of p i → blame.Of f ≡ first_unheld p fs 18 1
    unheld b ef = ap blame.Of ef ∙ (rw (sym et ∙ b)) ∙ sym (one i h) ∙ l.rest

    pub held : t ≡ true → Left (i + 1)
    held b = record { rest = (rw (sym et ∙ b)) ∙ sym (one i h) ∙ l.rest; few = omega arith }

  pub none_left : (i : ℕ) → Left i → 19 ≤ i → blame.Length ≡ first_unheld p fs 18 1
  unfolding first_unheld
  none_left i l h = let e : 19 - i ≡ 0 = omega arith in (rw e) ∙ l.rest

-- what a place can hold, outcome by outcome
module _ (p : Parts) (i x : ℕ) where
  pub other_place : (i ≡ 8 → ⊥) → {k : ℕ} → k ≡ get_or most i 0 → leb x k ≡ can_hold p i x
  other_place n e = rw (ne_eqb i 8 n, e)

  pub long-op : i ≡ 8 → p.second ≡ true → eqb x 3 ≡ can_hold p i x
  long-op e t = rw (e, t)

  pub short-op : i ≡ 8 → p.second ≡ false → leb x 2 ≡ can_hold p i x
  short-op e t = rw (e, t)
