-- No second result satisfies a contract of the C calls: each names every result as a function of what came in. Assumes nothing.
use mathlib.Core.Path.{◌≡◌, sym, ◌∙◌}
use mathlib.Core.List.{List}
use Prim.Native.Nat.{ℕ}
use lib.ListN.{length}
use Rattle.wire.specs.Calls.{read_message}
use Rattle.stream.specs.declared.place.Place.{Place}
use Rattle.stream.specs.Place.{begun}
use Rattle.stream.specs.Stream.{Filled, taken, place_after, yielded, passed, begun_number, took_number, took_values, found_number, found_values}
use Rattle.table.specs.Calls.{blanked, blanked_table, judged, part_start, part_length, length_of, blanking_number, judging_number}
use Rattle.gate.specs.Events.{Outcome, requested, received, recovered, nudged, answer_number}
use Rattle.order.specs.Calls.{settled, Handed, handed, settling_number, settling_values, handing_number, handing_count}
use Rattle.entries.specs.Entry.{entry_length}
use Rattle.entries.specs.Writing.{Entered, record_entered, mark_entered, entering_number, entering_length}
use Rattle.entries.specs.Replay.{Replayed, replayed, replaying_number, replaying_offset}
use Rattle.pumxaqert.specs.Fields.{wrote_fields}
use Rattle.pumxaqert.specs.Flat.{answer_values}
use Rattle.pumxaqert.specs.Streams.{place_from, place_numbers, begun_place}
use Rattle.pumxaqert.proofs.Laws.{Reads, Writes}

pub pumxaqert-read-message-unique : (n s c : ℕ) (b : List ℕ) (r q : ℕ) (f g : List ℕ) (i j : ℕ) → Reads (read_message n s c b) r f i → Reads (read_message n s c b) q g j
    → (r ≡ q) × (f ≡ g) × (i ≡ j)
pumxaqert-read-message-unique n s c b r q f g i j x y = (x.0 ∙ sym y.0, x.1.0 ∙ sym y.1.0, x.1.1 ∙ sym y.1.1)

pub pumxaqert-write-message-unique : (n s c : ℕ) (out fs : List ℕ) (r q k l i j : ℕ) (o p : List ℕ) → Writes (wrote_fields n s c out fs) r k i o
    → Writes (wrote_fields n s c out fs) q l j p → (r ≡ q) × (k ≡ l) × (i ≡ j) × (o ≡ p)
pumxaqert-write-message-unique n s c out fs r q k l i j o p x y =
    (x.0 ∙ sym y.0, x.1.0 ∙ sym y.1.0, x.1.1.0 ∙ sym y.1.1.0, x.1.1.1 ∙ sym y.1.1.1)

-- what an event's call ensures of its number, the values, the table and the room
abbrev Gives : Outcome → ℕ → List ℕ → List ℕ → List ℕ → Type 0
Gives x r v t o = (r ≡ answer_number x.answer) × ((v ≡ answer_values x.answer) × ((t ≡ x.table) × (o ≡ x.out)))

module _ (r q : ℕ) (v w t u o p : List ℕ) where
  abbrev Same : Type 0
  Same = (r ≡ q) × (v ≡ w) × (t ≡ u) × (o ≡ p)

  event-unique : (x : Outcome) → Gives x r v t o → Gives x q w u p → Same
  event-unique x f g =
      (f.0 ∙ sym g.0, f.1.0 ∙ sym g.1.0, f.1.1.0 ∙ sym g.1.1.0, f.1.1.1 ∙ sym g.1.1.1)

  pub pumxaqert-request-unique : (n s c : ℕ) (table out : List ℕ) (op key second edit : ℕ) → Gives (requested n s c table out op key second edit) r v t o
      → Gives (requested n s c table out op key second edit) q w u p → Same
  pumxaqert-request-unique n s c table out op key second edit = event-unique (requested n s c table out op key second edit)

  pub pumxaqert-message-unique : (n s c : ℕ) (table out b : List ℕ) → Gives (received n s c table out b) r v t o → Gives (received n s c table out b) q w u p → Same
  pumxaqert-message-unique n s c table out b = event-unique (received n s c table out b)

  pub pumxaqert-recover-unique : (n s c : ℕ) (table out : List ℕ) (i j : ℕ) → Gives (recovered n s c table out i j) r v t o → Gives (recovered n s c table out i j) q w u p
      → Same
  pumxaqert-recover-unique n s c table out i j = event-unique (recovered n s c table out i j)

  pub pumxaqert-nudge-unique : (n s c : ℕ) (table out : List ℕ) (i j : ℕ) → Gives (nudged n s c table out i j) r v t o → Gives (nudged n s c table out i j) q w u p → Same
  pumxaqert-nudge-unique n s c table out i j = event-unique (nudged n s c table out i j)

pub pumxaqert-settled-unique : (n s c : ℕ) (t : List ℕ) (o j r q : ℕ) (v w : List ℕ) → r ≡ settling_number (settled n s c t o j) → v ≡ settling_values (settled n s c t o j)
    → q ≡ settling_number (settled n s c t o j) → w ≡ settling_values (settled n s c t o j) → (r ≡ q) × (v ≡ w)
pumxaqert-settled-unique n s c t o j r q v w a b d e = (a ∙ sym d, b ∙ sym e)

-- what the hand-out ensures of its number, the count, the table and the list
abbrev Hands : Handed → ℕ → ℕ → List ℕ → List ℕ → Type 0
Hands x r k t l = (r ≡ handing_number x.answer) × ((k ≡ handing_count x.answer) × ((t ≡ x.table) × (l ≡ x.list)))

pub pumxaqert-hand-out-unique : (n s c : ℕ) (table list : List ℕ) (r q k i : ℕ) (t u l m : List ℕ) → Hands (handed n s c table list) r k t l
    → Hands (handed n s c table list) q i u m → (r ≡ q) × (k ≡ i) × (t ≡ u) × (l ≡ m)
pumxaqert-hand-out-unique n s c table list r q k i t u l m f g =
    (f.0 ∙ sym g.0, f.1.0 ∙ sym g.1.0, f.1.1.0 ∙ sym g.1.1.0, f.1.1.1 ∙ sym g.1.1.1)

pub pumxaqert-blank-unique : (n s c : ℕ) (t : List ℕ) (r q : ℕ) (u v : List ℕ) → r ≡ blanking_number (blanked n s c t) → u ≡ blanked_table n s c t
    → q ≡ blanking_number (blanked n s c t) → v ≡ blanked_table n s c t → (r ≡ q) × (u ≡ v)
pumxaqert-blank-unique n s c t r q u v a b d e = (a ∙ sym d, b ∙ sym e)

pub pumxaqert-judge-unique : (n s c : ℕ) (t : List ℕ) (r q : ℕ) → r ≡ judging_number (judged n s c t) → q ≡ judging_number (judged n s c t) → r ≡ q
pumxaqert-judge-unique n s c t r q a b = a ∙ sym b

pub pumxaqert-part-unique : (n s c : ℕ) (t : List ℕ) (o j r q k l : ℕ) → r ≡ part_start n s c t o j → k ≡ part_length n s c t o j → q ≡ part_start n s c t o j
    → l ≡ part_length n s c t o j → (r ≡ q) × (k ≡ l)
pumxaqert-part-unique n s c t o j r q k l a b d e = (a ∙ sym d, b ∙ sym e)

pub pumxaqert-table-length-unique : (n s r q : ℕ) → r ≡ length_of n s → q ≡ length_of n s → r ≡ q
pumxaqert-table-length-unique n s r q a b = a ∙ sym b

pub pumxaqert-stream-begin-unique : (b f : List ℕ) (r q : ℕ) (g h : List ℕ) → r ≡ begun_number (begun (length b)) → g ≡ begun_place (begun (length b)) f
    → q ≡ begun_number (begun (length b)) → h ≡ begun_place (begun (length b)) f → (r ≡ q) × (g ≡ h)
pumxaqert-stream-begin-unique b f r q g h a c d e = (a ∙ sym d, c ∙ sym e)

-- what taking bytes ensures of its number, the values, the place and the buffer
abbrev Takes : Place → Filled → ℕ → List ℕ → List ℕ → List ℕ → Type 0
Takes p x r v f b = (r ≡ took_number x.told) × ((v ≡ took_values x.told) × ((f ≡ place_numbers (place_after p x.told)) × (b ≡ x.buffer)))

pub pumxaqert-stream-take-unique : (b f n : List ℕ) (r q : ℕ) (v w g h c d : List ℕ) → Takes (place_from f) (taken b (place_from f) n) r v g c
    → Takes (place_from f) (taken b (place_from f) n) q w h d
    → (r ≡ q) × (v ≡ w) × (g ≡ h) × (c ≡ d)
pumxaqert-stream-take-unique b f n r q v w g h c d x y = (x.0 ∙ sym y.0, x.1.0 ∙ sym y.1.0, x.1.1.0 ∙ sym y.1.1.0, x.1.1.1 ∙ sym y.1.1.1)

-- what yielding ensures of its number, the values and the place
abbrev Yields : List ℕ → Place → ℕ → List ℕ → List ℕ → Type 0
Yields b p r v f = (r ≡ found_number (yielded b p)) × ((v ≡ found_values p.at (yielded b p)) × (f ≡ place_numbers (passed b p)))

pub pumxaqert-stream-next-unique : (b f : List ℕ) (r q : ℕ) (v w g h : List ℕ) → Yields b (place_from f) r v g → Yields b (place_from f) q w h
    → (r ≡ q) × (v ≡ w) × (g ≡ h)
pumxaqert-stream-next-unique b f r q v w g h x y = (x.0 ∙ sym y.0, x.1.0 ∙ sym y.1.0, x.1.1 ∙ sym y.1.1)

pub pumxaqert-entry-length-unique : (k r q : ℕ) → r ≡ entry_length k → q ≡ entry_length k → r ≡ q
pumxaqert-entry-length-unique k r q a b = a ∙ sym b

-- what writing an entry ensures of its number, the count and the room
abbrev Enters : Entered → ℕ → ℕ → List ℕ → Type 0
Enters x r k o = (r ≡ entering_number x.answer) × ((k ≡ entering_length x.answer) × (o ≡ x.out))

module _ (n s c : ℕ) (table out : List ℕ) (i j r q k l : ℕ) (o p : List ℕ) where
  entry-unique : (x : Entered) → Enters x r k o → Enters x q l p → (r ≡ q) × (k ≡ l) × (o ≡ p)
  entry-unique x f g = (f.0 ∙ sym g.0, f.1.0 ∙ sym g.1.0, f.1.1 ∙ sym g.1.1)

  pub pumxaqert-record-entry-unique : Enters (record_entered n s c table out i j) r k o → Enters (record_entered n s c table out i j) q l p → (r ≡ q) × (k ≡ l) × (o ≡ p)
  pumxaqert-record-entry-unique = entry-unique (record_entered n s c table out i j)

  pub pumxaqert-mark-entry-unique : Enters (mark_entered n s c table out i j) r k o → Enters (mark_entered n s c table out i j) q l p → (r ≡ q) × (k ≡ l) × (o ≡ p)
  pumxaqert-mark-entry-unique = entry-unique (mark_entered n s c table out i j)

-- what a replay ensures of its number, the offset and the table
abbrev Replays : Replayed → ℕ → ℕ → List ℕ → Type 0
Replays x r a t = (r ≡ replaying_number x.answer) × ((a ≡ replaying_offset x.answer) × (t ≡ x.table))

pub pumxaqert-replay-unique : (n s c : ℕ) (table b : List ℕ) (r q i j : ℕ) (t u : List ℕ) → Replays (replayed n s c table b) r i t → Replays (replayed n s c table b) q j u
    → (r ≡ q) × (i ≡ j) × (t ≡ u)
pumxaqert-replay-unique n s c table b r q i j t u x y = (x.0 ∙ sym y.0, x.1.0 ∙ sym y.1.0, x.1.1 ∙ sym y.1.1)
