-- What the calls' proofs cite of places and of what is held. Assumes nothing.
use mathlib.Core.Path.{◌≡◌, refl, sym, ◌∙◌}
use mathlib.Core.Bool.{Bool, true, false, ◌&&◌, not}
use mathlib.Core.List.{List, []}
use Prim.Native.Nat.{ℕ, ◌+◌, ◌-◌, ◌≤◌, ◌<◌, min}
use native.Mathlib.Nat.{min-le_left, min-le_right, le_trans}
use native.Mathlib.Omega.{arith}
use borrow.Author.Tests.{ltb-true, ltb-false, leb-true, le-leb, le-ltb, lt-ltb}
use lib.Dec.{ltb, eqb}
use lib.ListN.{length, take, drop, length-drop}
use lib.Seq.{length-take-le, take-take}
use Rattle.std.specs.Prelude.{Option, Some, None, Ok, Err, unwrap_or}
use Rattle.numbers.specs.Num.{splice}
use Rattle.paper.specs.Message.{row_of}
use Rattle.paper.specs.declared.Refusal.{Refusal}
use Rattle.paper.specs.declared.Refusal.TheVariants.{Unsound, Room}
use Rattle.paper.proofs.Laws.{and-true}
use Rattle.wire.specs.Wire.{length_of, kind_at}
use Rattle.stream.specs.declared.place.Place.{Place}
use Rattle.stream.specs.declared.place.Halt.TheVariants.{Stopped, Refused}
use Rattle.stream.specs.declared.taking.Taken.{Taken}
use Rattle.stream.specs.Place.{is_sum, place_ok, held, gate_of, Within}
use Rattle.stream.specs.Stream.{is_stopped, is_whole, whole_length, room_for, unchanged, count, filled, fill, taken_open, taken, behind, yielded_open, yielded, message_in}

module _ (l : ℕ) (p : Place) where
  pub counted-ok : p.at ≤ p.end → p.end ≤ l → p.at ≤ p.offset → p.offset + (p.end - p.at) ≤ 18446744073709551615 → place_ok l p ≡ (is_sum p.at && is_sum (p.offset - p.at))
  unfolding place_ok
  counted-ok a b d e = rw (le-leb p.at p.end a, le-leb p.end l b, le-leb p.at p.offset d, le-leb (p.offset + (p.end - p.at)) 18446744073709551615 e)

-- all that such a place is
pub record PlaceOk (l : ℕ) (p : Place) : Type 0 where
  pub within : Within l p
  pub passed : p.at ≤ p.offset
  pub whole : is_sum p.at ≡ true
  pub before : is_sum (p.offset - p.at) ≡ true

pub ok_of : (l : ℕ) (p : Place) → place_ok l p ≡ true → PlaceOk l p
unfolding place_ok
ok_of l p h =
    let (h5, h6) = and-true _ _ h in
    let (h4, s) = and-true _ _ h5 in
    let (h3, f) = and-true _ _ h4 in
    let (h2, o) = and-true _ _ h3 in
    let (a, b) = and-true _ _ h2 in
    record {
      within = record { ordered = leb-true _ _ a; inside = leb-true _ _ b; counted = omega (arith, leb-true (p.offset + (p.end - p.at)) 18446744073709551615 f) };
      passed = leb-true _ _ o;
      whole = s;
      before = h6;
    }

pub of-ok : (l : ℕ) (p : Place) → PlaceOk l p → place_ok l p ≡ true
of-ok l p k =
    let f : p.offset + (p.end - p.at) ≤ 18446744073709551615 = omega (arith, k.within.counted) in
    counted-ok l p k.within.ordered k.within.inside k.passed f ∙ rw (k.whole, k.before)

-- the gate, by what was tried
pub shut-11 : (l : ℕ) (p : Place) → place_ok l p ≡ false → Err Unsound ≡ gate_of l p
unfolding gate_of
shut-11 l p h = rw h

pub shut-2 : (l : ℕ) (p : Place) → place_ok l p ≡ true → l < 64 → Err Room ≡ gate_of l p
unfolding gate_of
shut-2 l p h k = rw (h, lt-ltb l 64 k)

pub opened : (l : ℕ) (p : Place) → place_ok l p ≡ true → 64 ≤ l → Ok tt ≡ gate_of l p
unfolding gate_of
opened l p h k = rw (h, le-ltb l 64 k)

-- behind an open gate
pub open-ok : (l : ℕ) (p : Place) → gate_of l p ≡ Ok tt → PlaceOk l p × (64 ≤ l)
unfolding gate_of
open-ok l p g = go (place_ok l p) (ltb l 64) refl refl
  where
    go : (a b : Bool) → place_ok l p ≡ a → ltb l 64 ≡ b → PlaceOk l p × (64 ≤ l)
    go false b e f = let z : ◌≡◌ {A = ℕ} 0 1 = cc (shut-11 l p e) in absurd (omega arith)
    go true true e f = let z : ◌≡◌ {A = ℕ} 0 1 = cc (shut-2 l p e (ltb-true l 64 f)) in absurd (omega arith)
    go true false e f = (ok_of l p e, ltb-false l 64 f)

pub open-within : (l : ℕ) (p : Place) → Ok tt ≡ gate_of l p → Within l p
open-within l p e = (open-ok l p (sym e)).0.within

-- what is held
module _ (b : List ℕ) (p : Place) (w : Within (length b) p) where
  pub held-length : length (held b p) ≡ p.end - p.at
  unfolding held
  held-length = length-take-le (p.end - p.at) (drop p.at b) (rw (length-drop p.at b) (omega (arith, w.ordered, w.inside)))

-- the message in front of what is held
pub record Front (h : List ℕ) (n : ℕ) : Type 0 where
  pub known : (row_of (kind_at h)).known ≡ true
  pub exact : n ≡ length_of (kind_at h)
  pub fits : n ≤ length h

module _ (h : List ℕ) where
  pub front-is : is_whole h ≡ true → Front h (length_of (kind_at h))
  unfolding is_whole
  front-is e = let (k, l) = and-true _ _ e in record { known = k; exact = refl; fits = leb-true _ _ l }

  pub whole-front : {n : ℕ} → whole_length h ≡ Some n → Front h n
  unfolding whole_length
  whole-front {n} e = go (is_whole h) refl
    where
      go : (a : Bool) → is_whole h ≡ a → Front h n
      go true q =
          let l : ◌≡◌ {A = Option ℕ} (Some n) (Some (length_of (kind_at h))) = sym e ∙ rw q in
          let m : n ≡ length_of (kind_at h) = cc in
          let f = front-is q in record { known = f.known; exact = m; fits = omega (arith, f.fits) }
      go false q = let z : ◌≡◌ {A = Option ℕ} (Some n) None = sym e ∙ rw q in absurd (cc)

  pub front-whole : {n : ℕ} → Front h n → is_whole h ≡ true
  unfolding is_whole
  front-whole f = rw (f.known, le-leb (length_of (kind_at h)) (length h) (omega (arith, f.exact, f.fits)))

  pub front-running : {n : ℕ} → Front h n → is_stopped h ≡ false
  unfolding is_stopped
  front-running f = go (not (eqb (length h) 0)) (rw f.known)
    where
      go : (a : Bool) {k : Bool} → k ≡ false → (a && k) ≡ false
      go true e = e
      go false e = refl

  pub no_front : whole_length h ≡ None → is_whole h ≡ false
  unfolding whole_length
  no_front e = go (is_whole h) refl
    where
      go : (a : Bool) → is_whole h ≡ a → is_whole h ≡ false
      go true q = let z : ◌≡◌ {A = Option ℕ} None (Some (length_of (kind_at h))) = sym e ∙ rw q in absurd (cc)
      go false q = q

  pub yields : (p : Place) {n : ℕ} {q : Place} → whole_length h ≡ Some n → q ≡ behind p n → Ok (Some (record { length = n; place = q })) ≡ yielded_open h p
  unfolding yielded_open
  yields p {n} {q} e at = let f = whole-front e in rw (front-running f, front-whole f, at, ← f.exact)

  pub yields-front : (p : Place) → is_stopped h ≡ false → is_whole h ≡ true
      → yielded_open h p ≡ Ok (Some (record { length = length_of (kind_at h); place = behind p (length_of (kind_at h)) }))
  unfolding yielded_open
  yields-front p e f = rw (e, f)

  pub stops : (p : Place) → is_stopped h ≡ true → Err (Stopped p.offset) ≡ yielded_open h p
  unfolding yielded_open
  stops p e = rw e

  pub waits : (p : Place) → is_stopped h ≡ false → is_whole h ≡ false → Ok None ≡ yielded_open h p
  unfolding yielded_open
  waits p e f = rw (e, f)

-- a message in front lies within what is held
pub front-within : (b : List ℕ) (p : Place) → Within (length b) p → {n : ℕ} → whole_length (held b p) ≡ Some n → (p.at + n ≤ p.end) × (p.offset + n < 18446744073709551616)
front-within b p w {n} e =
    let f : n ≤ length (held b p) = (whole-front (held b p) e).fits in
    let l : length (held b p) ≡ p.end - p.at = held-length b p w in
    let o = w.ordered in
    let k = w.counted in
    (omega arith, omega arith)

-- the length of a message in front, if there is one, is within what is held
pub whole-fits : (h : List ℕ) {o : Option ℕ} {n : ℕ} → o ≡ whole_length h → n ≡ unwrap_or o 0 → n ≤ length h
whole-fits h {o = None} e f = omega arith
whole-fits h {o = Some k} e f = omega (arith, (whole-front h (sym e)).fits)

-- that message is a part of the buffer, the empty one where none is whole
pub message-part : (b : List ℕ) (p : Place) {n : ℕ} → Ok tt ≡ gate_of (length b) p → n ≡ unwrap_or (whole_length (held b p)) 0 → take n (drop p.at b) ≡ message_in b p
unfolding message_in held
message-part b p {n} g e =
    let f : n ≤ length (held b p) = whole-fits (held b p) refl e in
    let l : length (held b p) ≡ p.end - p.at = held-length b p (open-within (length b) p g) in
    rw (← g, ← e) (sym (take-take n (p.end - p.at) (drop p.at b) (omega arith)))

pub message-front : (b : List ℕ) (p : Place) → Ok tt ≡ gate_of (length b) p → is_whole (held b p) ≡ true → message_in b p ≡ take (length_of (kind_at (held b p))) (held b p)
unfolding message_in whole_length
message-front b p g e = rw (← g, e)

-- what is taken fits, and is offered
module _ (l : ℕ) (p : Place) (x : ℕ) (w : Within l p) where
  pub room-offered : room_for l p x ≤ x
  unfolding room_for
  room-offered = min-le_left x _

  pub room_fits : p.end - p.at + room_for l p x ≤ l
  unfolding room_for
  room_fits =
      let i = w.inside in
      let a : l - (p.end - p.at) ≤ l = omega arith in
      let m : room_for l p x ≤ l - (p.end - p.at) =
      le_trans (min-le_right x (min (l - (p.end - p.at)) (18446744073709551615 - (p.offset + (p.end - p.at))))) (min-le_left (l - (p.end - p.at)) (18446744073709551615 - (p.offset + (p.end - p.at)))) in
      omega arith

  pub room-counts : p.offset + (p.end - p.at + room_for l p x) < 18446744073709551616
  unfolding room_for
  room-counts =
      let k = w.counted in
      let m : room_for l p x ≤ 18446744073709551615 - (p.offset + (p.end - p.at)) =
      le_trans (min-le_right x (min (l - (p.end - p.at)) (18446744073709551615 - (p.offset + (p.end - p.at))))) (min-le_right (l - (p.end - p.at)) (18446744073709551615 - (p.offset + (p.end - p.at)))) in
      omega arith

-- the calls, by gate and stop
module _ (b : List ℕ) (p : Place) where
  pub taken-shut : (x : List ℕ) {r : Refusal} → Err r ≡ gate_of (length b) p → taken b p x ≡ unchanged b (Refused r)
  unfolding taken
  taken-shut x e = rw (← e)

  pub taken-stopped : (x : List ℕ) → Ok tt ≡ gate_of (length b) p → is_stopped (held b p) ≡ true → taken b p x ≡ unchanged b (Stopped p.offset)
  unfolding taken taken_open
  taken-stopped x e s = rw (← e, s)

  pub taken-fills : (x : List ℕ) → Ok tt ≡ gate_of (length b) p → is_stopped (held b p) ≡ false → taken b p x ≡ fill b p x
  unfolding taken taken_open
  taken-fills x e s = rw (← e, s)

  pub yielded-shut : {r : Refusal} → Err r ≡ gate_of (length b) p → yielded b p ≡ Err (Refused r)
  unfolding yielded
  yielded-shut e = rw (← e)

  pub yielded-open : Ok tt ≡ gate_of (length b) p → yielded b p ≡ yielded_open (held b p) p
  unfolding yielded
  yielded-open e = rw (← e)

  pub message-shut : {r : Refusal} → Err r ≡ gate_of (length b) p → message_in b p ≡ []
  unfolding message_in
  message-shut e = rw (← e)

-- so many bytes are put behind what is held
pub put-ok : (l : ℕ) (p : Place) (x : ℕ) → Within l p → {n m : ℕ} → n ≡ room_for l p x → m ≡ l → (p.end - p.at + n ≤ m) × (n ≤ x)
put-ok l p x w e f = (omega (arith, room_fits l p x w), omega (arith, room-offered l p x w))

pub end_fits : (l : ℕ) (p : Place) (x : ℕ) → Within l p → {n : ℕ} → n ≡ room_for l p x → p.end - p.at + n < 18446744073709551616
end_fits l p x w e = omega (arith, room-counts l p x w)

-- what was held to the front, what was taken behind it
pub filled-is : (b : List ℕ) (p : Place) (x : List ℕ) {n : ℕ} {b₁ b₂ : List ℕ} → n ≡ count b p x → b₁ ≡ splice b 0 (held b p)
    → b₂ ≡ splice b₁ (p.end - p.at) (take n x)
    → (◌≡◌ {A = Taken} (record { count = n; place = record { at = 0; end = p.end - p.at + n; offset = p.offset } }) (filled b p x)) × (b₂ ≡ (fill b p x).buffer)
filled-is b p x e f g = (rw e, rw (g, f, e))
