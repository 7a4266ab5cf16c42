-- A replay of a journal: a walk over its entries comes to what stands behind them, with the table after them. Assumes nothing.
use Prim.Native.Nat.{ℕ, zero, suc, ◌+◌, ◌-◌, ◌≤◌, ◌<◌}
use mathlib.Core.Path.{◌≡◌, refl, sym, ap, ap₂, ◌∙◌}
use mathlib.Core.Bool.{Bool, true, false, ◌&&◌, cond}
use mathlib.Core.List.{List, [], ◌++◌, append_assoc, append-nil}
use native.Mathlib.Omega.{arith}
use lib.Dec.{leb, ltb, eqb}
use lib.ListN.{length, take, drop, length-append}
use lib.Seq.{take-append_seam, drop-append_seam, take-append-le, take-append-add, take-length, length-take-le}
use borrow.Author.Tests.{ltb-true, ltb-false, leb-true, leb-false}
use Rattle.std.specs.Prelude.{Result, Ok, Err}
use Rattle.paper.specs.Instance.{instance_ok}
use Rattle.paper.proofs.Laws.{and-true}
use Rattle.record.specs.Part.{sound_part}
use Rattle.table.specs.Table.{record_in, Judged}
use Rattle.table.specs.Calls.{judged, part_size, put_part}
use Rattle.table.proofs.Laws.{sizes}
use Rattle.rules.specs.Step.{is_committed}
use Rattle.order.specs.Calls.{marked_in}
use Rattle.entries.specs.declared.Fault.{Fault}
use Rattle.entries.specs.declared.Front.{Front}
use Rattle.entries.specs.declared.Front.TheVariants as front
use Rattle.entries.specs.declared.BadEntry.{BadEntry}
use Rattle.entries.specs.declared.Unreplayed.TheVariants as unreplayed
use Rattle.entries.specs.Entry.{record_kind, mark_kind, entry_length, kind_in, owner_in, number_in, part_in, record_entry, mark_entry}
use Rattle.entries.specs.Replay.{committed_in, front_of, applied, behind, or_on, end_of, puts, replayed_at, replayed_open, replayed}
use Rattle.entries.specs.Journal.{Journal, none, record-then, mark-then, Replays, AnyCut, GoesOn, FirstBad}
use Rattle.entries.proofs.Framed.{Reads, mark-reads, record-long, record-reads, record-part, whole-front, short-rest, none_rest, bad-some}

-- how many entries a journal has
unfoldable pub count : {n s c : ℕ} {t b u : List ℕ} → Journal n s c t b u → ℕ
count none = 0
count (record-then w o j part i l h) = suc (count w)
count (mark-then w o j i h) = suc (count w)

-- one journal after another
pub joined : {n s c : ℕ} {t b u m v : List ℕ} → Journal n s c t b u → Journal n s c u m v → Journal n s c t (b ++ m) v
joined {b = b} w none = rw (append-nil b) w
joined {b = b} w (record-then {b = m} K o j part i l h) = rw (← append_assoc b m (record_entry o j part)) (record-then (joined w K) o j part i l h)
joined {b = b} w (mark-then {b = m} K o j i h) = rw (← append_assoc b m (mark_entry o j)) (mark-then (joined w K) o j i h)

module _ (n s c : ℕ) (few : n ≤ 7) (low : s ≤ 64) where
  pub bounds : (o j : ℕ) → instance_ok n s o j ≡ true → (o < 256) × (j < 65536)
  unfolding instance_ok
  bounds o j h =
      let a = ltb-true o n (and-true (ltb o n) (leb 1 j && leb j s) h).0 in
      let b = leb-true j s (and-true (leb 1 j) (leb j s) (and-true (ltb o n) (leb 1 j && leb j s) h).1).1 in
      (omega arith, omega arith)

  -- an entry is as long as its kind says
  pub mark-size : (o j : ℕ) → instance_ok n s o j ≡ true → length (mark_entry o j) ≡ entry_length (kind_in (mark_entry o j))
  mark-size o j i =
      let z = bounds o j i in
      let kind : kind_in (mark_entry o j) ≡ mark_kind = ap kind_in (sym (append-nil (mark_entry o j))) ∙ (mark-reads o j z.0 z.1 []).kind in
      sym (ap entry_length kind)

  pub record-size : (o j : ℕ) → instance_ok n s o j ≡ true → (part : List ℕ) → length part ≡ part_size → length (record_entry o j part) ≡ entry_length (kind_in (record_entry o j part))
  record-size o j i part l =
      let z = bounds o j i in
      let kind : kind_in (record_entry o j part) ≡ record_kind = ap kind_in (sym (append-nil (record_entry o j part))) ∙ (record-reads o j z.0 z.1 part l []).kind in
      record-long o j z.0 z.1 part l ∙ sym (ap entry_length kind)

  -- a walk that goes on from the same place
  same_end : (k : ℕ) {u v m r : List ℕ} {a b : ℕ} → u ≡ v → m ≡ r → a ≡ b → end_of k n s c u m a ≡ end_of k n s c v r b
  same_end k p q r = rw (p, q, r)

  module _ (u : List ℕ) (o j : ℕ) (range : instance_ok n s o j ≡ true) where
    -- over one mark
    module _ (more : List ℕ) where
      abbrev m : List ℕ
      m = mark_entry o j ++ more

      m-reads : Reads (mark_entry o j ++ more) mark_kind o j more
      m-reads = let z = bounds o j range in mark-reads o j z.0 z.1 more

      m-applied : applied s u (mark_entry o j ++ more) ≡ marked_in s u o j
      unfolding applied
      m-applied =
          let r = m-reads in
          ap (λ (k : ℕ). cond (eqb k record_kind) (put_part s u (owner_in m) (number_in m) (part_in m)) (marked_in s u (owner_in m) (number_in m))) r.kind
          ∙ ap₂ (marked_in s u) r.owner r.number

      m-whole : is_committed (record_in s u o j) ≡ true → front_of n s c (committed_in s u) (mark_entry o j ++ more) ≡ Ok front.Whole
      m-whole h =
          let r = m-reads in
          whole-front n s c (committed_in s u) m mark_kind o j more r (omega arith) range
          (ap (λ (k : ℕ). cond (eqb k record_kind) (sound_part n s c (owner_in m) (part_in m)) (committed_in s u (owner_in m) (number_in m))) r.kind
          ∙ ap₂ (committed_in s u) r.owner r.number ∙ h)

      mark_on : is_committed (record_in s u o j) ≡ true → (k at : ℕ)
          → end_of (suc k) n s c u (mark_entry o j ++ more) at ≡ end_of k n s c (marked_in s u o j) more (at + length (mark_entry o j))
      unfolding end_of
      mark_on h k at =
          let r = m-reads in
          ap (λ (f : Result Front Fault). or_on f at (end_of k n s c (applied s u m) (behind m) (at + entry_length (kind_in m)))) (m-whole h)
          ∙ same_end k m-applied r.rest (ap (λ (x : ℕ). at + entry_length x) r.kind)

      mark-puts : (k : ℕ) → puts (suc k) s u (mark_entry o j ++ more) ≡ puts k s (marked_in s u o j) more
      unfolding puts
      mark-puts k = ap₂ (puts k s) m-applied m-reads.rest

    -- over one record
    module _ (part : List ℕ) (size : length part ≡ part_size) (more : List ℕ) where
      abbrev e : List ℕ
      e = record_entry o j part ++ more

      e-reads : Reads (record_entry o j part ++ more) record_kind o j more
      e-reads = let z = bounds o j range in record-reads o j z.0 z.1 part size more

      e-part : part_in (record_entry o j part ++ more) ≡ part
      e-part = let z = bounds o j range in record-part o j z.0 z.1 part size more

      e-applied : applied s u (record_entry o j part ++ more) ≡ put_part s u o j part
      unfolding applied
      e-applied =
          let r = e-reads in
          ap (λ (k : ℕ). cond (eqb k record_kind) (put_part s u (owner_in e) (number_in e) (part_in e)) (marked_in s u (owner_in e) (number_in e))) r.kind
          ∙ ap₂ (λ (p i : ℕ). put_part s u p i (part_in e)) r.owner r.number ∙ ap (put_part s u o j) e-part

      e-whole : sound_part n s c o part ≡ true → front_of n s c (committed_in s u) (record_entry o j part ++ more) ≡ Ok front.Whole
      e-whole h =
          let r = e-reads in
          whole-front n s c (committed_in s u) e record_kind o j more r (omega arith) range
          (ap (λ (k : ℕ). cond (eqb k record_kind) (sound_part n s c (owner_in e) (part_in e)) (committed_in s u (owner_in e) (number_in e))) r.kind
          ∙ ap₂ (sound_part n s c) r.owner e-part ∙ h)

      record-on : sound_part n s c o part ≡ true → (k at : ℕ)
          → end_of (suc k) n s c u (record_entry o j part ++ more) at ≡ end_of k n s c (put_part s u o j part) more (at + length (record_entry o j part))
      unfolding end_of
      record-on h k at =
          let r = e-reads in
          let z = bounds o j range in
          ap (λ (f : Result Front Fault). or_on f at (end_of k n s c (applied s u e) (behind e) (at + entry_length (kind_in e)))) (e-whole h)
          ∙ same_end k e-applied r.rest (ap (λ (x : ℕ). at + entry_length x) r.kind ∙ ap (λ (x : ℕ). at + x) (sym (record-long o j z.0 z.1 part size)))

      record-puts : (k : ℕ) → puts (suc k) s u (record_entry o j part ++ more) ≡ puts k s (put_part s u o j part) more
      unfolding puts
      record-puts k = ap₂ (puts k s) e-applied e-reads.rest

  -- over a journal
  pub end-journal : {t b u : List ℕ} (w : Journal n s c t b u) (k : ℕ) (more : List ℕ) (at : ℕ)
      → end_of (count w + k) n s c t (b ++ more) at ≡ end_of k n s c u more (at + length b)
  unfolding count
  end-journal {t = t} none k more at = ap₂ (λ (x y : ℕ). end_of x n s c t more y) (omega arith) (omega arith)
  end-journal {t = t} (record-then {b = b} {u = u} w o j part i l h) k more at =
      let e : List ℕ = record_entry o j part in
      ap₂ (λ (x : ℕ) (y : List ℕ). end_of x n s c t y at) (omega arith) (append_assoc b e more) ∙ end-journal w (suc k) (e ++ more) at
      ∙ record-on u o j i part l more h k (at + length b) ∙ ap (end_of k n s c (put_part s u o j part) more) (rw (length-append b e) (omega arith))
  end-journal {t = t} (mark-then {b = b} {u = u} w o j i h) k more at =
      let e : List ℕ = mark_entry o j in
      ap₂ (λ (x : ℕ) (y : List ℕ). end_of x n s c t y at) (omega arith) (append_assoc b e more) ∙ end-journal w (suc k) (e ++ more) at
      ∙ mark_on u o j i more h k (at + length b) ∙ ap (end_of k n s c (marked_in s u o j) more) (rw (length-append b e) (omega arith))

  puts-journal : {t b u : List ℕ} (w : Journal n s c t b u) (k : ℕ) (more : List ℕ) → puts (count w + k) s t (b ++ more) ≡ puts k s u more
  unfolding count
  puts-journal {t = t} none k more = ap (λ (x : ℕ). puts x s t more) (omega arith)
  puts-journal {t = t} (record-then {b = b} {u = u} w o j part i l h) k more =
      let e : List ℕ = record_entry o j part in
      ap₂ (λ (x : ℕ) (y : List ℕ). puts x s t y) (omega arith) (append_assoc b e more) ∙ puts-journal w (suc k) (e ++ more) ∙ record-puts u o j i part l more k
  puts-journal {t = t} (mark-then {b = b} {u = u} w o j i h) k more =
      let e : List ℕ = mark_entry o j in
      ap₂ (λ (x : ℕ) (y : List ℕ). puts x s t y) (omega arith) (append_assoc b e more) ∙ puts-journal w (suc k) (e ++ more) ∙ mark-puts u o j i more k

  -- every entry has bytes
  pub count-few : {t b u : List ℕ} (w : Journal n s c t b u) → count w ≤ length b
  unfolding count
  count-few none = omega arith
  count-few (record-then {b = b} w o j part i l h) = rw (length-append b (record_entry o j part)) (omega (arith, count-few w, length-append (record_entry o j []) part))
  count-few (mark-then {b = b} w o j i h) = rw (length-append b (mark_entry o j)) (omega (arith, count-few w))

  none_left : (k : ℕ) (u : List ℕ) → puts k s u [] ≡ u
  unfolding puts
  none_left zero u = refl
  none_left (suc k) u = refl

  pub all-puts : {t b u : List ℕ} → Journal n s c t b u → (k : ℕ) → length b ≤ k → puts k s t b ≡ u
  all-puts {t = t} {b = b} {u = u} w k l =
      let f = count-few w in
      let m : k ≡ count w + (k - count w) = omega arith in
      ap₂ (λ (x : ℕ) (y : List ℕ). puts x s t y) m (sym (append-nil b)) ∙ puts-journal w (k - count w) [] ∙ none_left (k - count w) u

-- less than an entry ends a walk
pub rest-ends : (k n s c : ℕ) (u rest : List ℕ) (at : ℕ) → front_of n s c (committed_in s u) rest ≡ Ok front.Rest → end_of k n s c u rest at ≡ Ok at
unfolding end_of
rest-ends zero n s c u rest at r = refl
rest-ends (suc k) n s c u rest at r = ap (λ (f : Result Front Fault). or_on f at (end_of k n s c (applied s u rest) (behind rest) (at + entry_length (kind_in rest)))) r

-- and so does a bad one, if it is come to
pub bad-ends : (k n s c : ℕ) (u rest : List ℕ) (at : ℕ) (f : Fault) → 0 < k → front_of n s c (committed_in s u) rest ≡ Err f
    → end_of k n s c u rest at ≡ Err (record { why = f; offset = at })
unfolding end_of
bad-ends zero n s c u rest at f z r = absurd (omega arith)
bad-ends (suc k) n s c u rest at f z r = ap (λ (f : Result Front Fault). or_on f at (end_of k n s c (applied s u rest) (behind rest) (at + entry_length (kind_in rest)))) r

-- the answer of a replay, by where its walk ends
module _ (n s c : ℕ) (t b : List ℕ) (h : Judged n s c t) where
  pub replayed-is : (x : Result ℕ BadEntry) → end_of (length b) n s c t b 0 ≡ x → replayed n s c t b ≡ replayed_at x s t b
  unfolding replayed replayed_open judged
  replayed-is x e = rw (h.setup, h.sound) (ap (λ (y : Result ℕ BadEntry). replayed_at y s t b) e)

-- behind a journal comes less than an entry, or a bad one
module _ (n s c : ℕ) (t b u rest : List ℕ) (h : Judged n s c t) (w : Journal n s c t b u) where
  few : n ≤ 7
  few = (sizes n s c t h.setup).copies

  low : s ≤ 64
  low = (sizes n s c t h.setup).numbers

  past : end_of (length (b ++ rest)) n s c t (b ++ rest) 0 ≡ end_of (length (b ++ rest) - count w) n s c u rest (0 + length b)
  past =
      let z = count-few n s c few low w in
      let y = length-append b rest in
      let m : length (b ++ rest) ≡ count w + (length (b ++ rest) - count w) = omega arith in
      ap (λ (k : ℕ). end_of k n s c t (b ++ rest) 0) m ∙ end-journal n s c few low w (length (b ++ rest) - count w) rest 0

  -- nothing more than a rest
  pub replays-rest : front_of n s c (committed_in s u) rest ≡ Ok front.Rest → replayed n s c t (b ++ rest) ≡ record { answer = Ok (length b); table = u }
  replays-rest r =
      let y = length-append b rest in
      replayed-is n s c t (b ++ rest) h (Ok (length b)) (past ∙ rest-ends (length (b ++ rest) - count w) n s c u rest (0 + length b) r ∙ ap (λ (x : ℕ). Ok x) (omega arith))
      ∙ ap (λ (x : List ℕ). record { answer = Ok (length b); table = x })
      (ap (puts (length (b ++ rest)) s t) (take-append_seam b rest) ∙ all-puts n s c few low w (length (b ++ rest)) (omega arith))

  -- a bad entry: nothing is changed
  pub replays-bad : (f : Fault) → front_of n s c (committed_in s u) rest ≡ Err f → replayed n s c t (b ++ rest) ≡ record { answer = Err (unreplayed.Bad (record { why = f; offset = length b })); table = t }
  replays-bad f r =
      let y = length-append b rest in
      let z = count-few n s c few low w in
      let some = bad-some n s c (committed_in s u) rest f r in
      replayed-is n s c t (b ++ rest) h (Err (record { why = f; offset = length b }))
      (past ∙ bad-ends (length (b ++ rest) - count w) n s c u rest (0 + length b) f (omega arith) r ∙ ap (λ (x : ℕ). Err (record { why = f; offset = x })) (omega arith))

pub replays : Replays
replays n s c t b u h w = ap (replayed n s c t) (sym (append-nil b)) ∙ replays-rest n s c t b u [] h w (none_rest n s c (committed_in s u))

pub goes_on : GoesOn
goes_on n s c t b u more v h w m = replays n s c t (b ++ more) v h (joined w m) ∙ ap (λ (x : ℕ). record { answer = Ok x; table = v }) (length-append b more)

pub first-bad : FirstBad
first-bad n s c t b u rest f h w r = replays-bad n s c t b u rest h w f r

-- the first p bytes of a journal
record Parts (n s c : ℕ) (t b u : List ℕ) (p : ℕ) : Type 0 where
  kept : List ℕ
  lost : List ℕ
  table : List ℕ
  rest : List ℕ
  whole : b ≡ kept ++ lost
  before : Journal n s c t kept table
  after : Journal n s c table lost u
  parts : take p b ≡ kept ++ rest
  less : (done : ℕ → ℕ → Bool) → front_of n s c done rest ≡ Ok front.Rest

module _ (n s c : ℕ) (few : n ≤ 7) (low : s ≤ 64) where
  -- all of it
  all_of : (t b u : List ℕ) (p : ℕ) → Journal n s c t b u → p ≡ length b → Parts n s c t b u p
  all_of t b u p w e =
      record {
        kept = b;
        lost = [];
        table = u;
        rest = [];
        whole = sym (append-nil b);
        before = w;
        after = none;
        parts = ap (λ (k : ℕ). take k b) e ∙ take-length b ∙ sym (append-nil b);
        less = none_rest n s c;
      }

  -- a part of its last entry
  in-last : (t b u e v : List ℕ) (p : ℕ) → Journal n s c t b u → Journal n s c u e v → length e ≡ entry_length (kind_in e) → length b ≤ p → p < length b + length e → Parts n s c t (b ++ e) v p
  in-last t b u e v p w after size le lt =
      let m : p ≡ length b + (p - length b) = omega arith in
      record {
        kept = b;
        lost = e;
        table = u;
        rest = take (p - length b) e;
        whole = refl;
        before = w;
        after = after;
        parts = ap (λ (k : ℕ). take k (b ++ e)) m ∙ take-append-add b e (p - length b);
        less = λ done. short-rest n s c done e (p - length b) size (omega arith);
      }

  -- less than that
  before_last : (t b u e v : List ℕ) (p : ℕ) → Parts n s c t b u p → Journal n s c u e v → p ≤ length b → Parts n s c t (b ++ e) v p
  before_last t b u e v p z after le =
      record {
        kept = z.kept;
        lost = z.lost ++ e;
        table = z.table;
        rest = z.rest;
        whole = ap (λ (l : List ℕ). l ++ e) z.whole ∙ append_assoc z.kept z.lost e;
        before = z.before;
        after = joined z.after after;
        parts = take-append-le p b e le ∙ z.parts;
        less = z.less;
      }

  -- one entry more
  one_more : (t b u e v : List ℕ) (p : ℕ) → Journal n s c t b u → Journal n s c u e v → length e ≡ entry_length (kind_in e) → p ≤ length (b ++ e)
      → (p ≤ length b → Parts n s c t b u p) → Parts n s c t (b ++ e) v p
  one_more t b u e v p w after size le below = go (leb p (length b)) (ltb p (length b + length e)) refl refl
    where
      go : (x y : Bool) → leb p (length b) ≡ x → ltb p (length b + length e) ≡ y → Parts n s c t (b ++ e) v p
      go true y f g = let l = leb-true p (length b) f in before_last t b u e v p (below l) after l
      go false true f g = in-last t b u e v p w after size (omega (arith, leb-false p (length b) f)) (ltb-true p (length b + length e) g)
      go false false f g = all_of t (b ++ e) v p (joined w after) (omega (arith, ltb-false p (length b + length e) g, length-append b e))

  parts-of : {t b u : List ℕ} (w : Journal n s c t b u) (p : ℕ) → p ≤ length b → Parts n s c t b u p
  parts-of {t = t} none p le = all_of t [] t p none (omega arith)
  parts-of {t = t} (record-then {b = b} {u = u} w o j part i l h) p le =
      one_more t b u (record_entry o j part) (put_part s u o j part) p w (record-then none o j part i l h) (record-size n s c few low o j i part l) le (λ q. parts-of w p q)
  parts-of {t = t} (mark-then {b = b} {u = u} w o j i h) p le =
      one_more t b u (mark_entry o j) (marked_in s u o j) p w (mark-then none o j i h) (mark-size n s c few low o j i) le (λ q. parts-of w p q)

pub any-cut : AnyCut
any-cut n s c t b u h w p le =
    let z = parts-of n s c (sizes n s c t h.setup).copies (sizes n s c t h.setup).numbers w p le in
    let y = length-append z.kept z.rest in
    let q = length-take-le p b le in
    let x : length (take p b) ≡ length (z.kept ++ z.rest) = ap length z.parts in
    record {
      kept = z.kept;
      lost = z.lost;
      table = z.table;
      whole = z.whole;
      before = z.before;
      after = z.after;
      within = omega arith;
      less = ap (λ (l : List ℕ). front_of n s c (committed_in s z.table) (drop (length z.kept) l)) z.parts
          ∙ ap (front_of n s c (committed_in s z.table)) (drop-append_seam z.kept z.rest) ∙ z.less (committed_in s z.table);
      answer = ap (replayed n s c t) z.parts ∙ replays-rest n s c t z.kept z.table z.rest h z.before (z.less (committed_in s z.table));
      off = ap (take (length z.kept)) z.parts ∙ take-append_seam z.kept z.rest;
    }
