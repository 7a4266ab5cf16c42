-- The second pass: what an entry makes of a table and of its statuses, and whole entries put one after another. Assumes nothing.
use Prim.Native.Nat.{ℕ, zero, suc, ◌+◌, ◌-◌, ◌≤◌, ◌<◌}
use mathlib.Core.Path.{◌≡◌, refl, sym, ap, ◌∙◌}
use mathlib.Core.Bool.{Bool, true, false, cond}
use mathlib.Core.List.{List, [], ◌∷◌}
use native.Mathlib.Omega.{arith}
use native.Mathlib.Decide.{ℕ_discrete}
use lib.Dec.{eqb}
use lib.ListN.{length, get_or, set, take, drop, length-set, length-drop}
use lib.Seq.{get_or-set_same, get_or-set_other, get_or-drop}
use Rattle.std.specs.Prelude.{Result, Ok, Err}
use Rattle.numbers.specs.Num.{Bytes}
use Rattle.paper.specs.declared.Record.{Record}
use Rattle.record.specs.Part.{sound_part}
use Rattle.table.specs.Sizes.{Names, Has}
use Rattle.table.specs.Table.{record_in, put_record, Whole, Judged}
use Rattle.table.specs.Calls.{record_of, put_part}
use Rattle.table.proofs.Laws.{sizes}
use Rattle.table.proofs.Round.{put-long, get-put-other, part_bytes, replies-seven, record-whole}
use Rattle.table.proofs.Mark.{get-mark, whole-mark, whole-other}
use Rattle.table.proofs.Saved.{back_long, back-own, back-other, back_whole, back-whole-other}
use Rattle.rules.specs.Order.{marked}
use Rattle.rows.specs.Rows.{slot_of}
use Rattle.order.specs.Calls.{marked_in}
use Rattle.entries.specs.declared.Fault.{Fault}
use Rattle.entries.specs.declared.Front.{Front}
use Rattle.entries.specs.declared.Front.TheVariants as front
use Rattle.entries.specs.declared.BadEntry.{BadEntry}
use Rattle.entries.specs.Entry.{record_kind, entry_head, entry_length, kind_in, owner_in, number_in, part_in}
use Rattle.entries.specs.Replay.{committed_in, entry_ok, front_of, applied, behind, or_on, end_of, puts}
use Rattle.entries.specs.Entry.{Fit}
use Rattle.journal.specs.Judging.{told, noted, end_by, Tells, Held, Ready, Puts}
use Rattle.entries.proofs.Lengths.{length-least, range-names, part-size, fit-names}
use Rattle.entries.proofs.Fronts.{front-fit, front_same}
use Rattle.journal.proofs.Judged.{rest-is}

-- a judged table holds
pub held_in : (n s c : ℕ) (t : List ℕ) → Judged n s c t → Bytes t → Held n s t
held_in n s c t g b =
    let z = sizes n s c t g.setup in
    record { copies = z.copies; numbers = z.numbers; long = z.long; whole = record-whole n s c t (record { bytes = b; setup = g.setup; sound = g.sound }) }

-- it is o.j, or another
whether : {A : Type 0} (o j p k : ℕ) → ((o ≡ p) × (j ≡ k) → A) → (((o ≡ p) × (j ≡ k) → ⊥) → A) → A
whether {A = A} o j p k f e = go (ℕ_discrete o p) (ℕ_discrete j k)
  where
    go : Dec (o ≡ p) → Dec (j ≡ k) → A
    go (yes a) (yes b) = f (a, b)
    go (yes a) (no b) = e (λ w. b w.1)
    go (no a) b = e (λ w. a w.0)

-- what was asked where a test holds
pick : (x p q : Bool) → x ≡ true → cond x p q ≡ true → p ≡ true
pick true p q e h = h
pick false p q e h = let z : ◌≡◌ {A = ℕ} 0 1 = cc in absurd (omega arith)

-- the entry in front, onto a table that holds
module _ (n s c : ℕ) (f : ℕ → ℕ → Bool) (t b : List ℕ) (h : Held n s t) (g : Fit n s b) (y : Bytes b) (ok : entry_ok n s c f b ≡ true) where
  here : Names n s (owner_in b) (number_in b)
  here = fit-names n s b g

  has : Has n s (owner_in b) (number_in b) t
  has = record { names = here; long = h.long }

  -- a record in its place
  module _ (e : eqb (kind_in b) record_kind ≡ true) where
    bytes : Bytes (part_in b)
    bytes = part_bytes b entry_head y

    sound : sound_part n s c (owner_in b) (part_in b) ≡ true
    sound = pick (eqb (kind_in b) record_kind) (sound_part n s c (owner_in b) (part_in b)) (f (owner_in b) (number_in b)) e ok

    own : record_in s (put_part s t (owner_in b) (number_in b) (part_in b)) (owner_in b) (number_in b) ≡ record_of (part_in b)
    own = back-own n s c t h.long (owner_in b) (number_in b) here (part_in b) (part-size n s b g e) bytes sound

    other : (p k : ℕ) → Names n s p k → ((owner_in b ≡ p) × (number_in b ≡ k) → ⊥) → record_in s (put_part s t (owner_in b) (number_in b) (part_in b)) p k ≡ record_in s t p k
    other = back-other n s c t h.long (owner_in b) (number_in b) here (part_in b) (part-size n s b g e) bytes sound

    record-held : Held n s (put_part s t (owner_in b) (number_in b) (part_in b))
    record-held = record {
      copies = h.copies;
      numbers = h.numbers;
      long = back_long n s c t h.long (owner_in b) (number_in b) here (part_in b) (part-size n s b g e) bytes sound ∙ h.long;
      whole = λ p k a. whether (owner_in b) (number_in b) p k
          (λ w. rw (← w.0, ← w.1) (back_whole n s c t h.long (owner_in b) (number_in b) here (part_in b) (part-size n s b g e) bytes sound))
          (λ d. back-whole-other n s c t h.long (owner_in b) (number_in b) here (part_in b) (part-size n s b g e) bytes sound p k a d (h.whole p k a));
    }

    record-tells : (st : List ℕ) → Tells n s t st
        → Tells n s (put_part s t (owner_in b) (number_in b) (part_in b)) (set st (slot_of (owner_in b) (number_in b)) (record_of (part_in b)).vote.status)
    record-tells st z = record { long = length-set st _ _ ∙ z.long; each = λ p k a. whether (owner_in b) (number_in b) p k (at_own p k) (at_other p k a) }
      where
        inside : slot_of (owner_in b) (number_in b) < length st
        inside = omega (arith, z.long, here.owner, here.first, here.last, h.copies, h.numbers)

        at_own : (p k : ℕ) → (owner_in b ≡ p) × (number_in b ≡ k)
            → get_or (set st (slot_of (owner_in b) (number_in b)) (record_of (part_in b)).vote.status) (slot_of p k) 0 ≡ (record_in s (put_part s t (owner_in b) (number_in b) (part_in b)) p k).vote.status
        at_own p k w =
            rw (← w.0, ← w.1)
            (get_or-set_same st (slot_of (owner_in b) (number_in b)) (record_of (part_in b)).vote.status 0 inside ∙ ap (λ (r : Record). r.vote.status) (sym own))

        at_other : (p k : ℕ) → Names n s p k → ((owner_in b ≡ p) × (number_in b ≡ k) → ⊥)
            → get_or (set st (slot_of (owner_in b) (number_in b)) (record_of (part_in b)).vote.status) (slot_of p k) 0 ≡ (record_in s (put_part s t (owner_in b) (number_in b) (part_in b)) p k).vote.status
        at_other p k a d =
            get_or-set_other st (slot_of (owner_in b) (number_in b)) (slot_of p k) (record_of (part_in b)).vote.status 0
            (λ e. d (omega (arith, here.first, here.last, a.first, a.last, h.numbers), omega (arith, here.first, here.last, a.first, a.last, h.numbers)))
            ∙ z.each p k a ∙ ap (λ (r : Record). r.vote.status) (sym (other p k a d))

  -- a mark, which changes no vote
  mark-held : Held n s (marked_in s t (owner_in b) (number_in b))
  unfolding marked_in
  mark-held = record {
    copies = h.copies;
    numbers = h.numbers;
    long = put-long n s t h.long (owner_in b) (number_in b) here (marked (record_in s t (owner_in b) (number_in b))) (replies-seven s t (owner_in b) (number_in b)) ∙ h.long;
    whole = λ p k a. whether (owner_in b) (number_in b) p k
        (λ w. rw (← w.0, ← w.1) (whole-mark n s t (owner_in b) (number_in b) has (h.whole (owner_in b) (number_in b) here)))
        (λ d. whole-other n s t (owner_in b) (number_in b) has (h.whole (owner_in b) (number_in b) here) p k a d (h.whole p k a));
  }

  mark-tells : (st : List ℕ) → Tells n s t st → Tells n s (marked_in s t (owner_in b) (number_in b)) st
  unfolding marked_in
  mark-tells st z = record {
    long = z.long;
    each = λ p k a. z.each p k a ∙ whether (owner_in b) (number_in b) p k
        (λ w. rw (← w.0, ← w.1) (ap (λ (r : Record). r.vote.status) (sym (get-mark n s t (owner_in b) (number_in b) has (h.whole (owner_in b) (number_in b) here)))))
        (λ d. ap (λ (r : Record). r.vote.status) (sym (get-put-other n s t h.long (owner_in b) (number_in b) here (marked (record_in s t (owner_in b) (number_in b))) (replies-seven s t (owner_in b) (number_in b)) p k a d)));
  }

  -- either way the table holds, and the statuses are told on
  pub applied-held : Held n s (applied s t b)
  unfolding applied
  applied-held = go (eqb (kind_in b) record_kind) refl
    where
      go : (x : Bool) → eqb (kind_in b) record_kind ≡ x → Held n s (cond x (put_part s t (owner_in b) (number_in b) (part_in b)) (marked_in s t (owner_in b) (number_in b)))
      go true e = record-held e
      go false e = mark-held

  pub applied-tells : (st : List ℕ) → Tells n s t st → Tells n s (applied s t b) (noted st b)
  unfolding applied
  applied-tells st z = go (eqb (kind_in b) record_kind) refl
    where
      go : (x : Bool) → eqb (kind_in b) record_kind ≡ x
          → Tells n s (cond x (put_part s t (owner_in b) (number_in b) (part_in b)) (marked_in s t (owner_in b) (number_in b)))
          (cond x (set st (slot_of (owner_in b) (number_in b)) (record_of (part_in b)).vote.status) st)
      go true e = record-tells e st z
      go false e = mark-tells st z

-- bytes are bytes from any place on
drop-bytes : (k : ℕ) (b : List ℕ) → Bytes b → Bytes (drop k b)
drop-bytes k b y i = rw (get_or-drop k b i 0) (y (k + i))

-- the walk by statuses is the walk by tables: step by step the same stands in front
or_same : (x : Result Front Fault) (at : ℕ) (a b : Result ℕ BadEntry) → (Ok front.Whole ≡ x → a ≡ b) → or_on x at a ≡ or_on x at b
or_same (Ok front.Whole) at a b h = h refl
or_same (Ok front.Rest) at a b h = refl
or_same (Err f) at a b h = refl

tells-front : (n s c : ℕ) (t st b : List ℕ) → Held n s t → Tells n s t st → front_of n s c (told st) b ≡ front_of n s c (committed_in s t) b
tells-front n s c t st b h z =
    front_same n s c (told st) (committed_in s t) b
    (λ r. ap (λ (k : ℕ). eqb k 4) (z.each (owner_in b) (number_in b) (range-names n s (owner_in b) (number_in b) h.copies h.numbers r)))

pub end_same : (k n s c : ℕ) (t st b : List ℕ) (at : ℕ) → Held n s t → Tells n s t st → Bytes b → end_by k n s c st b at ≡ end_of k n s c t b at
unfolding end_by end_of
end_same zero n s c t st b at h z y = refl
end_same (suc k) n s c t st b at h z y =
    rw (tells-front n s c t st b h z)
    (or_same (front_of n s c (committed_in s t) b) at _ _
    (λ e.
    let p = front-fit n s c (committed_in s t) b h.copies h.numbers e in
    end_same k n s c (applied s t b) (noted st b) (behind b) (at + entry_length (kind_in b)) (applied-held n s c (committed_in s t) t b h p.0 y p.1)
    (applied-tells n s c (committed_in s t) t b h p.0 y p.1 st z) (drop-bytes (entry_length (kind_in b)) b y)))

-- what is put of the entry in front, of its fields as they were read
module _ (n s : ℕ) (t b : List ℕ) {o j : ℕ} (eo : o ≡ owner_in b) (ej : j ≡ number_in b) where
  pub put_has : Puts n s t b → Has n s o j t
  put_has p = rw (eo, ej) (record { names = fit-names n s b p.fit; long = p.held.long })

  pub put_whole : Puts n s t b → Whole s t o j
  put_whole p = rw (eo, ej) (p.held.whole (owner_in b) (number_in b) (fit-names n s b p.fit))

  pub record-applied : eqb (kind_in b) record_kind ≡ true → {part t₁ : List ℕ} → part ≡ part_in b → t₁ ≡ put_part s t o j part → t₁ ≡ applied s t b
  unfolding applied
  record-applied e ep et = et ∙ rw (eo, ej, ep, e)

  pub mark-applied : eqb (kind_in b) record_kind ≡ false → {t₁ : List ℕ} → t₁ ≡ put_record s t o j (marked (record_in s t o j)) → t₁ ≡ applied s t b
  unfolding applied marked_in
  mark-applied e et = et ∙ rw (eo, ej, e)

-- entries put one after another: none, and the first of some
pub puts_none : (k s : ℕ) (t b : List ℕ) → length b ≡ 0 → puts k s t b ≡ t
unfolding puts
puts_none zero s t b e = refl
puts_none (suc k) s t [] e = refl
puts_none (suc k) s t (x ∷ b) e = absurd (omega arith)

pub puts-step : (k s : ℕ) (t b : List ℕ) → 0 < k → 0 < length b → puts k s t b ≡ puts (k - 1) s (applied s t b) (behind b)
unfolding puts
puts-step zero s t b l m = absurd (omega arith)
puts-step (suc k) s t [] l m = absurd (omega arith)
puts-step (suc k) s t (x ∷ b) l m = let e : suc k - 1 ≡ k = omega arith in rw e

-- two ends that are the same offset, and one that is no offset
pub same_end : {at e : ℕ} → ◌≡◌ {A = Result ℕ BadEntry} (Ok at) (Ok e) → at ≡ e
same_end p = cc

pub no_end : {A : Type 0} {x : BadEntry} {e : ℕ} → ◌≡◌ {A = Result ℕ BadEntry} (Err x) (Ok e) → A
no_end p = let z : ◌≡◌ {A = ℕ} 0 1 = cc in absurd (omega arith)

-- where nothing whole stands in front, a walk ends
or-past : (x : Result Front Fault) (at e : ℕ) (on : Result ℕ BadEntry) → or_on x at on ≡ Ok e → at < e → (Ok front.Whole ≡ x) × (on ≡ Ok e)
or-past (Ok front.Whole) at e on p l = (refl, p)
or-past (Ok front.Rest) at e on p l = absurd (omega (arith, same_end p))
or-past (Err f) at e on p l = no_end p

-- a walk that ends further on has a whole entry in front
pub record Past (k n s c : ℕ) (t b : List ℕ) (at e : ℕ) : Type 0 where
  pub some : 0 < k
  pub whole : Ok front.Whole ≡ front_of n s c (committed_in s t) b
  pub on : end_of (k - 1) n s c (applied s t b) (behind b) (at + entry_length (kind_in b)) ≡ Ok e

pub end-past : (k n s c : ℕ) (t b : List ℕ) (at e : ℕ) → end_of k n s c t b at ≡ Ok e → at < e → Past k n s c t b at e
unfolding end_of
end-past zero n s c t b at e p l = absurd (omega (arith, same_end p))
end-past (suc k) n s c t b at e p l =
    let q = or-past (front_of n s c (committed_in s t) b) at e (end_of k n s c (applied s t b) (behind b) (at + entry_length (kind_in b))) p l in
    let i : suc k - 1 ≡ k = omega arith in
    record { some = omega arith; whole = q.0; on = rw i q.1 }

-- after some entries: what is left of them, from `at` on
pub record Putting (n s : ℕ) (t₀ b t rest : List ℕ) : Type 0 where
  pub bytes : Bytes rest
  pub held : Held n s t
  pub copy : ℕ
  pub left : ℕ
  pub at : ℕ
  pub ends : end_of left n s copy t rest at ≡ Ok (at + length rest)
  pub so : puts (length b) s t₀ b ≡ puts left s t rest

pub put-start : (n s : ℕ) (t b : List ℕ) → Bytes b → Ready n s t b → Putting n s t b t b
put-start n s t b y r = record { bytes = y; held = r.held; copy = r.copy; left = length b; at = 0; ends = r.ends ∙ ap (λ (x : ℕ). Ok x) (omega arith); so = refl }

-- nothing left, and a further entry
module _ (n s : ℕ) (t₀ b t rest : List ℕ) (w : Putting n s t₀ b t rest) where
  pub put-end : length rest ≡ 0 → t ≡ puts (length b) s t₀ b
  put-end l = sym (w.so ∙ puts_none w.left s t rest l)

  module _ (l : 0 < length rest) where
    past : Past w.left n s w.copy t rest w.at (w.at + length rest)
    past = end-past w.left n s w.copy t rest w.at (w.at + length rest) w.ends (omega arith)

    taken : Fit n s rest × (entry_ok n s w.copy (committed_in s t) rest ≡ true)
    taken = front-fit n s w.copy (committed_in s t) rest w.held.copies w.held.numbers past.whole

    pub put_fit : Fit n s rest
    put_fit = taken.0

    pub put-room : {x : ℕ} → x ≡ entry_length (kind_in rest) → (0 < x) × (x ≤ length rest)
    put-room ex = (omega (arith, length-least (kind_in rest) taken.0.known), omega (arith, taken.0.whole))

    pub put_on : {t₁ : List ℕ} {x : ℕ} → t₁ ≡ applied s t rest → x ≡ entry_length (kind_in rest)
        → Putting n s t₀ b t₁ (take (length rest - x) (drop x rest))
    put_on {t₁} {x} et ex =
        let room = put-room ex in
        let d : take (length rest - x) (drop x rest) ≡ behind rest = rest-is rest x ∙ ap (λ (k : ℕ). drop k rest) ex in
        let long : w.at + length rest ≡ w.at + entry_length (kind_in rest) + length (behind rest) = omega (arith, room.1, length-drop (entry_length (kind_in rest)) rest) in
        rw d
        (record {
          bytes = drop-bytes (entry_length (kind_in rest)) rest w.bytes;
          held = rw et (applied-held n s w.copy (committed_in s t) t rest w.held taken.0 w.bytes taken.1);
          copy = w.copy;
          left = w.left - 1;
          at = w.at + entry_length (kind_in rest);
          ends = rw et (past.on ∙ ap (λ (k : ℕ). Ok k) long);
          so = w.so ∙ puts-step w.left s t rest past.some l ∙ rw et refl;
        })
