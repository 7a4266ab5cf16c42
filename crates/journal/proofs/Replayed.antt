-- A replay's outcomes: the entries that the first pass took are the ones that the second puts, cut off from what stands behind
-- them. Assumes nothing.
use Prim.Native.Nat.{ℕ, zero, suc, ◌+◌, ◌-◌, ◌≤◌, ◌<◌}
use mathlib.Core.Path.{◌≡◌, refl, sym, ap, ap₂, ◌∙◌}
use mathlib.Core.Logic.{⊎_elim}
use mathlib.Core.Bool.{Bool, true, false, cond}
use mathlib.Core.List.{List, ◌++◌}
use native.Mathlib.Omega.{arith}
use native.Mathlib.Nat.{eq-or-lt_of_le}
use lib.Dec.{eqb}
use lib.ListN.{length, get_or, take, drop, length-drop, take-append-drop, get_or-append}
use lib.Seq.{take-append-le, drop-append-le, length-take-le}
use Rattle.std.specs.Prelude.{Result, Ok, Err}
use Rattle.paper.specs.Instance.{instance_ok}
use Rattle.paper.specs.declared.Refusal.{Refusal}
use Rattle.record.specs.Part.{sound_part}
use Rattle.table.specs.Calls.{part_size, judged, put_part}
use Rattle.order.specs.Calls.{marked_in}
use Rattle.entries.specs.declared.Fault.{Fault}
use Rattle.entries.specs.declared.Front.{Front}
use Rattle.entries.specs.declared.Front.TheVariants as front
use Rattle.entries.specs.declared.BadEntry.{BadEntry}
use Rattle.entries.specs.declared.Unreplayed.{Unreplayed}
use Rattle.entries.specs.declared.Unreplayed.TheVariants as unreplayed
use Rattle.entries.specs.Entry.{record_kind, entry_head, entry_length, kind_in, owner_in, number_in, part_in}
use Rattle.entries.specs.Replay.{committed_in, entry_ok, front_of, applied, behind, or_on, end_of, puts, Replayed, replayed_open, replayed}
use Rattle.entries.specs.Entry.{Fit}
use Rattle.journal.specs.Judging.{Held, Ready}
use Rattle.entries.proofs.Lengths.{length-least, length-record}
use Rattle.entries.proofs.Fronts.{front-none, front-whole, front-fit}
use Rattle.journal.proofs.Put.{puts_none, puts-step, same_end, no_end, end-past}

-- two choices by one test
cond_same : {A : Type 0} (x : Bool) (p q u v : A) → (x ≡ true → p ≡ u) → q ≡ v → cond x p q ≡ cond x u v
cond_same true p q u v f g = f refl
cond_same false p q u v f g = g

-- the answer and the table of a replay
abbrev pub Met : Replayed → Result ℕ Unreplayed → List ℕ → Type 0
Met r a t = record { answers : a ≡ r.answer; table : t ≡ r.table }

-- the entry in front, cut off from what stands behind it
module _ (n s : ℕ) (a r : List ℕ) (g : Fit n s (a ++ r)) (l : entry_length (kind_in (a ++ r)) ≤ length a) where
  at_front : (i : ℕ) → i < entry_head → get_or (a ++ r) i 0 ≡ get_or a i 0
  at_front i m = get_or-append a r 0 i (omega (arith, length-least (kind_in (a ++ r)) g.known))

  kind-cut : kind_in (a ++ r) ≡ kind_in a
  kind-cut = rw (at_front 0 (omega arith))

  owner-cut : owner_in (a ++ r) ≡ owner_in a
  owner-cut = rw (at_front 1 (omega arith))

  number_cut : number_in (a ++ r) ≡ number_in a
  number_cut = rw (at_front 2 (omega arith), at_front 3 (omega arith))

  part_cut : eqb (kind_in (a ++ r)) record_kind ≡ true → part_in (a ++ r) ≡ part_in a
  part_cut e =
      let m : entry_head + part_size ≤ length a = omega (arith, length-record (kind_in (a ++ r)) e) in
      ap (take part_size) (drop-append-le entry_head a r (omega arith)) ∙ take-append-le part_size (drop entry_head a) r (simp length-drop (omega arith))

  fit_cut : Fit n s a
  fit_cut = record {
    known = λ z. g.known (ap entry_length kind-cut ∙ z);
    whole = rw kind-cut at l;
    copies = g.copies;
    numbers = g.numbers;
    range = sym (ap₂ (instance_ok n s) owner-cut number_cut) ∙ g.range;
  }

  ok-cut : (c : ℕ) (f : ℕ → ℕ → Bool) → entry_ok n s c f (a ++ r) ≡ entry_ok n s c f a
  ok-cut c f =
      cond_same (eqb (kind_in (a ++ r)) record_kind) (sound_part n s c (owner_in (a ++ r)) (part_in (a ++ r))) (f (owner_in (a ++ r)) (number_in (a ++ r)))
      (sound_part n s c (owner_in a) (part_in a)) (f (owner_in a) (number_in a)) (λ e. ap₂ (sound_part n s c) owner-cut (part_cut e)) (ap₂ f owner-cut number_cut)
      ∙ ap (λ (k : ℕ). cond (eqb k record_kind) (sound_part n s c (owner_in a) (part_in a)) (f (owner_in a) (number_in a))) kind-cut

  applied-cut : (t : List ℕ) → applied s t (a ++ r) ≡ applied s t a
  unfolding applied
  applied-cut t =
      cond_same (eqb (kind_in (a ++ r)) record_kind) (put_part s t (owner_in (a ++ r)) (number_in (a ++ r)) (part_in (a ++ r))) (marked_in s t (owner_in (a ++ r)) (number_in (a ++ r)))
      (put_part s t (owner_in a) (number_in a) (part_in a)) (marked_in s t (owner_in a) (number_in a))
      (λ e. ap₂ (λ (o j : ℕ). put_part s t o j (part_in (a ++ r))) owner-cut number_cut ∙ ap (put_part s t (owner_in a) (number_in a)) (part_cut e))
      (ap₂ (marked_in s t) owner-cut number_cut)
      ∙ ap (λ (k : ℕ). cond (eqb k record_kind) (put_part s t (owner_in a) (number_in a) (part_in a)) (marked_in s t (owner_in a) (number_in a))) kind-cut

  behind-cut : behind (a ++ r) ≡ behind a ++ r
  behind-cut = drop-append-le (entry_length (kind_in (a ++ r))) a r l ∙ ap (λ (k : ℕ). drop (entry_length k) a ++ r) kind-cut

-- where a walk can end: not before its start, nor behind the list
or-least : (x : Result Front Fault) (at e : ℕ) (on : Result ℕ BadEntry) → or_on x at on ≡ Ok e → (on ≡ Ok e → at ≤ e) → at ≤ e
or-least (Ok front.Whole) at e on p l = l p
or-least (Ok front.Rest) at e on p l = omega (arith, same_end p)
or-least (Err f) at e on p l = no_end p

or_most : (x : Result Front Fault) (at m e : ℕ) (on : Result ℕ BadEntry) → or_on x at on ≡ Ok e → at ≤ m → (Ok front.Whole ≡ x → on ≡ Ok e → e ≤ m) → e ≤ m
or_most (Ok front.Whole) at m e on p l h = h refl p
or_most (Ok front.Rest) at m e on p l h = omega (arith, same_end p)
or_most (Err f) at m e on p l h = no_end p

end-least : (k n s c : ℕ) (t b : List ℕ) (at e : ℕ) → end_of k n s c t b at ≡ Ok e → at ≤ e
unfolding end_of
end-least zero n s c t b at e p = omega (arith, same_end p)
end-least (suc k) n s c t b at e p =
    or-least (front_of n s c (committed_in s t) b) at e _ p (λ q. omega (arith, end-least k n s c (applied s t b) (behind b) (at + entry_length (kind_in b)) e q))

end-most : (k n s c : ℕ) (t b : List ℕ) (at e : ℕ) → n ≤ 7 → s ≤ 64 → end_of k n s c t b at ≡ Ok e → e ≤ at + length b
unfolding end_of
end-most zero n s c t b at e ln ls p = omega (arith, same_end p)
end-most (suc k) n s c t b at e ln ls p =
    or_most (front_of n s c (committed_in s t) b) at (at + length b) e _ p (omega arith)
    (λ w q.
    let g = front-fit n s c (committed_in s t) b ln ls w in
    omega (arith, g.0.whole, end-most k n s c (applied s t b) (behind b) (at + entry_length (kind_in b)) e ln ls q, length-drop (entry_length (kind_in b)) b))

-- a walk with no step left, one with nothing left, and one step
end-zero : (n s c : ℕ) (t b : List ℕ) (at : ℕ) → end_of 0 n s c t b at ≡ Ok at
unfolding end_of
end-zero n s c t b at = refl

end_none : (k n s c : ℕ) (t b : List ℕ) (at : ℕ) → length b ≡ 0 → end_of k n s c t b at ≡ Ok at
unfolding end_of
end_none zero n s c t b at e = refl
end_none (suc k) n s c t b at e = rw (← front-none n s c (committed_in s t) b e)

end_step : (k n s c : ℕ) (t b : List ℕ) (at : ℕ) → 0 < k → Ok front.Whole ≡ front_of n s c (committed_in s t) b
    → end_of k n s c t b at ≡ end_of (k - 1) n s c (applied s t b) (behind b) (at + entry_length (kind_in b))
unfolding end_of
end_step zero n s c t b at l e = absurd (omega arith)
end_step (suc k) n s c t b at l e = let i : suc k - 1 ≡ k = omega arith in rw (← e, i)

-- a walk that ends at an offset, by another spelling of it
at-end : {at e : ℕ} → at ≡ e → ◌≡◌ {A = Result ℕ BadEntry} (Ok at) (Ok e)
at-end i = ap (λ (x : ℕ). Ok x) i

-- behind the first entry a walk over all of a list goes on over the rest of it
rest-long : (n s : ℕ) (a : List ℕ) (at : ℕ) → Fit n s a → at + length a ≡ at + entry_length (kind_in a) + length (behind a)
rest-long n s a at g = omega (arith, g.whole, length-drop (entry_length (kind_in a)) a)

-- the same walk, where the list is cut at its end
end-cut : (k k' n s c : ℕ) (t a r : List ℕ) (at : ℕ) → n ≤ 7 → s ≤ 64 → end_of k n s c t (a ++ r) at ≡ Ok (at + length a) → length a ≤ k'
    → end_of k' n s c t a at ≡ Ok (at + length a)
end-cut zero k' n s c t a r at ln ls e m =
    let i : at ≡ at + length a = same_end (sym (end-zero n s c t (a ++ r) at) ∙ e) in
    end_none k' n s c t a at (omega arith) ∙ at-end i
end-cut (suc k) k' n s c t a r at ln ls e m =
    ⊎_elim
    (λ (z : 0 ≡ length a). let i : at ≡ at + length a = omega arith in end_none k' n s c t a at (sym z) ∙ at-end i)
    (λ (l : 0 < length a).
    let p = end-past (suc k) n s c t (a ++ r) at (at + length a) e (omega arith) in
    let i : suc k - 1 ≡ k = omega arith in
    let on : end_of k n s c (applied s t (a ++ r)) (behind (a ++ r)) (at + entry_length (kind_in (a ++ r))) ≡ Ok (at + length a) = rw i at p.on in
    let g = front-fit n s c (committed_in s t) (a ++ r) ln ls p.whole in
    let fits : entry_length (kind_in (a ++ r)) ≤ length a =
    omega (arith, end-least k n s c (applied s t (a ++ r)) (behind (a ++ r)) (at + entry_length (kind_in (a ++ r))) (at + length a) on) in
    let f : Fit n s a = fit_cut n s a r g.0 fits in
    let w : Ok front.Whole ≡ front_of n s c (committed_in s t) a =
    front-whole n s c (committed_in s t) a f (sym (ok-cut n s a r g.0 fits c (committed_in s t)) ∙ g.1) in
    let cut : end_of k n s c (applied s t a) (behind a ++ r) (at + entry_length (kind_in a)) ≡ Ok (at + entry_length (kind_in a) + length (behind a)) =
    rw (← applied-cut n s a r g.0 fits t, ← behind-cut n s a r g.0 fits, ← kind-cut n s a r g.0 fits) on ∙ at-end (rest-long n s a at f) in
    end_step k' n s c t a at (omega arith) w
    ∙ end-cut k (k' - 1) n s c (applied s t a) (behind a) r (at + entry_length (kind_in a)) ln ls cut (omega (arith, length-drop (entry_length (kind_in a)) a, length-least (kind_in a) f.known))
    ∙ at-end (sym (rest-long n s a at f)))
    (eq-or-lt_of_le {n = 0} {m = length a} (omega arith))

-- as many steps as bytes are enough to put all of them
puts-enough : (k k₁ k₂ n s c : ℕ) (t a : List ℕ) (at : ℕ) → n ≤ 7 → s ≤ 64 → end_of k n s c t a at ≡ Ok (at + length a) → length a ≤ k₁ → length a ≤ k₂
    → puts k₁ s t a ≡ puts k₂ s t a
puts-enough zero k₁ k₂ n s c t a at ln ls e m₁ m₂ =
    let i : at ≡ at + length a = same_end (sym (end-zero n s c t a at) ∙ e) in puts_none k₁ s t a (omega arith) ∙ sym (puts_none k₂ s t a (omega arith))
puts-enough (suc k) k₁ k₂ n s c t a at ln ls e m₁ m₂ =
    ⊎_elim
    (λ (z : 0 ≡ length a). puts_none k₁ s t a (sym z) ∙ sym (puts_none k₂ s t a (sym z)))
    (λ (l : 0 < length a).
    let p = end-past (suc k) n s c t a at (at + length a) e (omega arith) in
    let i : suc k - 1 ≡ k = omega arith in
    let g = (front-fit n s c (committed_in s t) a ln ls p.whole).0 in
    let on : end_of k n s c (applied s t a) (behind a) (at + entry_length (kind_in a)) ≡ Ok (at + entry_length (kind_in a) + length (behind a)) =
    rw i at p.on ∙ at-end (rest-long n s a at g) in
    let d = length-drop (entry_length (kind_in a)) a in
    let b = length-least (kind_in a) g.known in
    puts-step k₁ s t a (omega arith) l
    ∙ puts-enough k (k₁ - 1) (k₂ - 1) n s c (applied s t a) (behind a) (at + entry_length (kind_in a)) ln ls on (omega arith) (omega arith)
    ∙ sym (puts-step k₂ s t a (omega arith) l))
    (eq-or-lt_of_le {n = 0} {m = length a} (omega arith))

-- past 1 and 11: the entries that were taken are put
module _ (n s c : ℕ) (t b : List ℕ) {at : ℕ} (e : Ok at ≡ end_of (length b) n s c t b 0) where
  module _ (ln : n ≤ 7) (ls : s ≤ 64) where
    few : at ≤ length b
    few = omega (arith, end-most (length b) n s c t b 0 at ln ls (sym e))

    pub upto-length : at ≡ length (take at b)
    upto-length = sym (length-take-le at b few)

    ends : end_of (length (take at b)) n s c t (take at b) 0 ≡ Ok (0 + length (take at b))
    ends =
        let z : end_of (length b) n s c t (take at b ++ drop at b) 0 ≡ Ok (0 + length (take at b)) =
        rw take-append-drop (sym e ∙ at-end (omega (arith, upto-length))) in
        end-cut (length b) (length (take at b)) n s c t (take at b) (drop at b) 0 ln ls z (omega arith)

    enough : puts (length (take at b)) s t (take at b) ≡ puts (length b) s t (take at b)
    enough =
        puts-enough (length (take at b)) (length (take at b)) (length b) n s c t (take at b) 0 ln ls ends (omega arith) (omega (arith, few, upto-length))

  pub upto-ready : Held n s t → Ready n s t (take at b)
  upto-ready h = record { held = h; copy = c; ends = ends h.copies h.numbers ∙ at-end (omega arith) }

  pub open-upto : Held n s t → {t₁ : List ℕ} → t₁ ≡ puts (length (take at b)) s t (take at b) → Met (replayed_open n s c t b) (Ok at) t₁
  unfolding replayed_open
  open-upto h et = rw (← e) (record { answers = refl; table = et ∙ enough h.copies h.numbers })

-- or one of them is bad
pub open-bad : (n s c : ℕ) (t b : List ℕ) {x : BadEntry} → Err x ≡ end_of (length b) n s c t b 0 → Met (replayed_open n s c t b) (Err (unreplayed.Bad x)) t
unfolding replayed_open
open-bad n s c t b e = rw (← e) (record { answers = refl; table = refl })

-- 1 and 11, and past them
module _ (n s c : ℕ) (t b : List ℕ) where
  pub replay-refused : (r : Refusal) → Err r ≡ judged n s c t → Met (replayed n s c t b) (Err (unreplayed.Refused r)) t
  unfolding replayed
  replay-refused r e = rw (← e) (record { answers = refl; table = refl })

  pub replay-past : Ok tt ≡ judged n s c t → {x : Result ℕ Unreplayed} {t₁ : List ℕ}
      → Met (replayed_open n s c t b) x t₁ → Met (replayed n s c t b) x t₁
  unfolding replayed
  replay-past e p = rw (← e) p
