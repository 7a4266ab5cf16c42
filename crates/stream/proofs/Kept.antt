-- What each call keeps of a place that calls take, and with it every run: the statements of specs/Cutting. Assumes nothing.
use mathlib.Core.Path.{◌≡◌, refl, sym, ap, ap₂, ◌∙◌}
use mathlib.Core.Bool.{Bool, true, false}
use mathlib.Core.List.{List, [], ◌∷◌, ◌++◌, append_assoc, append-nil}
use Prim.Native.Nat.{ℕ, ◌+◌, ◌-◌, ◌≤◌, ◌<◌}
use native.Mathlib.Nat.{le-min}
use native.Mathlib.Omega.{arith}
use borrow.Author.Tests.{eqb-true, leb-false}
use lib.Dec.{eqb, leb}
use Rattle.std.specs.Prelude.{None, Result, Ok, Err}
use lib.ListN.{length, take, drop, length-append, length-drop, take-append-drop}
use lib.Seq.{length-take-le, drop-drop, drop_at, take-add}
use Rattle.numbers.specs.Num.{splice}
use Rattle.numbers.proofs.Laws.{length-splice, splice-next, splice-same}
use Rattle.paper.specs.Message.{row_of}
use Rattle.wire.specs.Wire.{length_of, kind_at}
use Rattle.wire.proofs.Laws.{ten, long-enough}
use Rattle.stream.specs.declared.place.Place.{Place}
use Rattle.stream.specs.declared.place.Halt.TheVariants.{Refused}
use Rattle.paper.specs.declared.Refusal.{Refusal}
use Rattle.stream.specs.Place.{is_sum, held, gate_of, start}
use Rattle.stream.specs.Stream.{is_stopped, is_whole, room_for, count, first, filled, fill, taken, behind, yielded, yielded_open}
use Rattle.stream.specs.Cutting.{joined, uncut, Call, offer, ask, State, opened, count_in, is_message, is_stop, answer, after, run, Drained, shown, AnyCutting, TwoCuttings, InOrder, ForGood, Progress}
use Rattle.stream.proofs.Laws.{PlaceOk, of-ok, open-ok, held-length, Front, front-is, front-running, room_fits, room-counts, room-offered, taken-stopped, taken-fills, yielded-shut, yielded-open, yields-front, message-front, stops, waits}
use Rattle.stream.proofs.Laws as law
use Rattle.stream.proofs.Sums.{and-another, sum-add, sum-none}
use Rattle.stream.proofs.Cutting.{Exact, AllExact, kind-append, exact-snoc, joined_snoc, uncut-front, uncut-all}

-- a place that calls take, in a buffer that is large enough
gate-of : (l : ℕ) (p : Place) → PlaceOk l p → 64 ≤ l → gate_of l p ≡ Ok tt
gate-of l p k big = sym (law.opened l p (of-ok l p k) big)

-- taking bytes
module _ (b : List ℕ) (p : Place) (g : gate_of (length b) p ≡ Ok tt) where
  ok : PlaceOk (length b) p
  ok = (open-ok (length b) p g).0

  big : 64 ≤ length b
  big = (open-ok (length b) p g).1

  total : is_sum p.offset ≡ true
  total =
      let k = ok in
      let q : p.at + (p.offset - p.at) ≡ p.offset = omega (arith, k.passed) in
      rw q at (sum-add p.at (p.offset - p.at) k.whole k.before)

  module _ (x : List ℕ) where
    put-length : length (first b p x) ≡ count b p x
    put-length = length-take-le (count b p x) x (room-offered (length b) p (length x) ok.within)

    all-fits : p.end - p.at + count b p x ≤ length b
    all-fits = room_fits (length b) p (length x) ok.within

    buffer-is : (fill b p x).buffer ≡ splice b 0 (held b p ++ first b p x)
    buffer-is =
        let h = held-length b p ok.within in
        let n = put-length in
        let a = all-fits in
        splice-next b 0 (held b p) (p.end - p.at) (first b p x) (omega arith) (omega arith)

    pub filled-length : length (fill b p x).buffer ≡ length b
    filled-length =
        let h = held-length b p ok.within in
        let n = put-length in
        let a = all-fits in
        ap length buffer-is ∙ length-splice b 0 (held b p ++ first b p x) (omega (arith, length-append (held b p) (first b p x)))

    pub filled-held : held (fill b p x).buffer (filled b p x).place
        ≡ held b p ++ first b p x
    unfolding held
    filled-held =
        let h = held-length b p ok.within in
        let n = put-length in
        let a = all-fits in
        let l : length (held b p ++ first b p x) ≡ p.end - p.at + count b p x - 0 =
        length-append (held b p) (first b p x) ∙ omega arith in
        ap (λ (z : List ℕ). take (p.end - p.at + count b p x - 0) (drop 0 z)) buffer-is
        ∙ splice-same b 0 (held b p ++ first b p x) (p.end - p.at + count b p x - 0) l (omega arith)

    pub filled-open : gate_of (length (fill b p x).buffer) (filled b p x).place ≡ Ok tt
    filled-open =
        let a = all-fits in
        let c = room-counts (length b) p (length x) ok.within in
        let z : p.offset - 0 ≡ p.offset = omega arith in
        rw filled-length
        (gate-of (length b) (filled b p x).place
        (record {
          within = record { ordered = omega arith; inside = omega arith; counted = omega arith };
          passed = omega arith;
          whole = sum-none;
          before = rw (z, total);
        })
        big)

-- yielding a message
module _ (b : List ℕ) (p : Place) (g : gate_of (length b) p ≡ Ok tt) {n : ℕ} (f : Front (held b p) n) where
  pub behind-held : held b (behind p n) ≡ drop n (held b p)
  unfolding held behind
  behind-held =
      let w = (ok b p g).within in
      let o = w.ordered in
      let i = w.inside in
      let t = f.fits in
      let h = held-length b p w in
      let q : p.end - p.at ≡ n + (p.end - (p.at + n)) = omega arith in
      let l : length (take n (drop p.at b)) ≡ n = length-take-le n (drop p.at b) (rw (length-drop p.at b) (omega arith)) in
      rw (q, take-add n (p.end - (p.at + n)) (drop p.at b), drop_at (take n (drop p.at b)) (take (p.end - (p.at + n)) (drop n (drop p.at b))) n l, drop-drop n p.at b)

  -- the message is whole, and by itself
  pub message-exact : Exact (take n (held b p))
  message-exact =
      let l : length (take n (held b p)) ≡ n = length-take-le n (held b p) f.fits in
      let t = ten (kind_at (held b p)) in
      let q : kind_at (take n (held b p)) ≡ kind_at (held b p) =
      sym (kind-append (take n (held b p)) (drop n (held b p)) (omega (arith, f.exact))) ∙ ap kind_at (take-append-drop n (held b p)) in
      record { known = rw q f.known; exact = rw q (l ∙ f.exact) }

  pub behind-open : gate_of (length b) (behind p n) ≡ Ok tt
  unfolding behind
  behind-open =
      let k = ok b p g in
      let w = k.within in
      let o = w.ordered in
      let i = w.inside in
      let c = w.counted in
      let s = k.passed in
      let h = held-length b p w in
      let t = f.fits in
      let z : p.offset + n - (p.at + n) ≡ p.offset - p.at = omega arith in
      let whole : is_sum (p.at + n) ≡ true = rw f.exact (and-another p.at (kind_at (held b p)) f.known k.whole) in
      gate-of (length b) (record { at = p.at + n; end = p.end; offset = p.offset + n })
      (record {
        within = record { ordered = omega arith; inside = omega arith; counted = omega arith };
        passed = omega arith;
        whole = whole;
        before = rw (z, k.before);
      })
      (big b p g)

-- where a stream stands still nothing is taken, yielded or changed
pub stopped-stays : (s : State) → gate_of (length s.buffer) s.place ≡ Ok tt → is_stopped (held s.buffer s.place) ≡ true → (c : Call) → after s c ≡ s
stopped-stays s g e (offer x) = let t = taken-stopped s.buffer s.place x (sym g) e in rw t (ap (λ (l : List ℕ). record { buffer = s.buffer; place = s.place; taken = l; yielded = s.yielded }) (append-nil s.taken))
stopped-stays s g e ask =
    let t = yielded-open s.buffer s.place (sym g) ∙ sym (stops (held s.buffer s.place) s.place e) in
    rw t (ap (λ (l : List (List ℕ)). record { buffer = s.buffer; place = s.place; taken = s.taken; yielded = l }) (append-nil s.yielded))

-- what every run keeps
pub record Kept (s : State) : Type 0 where
  pub passes : gate_of (length s.buffer) s.place ≡ Ok tt
  pub all : s.taken ≡ joined s.yielded ++ held s.buffer s.place
  pub at : s.place.offset ≡ length (joined s.yielded)
  pub whole : AllExact s.yielded

pub kept-opened : (b : List ℕ) → 64 ≤ length b → Kept (opened b)
unfolding held
kept-opened b l =
    record {
      passes = gate-of (length b) start (record { within = record { ordered = omega arith; inside = omega arith; counted = omega arith }; passed = omega arith; whole = sum-none; before = sum-none }) l;
      all = refl;
      at = refl;
      whole = tt;
    }

kept-offer : (s : State) (x : List ℕ) → Kept s → Kept (after s (offer x))
kept-offer s x k = go (is_stopped (held s.buffer s.place)) refl
  where
    go : (a : Bool) → is_stopped (held s.buffer s.place) ≡ a → Kept (after s (offer x))
    go true e = rw (stopped-stays s k.passes e (offer x)) k
    go false e =
        rw (taken-fills s.buffer s.place x (sym k.passes) e)
        (record {
          passes = filled-open s.buffer s.place k.passes x;
          all =
              rw (filled-held s.buffer s.place k.passes x, k.all)
              (append_assoc (joined s.yielded) (held s.buffer s.place) (first s.buffer s.place x));
          at = k.at;
          whole = k.whole;
        })

-- one more message is yielded
module _ (s : State) (k : Kept s) {n : ℕ} (f : Front (held s.buffer s.place) n) where
  pub one_more : Kept (record { buffer = s.buffer; place = behind s.place n; taken = s.taken; yielded = s.yielded ++ take n (held s.buffer s.place) ∷ [] })
  unfolding behind
  one_more =
      let m = take n (held s.buffer s.place) in
      let l : length m ≡ n = length-take-le n (held s.buffer s.place) f.fits in
      let j : joined (s.yielded ++ m ∷ []) ≡ joined s.yielded ++ m = joined_snoc s.yielded m in
      let whole : m ++ drop n (held s.buffer s.place) ≡ held s.buffer s.place = take-append-drop n (held s.buffer s.place) in
      let a : joined s.yielded ++ m ++ drop n (held s.buffer s.place) ≡ s.taken = append_assoc (joined s.yielded) m (drop n (held s.buffer s.place)) ∙ rw whole (sym k.all) in
      record {
        passes = behind-open s.buffer s.place k.passes f;
        all = sym (rw (j, behind-held s.buffer s.place k.passes f) a);
        at = rw (j, length-append (joined s.yielded) m) (omega (arith, k.at));
        whole = exact-snoc s.yielded m k.whole (message-exact s.buffer s.place k.passes f);
      }

kept-ask : (s : State) → Kept s → Kept (after s ask)
kept-ask s k = go (is_stopped (held s.buffer s.place)) (is_whole (held s.buffer s.place)) refl refl
  where
    go : (a c : Bool) → is_stopped (held s.buffer s.place) ≡ a → is_whole (held s.buffer s.place) ≡ c → Kept (after s ask)
    go true c e d = rw (stopped-stays s k.passes e ask) k
    go false true e d =
        rw (yielded-open s.buffer s.place (sym k.passes) ∙ yields-front (held s.buffer s.place) s.place e d, message-front s.buffer s.place (sym k.passes) d)
        (one_more s k (front-is (held s.buffer s.place) d))
    go false false e d =
        rw (yielded-open s.buffer s.place (sym k.passes) ∙ sym (waits (held s.buffer s.place) s.place e d), append-nil s.yielded) k

pub kept_run : (s : State) (cs : List Call) → Kept s → Kept (run s cs)
kept_run s [] k = k
kept_run s (offer x ∷ cs) k = kept_run (after s (offer x)) cs (kept-offer s x k)
kept_run s (ask ∷ cs) k = kept_run (after s ask) cs (kept-ask s k)

-- what the next call answers, by what is held
module _ (s : State) (k : Kept s) where
  next-is : yielded s.buffer s.place ≡ yielded_open (held s.buffer s.place) s.place
  next-is = yielded-open s.buffer s.place (sym k.passes)

  drained-none : Drained s → is_whole (held s.buffer s.place) ≡ false
  drained-none d = go (is_stopped (held s.buffer s.place)) (is_whole (held s.buffer s.place)) refl refl
    where
      go : (a c : Bool) → is_stopped (held s.buffer s.place) ≡ a → is_whole (held s.buffer s.place) ≡ c → is_whole (held s.buffer s.place) ≡ false
      go a false e f = f
      go true true e f = let z : ◌≡◌ {A = Bool} true false = sym e ∙ front-running (held s.buffer s.place) (front-is (held s.buffer s.place) f) in absurd (cc)
      go false true e f =
          let z : ◌≡◌ {A = Bool} true false = ap is_message (sym (next-is ∙ yields-front (held s.buffer s.place) s.place e f)) ∙ d in
          absurd (cc)

  stop_is : Drained s → is_stop (answer s) ≡ is_stopped (held s.buffer s.place)
  stop_is d = go (is_stopped (held s.buffer s.place)) refl
    where
      go : (a : Bool) → is_stopped (held s.buffer s.place) ≡ a → is_stop (answer s) ≡ is_stopped (held s.buffer s.place)
      go true e = ap is_stop (next-is ∙ sym (stops (held s.buffer s.place) s.place e)) ∙ sym e
      go false e = ap is_stop (next-is ∙ sym (waits (held s.buffer s.place) s.place e (drained-none d))) ∙ sym e

  pub shown-is : Drained s → shown s ≡ uncut s.taken
  shown-is d =
      let e : shown s ≡ record { messages = s.yielded; rest = length (joined s.yielded); stopped = is_stopped (held s.buffer s.place) } =
      ap₂ (λ (r : ℕ) (t : Bool). record { messages = s.yielded; rest = r; stopped = t }) k.at (stop_is d) in
      e ∙ rw k.all (uncut-all s.yielded (held s.buffer s.place) k.whole (drained-none d))

  pub order_is : (uncut s.taken).messages ≡ s.yielded ++ (uncut (held s.buffer s.place)).messages
  order_is = rw k.all (uncut-front s.yielded (held s.buffer s.place) k.whole)

pub any-cutting : AnyCutting
any-cutting b l cs d = shown-is (run (opened b) cs) (kept_run (opened b) cs (kept-opened b l)) d

pub two-cuttings : TwoCuttings
two-cuttings b b' l l' cs cs' d d' e = any-cutting b l cs d ∙ ap uncut e ∙ sym (any-cutting b' l' cs' d')

pub in_order : InOrder
in_order b l cs = order_is (run (opened b) cs) (kept_run (opened b) cs (kept-opened b l))

-- a state whose next answer is a stop or nothing passes the gate
passes_of : (s : State) → ((r : Refusal) → answer s ≡ Err (Refused r) → ⊥) → gate_of (length s.buffer) s.place ≡ Ok tt
passes_of s h = go (gate_of (length s.buffer) s.place) refl
  where
    go : (g : Result Unit Refusal) → gate_of (length s.buffer) s.place ≡ g → g ≡ Ok tt
    go (Ok u) e = refl
    go (Err r) e = absurd (h r (yielded-shut s.buffer s.place (sym e)))

pub for-good : ForGood
for-good s o e c = go (is_stopped (held s.buffer s.place)) (is_whole (held s.buffer s.place)) refl refl
  where
    g : gate_of (length s.buffer) s.place ≡ Ok tt
    g = passes_of s (λ r f. cc)

    go : (a w : Bool) → is_stopped (held s.buffer s.place) ≡ a → is_whole (held s.buffer s.place) ≡ w → after s c ≡ s
    go true w p q = stopped-stays s g p c
    go false true p q =
        let t = yielded-open s.buffer s.place (sym g) ∙ yields-front (held s.buffer s.place) s.place p q in absurd (cc)
    go false false p q =
        let t = yielded-open s.buffer s.place (sym g) ∙ sym (waits (held s.buffer s.place) s.place p q) in absurd (cc)

-- what is no whole message and does not stop the stream is shorter than the longest message
short : (h : List ℕ) → is_stopped h ≡ false → is_whole h ≡ false → length h < 46
unfolding is_stopped is_whole
short h a b = go (eqb (length h) 0) (row_of (kind_at h)).known refl refl
  where
    go : (e k : Bool) → eqb (length h) 0 ≡ e → (row_of (kind_at h)).known ≡ k → length h < 46
    go true k p q = omega (arith, eqb-true (length h) 0 p)
    go false true p q =
        let w : leb (length_of (kind_at h)) (length h) ≡ false = rw q at b in
        omega (arith, leb-false (length_of (kind_at h)) (length h) w, long-enough (kind_at h))
    go false false p q = let z : ◌≡◌ {A = Bool} true false = rw (p, q) at a in absurd (cc)

-- room for a byte at least
room-one : (l : ℕ) (p : Place) (x : ℕ) → 0 < x → p.end - p.at < l → p.offset + (p.end - p.at) + 1 < 18446744073709551616 → 0 < room_for l p x
unfolding room_for
room-one l p x a b c =
    let r : 0 < l - (p.end - p.at) = omega arith in
    let o : 0 < 18446744073709551615 - (p.offset + (p.end - p.at)) = omega arith in
    le-min a (le-min r o)

-- all that was taken, by the numbers of the place
module _ (s : State) (k : Kept s) where
  taken-length : length s.taken ≡ s.place.offset + (s.place.end - s.place.at)
  taken-length =
      let h = held-length s.buffer s.place (ok s.buffer s.place k.passes).within in
      ap length k.all ∙ length-append (joined s.yielded) (held s.buffer s.place) ∙ omega (arith, k.at)

  takes_one : (x : List ℕ) → answer s ≡ Ok None → 0 < length x → length s.taken + 1 < 18446744073709551616 → 0 < count_in (taken s.buffer s.place x).told
  takes_one x e some few = go (is_stopped (held s.buffer s.place)) (is_whole (held s.buffer s.place)) refl refl
    where
      go : (a w : Bool) → is_stopped (held s.buffer s.place) ≡ a → is_whole (held s.buffer s.place) ≡ w → 0 < count_in (taken s.buffer s.place x).told
      go true w p q =
          let u = next-is s k ∙ sym (stops (held s.buffer s.place) s.place p) in absurd (cc)
      go false true p q =
          let u = next-is s k ∙ yields-front (held s.buffer s.place) s.place p q in absurd (cc)
      go false false p q =
          let h = held-length s.buffer s.place (ok s.buffer s.place k.passes).within in
          let b = big s.buffer s.place k.passes in
          let t = short (held s.buffer s.place) p q in
          rw (taken-fills s.buffer s.place x (sym k.passes) p) (room-one (length s.buffer) s.place (length x) some (omega arith) (omega (arith, taken-length)))

pub progress : Progress
progress b l cs x e some few = takes_one (run (opened b) cs) (kept_run (opened b) cs (kept-opened b l)) x e some few
