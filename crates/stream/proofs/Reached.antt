-- The places that pass are those that runs of calls leave. A run to such a place: messages go through one by one up to where the buffer is
-- to begin in the stream, then all that is to stand in the buffer is offered at once, and what is to be passed of it is asked for. Assumes nothing.
use mathlib.Core.Path.{◌≡◌, refl, sym, ap, ◌∙◌}
use mathlib.Core.Bool.{Bool, true, false, ◌&&◌}
use mathlib.Core.List.{List, [], ◌∷◌, ◌++◌, append_assoc}
use Prim.Native.Nat.{ℕ, zero, suc, ◌+◌, ◌-◌, ◌≤◌, ◌<◌}
use native.Mathlib.Nat.{add-zero, min-eq_left, le-min}
use native.Mathlib.Omega.{arith}
use borrow.Author.Tests.{eqb-true, leb-true}
use lib.Dec.{eqb, leb}
use Rattle.std.specs.Prelude.{Ok}
use lib.ListN.{length, replicate, length-append, length-replicate}
use lib.Seq.{take-length, drop-append_seam}
use Rattle.paper.specs.Message.{rows, row_of}
use Rattle.paper.proofs.Laws.{and-true}
use Rattle.wire.specs.Wire.{length_of, kind_at}
use Rattle.wire.proofs.Laws.{ten, long-enough}
use Rattle.stream.specs.declared.place.Place.{Place}
use Rattle.stream.specs.Place.{sums, is_sum, place_ok, held, gate_of}
use Rattle.stream.specs.Stream.{is_stopped, room_for, taken, place_after, behind, passed}
use Rattle.stream.specs.Cutting.{joined, Call, offer, ask, State, opened, after, run, Leaves, Reached}
use Rattle.stream.proofs.Laws.{ok_of, of-ok, open-ok, open-within, held-length, Front, front-whole, front-running, taken-fills, yielded-open, yields-front}
use Rattle.stream.proofs.Sums.{either_true, some_is}
use Rattle.stream.proofs.Cutting.{Exact, AllExact, exact-kind}
use Rattle.stream.proofs.Kept.{filled-length, filled-held, behind-held, stopped-stays, Kept, kept-opened, kept_run}

-- a buffer keeps its length
same_length : (s : State) (c : Call) → Kept s → length (after s c).buffer ≡ length s.buffer
same_length s ask k = refl
same_length s (offer x) k = go (is_stopped (held s.buffer s.place)) refl
  where
    go : (a : Bool) → is_stopped (held s.buffer s.place) ≡ a → length (after s (offer x)).buffer ≡ length s.buffer
    go true e = ap (λ (z : State). length z.buffer) (stopped-stays s k.passes e (offer x))
    go false e = rw (taken-fills s.buffer s.place x (sym k.passes) e) (filled-length s.buffer s.place k.passes x)

run_length : (s : State) (cs : List Call) → Kept s → length (run s cs).buffer ≡ length s.buffer
run_length s [] k = refl
run_length s (c ∷ cs) k = run_length (after s c) cs (kept_run s (c ∷ []) k) ∙ same_length s c k

-- a call more
run-snoc : (s : State) (cs : List Call) (c : Call) → run s (cs ++ c ∷ []) ≡ after (run s cs) c
run-snoc s [] c = refl
run-snoc s (d ∷ cs) c = run-snoc (after s d) cs c

-- messages that have so many bytes together
record Messages (x : ℕ) : Type 0 where
  list : List (List ℕ)
  exact : AllExact list
  long : length (joined list) ≡ x

none : (x : ℕ) → eqb x 0 ≡ true → Messages x
none x e = record { list = []; exact = tt; long = sym (eqb-true x 0 e) }

-- of any kind: its byte, and zeros after it
abbrev zeros : ℕ → List ℕ
zeros k = k ∷ replicate (length_of k - 1) 0

module _ (k : ℕ) (known : (row_of k).known ≡ true) where
  zeros-long : length (zeros k) ≡ length_of k
  zeros-long = omega (arith, ten k, length-replicate {A = ℕ} (length_of k - 1) 0)

  zeros-exact : Exact (zeros k)
  zeros-exact = let q : kind_at (zeros k) ≡ k = omega arith in record { known = rw q known; exact = rw q zeros-long }

  one-before : (x : ℕ) → length_of k ≤ x → Messages (x - length_of k) → Messages x
  one-before x l r =
      record {
        list = zeros k ∷ r.list;
        exact = (zeros-exact, r.exact);
        long = length-append (zeros k) (joined r.list) ∙ omega (arith, zeros-long, r.long);
      }

messages : (f x : ℕ) → sums f x ≡ true → Messages x
unfolding sums
messages zero x e = none x e
messages (suc f) x e =
    either_true (eqb x 0) _ e (none x)
    (λ b. some_is (suc (length rows)) (λ k. leb (length_of k) x && sums f (x - length_of k)) b
    (λ k known p.
    let (l, r) = and-true (leb (length_of k) x) (sums f (x - length_of k)) p in
    one-before k known x (leb-true (length_of k) x l) (messages f (x - length_of k) r)))

-- where nothing is held, all that is offered is taken if it fits
room-all : (l : ℕ) (p : Place) (x : ℕ) → p.end - p.at ≡ 0 → x ≤ l → p.offset + x < 18446744073709551616 → room_for l p x ≡ x
unfolding room_for
room-all l p x z fits counts = min-eq_left (le-min (omega arith) (omega arith))

module _ (b : List ℕ) (p : Place) (g : gate_of (length b) p ≡ Ok tt) where
  all-taken : (x : List ℕ) → held b p ≡ [] → length x ≤ length b → p.offset + length x < 18446744073709551616
      → (place_after p (taken b p x).told ≡ record { at = 0; end = 0 + length x; offset = p.offset }) × (held (taken b p x).buffer (place_after p (taken b p x).told) ≡ x)
  unfolding is_stopped
  all-taken x e fits counts =
      let z : p.end - p.at ≡ 0 = sym (held-length b p (open-within (length b) p (sym g))) ∙ ap length e in
      let r = room-all (length b) p (length x) z fits counts in
      let s : is_stopped (held b p) ≡ false = rw e in
      rw (taken-fills b p x (sym g) s) (rw (z, r), filled-held b p g x ∙ rw (e, r) (take-length x))

  -- of a message and more bytes, the message is yielded
  first-yielded : (m r : List ℕ) → held b p ≡ m ++ r → Exact m → (passed b p ≡ behind p (length m)) × (held b (passed b p) ≡ r)
  first-yielded m r e x =
      let f : Front (held b p) (length m) =
      rw e (record { known = rw (exact-kind m r x) x.known; exact = rw (exact-kind m r x) x.exact; fits = omega (arith, length-append m r) }) in
      let y = yielded-open b p (sym g) ∙ yields-front (held b p) p (front-running (held b p) f) (front-whole (held b p) f) in
      let q : passed b p ≡ behind p (length m) = rw (y, ← f.exact) in
      (q, rw (q, behind-held b p g f, e) (drop-append_seam m r))

-- a run over a buffer of l bytes that leaves these bytes held, the first of them at `a` in the buffer and at o in the stream
record Holding (l : ℕ) (h : List ℕ) (a o : ℕ) : Type 0 where
  buffer : List ℕ
  long : length buffer ≡ l
  calls : List Call
  place : (run (opened buffer) calls).place ≡ record { at = a; end = a + length h; offset = o }
  holds : held (run (opened buffer) calls).buffer (run (opened buffer) calls).place ≡ h

no-calls : (l : ℕ) → Holding l [] 0 0
unfolding held
no-calls l = record { buffer = replicate l 0; long = length-replicate l 0; calls = []; place = refl; holds = refl }

leaves : {l : ℕ} {h : List ℕ} {a o : ℕ} → Holding l h a o → (p : Place) → a ≡ p.at → a + length h ≡ p.end → o ≡ p.offset → Leaves l p
leaves t p e f g = record { buffer = t.buffer; long = t.long; calls = t.calls; place = t.place ∙ rw (f, e, g) }

module _ {l : ℕ} (big : 64 ≤ l) where
  module _ {h : List ℕ} {a o : ℕ} (t : Holding l h a o) where
    first : Kept (opened t.buffer)
    first = kept-opened t.buffer (rw t.long big)

    passes : gate_of (length (run (opened t.buffer) t.calls).buffer) (run (opened t.buffer) t.calls).place ≡ Ok tt
    passes = (kept_run (opened t.buffer) t.calls first).passes

    still-long : length (run (opened t.buffer) t.calls).buffer ≡ l
    still-long = run_length (opened t.buffer) t.calls first ∙ t.long

    and-call : {i : List ℕ} {c d : ℕ} (x : Call) → (after (run (opened t.buffer) t.calls) x).place ≡ record { at = c; end = c + length i; offset = d }
        → held (after (run (opened t.buffer) t.calls) x).buffer (after (run (opened t.buffer) t.calls) x).place ≡ i → Holding l i c d
    and-call x e f =
        let q = run-snoc (opened t.buffer) t.calls x in
        record { buffer = t.buffer; long = t.long; calls = t.calls ++ x ∷ []; place = rw q e; holds = rw q f }

  offered : {a o : ℕ} (x : List ℕ) → length x ≤ l → o + length x < 18446744073709551616 → Holding l [] a o → Holding l x 0 o
  offered {a} {o} x fits counts t =
      let s = run (opened t.buffer) t.calls in
      let q : s.place.offset ≡ o = ap (λ (p : Place). p.offset) t.place in
      let r = all-taken s.buffer s.place (passes t) x t.holds (omega (arith, still-long t)) (omega arith) in
      and-call t (offer x) (rw q at r.0) r.1

  asked : {a o : ℕ} (m r : List ℕ) → Exact m → Holding l (m ++ r) a o → Holding l r (a + length m) (o + length m)
  unfolding behind
  asked {a} m r e t =
      let s = run (opened t.buffer) t.calls in
      let f = first-yielded s.buffer s.place (passes t) m r t.holds e in
      let q : a + length (m ++ r) ≡ a + length m + length r = omega (arith, length-append m r) in
      and-call t ask (f.0 ∙ rw (t.place, q)) f.1

  -- messages that are held together
  all_asked : {a o : ℕ} (ms : List (List ℕ)) (r : List ℕ) → AllExact ms → Holding l (joined ms ++ r) a o → Holding l r (a + length (joined ms)) (o + length (joined ms))
  all_asked [] r e t = simp add-zero t
  all_asked {a} {o} (m ∷ ms) r e t =
      let n = length-append m (joined ms) in
      let q : a + length m + length (joined ms) ≡ a + length (m ++ joined ms) = omega arith in
      let u : o + length m + length (joined ms) ≡ o + length (m ++ joined ms) = omega arith in
      rw (q, u) at (all_asked {a = a + length m} {o = o + length m} ms r e.1 (asked m (joined ms ++ r) e.0 (rw append_assoc at t)))

  -- messages that go through one by one, however many: each is offered and asked for, and an offer of no bytes leads back to the front
  gone : {o : ℕ} (ms : List (List ℕ)) → AllExact ms → o + length (joined ms) < 18446744073709551616 → Holding l [] 0 o → Holding l [] 0 (o + length (joined ms))
  gone [] e counts t = rw add-zero t
  gone {o} (m ∷ ms) e counts t =
      let n = length-append m (joined ms) in
      let k = length-append m [] in
      let w : length m ≤ 46 = rw e.0.exact (long-enough (kind_at m)) in
      let q : o + length m + length (joined ms) ≡ o + length (m ++ joined ms) = omega arith in
      rw q at (gone {o = o + length m} ms e.1 (omega arith) (offered [] (omega arith) (omega arith) (asked m [] e.0 (offered (m ++ []) (omega arith) (omega arith) t))))

pub reached : Reached
unfolding is_sum
reached l big = (passing, left)
  where
    passing : (b : List ℕ) (cs : List Call) → length b ≡ l → place_ok l (run (opened b) cs).place ≡ true
    passing b cs e =
        let k = kept-opened b (rw e big) in
        let q : length (run (opened b) cs).buffer ≡ l = run_length (opened b) cs k ∙ e in
        of-ok l (run (opened b) cs).place (rw q at (open-ok (length (run (opened b) cs).buffer) (run (opened b) cs).place (kept_run (opened b) cs k).passes).0)

    left : (p : Place) → place_ok l p ≡ true → Leaves l p
    left p e =
        let k = ok_of l p e in
        let before = messages (p.offset - p.at) (p.offset - p.at) k.before in
        let whole = messages p.at p.at k.whole in
        let r : List ℕ = replicate (p.end - p.at) 0 in
        let n : length r ≡ p.end - p.at = length-replicate (p.end - p.at) 0 in
        let all = length-append (joined whole.list) r in
        let t = gone big before.list before.exact (omega arith) (no-calls l) in
        let u = all_asked big whole.list r whole.exact (offered big (joined whole.list ++ r) (omega arith) (omega arith) t) in
        leaves u p (omega arith) (omega arith) (omega arith)
