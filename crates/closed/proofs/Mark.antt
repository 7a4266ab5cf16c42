-- A mark on a committed record, and what hand-out marks. Assumes nothing.
use Rattle.std.specs.Prelude.{Option, Some, None}
use Prim.Native.Nat.{ℕ, zero, suc, ◌+◌, ◌-◌, ◌≤◌}
use mathlib.Core.Path.{◌≡◌}
use mathlib.Core.Bool.{Bool, true, false, ◌&&◌, not}
use native.Mathlib.Omega.{arith}
use lib.Dec.{leb, ltb}
use borrow.Author.Tests.{eqb-true, ltb-true, leb-true, not-true, not-false, lt-ltb, le-leb}
use Rattle.paper.specs.Logic.{all_below}
use Rattle.paper.specs.Instance.{instance_ok}
use Rattle.paper.specs.Sound.{reply_ok, replies_ok}
use Rattle.paper.specs.declared.Record.{Record}
use Rattle.paper.proofs.Laws.{all_below-at}
use Rattle.rules.specs.Step.{is_committed}
use Rattle.rules.specs.declared.Instance.{Instance}
use Rattle.rules.specs.Seen.{Records}
use Rattle.rules.specs.Order.{instance, first_owner, first_number, waits_for, is_settled, everywhere, is_marked, candidate, marked, next_out}
use Rattle.closed.specs.Held.{Held}
use Rattle.closed.proofs.Laws.{eqb-self, two, three, both, by_cond}
use Rattle.closed.proofs.Sound.{sound-is, sound-in}

pub marked-held : (n s c o : ℕ) (r : Record) → Held n s c o r → is_committed r ≡ true → Held n s c o (marked r)
unfolding replies_ok reply_ok
marked-held n s c o r h e =
    let f = sound-is n s c o r h.sound in
    let g = h.fits in
    record {
      sound =
          sound-in n s c o (marked r)
          (record {
            joined = f.joined;
            own = f.own;
            mark = omega arith;
            phase = f.phase;
            set = f.set;
            below = f.below;
            none = f.none;
            marked = λ a. eqb-true r.vote.status 4 e;
            empty = f.empty;
            live = f.live;
            leads = f.leads;
            late = f.late;
            fresh = f.fresh;
            self = f.self;
            few = f.few;
            preaccepting = f.preaccepting;
            op = f.op;
            accepting = f.accepting;
            same = f.same;
            alone = f.alone;
            replies = f.replies;
          });
      fits = record { joined = g.joined; vote = g.vote; mark = omega arith; phase = g.phase; set = g.set; seven = g.seven; replies = g.replies };
    }

-- the first instance that a test holds of is in range, and it holds there
module _ (n s : ℕ) (f : ℕ → ℕ → Bool) where
  abbrev pub Found : Option Instance → Type 0
  Found None = Unit {0}
  Found (Some i) = (instance_ok n s i.owner i.number ≡ true) × (f i.owner i.number ≡ true)

  first-owner : (k o j : ℕ) (later : Option Instance) → o + k ≤ n → 1 ≤ j → j ≤ s → Found later → Found (first_owner k o j f later)
  unfolding first_owner instance_ok
  first-owner zero o j later l a b g = g
  first-owner (suc k) o j later l a b g =
      by_cond Found (f o j) (λ e. (both _ _ (lt-ltb o n (omega arith)) (both _ _ (le-leb 1 j a) (le-leb j s b)), e))
      (λ e. first-owner k (o + 1) j later (omega arith) a b g)

  pub first_found : (k j : ℕ) → 1 ≤ j → j + k ≤ s + 1 → Found (first_number k n j f)
  unfolding first_number
  first_found zero j a l = tt
  first_found (suc k) j a l = first-owner n 0 j (first_number k n (j + 1) f) (omega arith) a (omega arith) (first_found k (j + 1) (omega arith) (omega arith))

module _ (n s : ℕ) (t : Records) where
  -- what is handed out is committed
  pub candidate-committed : (p k : ℕ) → instance_ok n s p k ≡ true → candidate n s t p k ≡ true → is_committed (t p k) ≡ true
  unfolding candidate is_settled everywhere waits_for instance_ok
  candidate-committed p k i h =
      let (lp, lk) = two (ltb p n) (leb 1 k && leb k s) i in
      let (k1, ks) = two (leb 1 k) (leb k s) lk in
      let low = leb-true 1 k k1 in
      let high = leb-true k s ks in
      let (settled, plain, rest) = three (is_settled n s t p k) (not (is_marked (t p k))) _ h in
      let row = all_below-at n (λ o. all_below s (λ i. not (waits_for n s t p k o (i + 1)))) settled p (ltb-true p n lp) in
      let here = all_below-at s (λ i. not (waits_for n s t p k p (i + 1))) row (k - 1) (omega arith) in
      let z : k - 1 + 1 ≡ k = omega arith in
      let waits : waits_for n s t p k p k ≡ false = not-true _ (rw z at here) in
      not-false _ (rw (eqb-self p, eqb-self k) at waits)

  pub next_out-found : Found n s (candidate n s t) (next_out n s t)
  unfolding next_out
  next_out-found = first_found n s (candidate n s t) s 1 (omega arith) (omega arith)
