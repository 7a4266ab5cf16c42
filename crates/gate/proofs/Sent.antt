-- Messages written one after the other. Assumes nothing.
use mathlib.Core.Path.{◌≡◌, refl, sym, ap, ◌∙◌}
use mathlib.Core.Bool.{Bool, true, false, cond}
use mathlib.Core.List.{List, [], ◌++◌}
use Prim.Native.Nat.{ℕ, zero, suc, ◌+◌, ◌-◌, ◌≤◌, ◌<◌}
use native.Mathlib.Omega.{arith}
use lib.ListN.{length, take, drop, length-append, length-drop}
use lib.Seq.{take-add, drop-drop, take_at, drop_at, take_all, length-take-le}
use Rattle.numbers.specs.Num.{splice}
use Rattle.numbers.proofs.Laws.{splice-step, splice-nil}
use Rattle.paper.specs.Message.{kind_of}
use Rattle.paper.specs.Vote.{member}
use Rattle.paper.specs.declared.Message.{Message}
use Rattle.rules.specs.Events.{addressed, messages_from}
use Rattle.wire.specs.Wire.{length_of, message_bytes}
use Rattle.wire.proofs.Laws.{length-message_bytes, ten}
use Rattle.gate.specs.Out.{all_bytes, Turn}

-- all but those below copy q are still to be written, after `at` bytes
pub record Going (out₀ : List ℕ) (to : ℕ) (m : Message) (out : List ℕ) (at q : ℕ) : Type 0 where
  pub room : 256 ≤ length out₀
  pub short : length (all_bytes (messages_from 7 0 to m)) ≤ 246
  pub copies : q ≤ 7
  pub long : length out ≡ length out₀
  pub within : at ≤ length (all_bytes (messages_from 7 0 to m))
  pub rest : drop at (all_bytes (messages_from 7 0 to m)) ≡ all_bytes (messages_from (7 - q) q to m)
  pub done : out ≡ splice out₀ 0 (take at (all_bytes (messages_from 7 0 to m)))

-- one copy's turn
from_in : (k q to : ℕ) (m : Message) → 0 < k → member q to ≡ true
    → all_bytes (messages_from k q to m) ≡ message_bytes (addressed m q) ++ all_bytes (messages_from (k - 1) (q + 1) to m)
unfolding messages_from all_bytes
from_in zero q to m h e = absurd (omega arith)
from_in (suc k) q to m h e = let f : suc k - 1 ≡ k = omega arith in rw (e, f)

from_out : (k q to : ℕ) (m : Message) → 0 < k → member q to ≡ false → all_bytes (messages_from k q to m) ≡ all_bytes (messages_from (k - 1) (q + 1) to m)
unfolding messages_from all_bytes
from_out zero q to m h e = absurd (omega arith)
from_out (suc k) q to m h e = let f : suc k - 1 ≡ k = omega arith in rw (e, f)

from-none : (k q to : ℕ) (m : Message) → k ≡ 0 → all_bytes (messages_from k q to m) ≡ []
unfolding messages_from all_bytes
from-none k q to m e = rw e

pub start : (out₀ : List ℕ) (to : ℕ) (m : Message) → 256 ≤ length out₀ → length (all_bytes (messages_from 7 0 to m)) ≤ 246 → Going out₀ to m out₀ 0 0
start out₀ to m h l =
    record { room = h; short = l; copies = omega arith; long = refl; within = omega arith; rest = refl; done = splice-nil out₀ 0 }

module _ (out₀ : List ℕ) (to : ℕ) (m : Message) (out : List ℕ) (at q : ℕ) (g : Going out₀ to m out at q) (h : q < 7) where
  all : List ℕ
  all = all_bytes (messages_from 7 0 to m)

  one : List ℕ
  one = message_bytes (addressed m q)

  one-long : length one ≡ length_of (kind_of m.body)
  unfolding one
  one-long = length-message_bytes (addressed m q)

  split : member q to ≡ true → drop at all ≡ one ++ all_bytes (messages_from (7 - q - 1) (q + 1) to m)
  unfolding all one
  split e = g.rest ∙ from_in (7 - q) q to m (omega arith) e

  -- a message more fits
  pub fits : member q to ≡ true → (at + length_of (kind_of m.body) ≤ 246) × (at + length_of (kind_of m.body) ≤ length out)
  unfolding all
  fits e =
      let l : length (drop at all) ≡ length one + length (all_bytes (messages_from (7 - q - 1) (q + 1) to m)) = ap length (split e) ∙ length-append one _ in
      let d = length-drop at all in
      let w = g.within in
      let s = g.short in
      let t = ten (kind_of m.body) in
      let o = one-long in
      let r = g.room in
      let n = g.long in
      (omega arith, omega arith)

  pub sent : member q to ≡ true → {out₁ : List ℕ} → out₁ ≡ splice out at (message_bytes (addressed m q)) → length out₁ ≡ length out
      → Going out₀ to m out₁ (at + length_of (kind_of m.body)) (q + 1)
  unfolding all one
  sent e {out₁} p n =
      let o : length one ≡ length_of (kind_of m.body) = one-long in
      let l : length (drop at all) ≡ length one + length (all_bytes (messages_from (7 - q - 1) (q + 1) to m)) = ap length (split e) ∙ length-append one _ in
      let d = length-drop at all in
      let w = g.within in
      let f = fits e in
      let k : 7 - q - 1 ≡ 7 - (q + 1) = omega arith in
      let t : take (at + length_of (kind_of m.body)) all ≡ take at all ++ one =
      take-add at (length_of (kind_of m.body)) all
      ∙ ap (λ (x : List ℕ). take at all ++ x) (ap (take (length_of (kind_of m.body))) (split e) ∙ take_at one _ (length_of (kind_of m.body)) o) in
      let r : drop (at + length_of (kind_of m.body)) all ≡ all_bytes (messages_from (7 - (q + 1)) (q + 1) to m) =
      sym (drop-drop (length_of (kind_of m.body)) at all) ∙ ap (drop (length_of (kind_of m.body))) (split e)
      ∙ drop_at one _ (length_of (kind_of m.body)) o ∙ ap (λ (x : ℕ). all_bytes (messages_from x (q + 1) to m)) k in
      let c : length (take at all) ≡ at = length-take-le at all w in
      let b : out₁ ≡ splice out₀ 0 (take at all ++ one) =
      splice-step out₀ 0 (take at all) at one g.done p (omega arith) (omega (arith, g.room, f.0)) in
      record {
        room = g.room;
        short = g.short;
        copies = omega arith;
        long = n ∙ g.long;
        within = omega arith;
        rest = r;
        done = b ∙ ap (splice out₀ 0) (sym t);
      }

  pub passed : member q to ≡ false → Going out₀ to m out at (q + 1)
  passed e =
      let k : 7 - q - 1 ≡ 7 - (q + 1) = omega arith in
      record {
        room = g.room;
        short = g.short;
        copies = omega arith;
        long = g.long;
        within = g.within;
        rest = g.rest ∙ from_out (7 - q) q to m (omega arith) e ∙ ap (λ (x : ℕ). all_bytes (messages_from x (q + 1) to m)) k;
        done = g.done;
      }

pub turn : (out₀ : List ℕ) (to : ℕ) (m : Message) (out : List ℕ) (at q : ℕ) → Going out₀ to m out at q → q < 7 → Turn to m (length out) at q
turn out₀ to m out at q g h = record { copy = h; fits = fits out₀ to m out at q g h }

pub turned : (out₀ : List ℕ) (to : ℕ) (m : Message) (out : List ℕ) (at q : ℕ) {out₁ : List ℕ} {at₁ : ℕ} → Going out₀ to m out at q → q < 7
    → at₁ ≡ cond (member q to) (at + length_of (kind_of m.body)) at → out₁ ≡ cond (member q to) (splice out at (message_bytes (addressed m q))) out
    → length out₁ ≡ length out → Going out₀ to m out₁ at₁ (q + 1)
turned out₀ to m out at q {out₁} {at₁} g h a o n = go (member q to) refl
  where
    go : (b : Bool) → member q to ≡ b → Going out₀ to m out₁ at₁ (q + 1)
    go true e = rw (a, e) (sent out₀ to m out at q g h e (o ∙ rw e) n)
    go false e = rw (a, o, e) (passed out₀ to m out at q g h e)

-- all are written
pub ended : (out₀ : List ℕ) (to : ℕ) (m : Message) (out : List ℕ) (at q : ℕ) → Going out₀ to m out at q → q ≡ 7
    → (at ≡ length (all_bytes (messages_from 7 0 to m))) × (out ≡ splice out₀ 0 (all_bytes (messages_from 7 0 to m)))
ended out₀ to m out at q g e =
    let z : drop at (all_bytes (messages_from 7 0 to m)) ≡ [] = g.rest ∙ from-none (7 - q) q to m (omega arith) in
    let n = ap length z in
    let d = length-drop at (all_bytes (messages_from 7 0 to m)) in
    let w = g.within in
    let l : length (all_bytes (messages_from 7 0 to m)) ≤ at = omega arith in
    (omega arith, g.done ∙ ap (splice out₀ 0) (take_all at (all_bytes (messages_from 7 0 to m)) l))
