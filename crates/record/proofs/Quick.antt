-- A record in no phase, with nothing collected, needs no look at its phase and its replies. Assumes nothing.
use mathlib.Core.Path.{◌≡◌, refl, sym, ap, ◌∙◌}
use mathlib.Core.Bool.{Bool, true, false, ◌&&◌}
use mathlib.Core.List.{List, [], ◌∷◌}
use Prim.Native.Nat.{ℕ, zero, suc, ◌+◌, ◌*◌, ◌^◌, ◌≤◌, ◌<◌}
use native.Mathlib.Omega.{arith}
use native.Mathlib.Nat.{add-zero}
use lib.Bits.{bit_or, bit_and, or_add_and, and_le_l, and_le_r}
use lib.Dec.{eqb}
use lib.Pow.{pow_pos}
use lib.ListN.{length, get_or, take, drop, replicate}
use lib.Seq.{drop-cons}
use Rattle.std.specs.List.{fold}
use borrow.Author.Tests.{eqb-true, eqb-false, eq-eqb, ne_eqb, lt-ltb, le-leb}
use Rattle.numbers.specs.Num.{num_at}
use Rattle.numbers.specs.Fields.{size_of, fields_at}
use Rattle.codec.specs.Parts.{vote_widths, vote_of, vote_at}
use Rattle.paper.specs.Logic.{all_below}
use Rattle.paper.specs.Vote.{no_vote, same_vote, member}
use Rattle.paper.specs.Command.{same_command}
use Rattle.paper.specs.Deps.{same_deps}
use Rattle.paper.proofs.Laws.{and-true, all_below-at}
use Rattle.paper.specs.declared.Vote.{Vote}
use Rattle.paper.specs.Sound.{phases_ok, busy_ok, preparing_ok, proposing_ok}
use Rattle.record.specs.Layout.{reply_place, record_at}
use Rattle.sound.specs.Asked.{phased_ok}
use Rattle.record.specs.Part.{reply_part, no_replies, is_idle, idle_ok, front_ok, plain_ok, sound_part}
use Rattle.record.proofs.Laws.{reply_part-out, sound-replies}

-- bits of either number
or-none : (a x : ℕ) → eqb (bit_or a x) 0 ≡ (eqb x 0 && eqb a 0)
or-none a x = go (eqb x 0) refl (eqb a 0) refl
  where
    sum : bit_or a x + bit_and a x ≡ a + x
    sum = or_add_and a x

    go : (p : Bool) → eqb x 0 ≡ p → (q : Bool) → eqb a 0 ≡ q → eqb (bit_or a x) 0 ≡ (eqb x 0 && eqb a 0)
    go true e true f = rw (e, f) (eq-eqb (bit_or a x) 0 (omega (arith, sum, eqb-true x 0 e, eqb-true a 0 f)))
    go true e false f =
        rw (e, f) (ne_eqb (bit_or a x) 0 (λ z. eqb-false a 0 f (omega (arith, sum, and_le_r a x, eqb-true x 0 e, z))))
    go false e q f =
        rw e (ne_eqb (bit_or a x) 0 (λ z. eqb-false x 0 e (omega (arith, sum, and_le_l a x, z))))

-- the n bytes from the a-th of the replies on have no bit set
clear-from : (b : List ℕ) (n a any : ℕ) → 43 + a + n ≤ length b → eqb any 0 ≡ all_below a (λ i. eqb (get_or b (43 + i) 0) 0)
    → eqb (fold bit_or any (take n (drop (43 + a) b))) 0 ≡ all_below (a + n) (λ i. eqb (get_or b (43 + i) 0) 0)
unfolding all_below
clear-from b zero a any h e = rw add-zero e
clear-from b (suc n) a any h e =
    let x : ℕ = get_or b (43 + a) 0 in
    let k : a + suc n ≡ suc a + n = omega arith in
    let j : suc (43 + a) ≡ 43 + suc a = omega arith in
    rw (drop-cons b (43 + a) 0 (omega arith), k, j) (clear-from b n (suc a) (bit_or any x) (omega arith) (or-none any x ∙ rw e))

pub clear : (b : List ℕ) → 295 ≤ length b → eqb (fold bit_or 0 (take 252 (drop 43 b))) 0 ≡ no_replies b
unfolding no_replies all_below
clear b h = clear-from b 252 0 0 h refl

-- zero bytes are the number 0
num_at-zero : (w : ℕ) (b : List ℕ) (at : ℕ) → ((i : ℕ) → i < w → get_or b (at + i) 0 ≡ 0) → num_at w b at ≡ 0
num_at-zero zero b at h = refl
num_at-zero (suc w) b at h =
    let a : at + 0 ≡ at = omega arith in
    let x : get_or b at 0 ≡ 0 = ap (λ (k : ℕ). get_or b k 0) (sym a) ∙ h 0 (omega arith) in
    let y = num_at-zero w b (at + 1) (λ i l. let k : at + 1 + i ≡ at + suc i = omega arith in ap (λ (k : ℕ). get_or b k 0) k ∙ h (suc i) (omega arith)) in
    omega (arith, x, y)

-- zero bytes are fields of 0
fields-zero : (ws : List ℕ) (b : List ℕ) (at : ℕ) → ((i : ℕ) → i < size_of ws → get_or b (at + i) 0 ≡ 0) → fields_at ws b at ≡ replicate (length ws) 0
fields-zero [] b at h = refl
fields-zero (w ∷ ws) b at h =
    let x = num_at-zero w b at (λ i l. h i (omega arith)) in
    let y = fields-zero ws b (at + w) (λ i l. let k : at + w + i ≡ at + (w + i) = omega arith in ap (λ (k : ℕ). get_or b k 0) k ∙ h (w + i) (omega arith)) in
    λ i. x i ∷ y i

-- zero bytes are no vote
vote-zero : (b : List ℕ) (at : ℕ) → ((i : ℕ) → i < 36 → get_or b (at + i) 0 ≡ 0) → vote_at b at ≡ no_vote
unfolding vote_at
vote-zero b at h = ap vote_of (fields-zero vote_widths b at h)

no_member : (q : ℕ) → q < 7 → member q 0 ≡ false
unfolding member
no_member zero h = refl
no_member (suc zero) h = refl
no_member (suc (suc zero)) h = refl
no_member (suc (suc (suc zero))) h = refl
no_member (suc (suc (suc (suc zero)))) h = refl
no_member (suc (suc (suc (suc (suc zero))))) h = refl
no_member (suc (suc (suc (suc (suc (suc zero)))))) h = refl
no_member (suc (suc (suc (suc (suc (suc (suc q))))))) h = absurd (omega arith)

module _ (n s c : ℕ) (b : List ℕ) (h : is_idle b ≡ true) where
  tests : (num_at 1 b 41 ≡ 0) × (num_at 1 b 42 ≡ 0) × (no_replies b ≡ true)
  unfolding is_idle
  tests =
      let p = and-true (eqb (num_at 1 b 41) 0) _ h in
      let q = and-true (eqb (num_at 1 b 42) 0) (no_replies b) p.1 in
      (eqb-true (num_at 1 b 41) 0 p.0, eqb-true (num_at 1 b 42) 0 q.0, q.1)

  byte : (i : ℕ) → i < 252 → get_or b (43 + i) 0 ≡ 0
  unfolding no_replies
  byte i l = eqb-true _ _ (all_below-at 252 (λ i. eqb (get_or b (43 + i) 0) 0) tests.2 i l)

  reply : (q : ℕ) → q < 7 → reply_part n s c b q ≡ true
  unfolding same_vote same_command same_deps all_below
  reply q l =
      let at : (k : ℕ) → k < 36 → get_or b (reply_place q + k) 0 ≡ 0 = λ k m.
      let e : 43 + 36 * q + k ≡ 43 + (36 * q + k) = omega arith in
      ap (λ (k : ℕ). get_or b k 0) e ∙ byte (36 * q + k) (omega arith) in
      let v = vote-zero b (reply_place q) at in
      let o : num_at 1 b (reply_place q + 5) ≡ 0 = num_at-zero 1 b (reply_place q + 5) (λ i m. let e : reply_place q + 5 + i ≡ reply_place q + (5 + i) = omega arith in ap (λ (k : ℕ). get_or b k 0) e ∙ at (5 + i) (omega arith)) in
      sym (reply_part-out n s c b q l (le-leb (num_at 1 b (reply_place q + 5)) 3 (omega (arith, o))) (ap (member q) tests.1 ∙ no_member q l)) ∙ ap (λ (x : Vote). same_vote x no_vote) v

  -- no phase, nothing collected: every clause about phases is met
  idle-phase : (o : ℕ) → phases_ok n c o (record_at b) ≡ true
  unfolding phases_ok busy_ok preparing_ok proposing_ok record_at
  idle-phase o = rw (tests.0, tests.1)

  idle-small : phased_ok n (num_at 1 b 41) (num_at 1 b 42) ≡ true
  unfolding phased_ok
  idle-small = rw (tests.0, tests.1, lt-ltb 0 (2 ^ n) (pow_pos n))

  quick : (o : ℕ) → front_ok n s b ≡ true → sound_part n s c o b ≡ true
  unfolding all_below plain_ok
  quick o f =
      let at : (q : ℕ) → q < 7 → reply_part n s c b q ≡ true = reply in
      let all : all_below 7 (reply_part n s c b) ≡ true = rw (at 6 (omega arith), at 5 (omega arith), at 4 (omega arith), at 3 (omega arith), at 2 (omega arith), at 1 (omega arith), at 0 (omega arith)) in
      sym (sound-replies n s c o b (rw (f, idle-small)) (idle-phase o)) ∙ all

-- a record that is idle and right is sound at every copy, whoever owns it
pub idle-sound : (n s c o : ℕ) (b : List ℕ) → idle_ok n s b ≡ true → sound_part n s c o b ≡ true
unfolding idle_ok
idle-sound n s c o b h = let p = and-true (is_idle b) (front_ok n s b) h in quick n s c b p.0 o p.1
