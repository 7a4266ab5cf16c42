-- A reply is collected, and the sets of those who replied are counted. Assumes nothing.
use Prim.Native.Nat.{ℕ, suc, ◌+◌, ◌-◌, ◌*◌, ◌^◌, ◌≤◌, ◌<◌}
use mathlib.Core.Path.{◌≡◌, refl, sym, ◌∙◌}
use mathlib.Core.Logic.{◌⊎◌, inl, inr, ⊎_elim}
use mathlib.Core.Bool.{Bool, true, false, ◌&&◌, ◌||◌}
use native.Mathlib.Omega.{arith}
use native.Mathlib.Decide.{ℕ_discrete}
use lib.Dec.{ltb, eqb}
use lib.ListN.{get_or, length, set, length-set}
use lib.Seq.{get_or-set_same, get_or-set_other}
use Rattle.paper.specs.Vote.{no_vote, member}
use Rattle.paper.specs.declared.Vote.{Vote}
use Rattle.paper.specs.declared.Record.{Record}
use Rattle.rules.specs.Step.{collect}
use Rattle.reach.proofs.Tests.{and_l, and_r, and_in, or_cases, eqb-eq, eqb-false, eqb_same, ltb-in, ltb-lt}
use Rattle.reach.proofs.Count.{cnt, cnt-mono}
use Rattle.safety.proofs.Sets.{member-with, with-small, cnt-cut}
use Rattle.safety.proofs.Hist.{Reply}
use Rattle.safety.proofs.Sys.{preparing, pre_accept_phase, Rec, mk, upd, upd-cases}
use Rattle.safety.proofs.Inv.Cover.{cnt-add}
use Rattle.safety.proofs.Rel.{Tells, Rel}

-- places below 7 that lie below N, counted among the copies
module _ (F : ℕ) (fit : F ≤ 3) where
  abbrev pub within : (ℕ → Bool) → ℕ → Bool
  within f i = ltb i 7 && f i

  pub among : (f : ℕ → Bool) → ((i : ℕ) → i < 7 → f i ≡ true → i < suc (2 * F)) → cnt 7 f ≤ cnt (suc (2 * F)) (within f)
  among f h =
      let e : suc (2 * F) + (7 - suc (2 * F)) ≡ 7 = omega arith in
      let q : cnt 7 (within f) ≡ cnt (suc (2 * F)) (within f)
      = (rw e at (cnt-cut (suc (2 * F)) (7 - suc (2 * F)) (within f) (λ i t. h i (ltb-lt i 7 (and_l _ (f i) t)) (and_r (ltb i 7) _ t)))) in
      omega (arith, cnt-mono 7 f (within f) (λ i l t. and_in _ _ (ltb-in i 7 l) t))

  -- with one copy more
  pub and_one : (f : ℕ → Bool) (c : ℕ) → c < suc (2 * F) → f c ≡ false → ((i : ℕ) → i < 7 → f i ≡ true → i < suc (2 * F))
      → suc (cnt 7 f) ≤ cnt (suc (2 * F)) (upd (within f) c true)
  and_one f c lc e h = rw (cnt-add (suc (2 * F)) (within f) c lc (rw e (false-r (ltb c 7)))) (omega (arith, among f h))
    where
      false-r : (b : Bool) → (b && false) ≡ false
      false-r true = refl
      false-r false = refl

  pub in_one : (f : ℕ → Bool) (c i : ℕ) → upd (within f) c true i ≡ true → (i ≡ c) ⊎ ((i < 7) × (f i ≡ true))
  in_one f c i = upd-cases (λ (y : Bool). y ≡ true → (i ≡ c) ⊎ ((i < 7) × (f i ≡ true))) (within f) c true i (λ e t. inl e)
      (λ n t. inr (ltb-lt i 7 (and_l _ (f i) t), and_r (ltb i 7) _ t))

module _ (F c : ℕ) (l7 : c < 7) (fit : F ≤ 3) (r : Record) (A : Rec) (rel : Rel F c r A) (q : ℕ) (lq : q < suc (2 * F)) (new : member q r.set ≡ false) (v : Vote) where
  pub q7 : q < 7
  q7 = omega arith

  pub with-q : (i : ℕ) → i < 7 → member i (r.set + 2 ^ q) ≡ (eqb i q || member i r.set)
  with-q i li = member-with q r.set i q7 rel.small li new

  pub of-with : (i : ℕ) → i < 7 → member i (r.set + 2 ^ q) ≡ true → (i ≡ q) ⊎ ((i ≡ q → ⊥) × (member i r.set ≡ true))
  of-with i li m = go (ℕ_discrete i q)
    where
      go : Dec (i ≡ q) → (i ≡ q) ⊎ ((i ≡ q → ⊥) × (member i r.set ≡ true))
      go (yes e) = inl e
      go (no n) = inr (n, ⊎_elim (λ e. absurd (n (eqb-eq i q e))) (λ e. e) (or_cases (eqb i q) (member i r.set) (sym (with-q i li) ∙ m)))

  pub rel-collect : (replies : ℕ → Reply) → length v.deps ≡ 7 → (A.phase ≡ preparing → Tells v (replies q)) → (A.phase ≡ pre_accept_phase → (replies q).value.deps ≡ v.deps)
      → ((i : ℕ) → (i ≡ q → ⊥) → replies i ≡ A.replies i) → (c ≡ q → ⊥)
      → Rel F c (collect r q v) (mk A.joined A.voted A.status A.value A.phase (upd A.got q true) replies)
  unfolding collect
  rel-collect replies lv tl ad old nc = record {
    joined = rel.joined;
    voted = rel.voted;
    status = rel.status;
    value = rel.value;
    len = rel.len;
    phase = rel.phase;
    small = with-small q r.set q7 rel.small new;
    bound = λ i li m. ⊎_elim (λ e. rw e lq) (λ h. rel.bound i li h.1) (of-with i li m);
    got = λ i li. rw (with-q i li) (upd-cases (λ (y : Bool). y ≡ (eqb i q || member i r.set)) A.got q true i (λ e. rw (eqb_same i q e) refl) (λ n. rw (eqb-false i q n) (rel.got i li)));
    size = length-set r.replies q v ∙ rel.size;
    lens = λ i. lens i (ℕ_discrete i q);
    told = λ p i li m. ⊎_elim (λ e. rw e (rw (get_or-set_same r.replies q v no_vote lr) (tl p))) (λ h. rw (get_or-set_other r.replies q i v no_vote h.0, old i h.0) (rel.told p i li h.1)) (of-with i li m);
    added = λ p i li m. ⊎_elim (λ e. rw e (rw (get_or-set_same r.replies q v no_vote lr) (ad p))) (λ h. rw (get_or-set_other r.replies q i v no_vote h.0, old i h.0) (rel.added p i li h.1)) (of-with i li m);
    self = λ n. rw (with-q c l7, eqb-false c q nc) (rel.self n);
  }
    where
      lr : q < length r.replies
      lr = rw rel.size q7

      lens : (i : ℕ) → Dec (i ≡ q) → length (get_or (set r.replies q v) i no_vote).deps ≡ 7
      lens i (yes e) = rw e (rw (get_or-set_same r.replies q v no_vote lr) lv)
      lens i (no n) = rw (get_or-set_other r.replies q i v no_vote n) (rel.lens i)
