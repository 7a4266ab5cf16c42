-- What a lead computes from its PrepareOK replies is what the model's rule of recovery says. Assumes nothing.
use Prim.Native.Nat.{ℕ, zero, suc, ◌+◌, ◌-◌, ◌*◌, ◌≤◌, ◌<◌}
use mathlib.Core.Path.{◌≡◌, refl, sym, ap, ◌∙◌}
use mathlib.Core.Logic.{◌⊎◌, inl, inr, ⊎_elim}
use mathlib.Core.Bool.{Bool, true, false, ◌&&◌, not, cond}
use native.Mathlib.Omega.{arith}
use lib.Count.{ones}
use lib.Dec.{leb, ltb, eqb}
use lib.ListN.{get_or}
use Rattle.paper.specs.Setup.{faults}
use Rattle.paper.specs.Command.{noop}
use Rattle.paper.specs.Vote.{no_vote, member, count}
use Rattle.paper.specs.declared.Command.{Command}
use Rattle.paper.specs.declared.Record.{Record}
use Rattle.rules.specs.Sets.{those, lowest, largest_below}
use Rattle.rules.specs.PrepareOk.{told_by, voter, top_voted, top_voter, top_accepter, same_voter, maybe_fast, afresh_command, accepted_from}
use Rattle.reach.proofs.Tests.{clash, tf, and_l, and_r, and_in, not-not, eqb-eq, eqb_same, leb-le, leb-in, ltb-lt, ltb-in}
use Rattle.reach.proofs.Count.{cnt, cnt-mono, both, both_true}
use Rattle.reach.proofs.Count.{member as some-member}
use Rattle.safety.proofs.Sets.{ones-those, none-those, lowest-those, lowest-any, largest-ge, largest-one}
use Rattle.safety.proofs.Hist.{Status, unvoted, pre_added, pre_received, accept_vote, commit_vote, is_pre_received, Reply, Outcome, accept, afresh, Top, NoneAccepted, count_received, Decided, none-voted, accepted, fast, anew}
use Rattle.safety.proofs.Rel.{status_number, status-eq, value_of, Tells}
use Rattle.safety.proofs.Rel.Collect.{within, among}

two_is : (u : Status) → is_pre_received u ≡ true → status_number u ≡ 2
two_is unvoted e = clash (cc)
two_is pre_added e = clash (cc)
two_is pre_received e = refl
two_is accept_vote e = clash (cc)
two_is commit_vote e = clash (cc)

cnt-more : (n k : ℕ) (f : ℕ → Bool) → cnt n f ≤ cnt (n + k) f
unfolding cnt
cnt-more n zero f = let e : n + 0 ≡ n = omega arith in rw e (omega arith)
cnt-more n (suc k) f = let e : n + suc k ≡ suc (n + k) = omega arith in rw e (omega (arith, cnt-more n k f))

module _ (F o : ℕ) (fit : F ≤ 3) (pos : 0 < F) (lo : o < suc (2 * F)) (r : Record) (a : ℕ → Reply)
    (bound : (i : ℕ) → i < 7 → member i r.set ≡ true → i < suc (2 * F))
    (tells : (i : ℕ) → i < 7 → member i r.set ≡ true → Tells (get_or r.replies i no_vote) (a i)) where
  abbrev pub Q : ℕ → Bool
  Q = within F fit (λ i. member i r.set)

  abbrev pub Decides : Outcome → Type 0
  Decides x = Decided F o Q a x

  q-in : (i : ℕ) → Q i ≡ true → (i < 7) × (member i r.set ≡ true)
  q-in i t = (ltb-lt i 7 (and_l _ (member i r.set) t), and_r (ltb i 7) _ t)

  in-q : (i : ℕ) → i < 7 → member i r.set ≡ true → Q i ≡ true
  in-q i l m = and_in _ _ (ltb-in i 7 l) m

  -- a told vote, from the test to the model
  record Voted (i : ℕ) : Type 0 where
    q : Q i ≡ true
    n : i < suc (2 * F)
    t : Tells (told_by r i) (a i)
    some : 1 ≤ status_number (a i).status

  of-voter : (i : ℕ) → i < 7 → voter r i ≡ true → Voted i
  of-voter i l v =
      let m : member i r.set ≡ true = and_l _ (leb 1 (told_by r i).status) v in
      let t : Tells (told_by r i) (a i) = tells i l m in
      record { q = in-q i l m; n = bound i l m; t = t; some = omega (arith, t.status, leb-le 1 (told_by r i).status (and_r (member i r.set) _ v)) }

  is-voter : (i : ℕ) → Q i ≡ true → ((a i).status ≡ unvoted → ⊥) → voter r i ≡ true
  is-voter i t n =
      let (l, m) = q-in i t in
      let z : status_number (a i).status ≡ 0 → ⊥ = λ e. n (status-eq (a i).status unvoted e) in
      and_in _ _ m (leb-in 1 (told_by r i).status (omega (arith, (tells i l m).status, z)))

  top-ge : (i : ℕ) → i < 7 → voter r i ≡ true → (told_by r i).voted ≤ top_voted r
  unfolding top_voted
  top-ge i l v = let h : cond (voter r i) (told_by r i).voted 0 ≤ largest_below 7 (λ q. cond (voter r q) (told_by r q).voted 0) = largest-ge 7 (λ q. cond (voter r q) (told_by r q).voted 0) i l in rw v at h

  top : Top F o Q a (top_voted r)
  top = record { all = λ i l t n. let (l7, m) = q-in i t in omega (arith, (tells i l7 m).voted, top-ge i l7 (is-voter i t n)) }

  -- some voter is at the top
  at_top : eqb (those (voter r)) 0 ≡ false → (i : ℕ) × (i < 7) × (top_voter r i ≡ true)
  unfolding top_voted
  at_top e = go (largest-one 7 (λ q. cond (voter r q) (told_by r q).voted 0))
    where
      low : top_voted r ≡ 0 → (i : ℕ) × (i < 7) × (top_voter r i ≡ true)
      low z = let (l, v) = lowest-those (voter r) e in
          (lowest (voter r), l, and_in _ _ v (eqb_same (told_by r (lowest (voter r))).voted (top_voted r) (omega (arith, top-ge (lowest (voter r)) l v, z))))

      go : ((i : ℕ) × (i < 7) × (cond (voter r i) (told_by r i).voted 0 ≡ top_voted r)) ⊎ (top_voted r ≡ 0) → (i : ℕ) × (i < 7) × (top_voter r i ≡ true)
      go (inr z) = low z
      go (inl (i, l, q)) = by (voter r i) refl q
        where
          by : (b : Bool) → voter r i ≡ b → cond b (told_by r i).voted 0 ≡ top_voted r → (i : ℕ) × (i < 7) × (top_voter r i ≡ true)
          by true v q = (i, l, and_in _ _ v (eqb_same _ _ q))
          by false v q = low (sym q)

  no-accept : eqb (those (top_accepter r)) 0 ≡ true → NoneAccepted F o Q a (top_voted r)
  no-accept e i l t voted-at accepted-at =
      let (l7, m) = q-in i t in
      let w = tells i l7 m in
      tf (top_accepter r i)
      (and_in _ _ (and_in _ _ (is-voter i t (λ f. clash (cc))) (eqb_same _ _ (sym w.voted ∙ voted-at))) (eqb_same (told_by r i).status 3 (sym w.status ∙ ap status_number accepted-at)))
      (none-those (top_accepter r) e i l7)

  -- the copies with status 2
  two-told : (i : ℕ) → i < 7 → same_voter r i ≡ true → both (Q i) (is_pre_received (a i).status) ≡ true
  two-told i l v =
      let w = of-voter i l (and_l _ (eqb (told_by r i).status 2) v) in
      let e : (a i).status ≡ pre_received = status-eq (a i).status pre_received (w.t.status ∙ eqb-eq (told_by r i).status 2 (and_r (voter r i) _ v)) in
      rw (w.q, e) refl

  told-two : (i : ℕ) → both (Q i) (is_pre_received (a i).status) ≡ true → same_voter r i ≡ true
  told-two i t =
      let (qi, ti) = both_true (Q i) (is_pre_received (a i).status) t in
      let (l7, m) = q-in i qi in
      let z : status_number (a i).status ≡ 2 = two_is (a i).status ti in
      and_in _ _ (is-voter i qi (λ f. absurd (omega (arith, ap status_number f, z)))) (eqb_same (told_by r i).status 2 (sym (tells i l7 m).status ∙ z))

  twos-ge : cnt 7 (same_voter r) ≤ count_received F o Q a
  twos-ge = omega (
    arith,
    among F fit (same_voter r) (λ i l v. (of-voter i l (and_l _ (eqb (told_by r i).status 2) v)).n),
    cnt-mono (suc (2 * F)) (within F fit (same_voter r)) (λ i. both (Q i) (is_pre_received (a i).status)) (λ i l v. two-told i (ltb-lt i 7 (and_l _ (same_voter r i) v)) (and_r (ltb i 7) _ v)),
  )

  twos-le : count_received F o Q a ≤ cnt 7 (same_voter r)
  twos-le =
      let e : suc (2 * F) + (7 - suc (2 * F)) ≡ 7 = omega arith in
      let h : cnt (suc (2 * F)) (same_voter r) ≤ cnt 7 (same_voter r) = rw e at (cnt-more (suc (2 * F)) (7 - suc (2 * F)) (same_voter r)) in
      omega (arith, cnt-mono (suc (2 * F)) (λ i. both (Q i) (is_pre_received (a i).status)) (same_voter r) (λ i l t. told-two i t))

  abbrev Chosen : ℕ → Command → Type 0
  Chosen x k = ((x < 7) × Decides (accept (value_of (told_by r x)))) ⊎ ((x ≡ 7) × Decides (afresh k))

  case-none : eqb (those (voter r)) 0 ≡ true → Decides (afresh noop)
  case-none e = none-voted (λ i l t.
      let (l7, m) = q-in i t in
      ⊎_elim (λ z. status-eq (a i).status unvoted z) (λ z. tf (voter r i) (and_in _ _ m (leb-in 1 (told_by r i).status (omega (arith, (tells i l7 m).status)))) (none-those (voter r) e i l7)) (zero_or (status_number (a i).status)))
    where
      zero_or : (x : ℕ) → (x ≡ 0) ⊎ (1 ≤ x)
      zero_or zero = inl refl
      zero_or (suc x) = inr (omega arith)

  case-accept : (x : ℕ) → x < 7 → top_accepter r x ≡ true → Decides (accept (value_of (told_by r x)))
  case-accept x l v =
      let tv = and_l _ (eqb (told_by r x).status 3) v in
      let w = of-voter x l (and_l _ (eqb (told_by r x).voted (top_voted r)) tv) in
      rw w.t.value at (accepted (top_voted r) x top w.n w.q (w.t.voted ∙ eqb-eq _ _ (and_r (voter r x) _ tv))
      (status-eq (a x).status accept_vote (w.t.status ∙ eqb-eq (told_by r x).status 3 (and_r (top_voter r x) _ v))))

  case-fast : eqb (those (top_accepter r)) 0 ≡ true → maybe_fast (suc (2 * F)) o r ≡ true → (lowest (same_voter r) < 7) × Decides (accept (value_of (told_by r (lowest (same_voter r)))))
  unfolding maybe_fast
  case-fast e f =
      let z : top_voted r ≡ 0 = eqb-eq _ _ (and_l _ (not (member o r.set)) (and_l _ (leb (faults (suc (2 * F))) (count (those (same_voter r)))) f)) in
      let out : member o r.set ≡ false = not-not _ (and_r (eqb (top_voted r) 0) _ (and_l _ (leb (faults (suc (2 * F))) (count (those (same_voter r)))) f)) in
      let big : F ≤ cnt 7 (same_voter r) = omega (arith, ones-those (same_voter r), leb-le (faults (suc (2 * F))) (ones (those (same_voter r))) (and_r (eqb (top_voted r) 0 && not (member o r.set)) _ f)) in
      let (i, li, vi) = some-member 7 (same_voter r) (omega arith) in
      let (l, v) = lowest-any (same_voter r) i li vi in
      (l, by z out big (lowest (same_voter r)) l v)
    where
      by : top_voted r ≡ 0 → member o r.set ≡ false → F ≤ cnt 7 (same_voter r) → (x : ℕ) → x < 7 → same_voter r x ≡ true → Decides (accept (value_of (told_by r x)))
      by z out big x l v =
          let w = of-voter x l (and_l _ (eqb (told_by r x).status 2) v) in
          rw w.t.value at (fast x (rw z at top) (rw z at (no-accept e)) (rw out (no-and (ltb o 7))) (omega (arith, twos-ge)) w.n w.q
          (omega (arith, w.t.voted, top-ge x l (and_l _ (eqb (told_by r x).status 2) v))) (status-eq (a x).status pre_received (w.t.status ∙ eqb-eq (told_by r x).status 2 (and_r (voter r x) _ v))))
        where
          no-and : (b : Bool) → (b && false) ≡ false
          no-and true = refl
          no-and false = refl

  case-afresh : eqb (those (voter r)) 0 ≡ false → eqb (those (top_accepter r)) 0 ≡ true → maybe_fast (suc (2 * F)) o r ≡ false → Decides (afresh (told_by r (lowest (top_voter r))).command)
  unfolding maybe_fast
  case-afresh e0 e f =
      let (i, li, vi) = at_top e0 in
      let (l, v) = lowest-any (top_voter r) i li vi in
      by (lowest (top_voter r)) l v
    where
      never : top_voted r ≡ 0 → Q o ≡ false → F ≤ count_received F o Q a → ⊥
      never z qo tw =
          let out : member o r.set ≡ false = (rw (ltb-in o 7 (omega arith)) at qo) in
          tf (maybe_fast (suc (2 * F)) o r) (and_in _ _ (and_in _ _ (eqb_same _ _ z) (rw out refl)) (leb-in (faults (suc (2 * F))) (ones (those (same_voter r))) (omega (arith, ones-those (same_voter r), twos-le)))) f

      by : (x : ℕ) → x < 7 → top_voter r x ≡ true → Decides (afresh (told_by r x).command)
      by x l v =
          let w = of-voter x l (and_l _ (eqb (told_by r x).voted (top_voted r)) v) in
          rw w.t.value at (anew (top_voted r) x top (no-accept e) never w.n w.q (λ q. absurd (omega (arith, ap status_number q, w.some)), w.t.voted ∙ eqb-eq _ _ (and_r (voter r x) _ v)))

  pub chosen : Chosen (accepted_from (suc (2 * F)) o r) (afresh_command r)
  unfolding accepted_from afresh_command
  chosen = go (eqb (those (voter r)) 0) refl (eqb (those (top_accepter r)) 0) refl (maybe_fast (suc (2 * F)) o r) refl
    where
      go : (x : Bool) → eqb (those (voter r)) 0 ≡ x → (y : Bool) → eqb (those (top_accepter r)) 0 ≡ y → (z : Bool) → maybe_fast (suc (2 * F)) o r ≡ z
          → Chosen (cond x 7 (cond (not y) (lowest (top_accepter r)) (cond z (lowest (same_voter r)) 7))) (cond x noop (told_by r (lowest (top_voter r))).command)
      go true e y f z g = inr (refl, case-none e)
      go false e false f z g = let (l, v) = lowest-those (top_accepter r) f in inl (l, case-accept (lowest (top_accepter r)) l v)
      go false e true f true g = inl (case-fast f g)
      go false e true f false g = inr (refl, case-afresh e f g)
