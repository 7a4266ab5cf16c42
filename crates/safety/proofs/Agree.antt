-- The laws of a history give agreement, on the fast way and the slow, and fix the command once F+1 voted for it. Assumes nothing.
use Prim.Native.Nat.{ℕ, zero, suc, ◌*◌, ◌≤◌, ◌<◌}
use Rattle.paper.specs.declared.Command.{Command}
use Rattle.safety.proofs.Value.{Value, cmd}
use mathlib.Core.Path.{◌≡◌, refl, sym, ap, subst, ◌∙◌}
use mathlib.Core.Logic.{◌⊎◌, inl, inr}
use mathlib.Core.Bool.{Bool, true, false}
use native.Mathlib.Omega.{arith}
use native.Mathlib.Decide.{dec_lt}
use native.Mathlib.Nat.{eq-or-lt_of_le}
use Rattle.reach.proofs.Count.{cnt, both, both_true, member, quorums-meet, fast-meet, cnt-mono}
use Rattle.safety.proofs.Hist.{Status, unvoted, pre_added, pre_received, accept_vote, commit_vote, is_pre_received, Upto, received-stays, received-accepts, accept-stays, Reply, Outcome, accept, afresh, NoneAccepted, Decided, none-voted, accepted, fast, anew, Obeys, Hist, Rules, Slow}

3≢0 : accept_vote ≡ unvoted → ⊥
3≢0 e = let z : ◌≡◌ {A = ℕ} 0 1 = cc in omega arith

2≢0 : pre_received ≡ unvoted → ⊥
2≢0 e = let z : ◌≡◌ {A = ℕ} 0 1 = cc in omega arith

up3 : {s : Status} → Upto accept_vote s → s ≡ accept_vote
up3 accept-stays = refl

up2 : {s : Status} → Upto pre_received s → (s ≡ accept_vote → ⊥) → s ≡ pre_received
up2 received-stays n = refl
up2 received-accepts n = absurd (n refl)

module _ (F owner : ℕ)
    (H : Hist F owner) (R : Rules F owner H) where
  N : ℕ
  N = suc (2 * F)

  -- what holds of ballot b once v is chosen below it
  abbrev Kept : Value → ℕ → Type 0
  Kept v b = ((w : Value) → H.Acc b w → w ≡ v) × ((w : Value) → H.Pre b w → ⊥)

  -- strong induction
  below : (lo : ℕ) (v : Value) → ((b : ℕ) → lo < b → ((m : ℕ) → lo < m → m < b → Kept v m) → Kept v b)
      → (k b : ℕ) → b < k → lo < b → Kept v b
  below lo v step zero b l h = absurd (omega arith)
  below lo v step (suc k) b l h = step b h (λ m p q. below lo v step k m (omega arith) p)

  -- a vote of status 1 or 2 in a reply at a ballot with no PreAccept is refuted
  no-pre : (r m : ℕ) (s : Status) (u : Value) → H.Vote r m s u → (s ≡ accept_vote → ⊥) → ((w : Value) → H.Pre m w → ⊥) → ⊥
  no-pre r m unvoted u h n f = R.vote-0 r m u h
  no-pre r m pre_added u h n f = let (w, p, e) = R.vote-1 r m u h in f w p
  no-pre r m pre_received u h n f = f u (R.vote-2 r m u h)
  no-pre r m accept_vote u h n f = n refl
  no-pre r m commit_vote u h n f = R.vote-4 r m u h

  -- an Accept at m, where lo <= m < b
  same : (lo b m : ℕ) (v u : Value) → H.Acc m u → (lo ≡ m → u ≡ v) → (lo < m → m < b → Kept v m) → m < b → (lo ≡ m) ⊎ (lo < m) → u ≡ v
  same lo b m v u a z h l (inl e) = z e
  same lo b m v u a z h l (inr k) = (h k l).0 u a

  -- from what is decided to what is kept
  kept : (v : Value) (b : ℕ) → 0 < b
      → ((Q : ℕ → Bool) (rep : ℕ → Reply) → suc F ≤ cnt (suc (2 * F)) Q → ((i : ℕ) → i < suc (2 * F) → Q i ≡ true → H.Ok i b (rep i))
      → (o : Outcome) → Decided F owner Q rep o → o ≡ accept v)
      → Kept v b
  kept v b pos f = (λ w a. (use-it w (inl a)).0 w a, λ w p. (use-it w (inr p)).1 w p)
    where
      turn : {o : Outcome} → o ≡ accept v → Obeys F owner H.Pre H.Acc b o → Kept v b
      turn {o} e obeys = subst (λ (x : Outcome). Obeys F owner H.Pre H.Acc b x) e obeys

      use-it : (w : Value) → H.Acc b w ⊎ H.Pre b w → Kept v b
      use-it w h = let (Q, rep, o, enough, ok, d, obeys) = R.decided b w pos h in turn (f Q rep enough ok o d) obeys

  module _ (chosen_at : ℕ) (v : Value) (slowly : Slow F owner H chosen_at v) where
    slow-out : (b : ℕ) → chosen_at < b → ((m : ℕ) → chosen_at < m → m < b → Kept v m)
        → (Q : ℕ → Bool) (rep : ℕ → Reply) → ((i : ℕ) → i < suc (2 * F) → Q i ≡ true → H.Ok i b (rep i))
        → (i : ℕ) → i < suc (2 * F) → Q i ≡ true → slowly.set i ≡ true
        → {o : Outcome} → Decided F owner Q rep o → o ≡ accept v
    slow-out b l ih Q rep ok i li qi si (none-voted f) =
        let (cast, le, up) = R.ok-last i b chosen_at accept_vote v (rep i) (ok i li qi) (slowly.votes i li si) l in
        absurd (cast (f i li qi))
    slow-out b l ih Q rep ok i li qi si (accepted m j top lj qj voted-at status-is) =
        let (cast, le, up) = R.ok-last i b chosen_at accept_vote v (rep i) (ok i li qi) (slowly.votes i li si) l in
        let (vote, lt) = R.ok-vote j b (rep j) (ok j lj qj) (λ e. 3≢0 (cc)) in
        let a : H.Acc m (rep j).value = R.vote-3 j m (rep j).value (rw (voted-at, status-is) at vote) in
        let le2 : (rep i).voted ≤ m = top.all i li qi cast in
        let av : H.Acc chosen_at v = R.vote-3 i chosen_at v (slowly.votes i li si) in
        ap accept (same chosen_at b m v (rep j).value a (λ e. R.acc-one chosen_at _ _ (rw (← e) at a) av) (ih m) (omega arith) (eq-or-lt_of_le (omega arith)))
    slow-out b l ih Q rep ok i li qi si (fast j top no-accept no-owner twos-enough lj qj voted-at status-is) =
        let (cast, le, up) = R.ok-last i b chosen_at accept_vote v (rep i) (ok i li qi) (slowly.votes i li si) l in
        let le2 : (rep i).voted ≤ 0 = top.all i li qi cast in
        absurd (no-accept i li qi (omega arith) (up3 (up (omega arith))))
    slow-out b l ih Q rep ok i li qi si (anew m j top no-accept not-fast lj qj at) =
        let (cast, le, up) = R.ok-last i b chosen_at accept_vote v (rep i) (ok i li qi) (slowly.votes i li si) l in
        let le2 : (rep i).voted ≤ m = top.all i li qi cast in
        let (vote, lt) = R.ok-vote j b (rep j) (ok j lj qj) at.0 in
        let vote-at : H.Vote j m (rep j).status (rep j).value = rw at.1 at vote in
        absurd (go m (rw at.1 at lt) no-accept vote-at (eq-or-lt_of_le (omega arith)) (λ e. up3 (up e)) le le2 (no-accept j lj qj at.1))
      where
        go : (m : ℕ) → m < b → NoneAccepted F owner Q rep m → H.Vote j m (rep j).status (rep j).value → (chosen_at ≡ m) ⊎ (chosen_at < m)
            → (chosen_at ≡ (rep i).voted → (rep i).status ≡ accept_vote) → chosen_at ≤ (rep i).voted → (rep i).voted ≤ m → ((rep j).status ≡ accept_vote → ⊥) → ⊥
        go m lm no-accept vote-at (inl e) up le le2 nj = no-accept i li qi (omega arith) (up (omega arith))
        go m lm no-accept vote-at (inr k) up le le2 nj = no-pre j m (rep j).status (rep j).value vote-at nj (ih m k lm).1

    -- chosen slowly: every later ballot proposes v, in an Accept
    slow-kept : (b : ℕ) → chosen_at < b → Kept v b
    slow-kept b l = below chosen_at v step (suc b) b (omega arith) l
      where
        step : (b : ℕ) → chosen_at < b → ((m : ℕ) → chosen_at < m → m < b → Kept v m) → Kept v b
        step b l ih = kept v b (omega arith) λ Q rep enough ok o d.
            let (i, li, si, qi) = quorums-meet F slowly.set Q slowly.size enough in
            slow-out b l ih Q rep ok i li qi si d

  module _ (pos : 0 < F) (lo : owner < suc (2 * F)) (v : Value) (quickly : H.Fast v) where
    P : ℕ → Bool
    P = (R.fast-votes v quickly).0

    fast-vote : (i : ℕ) → i < suc (2 * F) → P i ≡ true → H.Vote i 0 pre_received v
    unfolding P
    fast-vote i li pi = (R.fast-votes v quickly).3 i li pi

    fast-seen : (b : ℕ) → 0 < b → (rep : Reply) (i : ℕ) → i < suc (2 * F) → P i ≡ true → H.Ok i b rep
        → (rep.status ≡ unvoted → ⊥) × (0 ≤ rep.voted) × (0 ≡ rep.voted → Upto pre_received rep.status)
    unfolding P
    fast-seen b l rep i li pi ok = R.ok-last i b 0 pre_received v rep ok ((R.fast-votes v quickly).3 i li pi) l

    fast-out : (b : ℕ) → 0 < b → ((m : ℕ) → 0 < m → m < b → Kept v m)
        → (Q : ℕ → Bool) (rep : ℕ → Reply) → ((i : ℕ) → i < suc (2 * F) → Q i ≡ true → H.Ok i b (rep i))
        → Q owner ≡ false → F ≤ cnt (suc (2 * F)) (λ i. both (P i) (Q i))
        → (i : ℕ) → i < suc (2 * F) → Q i ≡ true → P i ≡ true
        → {o : Outcome} → Decided F owner Q rep o → o ≡ accept v
    fast-out b l ih Q rep ok no-owner big i li qi pi (none-voted f) =
        absurd ((fast-seen b l (rep i) i li pi (ok i li qi)).0 (f i li qi))
    fast-out b l ih Q rep ok no-owner big i li qi pi (accepted m j top lj qj voted-at status-is) =
        let (vote, lt) = R.ok-vote j b (rep j) (ok j lj qj) (λ e. 3≢0 (cc)) in
        let a : H.Acc m (rep j).value = R.vote-3 j m (rep j).value (rw (voted-at, status-is) at vote) in
        ap accept (same 0 b m v (rep j).value a (λ e. absurd (R.fast-acc v _ quickly (rw (← e) at a))) (ih m) (omega arith) (eq-or-lt_of_le (omega arith)))
    fast-out b l ih Q rep ok no-owner big i li qi pi (fast j top no-accept no-owner2 twos-enough lj qj voted-at status-is) =
        let (vote, lt) = R.ok-vote j b (rep j) (ok j lj qj) (λ e. 2≢0 (cc)) in
        ap accept (R.pre-one 0 _ _ (R.vote-2 j 0 _ (rw (voted-at, status-is) at vote)) (R.vote-2 i 0 v (fast-vote i li pi)))
    fast-out b l ih Q rep ok no-owner big i li qi pi (anew m j top no-accept not-fast lj qj at) =
        let (vote, lt) = R.ok-vote j b (rep j) (ok j lj qj) at.0 in
        let vote-at : H.Vote j m (rep j).status (rep j).value = rw at.1 at vote in
        absurd (go (rw at.1 at lt) vote-at (eq-or-lt_of_le (omega arith)) (no-accept j lj qj at.1))
      where
        twos-are : (e : 0 ≡ m) (k : ℕ) → k < suc (2 * F) → both (P k) (Q k) ≡ true → both (Q k) (is_pre_received (rep k).status) ≡ true
        twos-are e k lk backed =
            let (pk, qk) = both_true (P k) (Q k) backed in
            let (cast, le, up) = fast-seen b l (rep k) k lk pk (ok k lk qk) in
            let le2 : (rep k).voted ≤ m = top.all k lk qk cast in
            let st2 : (rep k).status ≡ pre_received = up2 (up (omega arith)) (no-accept k lk qk (omega arith)) in
            rw (qk, st2) refl

        go : m < b → H.Vote j m (rep j).status (rep j).value → (0 ≡ m) ⊎ (0 < m) → ((rep j).status ≡ accept_vote → ⊥) → ⊥
        go lm vote-at (inl e) nj =
            not-fast (sym e) no-owner (omega (arith, big, cnt-mono (suc (2 * F)) (λ k. both (P k) (Q k)) (λ k. both (Q k) (is_pre_received (rep k).status)) (twos-are e)))
        go lm vote-at (inr k) nj = no-pre j m (rep j).status (rep j).value vote-at nj (ih m k lm).1

    -- chosen fast: the owner is in no quorum of replies, and of F+1 others at least F pre-accepted v as it was sent
    fast-kept : (b : ℕ) → 0 < b → Kept v b
    unfolding P
    fast-kept b l = below 0 v step (suc b) b (omega arith) l
      where
        step : (b : ℕ) → 0 < b → ((m : ℕ) → 0 < m → m < b → Kept v m) → Kept v b
        step b l ih = kept v b l λ Q rep enough ok o d.
            go Q rep enough ok o d (Q owner) refl
          where
            go : (Q : ℕ → Bool) (rep : ℕ → Reply) → suc F ≤ cnt (suc (2 * F)) Q → ((i : ℕ) → i < suc (2 * F) → Q i ≡ true → H.Ok i b (rep i))
                → (o : Outcome) → Decided F owner Q rep o → (x : Bool) → Q owner ≡ x → o ≡ accept v
            go Q rep enough ok o d true e = absurd (R.fast-owner v b _ quickly (ok owner lo e))
            go Q rep enough ok o d false e =
                let big : F ≤ cnt (suc (2 * F)) (λ i. both (P i) (Q i)) = fast-meet F owner P Q lo (R.fast-votes v quickly).2 e (R.fast-votes v quickly).1 enough in
                let (i, li, bi) = member (suc (2 * F)) (λ i. both (P i) (Q i)) (omega arith) in
                let (pi, qi) = both_true (P i) (Q i) bi in
                fast-out b l ih Q rep ok e big i li qi pi d

  pub data Commit (v : Value) : Type 0 where
    slow : (b : ℕ) → Slow F owner H b v → Commit v
    quick : H.Fast v → Commit v

  slow-acc : (b : ℕ) (v : Value) → Slow F owner H b v → H.Acc b v
  slow-acc b v s = let (i, li, si) = member (suc (2 * F)) s.set (omega (arith, s.size)) in R.vote-3 i b v (s.votes i li si)

  fast-pre : 0 < F → (v : Value) → H.Fast v → H.Pre 0 v
  fast-pre pos v f =
      let (Q, enough, q, vs) = R.fast-votes v f in
      let (i, li, si) = member (suc (2 * F)) Q (omega arith) in R.vote-2 i 0 v (vs i li si)

  mixed : 0 < F → owner < suc (2 * F) → (v w : Value) (b : ℕ) → Slow F owner H b v → H.Fast w → Dec (0 < b) → v ≡ w
  mixed pos lo v w b s f (yes k) = (fast-kept pos lo w f b k).0 v (slow-acc b v s)
  mixed pos lo v w b s f (no k) = let e : b ≡ 0 = omega arith in absurd (R.fast-acc w v f (rw e at (slow-acc b v s)))

  -- two committed values are one
  pub agreement : 0 < F → owner < suc (2 * F) → (v w : Value) → Commit v → Commit w → v ≡ w
  agreement pos lo v w (slow b s) (slow c t) = by (dec_lt b c) (dec_lt c b)
    where
      by : Dec (b < c) → Dec (c < b) → v ≡ w
      by (yes k) d = sym ((slow-kept b v s c k).0 w (slow-acc c w t))
      by (no k) (yes l) = (slow-kept c w t b l).0 v (slow-acc b v s)
      by (no k) (no l) =
          let e : c ≡ b = omega arith in
          R.acc-one b v w (slow-acc b v s) (rw e at (slow-acc c w t))
  agreement pos lo v w (slow b s) (quick f) = mixed pos lo v w b s f (dec_lt 0 b)
  agreement pos lo v w (quick f) (slow b s) = sym (mixed pos lo w v b s f (dec_lt 0 b))
  agreement pos lo v w (quick f) (quick g) = R.pre-one 0 v w (fast-pre pos v f) (fast-pre pos w g)

  -- once F+1 copies voted at one ballot, in whatever status, for values of command x, every later ballot has command x
  above : (lo : ℕ) (P : ℕ → Type 0) → ((b : ℕ) → lo < b → ((m : ℕ) → lo < m → m < b → P m) → P b) → (k b : ℕ) → b < k → lo < b → P b
  above lo P st zero b l h = absurd (omega arith)
  above lo P st (suc k) b l h = st b h (λ m p q. above lo P st k m (omega arith) p)

  abbrev KeptC : Command → ℕ → Type 0
  KeptC x b = ((w : Value) → H.Acc b w → cmd w ≡ x) × ((w : Value) → H.Pre b w → cmd w ≡ x)

  module _ (accept-zero : (v : Value) → H.Acc 0 v → (w : Value) × H.Pre 0 w × (cmd v ≡ cmd w)) where
    acc-pre : (b : ℕ) (v w : Value) → H.Acc b v → H.Pre b w → cmd v ≡ cmd w
    acc-pre b v w x y = go (eq-or-lt_of_le {n = 0} {m = b} (omega arith))
      where
        by : (o : Outcome) → Obeys F owner H.Pre H.Acc b o → cmd v ≡ cmd w
        by (accept u) obeys = absurd (obeys.1 w y)
        by (afresh c) obeys = obeys.0 v x ∙ sym (obeys.1 w y)

        go : (0 ≡ b) ⊎ (0 < b) → cmd v ≡ cmd w
        go (inl e) = let (u, p, c) = accept-zero v (rw (← e) at x) in c ∙ ap cmd (R.pre-one 0 u w p (rw (← e) at y))
        go (inr pos) = let (Q, rep, o, enough, ok, d, obeys) = R.decided b v pos (inl x) in by o obeys

    -- a vote is for the command of its ballot's PreAccept, or for its Accept
    cast-as : (r b : ℕ) (u : Status) (v : Value) → H.Vote r b u v → ((w : Value) × H.Pre b w × (cmd v ≡ cmd w)) ⊎ H.Acc b v
    cast-as r b unvoted v h = absurd (R.vote-0 r b v h)
    cast-as r b pre_added v h = inl (R.vote-1 r b v h)
    cast-as r b pre_received v h = inl (v, R.vote-2 r b v h, refl)
    cast-as r b accept_vote v h = inr (R.vote-3 r b v h)
    cast-as r b commit_vote v h = absurd (R.vote-4 r b v h)

    same-ballot : (r q b : ℕ) (u t : Status) (v w : Value) → H.Vote r b u v → H.Vote q b t w → cmd v ≡ cmd w
    same-ballot r q b u t v w x y = go (cast-as r b u v x) (cast-as q b t w y)
      where
        go : ((z : Value) × H.Pre b z × (cmd v ≡ cmd z)) ⊎ H.Acc b v → ((z : Value) × H.Pre b z × (cmd w ≡ cmd z)) ⊎ H.Acc b w → cmd v ≡ cmd w
        go (inl p) (inl q) = p.2 ∙ ap cmd (R.pre-one b p.0 q.0 p.1 q.1) ∙ sym q.2
        go (inl p) (inr a) = p.2 ∙ sym (acc-pre b w p.0 a p.1)
        go (inr a) (inl q) = acc-pre b v q.0 a q.1 ∙ sym q.2
        go (inr a) (inr c) = ap cmd (R.acc-one b v w a c)

    module _ (chosen_at : ℕ) (x : Command) (Q0 : ℕ → Bool) (enough0 : suc F ≤ cnt (suc (2 * F)) Q0)
        (vs : (i : ℕ) → i < suc (2 * F) → Q0 i ≡ true → (u : Status) × (v : Value) × H.Vote i chosen_at u v × (cmd v ≡ x)) where
      -- a vote there or later, below b
      later : (b : ℕ) → ((m : ℕ) → chosen_at < m → m < b → KeptC x m) → (j m : ℕ) (u : Status) (v : Value) → H.Vote j m u v → chosen_at ≤ m → m < b → cmd v ≡ x
      later b ih j m u v h l k = go (eq-or-lt_of_le l)
        where
          go : (chosen_at ≡ m) ⊎ (chosen_at < m) → cmd v ≡ x
          go (inl e) =
              let (i, li, qi) = member (suc (2 * F)) Q0 (omega arith) in
              let (t, w, y, c) = vs i li qi in
              same-ballot j i chosen_at u t v w (rw (← e) at h) y ∙ c
          go (inr p) = by (cast-as j m u v h)
            where
              by : ((z : Value) × H.Pre m z × (cmd v ≡ cmd z)) ⊎ H.Acc m v → cmd v ≡ x
              by (inl q) = q.2 ∙ (ih m p k).1 q.0 q.1
              by (inr a) = (ih m p k).0 v a

      abbrev Of : Outcome → Type 0
      Of (accept v) = cmd v ≡ x
      Of (afresh c) = c ≡ x

      cmd-out : (b : ℕ) → chosen_at < b → ((m : ℕ) → chosen_at < m → m < b → KeptC x m)
          → (Q : ℕ → Bool) (rep : ℕ → Reply) → ((i : ℕ) → i < suc (2 * F) → Q i ≡ true → H.Ok i b (rep i))
          → (i : ℕ) → i < suc (2 * F) → Q i ≡ true → ((rep i).status ≡ unvoted → ⊥) → chosen_at ≤ (rep i).voted
          → {o : Outcome} → Decided F owner Q rep o → Of o
      cmd-out b l ih Q rep ok i li qi cast le (none-voted f) = absurd (cast (f i li qi))
      cmd-out b l ih Q rep ok i li qi cast le (accepted m j top lj qj voted-at status-is) =
          let (vote, lt) = R.ok-vote j b (rep j) (ok j lj qj) (λ e. 3≢0 (cc)) in
          later b ih j (rep j).voted (rep j).status (rep j).value vote (omega (arith, top.all i li qi cast)) lt
      cmd-out b l ih Q rep ok i li qi cast le (fast j top no-accept no-owner twos-enough lj qj voted-at status-is) =
          let (vote, lt) = R.ok-vote j b (rep j) (ok j lj qj) (λ e. 2≢0 (cc)) in
          later b ih j (rep j).voted (rep j).status (rep j).value vote (omega (arith, top.all i li qi cast)) lt
      cmd-out b l ih Q rep ok i li qi cast le (anew m j top no-accept not-fast lj qj at) =
          let (vote, lt) = R.ok-vote j b (rep j) (ok j lj qj) at.0 in
          later b ih j (rep j).voted (rep j).status (rep j).value vote (omega (arith, top.all i li qi cast, at.1)) lt

      obey-of : (b : ℕ) (o : Outcome) → Of o → Obeys F owner H.Pre H.Acc b o → KeptC x b
      obey-of b (accept v) e obeys = (λ w a. ap cmd (obeys.0 w a) ∙ e, λ w p. absurd (obeys.1 w p))
      obey-of b (afresh c) e obeys = (λ w a. obeys.0 w a ∙ e, λ w p. obeys.1 w p ∙ e)

      cmd-kept : (b : ℕ) → chosen_at < b → KeptC x b
      cmd-kept b l = above chosen_at (KeptC x) st (suc b) b (omega arith) l
        where
          st : (b : ℕ) → chosen_at < b → ((m : ℕ) → chosen_at < m → m < b → KeptC x m) → KeptC x b
          st b l ih = (λ w a. (go w (inl a)).0 w a, λ w p. (go w (inr p)).1 w p)
            where
              go : (w : Value) → H.Acc b w ⊎ H.Pre b w → KeptC x b
              go w h =
                  let (Q, rep, o, enough, ok, d, obeys) = R.decided b w (omega arith) h in
                  let (i, li, si, qi) = quorums-meet F Q0 Q enough0 enough in
                  let (u, v, y, c) = vs i li si in
                  let (cast, le, up) = R.ok-last i b chosen_at u v (rep i) (ok i li qi) y l in
                  obey-of b o (cmd-out b l ih Q rep ok i li qi cast le d) obeys

      -- every vote there or later is for x
      pub cmd-votes : (j m : ℕ) (u : Status) (v : Value) → H.Vote j m u v → chosen_at ≤ m → cmd v ≡ x
      cmd-votes j m u v h l = later (suc m) (λ k p q. cmd-kept k p) j m u v h l (omega arith)
