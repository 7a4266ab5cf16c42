-- Many instances: each runs as if alone, and of two interfering commits one covers the other. Assumes nothing.
use Prim.Native.Nat.{ℕ, suc, ◌*◌, ◌≤◌, ◌<◌}
use Rattle.safety.proofs.Case.{Case, own, inside, Req, Cover, cov-up}
use Rattle.safety.proofs.Value.{Value, cmd, Sub, Interf, interf-sym, command?}
use mathlib.Core.Path.{◌≡◌, refl, sym, ap, ◌∙◌}
use mathlib.Core.Logic.{◌⊎◌, inl, inr, ⊎_elim}
use mathlib.Core.List.Memᴰ
use mathlib.Core.List.{List}
use native.Mathlib.Omega.{arith}
use Rattle.reach.proofs.Count.{quorums-meet}
use Rattle.safety.proofs.Hist.{Status, unvoted, pre_added, pre_received, accept_vote, commit_vote}
use Rattle.safety.proofs.Agree.{agreement}
use Rattle.safety.proofs.Sys.{Rec, Msg, Sys, upd, upd-cases, push, Was, blank_sys, Trans, Reach, init, step}
use Rattle.safety.proofs.Older.{rank, Le, le_same, le-new, le-com, le-voted}
use Rattle.safety.proofs.Inv.{Vote, Reason, Inv}
use Rattle.safety.proofs.Inv.Keep.{which}
use Rattle.safety.proofs.Inv.Facts.{now-in, local-now}
use Rattle.safety.proofs.Inv.Good.{holds}
use Rattle.safety.proofs.Inv.Laws.{hist, rules, commit}
use Rattle.reach.proofs.Tests.{clash}
use Rattle.safety.proofs.Inv.Cover.{PreQuorum, AllPreQuorums, all-pre-quorums, quorum-command, quorum-committed}

module _ (C : Case) where
  open C use {F, pos}

  -- a vote of r for I that is new counts all that r knows
  pub data Guard (G : ℕ → Sys) (I r : ℕ) (R : Rec) : Type 0 where
    no-vote : R.voted ≡ ((G I).now r).voted → R.status ≡ ((G I).now r).status → R.value ≡ ((G I).now r).value → Guard G I r R
    accepts : R.status ≡ accept_vote → Guard G I r R
    commits : R.status ≡ commit_vote → Guard G I r R
    seen : ((J : ℕ) → (I ≡ J → ⊥) → (((G J).now r).status ≡ unvoted → ⊥) → Interf (cmd R.value) (cmd ((G J).now r).value) → Cover C R.value J) → Guard G I r R

  pub data GReach : (ℕ → Sys) → Type 0 where
    g_init : GReach (λ I. blank_sys)
    g-step : {G : ℕ → Sys} (I r : ℕ) (R : Rec) (ms : List Msg) → GReach G → r < suc (2 * F)
        → Trans F (own C I) (Req C I) (G I) r ((G I).now r) R ms → Guard G I r R → GReach (upd G I (push (G I) r R ms))

  -- each instance runs as if alone
  pub alone : {G : ℕ → Sys} → GReach G → (J : ℕ) → Reach F (own C J) (Req C J) (G J)
  alone g_init J = init
  alone (g-step {G = G} I r R ms h l t g) J = go (λ K. alone h K)
    where
      go : ((K : ℕ) → Reach F (own C K) (Req C K) (G K)) → Reach F (own C J) (Req C J) (upd G I (push (G I) r R ms) J)
      go a = upd-cases (λ (S : Sys). Reach F (own C J) (Req C J) S) G I (push (G I) r R ms) J
          (λ e. rw e (step r R ms (a I) l t)) (λ n. a J)

  abbrev PreVoted : Rec → Type 0
  PreVoted X = (X.status ≡ pre_added) ⊎ (X.status ≡ pre_received)

  -- r's record later had another command
  record Changed (S : Sys) (r : ℕ) (X : Rec) : Type 0 where
    Z : Rec
    was : Was S r Z
    later : (Z.status ≡ commit_vote) ⊎ (X.voted ≤ Z.voted)
    cast : Z.status ≡ unvoted → ⊥
    other : cmd Z.value ≡ cmd X.value → ⊥

  data Linked (G : ℕ → Sys) (r I J : ℕ) (X Y : Rec) : Type 0 where
    first-covers : Cover C X.value J → Linked G r I J X Y
    second-covers : Cover C Y.value I → Linked G r I J X Y
    first-changed : Changed (G I) r X → Linked G r I J X Y
    second-changed : Changed (G J) r Y → Linked G r I J X Y

  abbrev Pairs : (ℕ → Sys) → Type 0
  Pairs G = (r I J : ℕ) → (I ≡ J → ⊥) → (X Y : Rec) → Was (G I) r X → Was (G J) r Y → PreVoted X → PreVoted Y → Interf (cmd X.value) (cmd Y.value) → Linked G r I J X Y

  swap : {G : ℕ → Sys} {r I J : ℕ} {X Y : Rec} → Linked G r I J X Y → Linked G r J I Y X
  swap (first-covers a) = second-covers a
  swap (second-covers a) = first-covers a
  swap (first-changed a) = second-changed a
  swap (second-changed a) = first-changed a

  changed-up : (S T : Sys) → ((r : ℕ) (R : Rec) → Was S r R → Was T r R) → (r : ℕ) (X : Rec) → Changed S r X → Changed T r X
  changed-up S T ext r X c = record { Z = c.Z; was = ext r c.Z c.was; later = c.later; cast = c.cast; other = c.other }

  module _ (G : ℕ → Sys) (gr : GReach G) (A : Pairs G) (I r : ℕ) (R : Rec) (ms : List Msg) where
    abbrev G' : ℕ → Sys
    G' = upd G I (push (G I) r R ms)

    g-which : (J q : ℕ) (X : Rec) → Was (G' J) q X → ((J ≡ I) × (q ≡ r) × (X ≡ R)) ⊎ Was (G J) q X
    g-which J q X = upd-cases (λ (S : Sys). Was S q X → ((J ≡ I) × (q ≡ r) × (X ≡ R)) ⊎ Was (G J) q X) G I (push (G I) r R ms) J
        (λ e w. go e (which (G I) r R ms q X w)) (λ n w. inr w)
      where
        go : J ≡ I → ((q ≡ r) × (X ≡ R)) ⊎ Was (G I) q X → ((J ≡ I) × (q ≡ r) × (X ≡ R)) ⊎ Was (G J) q X
        go e (inl p) = inl (e, p.0, p.1)
        go e (inr m) = inr (rw e m)

    g-old : (J q : ℕ) (X : Rec) → Was (G J) q X → Was (G' J) q X
    g-old J q X w = upd-cases (λ (S : Sys). Was S q X) G I (push (G I) r R ms) J (λ e. Memᴰ.tail (rw e at w)) (λ n. w)

    linked_up : (q J K : ℕ) (X Y : Rec) → Linked G q J K X Y → Linked G' q J K X Y
    linked_up q J K X Y (first-covers a) = first-covers a
    linked_up q J K X Y (second-covers a) = second-covers a
    linked_up q J K X Y (first-changed a) = first-changed (changed-up (G J) (G' J) (g-old J) q X a)
    linked_up q J K X Y (second-changed a) = second-changed (changed-up (G K) (G' K) (g-old K) q Y a)

    inv : (J : ℕ) → Inv F (own C J) (G J)
    inv J = holds (alone gr J)

    -- what r has of J now, where it once pre-voted Y
    still : (J : ℕ) (Y : Rec) → Was (G J) r Y → PreVoted Y → (((G J).now r).status ≡ unvoted → ⊥) × ((((G J).now r).status ≡ commit_vote) ⊎ (Y.voted ≤ ((G J).now r).voted))
    still J Y w pv = go ((inv J).chain r Y w) pv
      where
        go : Le Y ((G J).now r) → PreVoted Y → (((G J).now r).status ≡ unvoted → ⊥) × ((((G J).now r).status ≡ commit_vote) ⊎ (Y.voted ≤ ((G J).now r).voted))
        go (le_same a b c d) (inl e) = (λ f. clash (cc), inr (omega arith))
        go (le_same a b c d) (inr e) = (λ f. clash (cc), inr (omega arith))
        go (le-new a b c d x) e = (
          λ f. absurd (omega (arith, ap rank f, (local-now (inv J) r).unvoted f)),
          inr (le-voted {R = Y} {S = (G J).now r} (le-new a b c d x) x),
        )
        go (le-com a b) e = (λ f. clash (cc), inl b)

    -- the new record against an old one of another instance
    fresh : Guard G I r R → PreVoted R → (J : ℕ) → (I ≡ J → ⊥) → (Y : Rec) → Was (G J) r Y → PreVoted Y → Interf (cmd R.value) (cmd Y.value) → Linked G' r I J R Y
    fresh (accepts e) (inl f) J n Y w py it = clash (cc)
    fresh (accepts e) (inr f) J n Y w py it = clash (cc)
    fresh (commits e) (inl f) J n Y w py it = clash (cc)
    fresh (commits e) (inr f) J n Y w py it = clash (cc)
    fresh (no-vote voted-as status-as value_as) pr J n Y w py it = go (A r I J n ((G I).now r) Y (now-in (inv I) r (cast pr)) w (pn pr) py (rw value_as at it))
      where
        cast : PreVoted R → ((G I).now r).status ≡ unvoted → ⊥
        cast (inl e) f = clash (cc)
        cast (inr e) f = clash (cc)

        pn : PreVoted R → PreVoted ((G I).now r)
        pn (inl e) = inl (sym status-as ∙ e)
        pn (inr e) = inr (sym status-as ∙ e)

        go : Linked G r I J ((G I).now r) Y → Linked G' r I J R Y
        go (first-covers a) = first-covers (rw value_as a)
        go (second-covers a) = second-covers a
        go (first-changed c) = first-changed (record { Z = c.Z; was = g-old I r c.Z c.was; later = ⊎_elim (λ e. inl e) (λ l. inr (omega arith)) c.later; cast = c.cast; other = λ e. c.other (e ∙ ap cmd value_as) })
        go (second-changed c) = second-changed (changed-up (G J) (G' J) (g-old J) r Y c)
    fresh (seen k) pr J n Y w py it = go (still J Y w py) (command? (cmd ((G J).now r).value) (cmd Y.value))
      where
        go : (((G J).now r).status ≡ unvoted → ⊥) × ((((G J).now r).status ≡ commit_vote) ⊎ (Y.voted ≤ ((G J).now r).voted)) → Dec (cmd ((G J).now r).value ≡ cmd Y.value) → Linked G' r I J R Y
        go p (yes e) = first-covers (k J n p.0 (rw e it))
        go p (no e) = second-changed (record { Z = (G J).now r; was = g-old J r _ (now-in (inv J) r p.0); later = p.1; cast = p.0; other = e })

    pairs-step : Guard G I r R → Pairs G'
    pairs-step g q J K n X Y wx wy px py it = go (g-which J q X wx) (g-which K q Y wy)
      where
        go : ((J ≡ I) × (q ≡ r) × (X ≡ R)) ⊎ Was (G J) q X → ((K ≡ I) × (q ≡ r) × (Y ≡ R)) ⊎ Was (G K) q Y → Linked G' q J K X Y
        go (inl a) (inl b) = absurd (n (a.0 ∙ sym b.0))
        go (inl a) (inr m) = rw (a.0, a.1, a.2)
            (fresh g (rw a.2 at px) K (rw a.0 at n) Y (rw a.1 at m) py (rw a.2 at it))
        go (inr m) (inl b) = rw (b.0, b.1, b.2)
            (swap (fresh g (rw b.2 at py) J (λ e. n (sym e ∙ sym b.0)) X (rw b.1 at m) px (interf-sym (cmd X.value) (cmd R.value) (rw b.2 at it))))
        go (inr m) (inr k) = linked_up q J K X Y (A q J K n X Y m k px py it)

  all-pairs : {G : ℕ → Sys} → GReach G → Pairs G
  all-pairs g_init q J K n X Y wx wy px py it = absurd (Memᴰ.not-nil wx)
  all-pairs (g-step {G = G} I r R ms h l t g) q J K n X Y wx wy px py it =
      pairs-step G h (λ q J K n X Y wx wy px py it. all-pairs h q J K n X Y wx wy px py it) I r R ms g q J K n X Y wx wy px py it

  is4 : (u : Status) → Dec (u ≡ commit_vote)
  is4 unvoted = no (λ e. clash (cc))
  is4 pre_added = no (λ e. clash (cc))
  is4 pre_received = no (λ e. clash (cc))
  is4 accept_vote = no (λ e. clash (cc))
  is4 commit_vote = yes refl

  module _ {G : ℕ → Sys} (gr : GReach G) where
    pub invs : (J : ℕ) → Inv F (own C J) (G J)
    invs J = holds (alone gr J)

    pre-quorums : (J : ℕ) → AllPreQuorums F (G J)
    pre-quorums J = all-pre-quorums (inside C J) (alone gr J)

    abbrev pub Com : ℕ → Value → Type 0
    Com J v = Reason F (own C J) (G J) v

    pub agree : (J : ℕ) (v w : Value) → Com J v → Com J w → v ≡ w
    agree J v w x y = agreement F (own C J) (hist (invs J)) (rules (invs J))
        pos (inside C J) v w (commit (invs J) v x) (commit (invs J) w y)

    -- a copy of the quorum never changed the command
    unchanged : (I r : ℕ) (v : Value) → Com I v → (m : ℕ) (h : PreQuorum F (G I) v m)
        → (X : Rec) → X.voted ≡ h.b → cmd X.value ≡ cmd v → Changed (G I) r X → ⊥
    unchanged I r v cm m h X voted-at same-cmd c = go (is4 c.Z.status) c.later
      where
        four : c.Z.status ≡ commit_vote → ⊥
        four e = c.other (ap cmd (agree I c.Z.value v ((invs I).reasons r c.Z c.was e) cm) ∙ sym same-cmd)

        go : Dec (c.Z.status ≡ commit_vote) → (c.Z.status ≡ commit_vote) ⊎ (X.voted ≤ c.Z.voted) → ⊥
        go (yes e) l = four e
        go (no n) (inl e) = four e
        go (no n) (inr l) = c.other (quorum-command (inside C I) (invs I) (pre-quorums I) v m h
            r c.Z.voted c.Z.status c.Z.value (record { saved = c.Z; was = c.was; ballot = refl; status = refl; value = refl; cast = c.cast; uncommitted = n }) (omega arith) ∙ sym same-cmd)

    -- of two interfering committed commands one covers the other
    pub covered : (I J : ℕ) → (I ≡ J → ⊥) → (v w : Value) → Com I v → Com J w → Interf (cmd v) (cmd w) → Cover C v J ⊎ Cover C w I
    covered I J n v w cv cw it =
        let (m, h) = quorum-committed (inside C I) (invs I) (pre-quorums I) 0 v pos cv in
        let (k, g) = quorum-committed (inside C J) (invs J) (pre-quorums J) 0 w pos cw in
        let (i, li, hi, gi) = quorums-meet F h.set g.set h.size g.size in
        let (u, x, vx, ux, cx, sx) = h.votes i li hi in
        let (t, y, vy, ty, cy, sy) = g.votes i li gi in
        go m h k g i u x vx cx sx t y vy cy sy
        (all-pairs gr i I J n vx.saved vy.saved vx.was vy.was (pv vx ux) (pv vy ty) (rw (vx.value, vy.value, cx, cy) it))
      where
        pv : {K i b : ℕ} {u : Status} {x : Value} → (q : Vote (G K) i b u x) → (u ≡ pre_added) ⊎ (u ≡ pre_received) → PreVoted q.saved
        pv q (inl e) = inl (q.status ∙ e)
        pv q (inr e) = inr (q.status ∙ e)

        go : (m : ℕ) (h : PreQuorum F (G I) v m)
            → (k : ℕ) (g : PreQuorum F (G J) w k)
            → (i : ℕ) (u : Status) (x : Value) → (vx : Vote (G I) i h.b u x) → cmd x ≡ cmd v → Sub x v
            → (t : Status) (y : Value) → (vy : Vote (G J) i g.b t y) → cmd y ≡ cmd w → Sub y w
            → Linked G i I J vx.saved vy.saved → Cover C v J ⊎ Cover C w I
        go m h k g i u x vx cx sx t y vy cy sy (first-covers a) = inl (cov-up C x v J sx (rw vx.value at a))
        go m h k g i u x vx cx sx t y vy cy sy (second-covers a) = inr (cov-up C y w I sy (rw vy.value at a))
        go m h k g i u x vx cx sx t y vy cy sy (first-changed c) = absurd (unchanged I i v cv m h vx.saved vx.ballot (ap cmd vx.value ∙ cx) c)
        go m h k g i u x vx cx sx t y vy cy sy (second-changed c) = absurd (unchanged J i w cw k g vy.saved vy.ballot (ap cmd vy.value ∙ cy) c)
