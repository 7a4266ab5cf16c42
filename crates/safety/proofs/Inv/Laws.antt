-- The invariant gives the laws of a history from which agreement follows. Assumes nothing.
use Prim.Native.Nat.{ℕ, suc, ◌*◌, ◌≤◌, ◌<◌}
use Rattle.paper.specs.Ballot.{lead}
use Rattle.safety.proofs.Value.{Value, lead-0}
use mathlib.Core.Path.{◌≡◌, refl, sym, ap, ◌∙◌}
use mathlib.Core.Logic.{◌⊎◌, inl, inr}
use mathlib.Core.Bool.{Bool, true}
use native.Mathlib.Omega.{arith}
use Rattle.reach.proofs.Tests.{clash}
use Rattle.reach.proofs.Count.{cnt}
use Rattle.safety.proofs.Hist.{Status, unvoted, pre_added, pre_received, accept_vote, commit_vote, Upto, added-stays, added-accepts, received-stays, received-accepts, accept-stays, Reply, Outcome, accept, afresh, Decided, Obeys, Hist, Rules}
use Rattle.safety.proofs.Agree.{Commit, slow, quick}
use Rattle.safety.proofs.Sys.{Rec, Sys, Was}
use Rattle.safety.proofs.Older.{rank, rank-le, Le, le_same, le-new, le-com}
use Rattle.safety.proofs.Inv.{Vote, Promised, FastVotes, Reason, com-slow, com-fast, ObeysR, Inv}
use Rattle.safety.proofs.Inv.Facts.{vote-one, vote-added, vote-unchanged, vote-accepted}

module _ {F owner : ℕ} {s : Sys} (I : Inv F owner s) where
  unfoldable pub hist : Hist F owner
  hist = record { Pre = λ b v. Vote s (lead owner b) b pre_received v; Acc = λ b v. Vote s (lead owner b) b accept_vote v; Vote = Vote s; Ok = Promised s; Fast = FastVotes F owner s }

  up-rank : (u w : Status) → (u ≡ unvoted → ⊥) → (u ≡ commit_vote → ⊥) → (w ≡ commit_vote → ⊥) → rank u < rank w → Upto u w
  up-rank unvoted w cast uncommitted uncommitted' l = absurd (cast refl)
  up-rank commit_vote w cast uncommitted uncommitted' l = absurd (uncommitted refl)
  up-rank pre_added unvoted cast uncommitted uncommitted' l = absurd (omega arith)
  up-rank pre_added pre_added cast uncommitted uncommitted' l = absurd (omega arith)
  up-rank pre_added pre_received cast uncommitted uncommitted' l = absurd (omega arith)
  up-rank pre_added accept_vote cast uncommitted uncommitted' l = added-accepts
  up-rank pre_added commit_vote cast uncommitted uncommitted' l = absurd (uncommitted' refl)
  up-rank pre_received unvoted cast uncommitted uncommitted' l = absurd (omega arith)
  up-rank pre_received pre_added cast uncommitted uncommitted' l = absurd (omega arith)
  up-rank pre_received pre_received cast uncommitted uncommitted' l = absurd (omega arith)
  up-rank pre_received accept_vote cast uncommitted uncommitted' l = received-accepts
  up-rank pre_received commit_vote cast uncommitted uncommitted' l = absurd (uncommitted' refl)
  up-rank accept_vote w cast uncommitted uncommitted' l = absurd (omega (arith, rank-le w))

  up-self : (u : Status) → (u ≡ unvoted → ⊥) → (u ≡ commit_vote → ⊥) → Upto u u
  up-self unvoted cast uncommitted = absurd (cast refl)
  up-self pre_added cast uncommitted = added-stays
  up-self pre_received cast uncommitted = received-stays
  up-self accept_vote cast uncommitted = accept-stays
  up-self commit_vote cast uncommitted = absurd (uncommitted refl)

  last-vote : (r b c : ℕ) (u : Status) (v : Value) (a : Reply) → Promised s r b a → Vote s r c u v → c < b
      → (a.status ≡ unvoted → ⊥) × (c ≤ a.voted) × (c ≡ a.voted → Upto u a.status)
  last-vote r b c u v a x y l = go (I.pair r x.saved y.saved x.was y.was)
    where
      same : y.saved.voted ≡ x.saved.voted → y.saved.status ≡ x.saved.status → (a.status ≡ unvoted → ⊥) × (c ≤ a.voted) × (c ≡ a.voted → Upto u a.status)
      same p q =
          let e : u ≡ a.status = cc (y.status, x.status) in
          (λ f. y.cast (e ∙ f), omega (arith, x.voted, y.ballot, p), λ f. rw (← e) (up-self u y.cast y.uncommitted))

      go : Le x.saved y.saved ⊎ Le y.saved x.saved → (a.status ≡ unvoted → ⊥) × (c ≤ a.voted) × (c ≡ a.voted → Upto u a.status)
      go (inl (le_same a1 a2 a3 a4)) = same (sym a2) (sym a3)
      go (inl (le-new a1 a2 a3 a4 a5)) = absurd (omega (arith, x.joined, y.ballot))
      go (inl (le-com a1 a2)) = absurd (y.uncommitted (sym y.status ∙ a2))
      go (inr (le_same a1 a2 a3 a4)) = same a2 a3
      go (inr (le-new a1 a2 a3 a4 a5)) = (
        λ f. let g : x.saved.status ≡ unvoted = sym x.status ∙ f in absurd (omega (arith, (I.local r x.saved x.was).unvoted g, ap rank g)),
        omega (arith, x.voted, y.ballot, rank-le x.saved.status, rank-le y.saved.status),
        λ f. up-rank u a.status y.cast y.uncommitted (λ g. x.uncommitted (sym x.status ∙ g)) (omega (arith, x.voted, y.ballot, ap rank y.status, ap rank x.status)),
      )
      go (inr (le-com a1 a2)) = absurd (x.uncommitted a2)

  obeyed : (b : ℕ) (o : Outcome) → ((X : Rec) → Was s (lead owner b) X → X.voted ≡ b → (X.status ≡ commit_vote → ⊥) → ObeysR o X)
      → Obeys F owner (λ b v. Vote s (lead owner b) b pre_received v) (λ b v. Vote s (lead owner b) b accept_vote v) b o
  obeyed b (accept u) obeys = (
    λ w y. sym y.value ∙ (obeys y.saved y.was y.ballot (λ f. clash (cc y.status))).1,
    λ w y. clash (cc (y.status, (obeys y.saved y.was y.ballot (λ f. clash (cc y.status))).0)),
  )
  obeyed b (afresh c) obeys = (
    λ w y. rw y.value at (obeys y.saved y.was y.ballot (λ f. clash (cc y.status))),
    λ w y. rw y.value at (obeys y.saved y.was y.ballot (λ f. clash (cc y.status))),
  )

  decision : (b : ℕ) (v : Value) → 0 < b → Vote s (lead owner b) b accept_vote v ⊎ Vote s (lead owner b) b pre_received v
      → (Q : ℕ → Bool) × (rep : ℕ → Reply) × (o : Outcome)
      × (suc F ≤ cnt (suc (2 * F)) Q) × ((i : ℕ) → i < suc (2 * F) → Q i ≡ true → Promised s i b (rep i))
      × Decided F owner Q rep o × Obeys F owner (λ b v. Vote s (lead owner b) b pre_received v) (λ b v. Vote s (lead owner b) b accept_vote v) b o
  decision b v pos h = go h
    where
      by : (u : Status) → (u ≡ commit_vote → ⊥) → Vote s (lead owner b) b u v → (Q : ℕ → Bool) × (rep : ℕ → Reply) × (o : Outcome)
          × (suc F ≤ cnt (suc (2 * F)) Q) × ((i : ℕ) → i < suc (2 * F) → Q i ≡ true → Promised s i b (rep i))
          × Decided F owner Q rep o × Obeys F owner (λ b v. Vote s (lead owner b) b pre_received v) (λ b v. Vote s (lead owner b) b accept_vote v) b o
      by u n x = let (e, obeys) = I.decisions b pos x.saved x.was x.ballot (λ f. n (sym x.status ∙ f)) in
          (e.Q, e.rep, e.outcome, e.size, λ i l q. e.promises i q, e.decided, obeyed b e.outcome obeys)

      go : Vote s (lead owner b) b accept_vote v ⊎ Vote s (lead owner b) b pre_received v → (Q : ℕ → Bool) × (rep : ℕ → Reply) × (o : Outcome)
          × (suc F ≤ cnt (suc (2 * F)) Q) × ((i : ℕ) → i < suc (2 * F) → Q i ≡ true → Promised s i b (rep i))
          × Decided F owner Q rep o × Obeys F owner (λ b v. Vote s (lead owner b) b pre_received v) (λ b v. Vote s (lead owner b) b accept_vote v) b o
      go (inl x) = by accept_vote (λ f. clash (cc)) x
      go (inr x) = by pre_received (λ f. clash (cc)) x

  pub rules : Rules F owner hist
  unfolding hist
  rules = record {
    pre-one = λ b v w x y. vote-one I (lead owner b) b pre_received v w x y;
    acc-one = λ b v w x y. vote-one I (lead owner b) b accept_vote v w x y;
    vote-0 = λ r b v x. x.cast refl;
    vote-4 = λ r b v x. x.uncommitted refl;
    vote-1 = λ r b v x. let (w, y, c, n) = vote-added I r b v x in (w, y, c);
    vote-2 = λ r b v x. vote-unchanged I r b v x;
    vote-3 = λ r b v x. vote-accepted I r b v x;
    ok-vote = λ r b a x n. (record { saved = x.saved; was = x.was; ballot = sym x.voted; status = sym x.status; value = sym x.value; cast = n; uncommitted = λ e. x.uncommitted (sym x.status ∙ e) }, omega (arith, x.voted, x.below));
    ok-last = last-vote;
    decided = decision;
    fast-votes = λ v f. (f.set, f.size, f.out, f.votes);
    fast-owner = λ v b a f x. absurd (omega (arith, x.below, x.joined, (f.quiet x.saved x.was x.uncommitted).0));
    fast-acc = λ v w f x. (f.quiet x.saved (rw (lead-0 owner) at x.was) (λ e. clash (cc x.status))).1 x.status;
  }

  pub commit : (v : Value) → Reason F owner s v → Commit F owner hist rules v
  unfolding hist
  commit v (com-slow b h) = slow b (record { set = h.set; size = h.size; votes = h.votes })
  commit v (com-fast f) = quick f
