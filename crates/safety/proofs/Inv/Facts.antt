-- What the invariant says of votes, of the record that a copy has now, and of what a lead has collected. Assumes nothing.
use Prim.Native.Nat.{ℕ}
use Rattle.paper.specs.Ballot.{lead}
use Rattle.safety.proofs.Value.{Value, cmd}
use mathlib.Core.Path.{◌≡◌, refl, sym, ap, ◌∙◌}
use mathlib.Core.Logic.{◌⊎◌, inl, inr}
use native.Mathlib.Omega.{arith}
use Rattle.reach.proofs.Tests.{clash}
use Rattle.safety.proofs.Hist.{Status, unvoted, pre_added, pre_received, accept_vote, commit_vote, Reply}
use Rattle.safety.proofs.Sys.{preparing, pre_accept_phase, Rec, Sys, Was, HasPre, HasPrep}
use Rattle.safety.proofs.Older.{rank, Le, le_same, le-new, le-com}
use Rattle.safety.proofs.Inv.{Local, Vote, Promised, Backed, Collected, Blank, Inv}

module _ {F owner : ℕ} {s : Sys} (I : Inv F owner s) where
  pub vote-one : (r b : ℕ) (u : Status) (v w : Value) → Vote s r b u v → Vote s r b u w → v ≡ w
  vote-one r b u v w x y = go (I.pair r x.saved y.saved x.was y.was) x.ballot x.status x.value y.ballot y.status y.value x.uncommitted
    where
      half : {R S : Rec} {v w : Value} → Le R S → R.voted ≡ b → R.status ≡ u → R.value ≡ v → S.voted ≡ b → S.status ≡ u → S.value ≡ w → (u ≡ commit_vote → ⊥) → v ≡ w
      half (le_same a c d e) p q h p' q' h' n = cc
      half (le-new a c d e f) p q h p' q' h' n = absurd (omega (arith, ap rank (q ∙ sym q')))
      half (le-com a c) p q h p' q' h' n = absurd (n (sym q' ∙ c))

      go : {R S : Rec} {v w : Value} → Le R S ⊎ Le S R → R.voted ≡ b → R.status ≡ u → R.value ≡ v → S.voted ≡ b → S.status ≡ u → S.value ≡ w → (u ≡ commit_vote → ⊥) → v ≡ w
      go (inl l) p q h p' q' h' n = half l p q h p' q' h' n
      go (inr l) p q h p' q' h' n = sym (half l p' q' h' p q h n)

  pub vote-added : (r b : ℕ) (v : Value) → Vote s r b pre_added v → (w : Value) × Vote s (lead owner b) b pre_received w × (cmd v ≡ cmd w) × (v ≡ w → ⊥)
  vote-added r b v x = rw (x.ballot, x.value) at ((I.backed r x.saved x.was).added x.status)

  pub vote-unchanged : (r b : ℕ) (v : Value) → Vote s r b pre_received v → Vote s (lead owner b) b pre_received v
  vote-unchanged r b v x = rw (x.ballot, x.value) at ((I.backed r x.saved x.was).unchanged x.status)

  pub vote-accepted : (r b : ℕ) (v : Value) → Vote s r b accept_vote v → Vote s (lead owner b) b accept_vote v
  vote-accepted r b v x = rw (x.ballot, x.value) at ((I.backed r x.saved x.was).accepted x.status)

  -- where the lead voted for v at b as received, any pre-vote at b is for v's command
  pub near : (i b : ℕ) (w v : Value) → Vote s (lead owner b) b pre_received v → Vote s i b pre_added w ⊎ Vote s i b pre_received w → cmd w ≡ cmd v
  near i b w v own (inl x) = let (z, y, c, n) = vote-added i b w x in c ∙ ap cmd (vote-one (lead owner b) b pre_received z v y own)
  near i b w v own (inr x) = ap cmd (vote-one (lead owner b) b pre_received w v (vote-unchanged i b w x) own)

  module _ (r : ℕ) where
    pub now-in : ((s.now r).status ≡ unvoted → ⊥) → Was s r (s.now r)
    now-in n = go (I.current r)
      where
        go : Was s r (s.now r) ⊎ Blank (s.now r) → Was s r (s.now r)
        go (inl m) = m
        go (inr z) = absurd (n z.2)

    pub local-now : Local owner r (s.now r)
    local-now = go (I.current r)
      where
        go : Was s r (s.now r) ⊎ Blank (s.now r) → Local owner r (s.now r)
        go (inl m) = I.local r (s.now r) m
        go (inr q) = record { voted-joined = omega (arith, q.0, q.1); unvoted = λ e. q.1; when-preparing = λ e. clash (cc q.3); when-pre-accepting = λ e. clash (cc q.3); when-accepting = λ e. clash (cc q.3) }

    pub collected-now : Collected s (s.now r)
    collected-now = go (I.current r)
      where
        go : Was s r (s.now r) ⊎ Blank (s.now r) → Collected s (s.now r)
        go (inl m) = I.collected r (s.now r) m
        go (inr q) = record { promises = λ e. clash (cc q.3); pre-accepts = λ e. clash (cc q.3); accepts = λ e. clash (cc q.3) }

    pub backed-now : Backed owner s (s.now r)
    backed-now = record {
      added = λ e. (I.backed r (s.now r) (now-in (λ f. clash (cc)))).added e;
      unchanged = λ e. (I.backed r (s.now r) (now-in (λ f. clash (cc)))).unchanged e;
      accepted = λ e. (I.backed r (s.now r) (now-in (λ f. clash (cc)))).accepted e;
    }

    pub own_at : (b : ℕ) (u : Status) → (s.now r).voted ≡ b → (s.now r).status ≡ u → (u ≡ unvoted → ⊥) → (u ≡ commit_vote → ⊥) → Vote s r b u (s.now r).value
    own_at b u f e cast uncommitted = record { saved = s.now r; was = now-in (λ g. cast (sym e ∙ g)); ballot = f; status = e; value = refl; cast = cast; uncommitted = uncommitted }

    -- what a lead has of a pre-accepting copy is a vote; of a preparing one, a promise
    pub has-pre : (s.now r).phase ≡ pre_accept_phase → (i : ℕ) (v : Value) → HasPre s (s.now r) i v → Vote s i (s.now r).joined pre_added v ⊎ Vote s i (s.now r).joined pre_received v
    has-pre phase i v (inl g) = rw g.1 at (collected-now.pre-accepts phase i g.0)
    has-pre phase i v (inr m) = I.msgs _ m

    pub has-prep : (s.now r).phase ≡ preparing → (i : ℕ) (a : Reply) → HasPrep s (s.now r) i a → Promised s i (s.now r).joined a
    has-prep phase i a (inl g) = rw g.1 at (collected-now.promises phase i g.0)
    has-prep phase i a (inr m) = I.msgs _ m
