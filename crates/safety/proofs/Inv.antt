-- The invariant of one instance's model. Assumes nothing.
pub mod Keep
pub mod Facts
pub mod Good
pub mod Laws
pub mod Cover
pub mod Valid
pub mod Multi
pub mod HandOut
use Prim.Native.Nat.{ℕ, suc, ◌*◌, ◌≤◌, ◌<◌}
use Rattle.paper.specs.Ballot.{lead}
use Rattle.safety.proofs.Value.{Value, cmd}
use mathlib.Core.Path.{◌≡◌}
use mathlib.Core.Logic.{◌⊎◌}
use mathlib.Core.Bool.{Bool, true, false}
use Rattle.reach.proofs.Count.{cnt}
use Rattle.safety.proofs.Hist.{Status, unvoted, pre_added, pre_received, accept_vote, commit_vote, Reply, Outcome, accept, afresh, Decided}
use Rattle.safety.proofs.Sys.{idle, preparing, pre_accept_phase, accept_phase, Rec, Msg, m_pre_accept, m_pre_accept_ok, m_accept, m_accept_ok, m_commit, m_prepare_ok, Sys, Was, Sent}
use Rattle.safety.proofs.Older.{Le}

-- copy r voted at b, in status t, for v: some record that it saved says so
pub record Vote (s : Sys) (r b : ℕ) (t : Status) (v : Value) : Type 0 where
  pub saved : Rec
  pub was : Was s r saved
  pub ballot : saved.voted ≡ b
  pub status : saved.status ≡ t
  pub value : saved.value ≡ v
  pub cast : t ≡ unvoted → ⊥
  pub uncommitted : t ≡ commit_vote → ⊥

-- copy r promised b, and told a: its vote when it had joined b
pub record Promised (s : Sys) (r b : ℕ) (a : Reply) : Type 0 where
  pub saved : Rec
  pub was : Was s r saved
  pub joined : saved.joined ≡ b
  pub uncommitted : saved.status ≡ commit_vote → ⊥
  pub below : saved.voted < b
  pub voted : a.voted ≡ saved.voted
  pub status : a.status ≡ saved.status
  pub value : a.value ≡ saved.value

-- what a lead has collected are votes and promises
pub record Collected (s : Sys) (R : Rec) : Type 0 where
  pub promises : R.phase ≡ preparing → (i : ℕ) → R.got i ≡ true → Promised s i R.joined (R.replies i)
  pub pre-accepts : R.phase ≡ pre_accept_phase → (i : ℕ) → R.got i ≡ true → Vote s i R.joined pre_added (R.replies i).value ⊎ Vote s i R.joined pre_received (R.replies i).value
  pub accepts : R.phase ≡ accept_phase → (i : ℕ) → R.got i ≡ true → (v : Value) × Vote s i R.joined accept_vote v

-- a lead's vote that obeys what was decided
abbrev pub ObeysR : Outcome → Rec → Type 0
ObeysR (accept v) R = (R.status ≡ accept_vote) × (R.value ≡ v)
ObeysR (afresh c) R = cmd R.value ≡ c

-- nothing was saved yet
abbrev pub Blank : Rec → Type 0
Blank R = (R.joined ≡ 0) × (R.voted ≡ 0) × (R.status ≡ unvoted) × (R.phase ≡ idle)

module _ (owner : ℕ) where
  -- what holds of any record of copy r by itself
  pub record Local (r : ℕ) (R : Rec) : Type 0 where
    pub voted-joined : R.voted ≤ R.joined
    pub unvoted : R.status ≡ unvoted → R.voted ≡ 0
    pub when-preparing : R.phase ≡ preparing → (lead owner R.joined ≡ r) × (R.voted < R.joined) × (R.status ≡ commit_vote → ⊥)
    pub when-pre-accepting : R.phase ≡ pre_accept_phase → (lead owner R.joined ≡ r) × (R.voted ≡ R.joined) × (R.status ≡ pre_received)
    pub when-accepting : R.phase ≡ accept_phase → (lead owner R.joined ≡ r) × (R.voted ≡ R.joined) × (R.status ≡ accept_vote)

  -- a vote has its lead's vote behind it: of the same value, or where dependencies were added, of the same command
  pub record Backed (s : Sys) (R : Rec) : Type 0 where
    pub added : R.status ≡ pre_added → (w : Value) × Vote s (lead owner R.voted) R.voted pre_received w × (cmd R.value ≡ cmd w) × (R.value ≡ w → ⊥)
    pub unchanged : R.status ≡ pre_received → Vote s (lead owner R.voted) R.voted pre_received R.value
    pub accepted : R.status ≡ accept_vote → Vote s (lead owner R.voted) R.voted accept_vote R.value

module _ (F owner : ℕ) where
  -- F+1 accepted v at b
  pub record SlowVotes (s : Sys) (b : ℕ) (v : Value) : Type 0 where
    pub set : ℕ → Bool
    pub size : suc F ≤ cnt (suc (2 * F)) set
    pub votes : (i : ℕ) → i < suc (2 * F) → set i ≡ true → Vote s i b accept_vote v

  -- 2F-1 pre-accepted v at ballot 0 as the owner sent it; the owner has committed, and before that joined no other ballot and accepted nothing
  pub record FastVotes (s : Sys) (v : Value) : Type 0 where
    pub set : ℕ → Bool
    pub size : 2 * F ≤ suc (cnt (suc (2 * F)) set)
    pub out : set owner ≡ false
    pub votes : (i : ℕ) → i < suc (2 * F) → set i ≡ true → Vote s i 0 pre_received v
    pub done : (s.now owner).status ≡ commit_vote
    pub quiet : (R : Rec) → Was s owner R → (R.status ≡ commit_vote → ⊥) → (R.joined ≡ 0) × (R.status ≡ accept_vote → ⊥)

  -- why v is committed
  pub data Reason (s : Sys) (v : Value) : Type 0 where
    com-slow : (b : ℕ) → SlowVotes s b v → Reason s v
    com-fast : FastVotes s v → Reason s v

  -- what a sent message vouches for
  abbrev pub Vouched : Sys → Msg → Type 0
  Vouched s (m_pre_accept b v) = Vote s (lead owner b) b pre_received v
  Vouched s (m_pre_accept_ok i b v) = Vote s i b pre_added v ⊎ Vote s i b pre_received v
  Vouched s (m_accept b v) = Vote s (lead owner b) b accept_vote v
  Vouched s (m_accept_ok i b) = (v : Value) × Vote s i b accept_vote v
  Vouched s (m_commit v) = Reason s v
  Vouched s (m_prepare_ok i b a) = Promised s i b a

  -- F+1 promises and what they decide
  pub record Decision (s : Sys) (b : ℕ) : Type 0 where
    pub Q : ℕ → Bool
    pub rep : ℕ → Reply
    pub outcome : Outcome
    pub size : suc F ≤ cnt (suc (2 * F)) Q
    pub promises : (i : ℕ) → Q i ≡ true → Promised s i b (rep i)
    pub decided : Decided F owner Q rep outcome

  pub record Inv (s : Sys) : Type 0 where
    -- all that a copy ever saved may have become what it has now, and any two are comparable
    pub chain : (r : ℕ) (R : Rec) → Was s r R → Le R (s.now r)
    pub pair : (r : ℕ) (R S : Rec) → Was s r R → Was s r S → Le R S ⊎ Le S R
    -- what it has now was saved, or is blank
    pub current : (r : ℕ) → Was s r (s.now r) ⊎ Blank (s.now r)
    pub local : (r : ℕ) (R : Rec) → Was s r R → Local owner r R
    pub backed : (r : ℕ) (R : Rec) → Was s r R → Backed owner s R
    pub collected : (r : ℕ) (R : Rec) → Was s r R → Collected s R
    -- whatever is committed has a reason
    pub reasons : (r : ℕ) (R : Rec) → Was s r R → R.status ≡ commit_vote → Reason s R.value
    pub msgs : (m : Msg) → Sent s m → Vouched s m
    -- a lead's votes above ballot 0 obey what F+1 promises decided
    pub decisions : (b : ℕ) → 0 < b → (R : Rec) → Was s (lead owner b) R → R.voted ≡ b → (R.status ≡ commit_vote → ⊥)
        → (e : Decision s b) × ((X : Rec) → Was s (lead owner b) X → X.voted ≡ b → (X.status ≡ commit_vote → ⊥) → ObeysR e.outcome X)
