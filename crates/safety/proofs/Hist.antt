-- The history of one instance, and the laws that a run keeps. Assumes nothing.
use Prim.Native.Nat.{ℕ, suc, ◌*◌, ◌≤◌, ◌<◌}
use Rattle.paper.specs.declared.Command.{Command}
use Rattle.paper.specs.Command.{noop}
use Rattle.safety.proofs.Value.{Value, cmd}
use mathlib.Core.Path.{◌≡◌}
use mathlib.Core.Logic.{◌⊎◌}
use mathlib.Core.Bool.{Bool, true, false}
use Rattle.reach.proofs.Count.{cnt, both}

-- the statuses 0 to 4: pre-accepted with dependencies added, or as received
pub data Status : Type 0 where
  unvoted pre_added pre_received accept_vote commit_vote : Status

abbrev pub is_pre_received : Status → Bool
is_pre_received unvoted = false
is_pre_received pre_added = false
is_pre_received pre_received = true
is_pre_received accept_vote = false
is_pre_received commit_vote = false

-- what a vote of status s can have become within its ballot
pub data Upto : Status → Status → Type 0 where
  added-stays : Upto pre_added pre_added
  added-accepts : Upto pre_added accept_vote
  received-stays : Upto pre_received pre_received
  received-accepts : Upto pre_received accept_vote
  accept-stays : Upto accept_vote accept_vote

pub record Reply : Type 0 where
  pub voted : ℕ
  pub status : Status
  pub value : Value

pub data Outcome : Type 0 where
  accept : Value → Outcome
  afresh : Command → Outcome

module _ (F owner : ℕ) where
  -- a reply that holds a vote at m
  abbrev pub At : ℕ → Reply → Type 0
  At m r = (r.status ≡ unvoted → ⊥) × (r.voted ≡ m)

  -- m is the highest voted ballot
  pub record Top (Q : ℕ → Bool) (rep : ℕ → Reply) (m : ℕ) : Type 0 where
    pub all : (i : ℕ) → i < suc (2 * F) → Q i ≡ true → ((rep i).status ≡ unvoted → ⊥) → (rep i).voted ≤ m

  abbrev pub NoneAccepted : (ℕ → Bool) → (ℕ → Reply) → ℕ → Type 0
  NoneAccepted Q rep m = (i : ℕ) → i < suc (2 * F) → Q i ≡ true → (rep i).voted ≡ m → (rep i).status ≡ accept_vote → ⊥

  abbrev pub count_received : (ℕ → Bool) → (ℕ → Reply) → ℕ
  count_received Q rep = cnt (suc (2 * F)) (λ i. both (Q i) (is_pre_received (rep i).status))

  -- what F+1 replies decide
  pub data Decided (Q : ℕ → Bool) (rep : ℕ → Reply) : Outcome → Type 0 where
    none-voted : ((i : ℕ) → i < suc (2 * F) → Q i ≡ true → (rep i).status ≡ unvoted) → Decided Q rep (afresh noop)
    accepted : (m j : ℕ) → Top Q rep m → j < suc (2 * F) → Q j ≡ true → (rep j).voted ≡ m → (rep j).status ≡ accept_vote
        → Decided Q rep (accept (rep j).value)
    fast : (j : ℕ) → Top Q rep 0 → NoneAccepted Q rep 0 → Q owner ≡ false → F ≤ count_received Q rep
        → j < suc (2 * F) → Q j ≡ true → (rep j).voted ≡ 0 → (rep j).status ≡ pre_received → Decided Q rep (accept (rep j).value)
    anew : (m j : ℕ) → Top Q rep m → NoneAccepted Q rep m → (m ≡ 0 → Q owner ≡ false → F ≤ count_received Q rep → ⊥)
        → j < suc (2 * F) → Q j ≡ true → At m (rep j) → Decided Q rep (afresh (cmd (rep j).value))

  abbrev pub Obeys : (ℕ → Value → Type 0) → (ℕ → Value → Type 0) → ℕ → Outcome → Type 0
  Obeys Pre Acc b (accept v) = ((w : Value) → Acc b w → w ≡ v) × ((w : Value) → Pre b w → ⊥)
  Obeys Pre Acc b (afresh c) = ((w : Value) → Acc b w → cmd w ≡ c) × ((w : Value) → Pre b w → cmd w ≡ c)

  pub record Hist : Type 1 where
    pub Pre : ℕ → Value → Type 0
    pub Acc : ℕ → Value → Type 0
    pub Vote : ℕ → ℕ → Status → Value → Type 0
    pub Ok : ℕ → ℕ → Reply → Type 0
    pub Fast : Value → Type 0

  pub record Rules (H : Hist) : Type 0 where
    pub pre-one : (b : ℕ) (v w : Value) → H.Pre b v → H.Pre b w → v ≡ w
    pub acc-one : (b : ℕ) (v w : Value) → H.Acc b v → H.Acc b w → v ≡ w
    pub vote-0 : (r b : ℕ) (v : Value) → H.Vote r b unvoted v → ⊥
    pub vote-4 : (r b : ℕ) (v : Value) → H.Vote r b commit_vote v → ⊥
    pub vote-1 : (r b : ℕ) (v : Value) → H.Vote r b pre_added v → (w : Value) × H.Pre b w × (cmd v ≡ cmd w)
    pub vote-2 : (r b : ℕ) (v : Value) → H.Vote r b pre_received v → H.Pre b v
    pub vote-3 : (r b : ℕ) (v : Value) → H.Vote r b accept_vote v → H.Acc b v
    pub ok-vote : (r b : ℕ) (a : Reply) → H.Ok r b a → (a.status ≡ unvoted → ⊥) → H.Vote r a.voted a.status a.value × (a.voted < b)
    pub ok-last : (r b c : ℕ) (s : Status) (v : Value) (a : Reply) → H.Ok r b a → H.Vote r c s v → c < b
        → (a.status ≡ unvoted → ⊥) × (c ≤ a.voted) × (c ≡ a.voted → Upto s a.status)
    pub decided : (b : ℕ) (v : Value) → 0 < b → H.Acc b v ⊎ H.Pre b v
        → (Q : ℕ → Bool) × (rep : ℕ → Reply) × (o : Outcome)
        × (suc F ≤ cnt (suc (2 * F)) Q) × ((i : ℕ) → i < suc (2 * F) → Q i ≡ true → H.Ok i b (rep i))
        × Decided Q rep o × Obeys H.Pre H.Acc b o
    pub fast-votes : (v : Value) → H.Fast v → (P : ℕ → Bool) × (2 * F ≤ suc (cnt (suc (2 * F)) P)) × (P owner ≡ false)
        × ((i : ℕ) → i < suc (2 * F) → P i ≡ true → H.Vote i 0 pre_received v)
    pub fast-owner : (v : Value) (b : ℕ) (a : Reply) → H.Fast v → H.Ok owner b a → ⊥
    pub fast-acc : (v w : Value) → H.Fast v → H.Acc 0 w → ⊥

  -- F+1 accepted v at b
  pub record Slow (H : Hist) (b : ℕ) (v : Value) : Type 0 where
    pub set : ℕ → Bool
    pub size : suc F ≤ cnt (suc (2 * F)) set
    pub votes : (i : ℕ) → i < suc (2 * F) → set i ≡ true → H.Vote i b accept_vote v
