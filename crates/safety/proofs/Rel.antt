-- What a saved record and a sent message are in the ghost model of their instance. Assumes nothing.
pub mod Decide
pub mod Prepared
pub mod Collect
pub mod Leads
pub mod Votes
use Prim.Native.Nat.{ℕ, zero, suc, ◌*◌, ◌^◌, ◌≤◌, ◌<◌}
use mathlib.Core.Path.{◌≡◌, refl, sym, ap, ◌∙◌}
use mathlib.Core.Bool.{Bool, true, false}
use mathlib.Core.List.Memᴰ
use mathlib.Core.List.{List, [], ◌∷◌}
use native.Mathlib.Omega.{arith}
use lib.Dec.{T}
use lib.ListN.{get_or, length}
use Rattle.paper.specs.Vote.{no_vote, member}
use Rattle.paper.specs.declared.Command.{Command}
use Rattle.paper.specs.declared.Vote.{Vote}
use Rattle.paper.specs.declared.Record.{Record}
use Rattle.paper.specs.declared.Message.{Message}
use Rattle.paper.specs.declared.Body.{Body}
use Rattle.paper.specs.declared.Body.TheVariants.{PreAccept, PreAcceptOk, Accept, AcceptOk, Commit, Prepare, PrepareOk, Nack}
use Rattle.rules.specs.declared.Step.{Step}
use Rattle.rules.specs.Step.{is_committed, no_replies, begun, say, silent, sending, commit_back, nack_back}
use Rattle.reach.proofs.Tests.{tf, eqb-eq, eqb-ne}
use Rattle.safety.proofs.Sets.{member-none}
use Rattle.safety.proofs.Value.{Value}
use Rattle.safety.proofs.Hist.{Status, unvoted, pre_added, pre_received, accept_vote, commit_vote, Reply}
use Rattle.safety.proofs.Inv.{Inv}
use Rattle.safety.proofs.Sys.{Phase, idle, preparing, pre_accept_phase, accept_phase, Rec, Msg, m_pre_accept, m_pre_accept_ok, m_accept, m_accept_ok, m_commit, m_prepare_ok, Sys, nobody, push, Sent, say-commit, Trans, repeat}

abbrev pub status_number : Status → ℕ
status_number unvoted = 0
status_number pre_added = 1
status_number pre_received = 2
status_number accept_vote = 3
status_number commit_vote = 4

abbrev pub phase_number : Phase → ℕ
phase_number idle = 0
phase_number preparing = 1
phase_number pre_accept_phase = 2
phase_number accept_phase = 3

-- a status and a phase are told by their numbers
status_of : ℕ → Status
status_of zero = unvoted
status_of (suc zero) = pre_added
status_of (suc (suc zero)) = pre_received
status_of (suc (suc (suc zero))) = accept_vote
status_of (suc (suc (suc (suc n)))) = commit_vote

status-of-number : (u : Status) → status_of (status_number u) ≡ u
unfolding status_of
status-of-number unvoted = refl
status-of-number pre_added = refl
status-of-number pre_received = refl
status-of-number accept_vote = refl
status-of-number commit_vote = refl

pub status-eq : (u v : Status) → status_number u ≡ status_number v → u ≡ v
status-eq u v e = sym (status-of-number u) ∙ ap status_of e ∙ status-of-number v

phase_of : ℕ → Phase
phase_of zero = idle
phase_of (suc zero) = preparing
phase_of (suc (suc zero)) = pre_accept_phase
phase_of (suc (suc (suc n))) = accept_phase

phase-of-number : (p : Phase) → phase_of (phase_number p) ≡ p
unfolding phase_of
phase-of-number idle = refl
phase-of-number preparing = refl
phase-of-number pre_accept_phase = refl
phase-of-number accept_phase = refl

pub phase-eq : (p q : Phase) → phase_number p ≡ phase_number q → p ≡ q
phase-eq p q e = sym (phase-of-number p) ∙ ap phase_of e ∙ phase-of-number q

pub is-accphase : (p : Phase) → (phase_number p ≡ 0 → ⊥) → (phase_number p ≡ 1 → ⊥) → (phase_number p ≡ 2 → ⊥) → p ≡ accept_phase
is-accphase idle a b c = absurd (a refl)
is-accphase preparing a b c = absurd (b refl)
is-accphase pre_accept_phase a b c = absurd (c refl)
is-accphase accept_phase a b c = refl

abbrev pub val : Command → List ℕ → Value
val k d = record { command = k; deps = d }

abbrev pub value_of : Vote → Value
value_of v = val v.command v.deps

-- a told vote
pub record Tells (v : Vote) (a : Reply) : Type 0 where
  pub voted : a.voted ≡ v.voted
  pub status : status_number a.status ≡ v.status
  pub value : a.value ≡ value_of v

module _ (F : ℕ) where
  -- r is what copy c has saved, A the same in the model
  pub record Rel (c : ℕ) (r : Record) (A : Rec) : Type 0 where
    pub joined : A.joined ≡ r.joined
    pub voted : A.voted ≡ r.vote.voted
    pub status : status_number A.status ≡ r.vote.status
    pub value : A.value ≡ value_of r.vote
    pub len : length r.vote.deps ≡ 7
    pub phase : phase_number A.phase ≡ r.phase
    pub small : r.set < 128
    pub bound : (i : ℕ) → i < 7 → member i r.set ≡ true → i < suc (2 * F)
    pub got : (i : ℕ) → i < 7 → A.got i ≡ member i r.set
    pub size : length r.replies ≡ 7
    pub lens : (i : ℕ) → length (get_or r.replies i no_vote).deps ≡ 7
    pub told : A.phase ≡ preparing → (i : ℕ) → i < 7 → member i r.set ≡ true → Tells (get_or r.replies i no_vote) (A.replies i)
    pub added : A.phase ≡ pre_accept_phase → (i : ℕ) → i < 7 → member i r.set ≡ true → (A.replies i).value.deps ≡ (get_or r.replies i no_vote).deps
    pub self : (A.phase ≡ preparing → ⊥) → member c r.set ≡ false

pub no-replies : (i : ℕ) → get_or no_replies i no_vote ≡ no_vote
no-replies zero = refl
no-replies (suc zero) = refl
no-replies (suc (suc zero)) = refl
no-replies (suc (suc (suc zero))) = refl
no-replies (suc (suc (suc (suc zero)))) = refl
no-replies (suc (suc (suc (suc (suc zero))))) = refl
no-replies (suc (suc (suc (suc (suc (suc zero)))))) = refl
no-replies (suc (suc (suc (suc (suc (suc (suc i))))))) = refl

-- a record with nothing collected
pub rel-begun : (F c : ℕ) → c < 7 → (b : ℕ) (v : Vote) (k p : ℕ) (A : Rec) → A.joined ≡ b → A.voted ≡ v.voted → status_number A.status ≡ v.status → A.value ≡ value_of v
    → length v.deps ≡ 7 → phase_number A.phase ≡ p → (A.phase ≡ preparing → ⊥) → A.got ≡ nobody → Rel F c (begun b v k p) A
rel-begun F c lc b v k p A joined_is voted-is status-is value-is l phase-is not-preparing none-got = record {
  joined = joined_is;
  voted = voted-is;
  status = status-is;
  value = value-is;
  len = l;
  phase = phase-is;
  small = omega arith;
  bound = λ i li m. tf (member i 0) m (member-none i li);
  got = λ i li. ap (λ (g : ℕ → Bool). g i) none-got ∙ sym (member-none i li);
  size = refl;
  lens = λ i. rw (no-replies i) refl;
  told = λ e. absurd (not-preparing e);
  added = λ e i li m. tf (member i 0) m (member-none i li);
  self = λ n. member-none c lc;
}

-- what a message tells the model: nothing; one of its messages; one with a value; one whose command, or status, is not told
pub data Saying : Type 0 where
  nothing : Saying
  plain : Msg → Saying
  valued : Msg → Saying
  some_command : (Command → Msg) → Saying
  some_status : ℕ → (Status → Msg) → Saying

-- d: the dependencies beside it
abbrev pub Told : Sys → List ℕ → Saying → Type 0
Told S d nothing = T true
Told S d (plain y) = Sent S y
Told S d (valued y) = (length d ≡ 7) × Sent S y
Told S d (some_command f) = (length d ≡ 7) × ((k : Command) × Sent S (f k))
Told S d (some_status t f) = (length d ≡ 7) × ((u : Status) × (status_number u ≡ t) × Sent S (f u))

abbrev pub saying : ℕ → ℕ → List ℕ → Body → Saying
saying q b d (PreAccept k) = valued (m_pre_accept b (val k d))
saying q b d PreAcceptOk = some_command (λ k. m_pre_accept_ok q b (val k d))
saying q b d (Accept k) = valued (m_accept b (val k d))
saying q b d AcceptOk = plain (m_accept_ok q b)
saying q b d (Commit k) = valued (m_commit (val k d))
saying q b d Prepare = nothing
saying q b d (PrepareOk v t k) = some_status t (λ u. m_prepare_ok q b (record { voted = v; status = u; value = val k d }))
saying q b d (Nack x) = nothing

abbrev pub Means : Sys → Message → Body → Type 0
Means S m b = Told S m.deps (saying m.from m.ballot m.deps b)

-- a message of o.j, or one that tells nothing
pub data Out (S : Sys) (o j : ℕ) (m : Message) : Type 0 where
  quiet : ((X : Sys) → Means X m m.body) → Out S o j m
  spoken : m.owner ≡ o → m.number ≡ j → Means S m m.body → Out S o j m

-- how the vote changed: not at all, to an accept, to a commit, or to a pre-accept that counts all that is seen
pub data Kind (Cov : Value → Type 0) (A R : Rec) : Type 0 where
  kept : R.voted ≡ A.voted → R.status ≡ A.status → R.value ≡ A.value → Kind Cov A R
  takes : R.status ≡ accept_vote → Kind Cov A R
  commits : R.status ≡ commit_vote → Kind Cov A R
  counts : Cov R.value → Kind Cov A R

-- a step of copy c at o.j is nothing in the model, or one move of it
pub data Refined (F o j : ℕ) (Req : Command → Type 0) (Cov : Value → Type 0) (c : ℕ) (S : Sys) (r : Record) (x : Step) : Type 0 where
  same : x.entry ≡ r → Out S o j x.message → Refined F o j Req Cov c S r x
  moved : (R : Rec) (ms : List Msg) → Trans F o Req S c (S.now c) R ms → Rel F c x.entry R → x.entry.mark ≡ r.mark → Kind Cov (S.now c) R
      → Out (push S c R ms) o j x.message → Refined F o j Req Cov c S r x

pub open-st : {F c : ℕ} {r : Record} {A : Rec} → Rel F c r A → is_committed r ≡ false → A.status ≡ commit_vote → ⊥
open-st {r = r} rel e f = eqb-ne r.vote.status 4 e (sym rel.status ∙ ap status_number f)

pub closed-st : {F c : ℕ} {r : Record} {A : Rec} → Rel F c r A → is_committed r ≡ true → A.status ≡ commit_vote
closed-st {r = r} rel e = status-eq _ commit_vote (rel.status ∙ eqb-eq r.vote.status 4 e)

-- where an event happens: copy c of N = 2F+1, its record r of o.j, and the instance's model S.
-- Req: what was requested there; Cov v: v counts all that c has seen.
pub record Spot : Type 1 where
  pub F : ℕ
  pub o : ℕ
  pub j : ℕ
  pub c : ℕ
  pub Req : Command → Type 0
  pub Cov : Value → Type 0
  pub fit : F ≤ 3
  pub pos : 0 < F
  pub lo : o < suc (2 * F)
  pub lc : c < suc (2 * F)
  pub S : Sys
  pub I : Inv F o S
  pub r : Record
  pub rel : Rel F c r (S.now c)

-- a step taken there is nothing in the model, or one move of it
abbrev pub Ref : Spot → Step → Type 0
Ref p x = Refined p.F p.o p.j p.Req p.Cov p.c p.S p.r x

module _ (p : Spot) where
  open p use {F, o, j, c, fit, lc, S, r, rel}

  pub seven : c < 7
  seven = omega arith

  pub still : Ref p (silent r)
  still = same refl (quiet (λ X. tt))

  pub refuse : (m : Message) → Ref p (nack_back c o j r m)
  unfolding nack_back
  refuse m = same refl (quiet (λ X. tt))

  -- a copy that has committed says so
  pub tell-commit : is_committed r ≡ true → (to : ℕ) → Ref p (sending r to (say c o j r.joined (Commit r.vote.command) r.vote.deps))
  tell-commit e to = moved (S.now c) (m_commit (S.now c).value ∷ []) (repeat (m_commit (S.now c).value) (say-commit (closed-st rel e))) rel refl (kept refl refl refl)
      (spoken refl refl (rel.len, Memᴰ.head (ap m_commit (sym rel.value))))

  pub commit-back : is_committed r ≡ true → (q : ℕ) → Ref p (commit_back c o j r q)
  unfolding commit_back
  commit-back e q = tell-commit e (2 ^ q)
