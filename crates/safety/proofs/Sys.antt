-- A model of one instance at N = 2F+1 copies: records, messages, the history of records, and the moves. Assumes nothing.
use Prim.Native.Nat.{ℕ, suc, ◌*◌, ◌≤◌, ◌<◌}
use Rattle.paper.specs.declared.Command.{Command}
use Rattle.paper.specs.Ballot.{lead}
use Rattle.safety.proofs.Value.{Value, cmd, start, Sub}
use mathlib.Core.Path.{◌≡◌, refl}
use mathlib.Core.Logic.{◌⊎◌}
use mathlib.Core.Bool.{Bool, true, false}
use mathlib.Core.List.{List, [], ◌∷◌, ◌++◌, Memᴰ}
use native.Mathlib.Decide.{ℕ_discrete}
use Rattle.reach.proofs.Count.{cnt}
use Rattle.safety.proofs.Hist.{Status, unvoted, pre_added, pre_received, accept_vote, commit_vote, Reply, accept, afresh, Decided}

-- the phases 0 to 3
pub data Phase : Type 0 where
  idle preparing pre_accept_phase accept_phase : Phase

pub record Rec : Type 0 where
  pub joined : ℕ
  pub voted : ℕ
  pub status : Status
  pub value : Value
  pub phase : Phase
  pub got : ℕ → Bool
  pub replies : ℕ → Reply

abbrev pub mk : ℕ → ℕ → Status → Value → Phase → (ℕ → Bool) → (ℕ → Reply) → Rec
mk j b s v p g a = record { joined = j; voted = b; status = s; value = v; phase = p; got = g; replies = a }

abbrev pub reply-of : Rec → Reply
reply-of R = record { voted = R.voted; status = R.status; value = R.value }

pub data Msg : Type 0 where
  m_pre_accept : ℕ → Value → Msg
  m_pre_accept_ok : ℕ → ℕ → Value → Msg
  m_accept : ℕ → Value → Msg
  m_accept_ok : ℕ → ℕ → Msg
  m_commit : Value → Msg
  m_prepare_ok : ℕ → ℕ → Reply → Msg

pub record Sys : Type 0 where
  pub now : ℕ → Rec
  pub was : List (ℕ × Rec)
  pub sent : List Msg

abbrev pub if-eq : {A : Type 0} {i r : ℕ} → Dec (i ≡ r) → A → A → A
if-eq (yes e) x y = x
if-eq (no e) x y = y

unfoldable pub upd : {A : Type 0} → (ℕ → A) → ℕ → A → ℕ → A
upd f r x i = if-eq (ℕ_discrete i r) x (f i)

pub upd-cases : {A : Type 0} (P : A → Type 0) (f : ℕ → A) (r : ℕ) (x : A) (i : ℕ) → (i ≡ r → P x) → ((i ≡ r → ⊥) → P (f i)) → P (upd f r x i)
unfolding upd
upd-cases {A} P f r x i h k = go (ℕ_discrete i r)
  where
    go : (d : Dec (i ≡ r)) → P (if-eq d x (f i))
    go (yes e) = h e
    go (no e) = k e

pub upd_same : {A : Type 0} (f : ℕ → A) (r : ℕ) (x : A) → upd f r x r ≡ x
upd_same {A} f r x = upd-cases (λ (y : A). y ≡ x) f r x r (λ e. refl) (λ n. absurd (n refl))

abbrev pub nobody : ℕ → Bool
nobody i = false

abbrev pub push : Sys → ℕ → Rec → List Msg → Sys
push s r R ms = record { now = upd s.now r R; was = (r, R) ∷ s.was; sent = ms ++ s.sent }

abbrev pub Was : Sys → ℕ → Rec → Type 0
Was s r R = Memᴰ (r, R) s.was

abbrev pub Sent : Sys → Msg → Type 0
Sent s m = Memᴰ m s.sent

abbrev pub blank_rec : Rec
blank_rec = mk 0 0 unvoted start idle nobody (λ j. record { voted = 0; status = unvoted; value = start })

abbrev pub blank_sys : Sys
blank_sys = record { now = λ i. blank_rec; was = []; sent = [] }

-- not yet voted at b
abbrev pub Fresh : Rec → ℕ → Type 0
Fresh R b = (R.status ≡ unvoted) ⊎ (R.voted < b)

-- what a copy says again from its record
pub data Says (r : ℕ) (R : Rec) : Msg → Type 0 where
  say-ok1 : R.status ≡ pre_added → Says r R (m_pre_accept_ok r R.voted R.value)
  say-ok2 : R.status ≡ pre_received → Says r R (m_pre_accept_ok r R.voted R.value)
  say-pre : R.phase ≡ pre_accept_phase → Says r R (m_pre_accept R.joined R.value)
  say-acc : R.phase ≡ accept_phase → Says r R (m_accept R.joined R.value)
  say-commit : R.status ≡ commit_vote → Says r R (m_commit R.value)

-- what a lead in a phase has of copy i at its ballot: collected, or just received
abbrev pub HasPre : Sys → Rec → ℕ → Value → Type 0
HasPre s R i v = ((R.got i ≡ true) × ((R.replies i).value ≡ v)) ⊎ Sent s (m_pre_accept_ok i R.joined v)

abbrev pub HasAcc : Sys → Rec → ℕ → Type 0
HasAcc s R i = (R.got i ≡ true) ⊎ Sent s (m_accept_ok i R.joined)

abbrev pub HasPrep : Sys → Rec → ℕ → Reply → Type 0
HasPrep s R i a = ((R.got i ≡ true) × (R.replies i ≡ a)) ⊎ Sent s (m_prepare_ok i R.joined a)

-- Req c: c was requested for this instance
module _ (F owner : ℕ) (Req : Command → Type 0) where
  pub data Trans (s : Sys) (r : ℕ) (R : Rec) : Rec → List Msg → Type 0 where
    -- told again from the record
    repeat : (m : Msg) → Says r R m → Trans s r R R (m ∷ [])
    -- the owner is asked, on a blank record
    request : (v : Value) → r ≡ owner → R.joined ≡ 0 → R.status ≡ unvoted → Req (cmd v)
        → Trans s r R (mk 0 0 pre_received v pre_accept_phase nobody R.replies) (m_pre_accept 0 v ∷ [])
    -- a PreAccept to which nothing is added, or something
    pre-same : (b : ℕ) (v : Value) → Sent s (m_pre_accept b v) → (lead owner b ≡ r → ⊥) → (R.status ≡ commit_vote → ⊥) → R.joined ≤ b → Fresh R b
        → Trans s r R (mk b b pre_received v idle nobody R.replies) (m_pre_accept_ok r b v ∷ [])
    pre-more : (b : ℕ) (v w : Value) → Sent s (m_pre_accept b v) → (lead owner b ≡ r → ⊥) → (R.status ≡ commit_vote → ⊥) → R.joined ≤ b → Fresh R b
        → cmd w ≡ cmd v → (w ≡ v → ⊥) → Trans s r R (mk b b pre_added w idle nobody R.replies) (m_pre_accept_ok r b w ∷ [])
    -- in phase 2: a reply is collected; the owner commits on 2F-1 that match; or the lead goes to accepting with what covers them all
    collect-pre : (i : ℕ) (v : Value) → Sent s (m_pre_accept_ok i R.joined v) → R.phase ≡ pre_accept_phase
        → Trans s r R (mk R.joined R.voted R.status R.value R.phase (upd R.got i true) (upd R.replies i (record { voted = R.joined; status = pre_added; value = v }))) []
    fast-commit : R.phase ≡ pre_accept_phase → R.joined ≡ 0 → r ≡ owner → (P : ℕ → Bool) → 2 * F ≤ suc (cnt (suc (2 * F)) P) → P owner ≡ false
        → ((i : ℕ) → P i ≡ true → HasPre s R i R.value)
        → Trans s r R (mk R.joined R.voted commit_vote R.value idle nobody R.replies) (m_commit R.value ∷ [])
    to-accept : (w : Value) → R.phase ≡ pre_accept_phase → cmd w ≡ cmd R.value
        → (Q : ℕ → Bool) → suc F ≤ cnt (suc (2 * F)) Q
        → ((i : ℕ) → Q i ≡ true → ((i ≡ r) × Sub R.value w) ⊎ ((v : Value) × HasPre s R i v × Sub v w))
        → Trans s r R (mk R.joined R.joined accept_vote w accept_phase nobody R.replies) (m_accept R.joined w ∷ [])
    -- an Accept, its replies, the commit on F of them
    acc : (b : ℕ) (v : Value) → Sent s (m_accept b v) → (lead owner b ≡ r → ⊥) → (R.status ≡ commit_vote → ⊥) → R.joined ≤ b
        → Trans s r R (mk b b accept_vote v idle nobody R.replies) (m_accept_ok r b ∷ [])
    collect-acc : (i : ℕ) → Sent s (m_accept_ok i R.joined) → R.phase ≡ accept_phase
        → Trans s r R (mk R.joined R.voted R.status R.value R.phase (upd R.got i true) R.replies) []
    slow-commit : R.phase ≡ accept_phase → (Q : ℕ → Bool) → suc F ≤ cnt (suc (2 * F)) Q → ((i : ℕ) → Q i ≡ true → (i ≡ r) ⊎ HasAcc s R i)
        → Trans s r R (mk R.joined R.voted commit_vote R.value idle nobody R.replies) (m_commit R.value ∷ [])
    -- a Commit received
    learn : (v : Value) → Sent s (m_commit v) → (R.status ≡ commit_vote → ⊥)
        → Trans s r R (mk R.joined R.voted commit_vote v idle nobody R.replies) []
    -- a higher ballot joined, silently or with a promise; one's own taken up
    join : (b : ℕ) → R.joined ≤ b → (R.status ≡ commit_vote → ⊥)
        → Trans s r R (mk b R.voted R.status R.value idle nobody R.replies) []
    promise : (b : ℕ) → R.joined ≤ b → R.voted < b → (R.status ≡ commit_vote → ⊥)
        → Trans s r R (mk b R.voted R.status R.value idle nobody R.replies) (m_prepare_ok r b (reply-of R) ∷ [])
    recover : (b : ℕ) → R.joined < b → lead owner b ≡ r → (R.status ≡ commit_vote → ⊥)
        → Trans s r R (mk b R.voted R.status R.value preparing (upd nobody r true) (upd R.replies r (reply-of R))) []
    -- in phase 1: a promise is collected; on F+1 the lead decides
    collect-prep : (i : ℕ) (a : Reply) → Sent s (m_prepare_ok i R.joined a) → R.phase ≡ preparing
        → Trans s r R (mk R.joined R.voted R.status R.value R.phase (upd R.got i true) (upd R.replies i a)) []
    decide-accept : (v : Value) → R.phase ≡ preparing → (Q : ℕ → Bool) (rep : ℕ → Reply) → suc F ≤ cnt (suc (2 * F)) Q
        → ((i : ℕ) → Q i ≡ true → HasPrep s R i (rep i)) → Decided F owner Q rep (accept v)
        → Trans s r R (mk R.joined R.joined accept_vote v accept_phase nobody R.replies) (m_accept R.joined v ∷ [])
    decide-afresh : (c : Command) (v : Value) → R.phase ≡ preparing → (Q : ℕ → Bool) (rep : ℕ → Reply) → suc F ≤ cnt (suc (2 * F)) Q
        → ((i : ℕ) → Q i ≡ true → HasPrep s R i (rep i)) → Decided F owner Q rep (afresh c) → cmd v ≡ c
        → Trans s r R (mk R.joined R.joined pre_received v pre_accept_phase nobody R.replies) (m_pre_accept R.joined v ∷ [])

  pub data Reach : Sys → Type 0 where
    init : Reach blank_sys
    step : {s : Sys} (r : ℕ) (R : Rec) (ms : List Msg) → Reach s → r < suc (2 * F) → Trans s r (s.now r) R ms → Reach (push s r R ms)
