-- A command that is voted for was requested, or is the no-op. Assumes nothing.
use Prim.Native.Nat.{ℕ, suc, ◌*◌, ◌<◌}
use Rattle.paper.specs.declared.Command.{Command}
use Rattle.paper.specs.Command.{noop}
use Rattle.paper.specs.Ballot.{lead}
use Rattle.safety.proofs.Value.{Value, cmd}
use mathlib.Core.Path.{◌≡◌, refl, sym, ap, ◌∙◌}
use mathlib.Core.Logic.{◌⊎◌, inl, inr}
use mathlib.Core.Bool.{Bool, true}
use mathlib.Core.List.Memᴰ
use mathlib.Core.List.{List}
use native.Mathlib.Omega.{arith}
use Rattle.reach.proofs.Count.{member}
use Rattle.safety.proofs.Hist.{Status, unvoted, pre_received, accept_vote, Reply, Outcome, accept, afresh, Decided, none-voted, accepted, fast, anew}
use Rattle.safety.proofs.Sys.{preparing, Rec, Msg, m_pre_accept, m_accept, m_commit, Sys, Was, HasPrep, Trans, repeat, request, pre-same, pre-more, collect-pre, fast-commit, to-accept, acc, collect-acc, slow-commit, learn, join, promise, recover, collect-prep, decide-accept, decide-afresh, Reach, init, step}
use Rattle.safety.proofs.Inv.{Vote, Promised, Reason, com-slow, com-fast, Inv}
use Rattle.safety.proofs.Inv.Keep.{which}
use Rattle.safety.proofs.Inv.Facts.{now-in, local-now, has-prep}
use Rattle.safety.proofs.Inv.Good.{holds}
use Rattle.reach.proofs.Tests.{clash}

-- a command that is voted for or committed was put in by the owner's request, or is the no-op
module _ (F owner : ℕ) (Req : Command → Type 0) (pos : 0 < F) where
  abbrev pub Asked : Command → Type 0
  Asked x = (x ≡ noop) ⊎ Req x

  abbrev pub Valid : Sys → Type 0
  Valid s = (r : ℕ) (R : Rec) → Was s r R → (R.status ≡ unvoted → ⊥) → Asked (cmd R.value)

  module _ (s : Sys) (I : Inv F owner s) (A : Valid s) (r : ℕ) where
    of-vote : (i b : ℕ) (u : Status) (v : Value) → Vote s i b u v → Asked (cmd v)
    of-vote i b u v x = (rw x.value at (A i x.saved x.was (λ e. x.cast (sym x.status ∙ e))))

    of-com : (v : Value) → Reason F owner s v → Asked (cmd v)
    of-com v (com-slow b h) = let (i, li, q) = member (suc (2 * F)) h.set (omega (arith, h.size)) in of-vote i b accept_vote v (h.votes i li q)
    of-com v (com-fast h) = let (i, li, q) = member (suc (2 * F)) h.set (omega (arith, h.size)) in of-vote i 0 pre_received v (h.votes i li q)

    now-ok : ((s.now r).status ≡ unvoted → ⊥) → Asked (cmd (s.now r).value)
    now-ok n = (A r (s.now r) (now-in I r n) n)

    of-ok : (i b : ℕ) (a : Reply) → Promised s i b a → (a.status ≡ unvoted → ⊥) → Asked (cmd a.value)
    of-ok i b a x n = (rw (← x.value) at (A i x.saved x.was (λ e. n (x.status ∙ e))))

    of-dec : (s.now r).phase ≡ preparing → (Q : ℕ → Bool) (rep : ℕ → Reply) → ((i : ℕ) → Q i ≡ true → HasPrep s (s.now r) i (rep i))
        → {o : Outcome} → Decided F owner Q rep o → (x : Command) → ((v : Value) → o ≡ accept v → x ≡ cmd v) → ((c : Command) → o ≡ afresh c → x ≡ c) → Asked x
    of-dec phase Q rep has d x ha hf = go d ha hf
      where
        told : (j : ℕ) → Q j ≡ true → ((rep j).status ≡ unvoted → ⊥) → Asked (cmd (rep j).value)
        told j q n = of-ok j (s.now r).joined (rep j) (has-prep I r phase j (rep j) (has j q)) n

        go : {o : Outcome} → Decided F owner Q rep o → ((v : Value) → o ≡ accept v → x ≡ cmd v) → ((c : Command) → o ≡ afresh c → x ≡ c) → Asked x
        go (none-voted f) ha hf = inl (hf noop refl)
        go (accepted m j top lj qj voted-at status-is) ha hf = rw (ha _ refl) (told j qj (λ e. clash (cc)))
        go (fast j top no-accept no-owner twos-enough lj qj voted-at status-is) ha hf = rw (ha _ refl) (told j qj (λ e. clash (cc)))
        go (anew m j top no-accept not-fast lj qj at) ha hf = rw (hf _ refl) (told j qj at.0)

  new_ok : (s : Sys) → (I : Inv F owner s) → Valid s → (r : ℕ) {R : Rec} {ms : List Msg}
      → Trans F owner Req s r (s.now r) R ms → (R.status ≡ unvoted → ⊥) → Asked (cmd R.value)
  new_ok s I A r (repeat m h) n = (now-ok s I A r n)
  new_ok s I A r (request v a b c d) n = inr d
  new_ok s I A r (pre-same b v sent not-lead uncommitted l fresh) n = (of-vote s I A r (lead owner b) b pre_received v (I.msgs (m_pre_accept b v) sent))
  new_ok s I A r (pre-more b v w sent not-lead uncommitted l fresh same-cmd differs) n = (rw same-cmd (of-vote s I A r (lead owner b) b pre_received v (I.msgs (m_pre_accept b v) sent)))
  new_ok s I A r (collect-pre i v sent phase) n = (now-ok s I A r n)
  new_ok s I A r (fast-commit phase at_zero is-owner P enough out got) n = (now-ok s I A r (λ e. clash (cc ((local-now I r).when-pre-accepting phase).2)))
  new_ok s I A r (to-accept w phase same-cmd Q enough covers-them) n = (rw same-cmd (now-ok s I A r (λ e. clash (cc ((local-now I r).when-pre-accepting phase).2))))
  new_ok s I A r (acc b v sent not-lead uncommitted l) n = (of-vote s I A r (lead owner b) b accept_vote v (I.msgs (m_accept b v) sent))
  new_ok s I A r (collect-acc i sent phase) n = (now-ok s I A r n)
  new_ok s I A r (slow-commit phase Q enough q) n = (now-ok s I A r (λ e. clash (cc ((local-now I r).when-accepting phase).2)))
  new_ok s I A r (learn v sent uncommitted) n = (of-com s I A r v (I.msgs (m_commit v) sent))
  new_ok s I A r (join b l uncommitted) n = (now-ok s I A r n)
  new_ok s I A r (promise b l voted-below uncommitted) n = (now-ok s I A r n)
  new_ok s I A r (recover b l le uncommitted) n = (now-ok s I A r n)
  new_ok s I A r (collect-prep i a sent phase) n = (now-ok s I A r n)
  new_ok s I A r (decide-accept v phase Q rep enough has d) n = (of-dec s I A r phase Q rep has d (cmd v) (λ w e. let f : v ≡ w = cc in ap cmd f) (λ c e. clash (cc)))
  new_ok s I A r (decide-afresh c v phase Q rep enough has d same-cmd) n = (of-dec s I A r phase Q rep has d (cmd v) (λ w e. clash (cc)) (λ x e. cc))

  pub all_valid : {s : Sys} → Reach F owner Req s → Valid s
  all_valid init r R w n = absurd (Memᴰ.not-nil w)
  all_valid (step {s = s} r R ms h l t) i X w n = go (λ j Y k m. all_valid h j Y k m) (which s r R ms i X w)
    where
      go : Valid s → ((i ≡ r) × (X ≡ R)) ⊎ Was s i X → Asked (cmd X.value)
      go A (inl p) = rw p.1 (new_ok s (holds h) A r t (rw p.1 at n))
      go A (inr m) = A i X m n
