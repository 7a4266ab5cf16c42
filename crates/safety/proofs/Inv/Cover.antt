-- Behind every accepted value F+1 copies pre-accepted its command, and it covers what they cover. Assumes nothing.
use Prim.Native.Nat.{ℕ, zero, suc, ◌+◌, ◌*◌, ◌≤◌, ◌<◌}
use Rattle.paper.specs.declared.Command.{Command}
use Rattle.paper.specs.Ballot.{lead}
use Rattle.safety.proofs.Value.{Value, cmd, Sub, sub_refl, lead-0}
use mathlib.Core.Path.{◌≡◌, refl, sym, ◌∙◌}
use mathlib.Core.Logic.{◌⊎◌, inl, inr}
use mathlib.Core.Bool.{Bool, true, false}
use mathlib.Core.List.Memᴰ
use mathlib.Core.List.{List}
use native.Mathlib.Omega.{arith}
use native.Mathlib.Decide.{ℕ_discrete}
use Rattle.reach.proofs.Count.{cnt, one-if, both, both_true, member}
use Rattle.safety.proofs.Hist.{Status, unvoted, pre_added, pre_received, accept_vote, commit_vote, is_pre_received, Reply, Outcome, accept, Top, count_received, Decided, none-voted, accepted, fast, anew}
use Rattle.safety.proofs.Agree.{cmd-votes}
use Rattle.safety.proofs.Sys.{preparing, pre_accept_phase, Rec, Msg, m_accept, Sys, upd, upd-cases, push, Was, HasPre, HasPrep, Trans, repeat, request, pre-same, pre-more, collect-pre, fast-commit, to-accept, acc, collect-acc, slow-commit, learn, join, promise, recover, collect-prep, decide-accept, decide-afresh, Reach, init, step}
use Rattle.safety.proofs.Inv.{Local, Vote, Promised, Reason, com-slow, com-fast, Inv}
use Rattle.safety.proofs.Inv.Keep.{up-vote, which}
use Rattle.safety.proofs.Inv.Facts.{vote-one, vote-added, vote-unchanged, near, now-in, local-now, own_at, has-pre, has-prep}
use Rattle.safety.proofs.Inv.Good.{holds}
use Rattle.safety.proofs.Inv.Laws.{hist, rules}
use Rattle.reach.proofs.Tests.{clash}

-- adding a member
cnt-other : (n : ℕ) (p : ℕ → Bool) (o : ℕ) → n ≤ o → cnt n (upd p o true) ≡ cnt n p
unfolding cnt
cnt-other zero p o l = refl
cnt-other (suc n) p o l = rw (cnt-other n p o (omega arith)) (upd-cases (λ (y : Bool). one-if y + cnt n p ≡ one-if (p n) + cnt n p) p o true n (λ e. absurd (omega arith)) (λ k. refl))

pub cnt-add : (n : ℕ) (p : ℕ → Bool) (o : ℕ) → o < n → p o ≡ false → cnt n (upd p o true) ≡ suc (cnt n p)
unfolding cnt
cnt-add zero p o l e = absurd (omega arith)
cnt-add (suc n) p o l e = upd-cases (λ (y : Bool). one-if y + cnt n (upd p o true) ≡ suc (one-if (p n) + cnt n p)) p o true n
    (λ k. let f : p n ≡ false = rw k e in rw (f, cnt-other n p o (omega arith)) (omega arith))
    (λ k. rw (cnt-add n p o (omega arith) e) (omega arith))

module _ (F : ℕ) where
  -- F+1 copies pre-accepted at b, for v's command, and v covers what they cover
  pub record PreQuorum (s : Sys) (v : Value) (top : ℕ) : Type 0 where
    pub b : ℕ
    pub low : b ≤ top
    pub set : ℕ → Bool
    pub size : suc F ≤ cnt (suc (2 * F)) set
    pub votes : (i : ℕ) → i < suc (2 * F) → set i ≡ true
        → (u : Status) × (w : Value) × Vote s i b u w × ((u ≡ pre_added) ⊎ (u ≡ pre_received)) × (cmd w ≡ cmd v) × Sub w v

  quorum-up : (s t : Sys) → ((r : ℕ) (R : Rec) → Was s r R → Was t r R) → (v : Value) (m k : ℕ) → m ≤ k → PreQuorum s v m → PreQuorum t v k
  quorum-up s t ext v m k l h = record {
    b = h.b;
    low = omega (arith, h.low);
    set = h.set;
    size = h.size;
    votes = λ i li q. let (u, w, x, a, c, d) = h.votes i li q in (u, w, up-vote ext i h.b u w x, a, c, d);
  }

  abbrev pub AllPreQuorums : Sys → Type 0
  AllPreQuorums s = (r : ℕ) (R : Rec) → Was s r R → R.status ≡ accept_vote → PreQuorum s R.value R.voted

module _ {F owner : ℕ} (inside : owner < suc (2 * F)) {s : Sys} (I : Inv F owner s) (A : AllPreQuorums F s) (r : ℕ) where
  quorum-of-vote : (i b : ℕ) (v : Value) → Vote s i b accept_vote v → PreQuorum F s v b
  quorum-of-vote i b v x = rw (x.ballot, x.value) at (A i x.saved x.was x.status)

  quorum-now : (s.now r).status ≡ accept_vote → PreQuorum F s (s.now r).value (s.now r).voted
  quorum-now e = A r (s.now r) (now-in I r (λ f. clash (cc))) e

  -- a set of copies that voted for v at 0 as received, with the owner
  with-owner : (v : Value) (P : ℕ → Bool) → F ≤ cnt (suc (2 * F)) P → P owner ≡ false → Vote s (lead owner 0) 0 pre_received v
      → ((i : ℕ) → i < suc (2 * F) → P i ≡ true → Vote s i 0 pre_received v) → PreQuorum F s v 0
  with-owner v P enough out own vs = record {
    b = 0;
    low = omega arith;
    set = upd P owner true;
    size = rw (cnt-add (suc (2 * F)) P owner inside out) (omega arith);
    votes = λ i li q. (pre_received, v, go i li (ℕ_discrete i owner) q, inr refl, refl, sub_refl v);
  }
    where
      go : (i : ℕ) → i < suc (2 * F) → Dec (i ≡ owner) → upd P owner true i ≡ true → Vote s i 0 pre_received v
      go i li (yes e) q = rw (e ∙ sym (lead-0 owner)) own
      go i li (no n) q = vs i li (upd-cases (λ (y : Bool). y ≡ true → P i ≡ true) P owner true i (λ e. absurd (n e)) (λ k h. h) q)

  is2-true : (u : Status) → is_pre_received u ≡ true → u ≡ pre_received
  is2-true unvoted e = clash (cc)
  is2-true pre_added e = clash (cc)
  is2-true pre_received e = refl
  is2-true accept_vote e = clash (cc)
  is2-true commit_vote e = clash (cc)

  -- the fast case of recovery: the owner and the F that had nothing to add
  quorum-fast : (b : ℕ) (Q : ℕ → Bool) (rep : ℕ → Reply) → ((i : ℕ) → Q i ≡ true → Promised s i b (rep i))
      → Top F owner Q rep 0 → Q owner ≡ false → F ≤ count_received F owner Q rep
      → (j : ℕ) → j < suc (2 * F) → Q j ≡ true → (rep j).status ≡ pre_received → PreQuorum F s (rep j).value 0
  quorum-fast b Q rep ok top no-owner twos-enough j lj qj status-is = with-owner (rep j).value (λ i. both (Q i) (is_pre_received (rep i).status)) twos-enough (rw no-owner refl) (back j lj qj status-is) vs
    where
      two : (i : ℕ) → i < suc (2 * F) → Q i ≡ true → (rep i).status ≡ pre_received → Vote s i 0 pre_received (rep i).value
      two i li qi si =
          let x = ok i qi in
          let l : (rep i).voted ≤ 0 = top.all i li qi (λ e. clash (cc)) in
          record { saved = x.saved; was = x.was; ballot = omega (arith, x.voted); status = sym x.status ∙ si; value = sym x.value; cast = λ e. clash (cc); uncommitted = λ e. clash (cc) }

      back : (i : ℕ) → i < suc (2 * F) → Q i ≡ true → (rep i).status ≡ pre_received → Vote s (lead owner 0) 0 pre_received (rep i).value
      back i li qi si = vote-unchanged I i 0 (rep i).value (two i li qi si)

      vs : (i : ℕ) → i < suc (2 * F) → both (Q i) (is_pre_received (rep i).status) ≡ true → Vote s i 0 pre_received (rep j).value
      vs i li q =
          let (qi, ti) = both_true (Q i) (is_pre_received (rep i).status) q in
          let si : (rep i).status ≡ pre_received = is2-true (rep i).status ti in
          let e : (rep i).value ≡ (rep j).value = vote-one I (lead owner 0) 0 pre_received (rep i).value (rep j).value (back i li qi si) (back j lj qj status-is) in
          rw e at (two i li qi si)

  quorum-decided : (v : Value) → (s.now r).phase ≡ preparing → (Q : ℕ → Bool) (rep : ℕ → Reply) → ((i : ℕ) → Q i ≡ true → HasPrep s (s.now r) i (rep i))
      → {o : Outcome} → Decided F owner Q rep o → o ≡ accept v → PreQuorum F s v (s.now r).joined
  quorum-decided v phase Q rep has (none-voted f) e = clash (cc)
  quorum-decided v phase Q rep has (accepted m j top lj qj voted-at status-is) e =
      let x = has-prep I r phase j (rep j) (has j qj) in
      let y : Vote s j (rep j).voted accept_vote (rep j).value
      = record { saved = x.saved; was = x.was; ballot = sym x.voted; status = sym x.status ∙ status-is; value = sym x.value; cast = λ e. clash (cc); uncommitted = λ e. clash (cc) } in
      let f : (rep j).value ≡ v = cc in
      rw f at (quorum-up F s s (λ i X w. w) (rep j).value (rep j).voted (s.now r).joined (omega (arith, x.voted, x.below)) (quorum-of-vote j (rep j).voted (rep j).value y))
  quorum-decided v phase Q rep has (fast j top no-accept no-owner twos-enough lj qj voted-at status-is) e =
      let f : (rep j).value ≡ v = cc in
      rw f at (quorum-up F s s (λ i X w. w) (rep j).value 0 (s.now r).joined (omega arith)
      (quorum-fast (s.now r).joined Q rep (λ i q. has-prep I r phase i (rep i) (has i q)) top no-owner twos-enough j lj qj status-is))
  quorum-decided v phase Q rep has (anew m j top no-accept not-fast lj qj at) e = clash (cc)

  quorum-joined : (w : Value) → (s.now r).phase ≡ pre_accept_phase → cmd w ≡ cmd (s.now r).value → (Q : ℕ → Bool) → suc F ≤ cnt (suc (2 * F)) Q
      → ((i : ℕ) → Q i ≡ true → ((i ≡ r) × Sub (s.now r).value w) ⊎ ((v : Value) × HasPre s (s.now r) i v × Sub v w))
      → PreQuorum F s w (s.now r).joined
  quorum-joined w phase same-cmd Q enough covers-them = record { b = (s.now r).joined; low = omega arith; set = Q; size = enough; votes = λ i li q. go i (covers-them i q) }
    where
      lo : Local owner r (s.now r)
      lo = local-now I r

      own : Vote s r (s.now r).joined pre_received (s.now r).value
      own = own_at I r (s.now r).joined pre_received (lo.when-pre-accepting phase).1 (lo.when-pre-accepting phase).2 (λ f. clash (cc)) (λ f. clash (cc))

      led : Vote s (lead owner (s.now r).joined) (s.now r).joined pre_received (s.now r).value
      led = rw (lo.when-pre-accepting phase).0 own

      by : (i : ℕ) (v : Value) → Sub v w → Vote s i (s.now r).joined pre_added v ⊎ Vote s i (s.now r).joined pre_received v
          → (u : Status) × (z : Value) × Vote s i (s.now r).joined u z × ((u ≡ pre_added) ⊎ (u ≡ pre_received)) × (cmd z ≡ cmd w) × Sub z w
      by i v sb (inl x) = (pre_added, v, x, inl refl, near I i (s.now r).joined _ _ led (inl x) ∙ sym same-cmd, sb)
      by i v sb (inr x) = (pre_received, v, x, inr refl, near I i (s.now r).joined _ _ led (inr x) ∙ sym same-cmd, sb)

      go : (i : ℕ) → ((i ≡ r) × Sub (s.now r).value w) ⊎ ((v : Value) × HasPre s (s.now r) i v × Sub v w)
          → (u : Status) × (z : Value) × Vote s i (s.now r).joined u z × ((u ≡ pre_added) ⊎ (u ≡ pre_received)) × (cmd z ≡ cmd w) × Sub z w
      go i (inl p) = (pre_received, (s.now r).value, rw p.0 own, inr refl, sym same-cmd, p.1)
      go i (inr p) = by i p.0 p.2 (has-pre I r phase i p.0 p.1)

  quorum-new : {Req : Command → Type 0} {R : Rec} {ms : List Msg} → Trans F owner Req s r (s.now r) R ms → R.status ≡ accept_vote → PreQuorum F s R.value R.voted
  quorum-new (repeat m h) e = quorum-now e
  quorum-new (request v a b c d) e = clash (cc)
  quorum-new (pre-same b v sent not-lead uncommitted l fresh) e = clash (cc)
  quorum-new (pre-more b v w sent not-lead uncommitted l fresh same-cmd differs) e = clash (cc)
  quorum-new (collect-pre i v sent phase) e = quorum-now e
  quorum-new (fast-commit phase at_zero is-owner P enough out got) e = clash (cc)
  quorum-new (to-accept w phase same-cmd Q enough covers-them) e = quorum-joined w phase same-cmd Q enough covers-them
  quorum-new (acc b v sent not-lead uncommitted l) e = quorum-of-vote (lead owner b) b v (I.msgs (m_accept b v) sent)
  quorum-new (collect-acc i sent phase) e = quorum-now e
  quorum-new (slow-commit phase Q enough q) e = clash (cc)
  quorum-new (learn v sent uncommitted) e = clash (cc)
  quorum-new (join b l uncommitted) e = quorum-now e
  quorum-new (promise b l voted-below uncommitted) e = quorum-now e
  quorum-new (recover b l le uncommitted) e = quorum-now e
  quorum-new (collect-prep i a sent phase) e = quorum-now e
  quorum-new (decide-accept v phase Q rep enough has d) e = quorum-decided v phase Q rep has d refl
  quorum-new (decide-afresh c v phase Q rep enough has d same-cmd) e = clash (cc)

  pub quorum-committed : (v : Value) → 0 < F → Reason F owner s v → (m : ℕ) × PreQuorum F s v m
  quorum-committed v pos (com-slow b h) = let (i, li, q) = member (suc (2 * F)) h.set (omega (arith, h.size)) in (b, quorum-of-vote i b v (h.votes i li q))
  quorum-committed v pos (com-fast h) =
      let (i, li, q) = member (suc (2 * F)) h.set (omega (arith, h.size)) in
      (0, with-owner v h.set (omega (arith, h.size)) h.out (vote-unchanged I i 0 v (h.votes i li q)) h.votes)

pub all-pre-quorums : {F owner : ℕ} {Req : Command → Type 0} → owner < suc (2 * F) → {s : Sys} → Reach F owner Req s → AllPreQuorums F s
all-pre-quorums inside init r R w e = absurd (Memᴰ.not-nil w)
all-pre-quorums {F} inside (step {s = s} r R ms h l t) i X w e = go (λ j Y k f. all-pre-quorums inside h j Y k f) (which s r R ms i X w)
  where
    go : AllPreQuorums F s → ((i ≡ r) × (X ≡ R)) ⊎ Was s i X → PreQuorum F (push s r R ms) X.value X.voted
    go A (inl p) = quorum-up F s _ (λ j Y m. Memᴰ.tail m) X.value X.voted X.voted (omega arith)
        (rw p.1 (quorum-new inside (holds h) A r t (rw p.1 at e)))
    go A (inr m) = quorum-up F s _ (λ j Y k. Memᴰ.tail k) X.value X.voted X.voted (omega arith) (A i X m e)

-- every vote at or after the ballot of a pre-accept quorum is for its command
pub quorum-command : {F owner : ℕ} → owner < suc (2 * F) → {s : Sys} → Inv F owner s → AllPreQuorums F s → (v : Value) (m : ℕ) (h : PreQuorum F s v m) → (j c : ℕ) (u : Status) (w : Value) → Vote s j c u w → h.b ≤ c → cmd w ≡ cmd v
unfolding hist
quorum-command {F} {owner} inside {s} I A v m h j c u w x l =
    cmd-votes F owner (hist I) (rules I) accept-zero
    h.b (cmd v) h.set h.size (λ i li q. let (u, w, y, a, e, d) = h.votes i li q in (u, w, y, e)) j c u w x l
  where
    accept-zero : (v : Value) → Vote s (lead owner 0) 0 accept_vote v → (w : Value) × Vote s (lead owner 0) 0 pre_received w × (cmd v ≡ cmd w)
    accept-zero v x =
        let q : PreQuorum F s v 0 = quorum-of-vote inside I A (lead owner 0) (lead owner 0) 0 v x in
        let (i, li, m) = member (suc (2 * F)) q.set (omega (arith, q.size)) in
        let (u, w, y, a, e, d) = q.votes i li m in
        let z : q.b ≡ 0 = omega (arith, q.low) in
        pick i u w (rw z at y) a e
      where
        pick : (i : ℕ) (u : Status) (w : Value) → Vote s i 0 u w → (u ≡ pre_added) ⊎ (u ≡ pre_received) → cmd w ≡ cmd v → (z : Value) × Vote s (lead owner 0) 0 pre_received z × (cmd v ≡ cmd z)
        pick i u w y (inl f) e = let (z, t, c, n) = vote-added I i 0 w (rw f at y) in (z, t, sym e ∙ c)
        pick i u w y (inr f) e = (w, vote-unchanged I i 0 w (rw f at y), sym e)
