-- What a move must show, and that then the invariant is kept. Assumes nothing.
use Prim.Native.Nat.{ℕ, ◌<◌}
use Rattle.paper.specs.Ballot.{lead}
use Rattle.safety.proofs.Value.{Value}
use mathlib.Core.Path.{◌≡◌, sym, ap, ◌∙◌}
use mathlib.Core.Logic.{◌⊎◌, inl, inr}
use mathlib.Core.List.Memᴰ
use mathlib.Core.List.{List, Memᴰ}
use native.Mathlib.Omega.{arith}
use Rattle.safety.proofs.Hist.{Status, pre_added, pre_received, accept_vote, commit_vote, Reply, Outcome, accept, afresh}
use Rattle.safety.proofs.Sys.{Rec, Msg, m_pre_accept, m_pre_accept_ok, m_accept, m_accept_ok, m_commit, m_prepare_ok, Sys, upd-cases, push, Was, Sent}
use Rattle.safety.proofs.Older.{Le, le_refl, le_trans, le-voted, le_four}
use Rattle.safety.proofs.Inv.{Local, Vote, Promised, Backed, SlowVotes, FastVotes, Reason, com-slow, com-fast, Vouched, Collected, ObeysR, Decision, Blank, Inv}

-- a longer history shows all that a shorter one shows
module _ {s t : Sys} (ext : (r : ℕ) (R : Rec) → Was s r R → Was t r R) where
  pub up-vote : (r b : ℕ) (u : Status) (v : Value) → Vote s r b u v → Vote t r b u v
  up-vote r b u v h = record { saved = h.saved; was = ext r h.saved h.was; ballot = h.ballot; status = h.status; value = h.value; cast = h.cast; uncommitted = h.uncommitted }

  pub up_ok : (r b : ℕ) (a : Reply) → Promised s r b a → Promised t r b a
  up_ok r b a h = record { saved = h.saved; was = ext r h.saved h.was; joined = h.joined; uncommitted = h.uncommitted; below = h.below; voted = h.voted; status = h.status; value = h.value }

  pub up-back : {owner : ℕ} (R : Rec) → Backed owner s R → Backed owner t R
  up-back R h = record {
    added = λ e. let (w, a, c, d) = h.added e in (w, up-vote _ _ _ _ a, c, d);
    unchanged = λ e. up-vote _ _ _ _ (h.unchanged e);
    accepted = λ e. up-vote _ _ _ _ (h.accepted e);
  }

  pub up-two : (i b : ℕ) (v : Value) → Vote s i b pre_added v ⊎ Vote s i b pre_received v → Vote t i b pre_added v ⊎ Vote t i b pre_received v
  up-two i b v (inl x) = inl (up-vote _ _ _ _ x)
  up-two i b v (inr x) = inr (up-vote _ _ _ _ x)

  pub up-coll : (R : Rec) → Collected s R → Collected t R
  up-coll R h = record {
    promises = λ e i g. up_ok _ _ _ (h.promises e i g);
    pre-accepts = λ e i g. up-two _ _ _ (h.pre-accepts e i g);
    accepts = λ e i g. let (v, x) = h.accepts e i g in (v, up-vote _ _ _ _ x);
  }

  pub up-dec : {F owner : ℕ} (b : ℕ) → Decision F owner s b → Decision F owner t b
  up-dec b h = record { Q = h.Q; rep = h.rep; outcome = h.outcome; size = h.size; promises = λ i q. up_ok _ _ _ (h.promises i q); decided = h.decided }

  pub up-slow : {F owner : ℕ} (b : ℕ) (v : Value) → SlowVotes F owner s b v → SlowVotes F owner t b v
  up-slow b v h = record { set = h.set; size = h.size; votes = λ i l m. up-vote _ _ _ _ (h.votes i l m) }

module _ (F owner : ℕ) where
  -- what a move must show of the new record and the new messages
  pub record Good (s : Sys) (r : ℕ) (R : Rec) (ms : List Msg) : Type 0 where
    pub older : Le (s.now r) R
    pub local : Local owner r R
    pub backed : Backed owner (push s r R ms) R
    pub collected : Collected (push s r R ms) R
    pub reason : R.status ≡ commit_vote → Reason F owner (push s r R ms) R.value
    pub vouched : (m : Msg) → Memᴰ m ms → Vouched F owner (push s r R ms) m
    pub obeys : (b : ℕ) → 0 < b → lead owner b ≡ r → R.voted ≡ b → (R.status ≡ commit_vote → ⊥)
        → (((s.now r).voted ≡ b) × ((s.now r).status ≡ commit_vote → ⊥) × ((o : Outcome) → ObeysR o (s.now r) → ObeysR o R))
        ⊎ (((s.now r).voted < b) × ((s.now r).status ≡ commit_vote → ⊥) × (e : Decision F owner (push s r R ms) b) × ObeysR e.outcome R)

pub obey-same : (X Y : Rec) (o : Outcome) → X.status ≡ Y.status → X.value ≡ Y.value → ObeysR o X → ObeysR o Y
obey-same X Y (accept v) e f h = (sym e ∙ h.0, sym f ∙ h.1)
obey-same X Y (afresh c) e f h = rw f at h

module _ (s : Sys) (r : ℕ) (R : Rec) (ms : List Msg) where
  abbrev t : Sys
  t = push s r R ms

  old : (i : ℕ) (X : Rec) → Was s i X → Was t i X
  old i X h = Memᴰ.tail h

  -- a record of the new history is old, or the new one
  pub which : (i : ℕ) (X : Rec) → Was t i X → ((i ≡ r) × (X ≡ R)) ⊎ Was s i X
  which i X h = go (Memᴰ.cases_cons h)
    where
      go : (◌≡◌ {A = ℕ × Rec} (i, X) (r, R)) ⊎ Was s i X → ((i ≡ r) × (X ≡ R)) ⊎ Was s i X
      go (inl e) = inl (ap (λ (p : ℕ × Rec). p.0) e, ap (λ (p : ℕ × Rec). p.1) e)
      go (inr m) = inr m

  module _ {F owner : ℕ} (older : Le (s.now r) R) where
    up-fast : (v : Value) → FastVotes F owner s v → FastVotes F owner t v
    up-fast v h = record {
      set = h.set;
      size = h.size;
      out = h.out;
      votes = λ i l m. up-vote old _ _ _ _ (h.votes i l m);
      done = upd-cases (λ (y : Rec). y.status ≡ commit_vote) s.now r R owner (λ e. le_four older (rw (← e) h.done)) (λ n. h.done);
      quiet = λ X w. go X (which owner X w);
    }
      where
        go : (X : Rec) → ((owner ≡ r) × (X ≡ R)) ⊎ Was s owner X → (X.status ≡ commit_vote → ⊥) → (X.joined ≡ 0) × (X.status ≡ accept_vote → ⊥)
        go X (inl p) n = absurd (n (rw p.1 (le_four older (rw (← p.0) h.done))))
        go X (inr m) n = h.quiet X m n

    pub up-com : (v : Value) → Reason F owner s v → Reason F owner t v
    up-com v (com-slow b h) = com-slow b (up-slow old b v h)
    up-com v (com-fast h) = com-fast (up-fast v h)

  module _ {F owner : ℕ} (I : Inv F owner s) (G : Good F owner s r R ms) where
    new-le : (X : Rec) → Was s r X → Le X R
    new-le X h = le_trans (I.chain r X h) G.older

    t-chain : (i : ℕ) (X : Rec) → Was t i X → Le X (t.now i)
    t-chain i X h = upd-cases (λ (y : Rec). Le X y) s.now r R i (λ e. same e (which i X h)) (λ n. other n (which i X h))
      where
        same : i ≡ r → ((i ≡ r) × (X ≡ R)) ⊎ Was s i X → Le X R
        same e (inl p) = rw p.1 (le_refl R)
        same e (inr m) = new-le X (rw e at m)

        other : (i ≡ r → ⊥) → ((i ≡ r) × (X ≡ R)) ⊎ Was s i X → Le X (s.now i)
        other n (inl p) = absurd (n p.0)
        other n (inr m) = I.chain i X m

    t-pair : (i : ℕ) (X Y : Rec) → Was t i X → Was t i Y → Le X Y ⊎ Le Y X
    t-pair i X Y h k = go (which i X h) (which i Y k)
      where
        go : ((i ≡ r) × (X ≡ R)) ⊎ Was s i X → ((i ≡ r) × (Y ≡ R)) ⊎ Was s i Y → Le X Y ⊎ Le Y X
        go (inl p) (inl q) = inl (rw (p.1, q.1) (le_refl R))
        go (inl p) (inr m) = inr (rw p.1 (new-le Y (rw p.0 at m)))
        go (inr m) (inl q) = inl (rw q.1 (new-le X (rw q.0 at m)))
        go (inr m) (inr n) = I.pair i X Y m n

    t-cur : (i : ℕ) → Was t i (t.now i) ⊎ Blank (t.now i)
    t-cur i = upd-cases (λ (y : Rec). Was t i y ⊎ Blank y) s.now r R i (λ e. inl (Memᴰ.head (ap (λ (x : ℕ). (x, R)) e))) (λ n. go (I.current i))
      where
        go : Was s i (s.now i) ⊎ Blank (s.now i) → Was t i (s.now i) ⊎ Blank (s.now i)
        go (inl m) = inl (old i _ m)
        go (inr b) = inr b

    -- a property of all records
    all : (P : ℕ → Rec → Type 0) → P r R → ((i : ℕ) (X : Rec) → Was s i X → P i X) → (i : ℕ) (X : Rec) → Was t i X → P i X
    all P new olds i X h = go (which i X h)
      where
        go : ((i ≡ r) × (X ≡ R)) ⊎ Was s i X → P i X
        go (inl p) = rw (p.0, p.1) new
        go (inr m) = olds i X m

    up-msg : (m : Msg) → Vouched F owner s m → Vouched F owner t m
    up-msg (m_pre_accept b v) h = up-vote old _ _ _ _ h
    up-msg (m_pre_accept_ok i b v) h = up-two old _ _ _ h
    up-msg (m_accept b v) h = up-vote old _ _ _ _ h
    up-msg (m_accept_ok i b) h = let (v, x) = h in (v, up-vote old _ _ _ _ x)
    up-msg (m_commit v) h = up-com G.older v h
    up-msg (m_prepare_ok i b a) h = up_ok old _ _ _ h

    t-msgs : (m : Msg) → Sent t m → Vouched F owner t m
    t-msgs m h = go (Memᴰ.append_cases ms h)
      where
        go : Memᴰ m ms ⊎ Sent s m → Vouched F owner t m
        go (inl k) = G.vouched m k
        go (inr k) = up-msg m (I.msgs m k)

    abbrev AllObey : (b : ℕ) → Decision F owner t b → Type 0
    AllObey b e = (X : Rec) → Was t (lead owner b) X → X.voted ≡ b → (X.status ≡ commit_vote → ⊥) → ObeysR e.outcome X

    cur-in : (b : ℕ) → 0 < b → (s.now r).voted ≡ b → Was s r (s.now r) ⊎ Blank (s.now r) → Was s r (s.now r)
    cur-in b pos e (inl m) = m
    cur-in b pos e (inr z) = absurd (omega (arith, z.1))

    -- an old decision still holds
    t-old-dec : (b : ℕ) → 0 < b → (Y : Rec) → Was s (lead owner b) Y → Y.voted ≡ b → (Y.status ≡ commit_vote → ⊥) → (e : Decision F owner t b) × AllObey b e
    unfolding up-dec
    t-old-dec b pos Y w voted-at uncommitted =
        let (e, obeys) = I.decisions b pos Y w voted-at uncommitted in
        (up-dec old b e, λ X wx ex nx. go e obeys X (which (lead owner b) X wx) ex nx)
      where
        go : (e : Decision F owner s b) → ((X : Rec) → Was s (lead owner b) X → X.voted ≡ b → (X.status ≡ commit_vote → ⊥) → ObeysR e.outcome X)
            → (X : Rec) → ((lead owner b ≡ r) × (X ≡ R)) ⊎ Was s (lead owner b) X → X.voted ≡ b → (X.status ≡ commit_vote → ⊥) → ObeysR e.outcome X
        go e obeys X (inr m) ex nx = obeys X m ex nx
        go e obeys X (inl p) ex nx = rw p.1 (by (G.obeys b pos p.0 (rw p.1 at ex) (rw p.1 at nx)))
          where
            wr : Was s r Y
            wr = rw p.0 at w

            by : (((s.now r).voted ≡ b) × ((s.now r).status ≡ commit_vote → ⊥) × ((o : Outcome) → ObeysR o (s.now r) → ObeysR o R))
                ⊎ (((s.now r).voted < b) × ((s.now r).status ≡ commit_vote → ⊥) × (e : Decision F owner (push s r R ms) b) × ObeysR e.outcome R) → ObeysR e.outcome R
            by (inl q) = q.2 e.outcome (obeys (s.now r) (rw p.0 (cur-in b pos q.0 (I.current r))) q.0 q.1)
            by (inr q) = let l = le-voted (I.chain r Y wr) q.1 in absurd (omega (arith, voted-at, q.0))

    t-decs : (b : ℕ) → 0 < b → (X : Rec) → Was t (lead owner b) X → X.voted ≡ b → (X.status ≡ commit_vote → ⊥) → (e : Decision F owner t b) × AllObey b e
    t-decs b pos X w voted-at uncommitted = go (which (lead owner b) X w)
      where
        by : (lead owner b ≡ r) → (((s.now r).voted ≡ b) × ((s.now r).status ≡ commit_vote → ⊥) × ((o : Outcome) → ObeysR o (s.now r) → ObeysR o R))
            ⊎ (((s.now r).voted < b) × ((s.now r).status ≡ commit_vote → ⊥) × (e : Decision F owner (push s r R ms) b) × ObeysR e.outcome R) → (e : Decision F owner t b) × AllObey b e
        by l (inl q) = t-old-dec b pos (s.now r) (rw l (cur-in b pos q.0 (I.current r))) q.0 q.1
        by l (inr q) = (q.2, λ Y wy ey ny. new Y (which (lead owner b) Y wy) ey)
          where
            new : (Y : Rec) → ((lead owner b ≡ r) × (Y ≡ R)) ⊎ Was s (lead owner b) Y → Y.voted ≡ b → ObeysR q.2.outcome Y
            new Y (inl p) ey = rw p.1 q.3
            new Y (inr m) ey = let k = le-voted (I.chain r Y (rw l at m)) q.1 in absurd (omega (arith, ey, q.0))

        go : ((lead owner b ≡ r) × (X ≡ R)) ⊎ Was s (lead owner b) X → (e : Decision F owner t b) × AllObey b e
        go (inl p) = by p.0 (G.obeys b pos p.0 (rw p.1 at voted-at) (rw p.1 at uncommitted))
        go (inr m) = t-old-dec b pos X m voted-at uncommitted

    pub keep : Inv F owner (push s r R ms)
    keep = record {
      chain = t-chain;
      pair = t-pair;
      current = t-cur;
      local = all (λ i X. Local owner i X) G.local I.local;
      backed = all (λ i X. Backed owner t X) G.backed (λ i X h. up-back old X (I.backed i X h));
      collected = all (λ i X. Collected t X) G.collected (λ i X h. up-coll old X (I.collected i X h));
      reasons = all (λ i X. X.status ≡ commit_vote → Reason F owner t X.value) G.reason (λ i X h e. up-com G.older _ (I.reasons i X h e));
      msgs = t-msgs;
      decisions = t-decs;
    }
