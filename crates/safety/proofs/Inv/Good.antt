-- Every move of the model keeps the invariant. Assumes nothing.
use Prim.Native.Nat.{ℕ, suc, ◌+◌, ◌*◌, ◌≤◌, ◌<◌}
use Rattle.paper.specs.declared.Command.{Command}
use Rattle.paper.specs.Ballot.{lead}
use Rattle.safety.proofs.Value.{Value, cmd, lead-0}
use mathlib.Core.Path.{◌≡◌, refl, sym, ap, subst, ◌∙◌}
use mathlib.Core.Logic.{◌⊎◌, inl, inr}
use mathlib.Core.Bool.{Bool, true, false}
use mathlib.Core.List.Memᴰ
use mathlib.Core.List.{List, [], ◌∷◌, Memᴰ}
use native.Mathlib.Omega.{arith}
use Rattle.reach.proofs.Tests.{clash}
use native.Mathlib.Decide.{ℕ_discrete}
use native.Mathlib.Nat.{eq-or-lt_of_le}
use Rattle.reach.proofs.Count.{cnt}
use Rattle.safety.proofs.Hist.{Status, unvoted, pre_added, pre_received, accept_vote, commit_vote, Reply, Outcome, accept, afresh}
use Rattle.safety.proofs.Sys.{Phase, idle, preparing, pre_accept_phase, accept_phase, Rec, mk, reply-of, Msg, m_pre_accept, m_pre_accept_ok, m_accept, m_accept_ok, m_commit, m_prepare_ok, Sys, if-eq, upd, upd_same, nobody, push, Was, Fresh, Says, say-ok1, say-ok2, say-pre, say-acc, say-commit, HasPre, HasAcc, Trans, repeat, request, pre-same, pre-more, collect-pre, fast-commit, to-accept, acc, collect-acc, slow-commit, learn, join, promise, recover, collect-prep, decide-accept, decide-afresh, Reach, init, step}
use Rattle.safety.proofs.Older.{rank, rank-le, Le, le_same, le-new, le-com, le_refl}
use Rattle.safety.proofs.Inv.{Local, Vote, Promised, Backed, SlowVotes, FastVotes, Reason, com-slow, com-fast, Vouched, Collected, ObeysR, Decision, Inv}
use Rattle.safety.proofs.Inv.Keep.{up-vote, up_ok, up-back, up-two, up-coll, Good, obey-same, which, up-com, keep}
use Rattle.safety.proofs.Inv.Facts.{vote-one, vote-added, vote-accepted, now-in, local-now, collected-now, backed-now, own_at, has-pre, has-prep}

module _ {F owner : ℕ} {s : Sys} (I : Inv F owner s) (r : ℕ) where
  module _ (R : Rec) (ms : List Msg) where
    grow : (i : ℕ) (X : Rec) → Was s i X → Was (push s r R ms) i X
    grow i X h = Memᴰ.tail h

    new-vote : (u : Status) → R.status ≡ u → (u ≡ unvoted → ⊥) → (u ≡ commit_vote → ⊥) → Vote (push s r R ms) r R.voted u R.value
    new-vote u e cast uncommitted = record { saved = R; was = Memᴰ.head refl; ballot = refl; status = e; value = refl; cast = cast; uncommitted = uncommitted }

    new-at : (b : ℕ) (u : Status) → R.voted ≡ b → R.status ≡ u → (u ≡ unvoted → ⊥) → (u ≡ commit_vote → ⊥) → Vote (push s r R ms) r b u R.value
    new-at b u f e cast uncommitted = record { saved = R; was = Memᴰ.head refl; ballot = f; status = e; value = refl; cast = cast; uncommitted = uncommitted }

    vote-up : (i b : ℕ) (u : Status) (v : Value) → Vote s i b u v → Vote (push s r R ms) i b u v
    vote-up = up-vote grow

  -- the vote stays
  good-same : (j : ℕ) (p : Phase) (g : ℕ → Bool) (a : ℕ → Reply) (ms : List Msg)
      → (s.now r).joined ≤ j
      → Local owner r (mk j (s.now r).voted (s.now r).status (s.now r).value p g a)
      → Collected (push s r (mk j (s.now r).voted (s.now r).status (s.now r).value p g a) ms) (mk j (s.now r).voted (s.now r).status (s.now r).value p g a)
      → ((m : Msg) → Memᴰ m ms → Vouched F owner (push s r (mk j (s.now r).voted (s.now r).status (s.now r).value p g a) ms) m)
      → Good F owner s r (mk j (s.now r).voted (s.now r).status (s.now r).value p g a) ms
  good-same j p g a ms le lo collected vouched = record {
    older = le_same le refl refl refl;
    local = lo;
    backed = record { added = backed.added; unchanged = backed.unchanged; accepted = backed.accepted };
    collected = collected;
    reason = λ e. up-com s r (mk j (s.now r).voted (s.now r).status (s.now r).value p g a) ms (le_same le refl refl refl) _ (I.reasons r (s.now r) (now-in I r (λ f. clash (cc))) e);
    vouched = vouched;
    obeys = λ b pos l e n. inl (e, n, λ o h. obey-same (s.now r) (mk j (s.now r).voted (s.now r).status (s.now r).value p g a) o refl refl h);
  }
    where
      backed : Backed owner (push s r (mk j (s.now r).voted (s.now r).status (s.now r).value p g a) ms) (s.now r)
      backed = up-back (grow _ ms) (s.now r) (backed-now I r)

  -- a commit
  good-com : (v : Value) (ms : List Msg) → ((s.now r).status ≡ commit_vote → ⊥)
      → Reason F owner (push s r (mk (s.now r).joined (s.now r).voted commit_vote v idle nobody (s.now r).replies) ms) v
      → ((m : Msg) → Memᴰ m ms → m ≡ m_commit v)
      → Good F owner s r (mk (s.now r).joined (s.now r).voted commit_vote v idle nobody (s.now r).replies) ms
  good-com v ms n c vouched = record {
    older = le-com n refl;
    local = record { voted-joined = (local-now I r).voted-joined; unvoted = λ e. clash (cc); when-preparing = λ e. clash (cc); when-pre-accepting = λ e. clash (cc); when-accepting = λ e. clash (cc) };
    backed = record { added = λ e. clash (cc); unchanged = λ e. clash (cc); accepted = λ e. clash (cc) };
    collected = record { promises = λ e. clash (cc); pre-accepts = λ e. clash (cc); accepts = λ e. clash (cc) };
    reason = λ e. c;
    vouched = λ m k. subst (λ (x : Msg). Vouched F owner (push s r (mk (s.now r).joined (s.now r).voted commit_vote v idle nobody (s.now r).replies) ms) x) (sym (vouched m k)) c;
    obeys = λ b pos l e f. absurd (f refl);
  }

  -- a vote at b of a copy that does not lead b
  good-vote : (b : ℕ) (u : Status) (v : Value) (m : Msg)
      → (lead owner b ≡ r → ⊥)
      → Le (s.now r) (mk b b u v idle nobody (s.now r).replies)
      → (u ≡ unvoted → ⊥) → (u ≡ commit_vote → ⊥)
      → Backed owner s (mk b b u v idle nobody (s.now r).replies)
      → Vouched F owner (push s r (mk b b u v idle nobody (s.now r).replies) (m ∷ [])) m
      → Good F owner s r (mk b b u v idle nobody (s.now r).replies) (m ∷ [])
  good-vote b u v m not-lead le cast uncommitted backed ok = record {
    older = le;
    local = record { voted-joined = omega arith; unvoted = λ e. absurd (cast e); when-preparing = λ e. clash (cc); when-pre-accepting = λ e. clash (cc); when-accepting = λ e. clash (cc) };
    backed = up-back (grow (mk b b u v idle nobody (s.now r).replies) (m ∷ [])) _ backed;
    collected = record { promises = λ e. clash (cc); pre-accepts = λ e. clash (cc); accepts = λ e. clash (cc) };
    reason = λ e. absurd (uncommitted e);
    vouched = λ x k. subst (λ (y : Msg). Vouched F owner (push s r (mk b b u v idle nobody (s.now r).replies) (m ∷ [])) y) (sym (Memᴰ.eq_of_singleton k)) ok;
    obeys = λ c pos l e f. absurd (not-lead (ap (lead owner) e ∙ l));
  }

  -- a vote of the lead at its own ballot
  good-lead : (b : ℕ) (u : Status) (v : Value) (p : Phase) (m : Msg)
      → lead owner b ≡ r
      → Le (s.now r) (mk b b u v p nobody (s.now r).replies)
      → (u ≡ unvoted → ⊥) → (u ≡ commit_vote → ⊥) → (u ≡ pre_added → ⊥) → (p ≡ preparing → ⊥) → (p ≡ pre_accept_phase → u ≡ pre_received) → (p ≡ accept_phase → u ≡ accept_vote)
      → Vouched F owner (push s r (mk b b u v p nobody (s.now r).replies) (m ∷ [])) m
      → (0 < b → (((s.now r).voted ≡ b) × ((s.now r).status ≡ commit_vote → ⊥) × ((o : Outcome) → ObeysR o (s.now r) → ObeysR o (mk b b u v p nobody (s.now r).replies)))
      ⊎ (((s.now r).voted < b) × ((s.now r).status ≡ commit_vote → ⊥) × (e : Decision F owner (push s r (mk b b u v p nobody (s.now r).replies) (m ∷ [])) b) × ObeysR e.outcome (mk b b u v p nobody (s.now r).replies)))
      → Good F owner s r (mk b b u v p nobody (s.now r).replies) (m ∷ [])
  good-lead b u v p m l le cast uncommitted not-added not-preparing when-pre when-acc ok d = record {
    older = le;
    local = record { voted-joined = omega arith; unvoted = λ e. absurd (cast e); when-preparing = λ e. absurd (not-preparing e); when-pre-accepting = λ e. (l, refl, when-pre e); when-accepting = λ e. (l, refl, when-acc e) };
    backed = record {
      added = λ e. absurd (not-added e);
      unchanged = λ e. rw l (new-vote (mk b b u v p nobody (s.now r).replies) (m ∷ []) pre_received e (λ f. clash (cc)) (λ f. clash (cc)));
      accepted = λ e. rw l (new-vote (mk b b u v p nobody (s.now r).replies) (m ∷ []) accept_vote e (λ f. clash (cc)) (λ f. clash (cc)));
    };
    collected = record { promises = λ e i g. clash (cc); pre-accepts = λ e i g. clash (cc); accepts = λ e i g. clash (cc) };
    reason = λ e. absurd (uncommitted e);
    vouched = λ x k. subst (λ (y : Msg). Vouched F owner (push s r (mk b b u v p nobody (s.now r).replies) (m ∷ [])) y) (sym (Memᴰ.eq_of_singleton k)) ok;
    obeys = λ c pos h e f. subst (λ (y : ℕ). (((s.now r).voted ≡ y) × ((s.now r).status ≡ commit_vote → ⊥) × ((o : Outcome) → ObeysR o (s.now r) → ObeysR o (mk b b u v p nobody (s.now r).replies)))
        ⊎ (((s.now r).voted < y) × ((s.now r).status ≡ commit_vote → ⊥) × (e : Decision F owner (push s r (mk b b u v p nobody (s.now r).replies) (m ∷ [])) y) × ObeysR e.outcome (mk b b u v p nobody (s.now r).replies))) e (d (omega arith));
  }

  key-fresh : (b : ℕ) → (s.now r).joined ≤ b → Fresh (s.now r) b → (s.now r).voted * 3 + rank (s.now r).status < b * 3 + 1
  key-fresh b l (inl e) = omega (arith, (local-now I r).unvoted e, ap rank e)
  key-fresh b l (inr h) = omega (arith, rank-le (s.now r).status)

  -- the order after an Accept: a new vote, or the same again
  le-acc : (b : ℕ) (v : Value) (p : Phase) → (s.now r).joined ≤ b → ((s.now r).status ≡ commit_vote → ⊥) → ((s.now r).voted ≡ b → (s.now r).status ≡ accept_vote → (s.now r).value ≡ v)
      → Le (s.now r) (mk b b accept_vote v p nobody (s.now r).replies)
  le-acc b v p l n h = go (s.now r).status refl (eq-or-lt_of_le (omega (arith, (local-now I r).voted-joined)))
    where
      new : (s.now r).voted * 3 + rank (s.now r).status < b * 3 + 2 → Le (s.now r) (mk b b accept_vote v p nobody (s.now r).replies)
      new k = le-new l l k n (λ e. clash (cc))

      go : (u : Status) → (s.now r).status ≡ u → ((s.now r).voted ≡ b) ⊎ ((s.now r).voted < b) → Le (s.now r) (mk b b accept_vote v p nobody (s.now r).replies)
      go u e (inr k) = new (omega (arith, rank-le (s.now r).status))
      go unvoted e (inl k) = new (omega (arith, ap rank e))
      go pre_added e (inl k) = new (omega (arith, ap rank e))
      go pre_received e (inl k) = new (omega (arith, ap rank e))
      go accept_vote e (inl k) = le_same l k e (h k e)
      go commit_vote e (inl k) = absurd (n e)

  good-say : (m : Msg) → Says r (s.now r) m → Good F owner s r (s.now r) (m ∷ [])
  good-say m sy = good-same (s.now r).joined (s.now r).phase (s.now r).got (s.now r).replies (m ∷ []) (omega arith) (local-now I r)
      (up-coll (grow (s.now r) (m ∷ [])) (s.now r) (collected-now I r))
      (λ x k. subst (λ (y : Msg). Vouched F owner (push s r (s.now r) (m ∷ [])) y) (sym (Memᴰ.eq_of_singleton k)) (ok sy))
    where
      ok : {m' : Msg} → Says r (s.now r) m' → Vouched F owner (push s r (s.now r) (m ∷ [])) m'
      ok (say-ok1 e) = inl (new-vote (s.now r) (m ∷ []) pre_added e (λ f. clash (cc)) (λ f. clash (cc)))
      ok (say-ok2 e) = inr (new-vote (s.now r) (m ∷ []) pre_received e (λ f. clash (cc)) (λ f. clash (cc)))
      ok (say-pre e) = let (l, j, u) = (local-now I r).when-pre-accepting e in
          rw l (new-at (s.now r) (m ∷ []) (s.now r).joined pre_received j u (λ f. clash (cc)) (λ f. clash (cc)))
      ok (say-acc e) = let (l, j, u) = (local-now I r).when-accepting e in
          rw l (new-at (s.now r) (m ∷ []) (s.now r).joined accept_vote j u (λ f. clash (cc)) (λ f. clash (cc)))
      ok (say-commit e) = up-com s r (s.now r) (m ∷ []) (le_refl (s.now r)) _ (I.reasons r (s.now r) (now-in I r (λ f. clash (cc))) e)

  obey-acc : (b : ℕ) (w : Value) → (s.now r).status ≡ pre_received → cmd w ≡ cmd (s.now r).value → (o : Outcome) → ObeysR o (s.now r) → ObeysR o (mk b b accept_vote w accept_phase nobody (s.now r).replies)
  obey-acc b w u same-cmd (accept v) h = clash (cc)
  obey-acc b w u same-cmd (afresh c) h = same-cmd ∙ h

  slow-votes : (ms : List Msg) (T : Rec) → (s.now r).phase ≡ accept_phase → (Q : ℕ → Bool) → suc F ≤ cnt (suc (2 * F)) Q
      → ((i : ℕ) → Q i ≡ true → (i ≡ r) ⊎ HasAcc s (s.now r) i) → SlowVotes F owner (push s r T ms) (s.now r).joined (s.now r).value
  slow-votes ms T phase Q enough q = record { set = Q; size = enough; votes = λ i l m. vote-up T ms i (s.now r).joined accept_vote (s.now r).value (go i (q i m)) }
    where
      own : Vote s r (s.now r).joined accept_vote (s.now r).value
      own = own_at I r (s.now r).joined accept_vote ((local-now I r).when-accepting phase).1 ((local-now I r).when-accepting phase).2 (λ f. clash (cc)) (λ f. clash (cc))

      has : (i : ℕ) → HasAcc s (s.now r) i → (v : Value) × Vote s i (s.now r).joined accept_vote v
      has i (inl g) = (collected-now I r).accepts phase i g
      has i (inr m) = I.msgs _ m

      go : (i : ℕ) → (i ≡ r) ⊎ HasAcc s (s.now r) i → Vote s i (s.now r).joined accept_vote (s.now r).value
      go i (inl e) = rw e own
      go i (inr g) =
          let (v, x) = has i g in
          let e : v ≡ (s.now r).value = vote-one I r (s.now r).joined accept_vote _ _ (rw ((local-now I r).when-accepting phase).0 at (vote-accepted I i (s.now r).joined v x)) own in
          rw e at x

  coll-upd : {A : Type 0} (P : ℕ → A → Type 0) (g : ℕ → Bool) (f : ℕ → A) (i : ℕ) (a : A) → P i a → ((j : ℕ) → g j ≡ true → P j (f j))
      → (j : ℕ) → upd g i true j ≡ true → P j (upd f i a j)
  unfolding upd
  coll-upd {A} P g f i a new olds j h = go (ℕ_discrete j i) h
    where
      go : (d : Dec (j ≡ i)) → if-eq d true (g j) ≡ true → P j (if-eq d a (f j))
      go (yes e) h = rw e new
      go (no n) h = olds j h

  fast-votes-ok : (s.now r).phase ≡ pre_accept_phase → (s.now r).joined ≡ 0 → r ≡ owner → (i : ℕ) → HasPre s (s.now r) i (s.now r).value
      → Vote s i 0 pre_received (s.now r).value
  fast-votes-ok phase at_zero is-owner i g = go (has-pre I r phase i (s.now r).value g)
    where
      own : Vote s r 0 pre_received (s.now r).value
      own = own_at I r 0 pre_received (((local-now I r).when-pre-accepting phase).1 ∙ at_zero) ((local-now I r).when-pre-accepting phase).2 (λ f. clash (cc)) (λ f. clash (cc))

      go : Vote s i (s.now r).joined pre_added (s.now r).value ⊎ Vote s i (s.now r).joined pre_received (s.now r).value → Vote s i 0 pre_received (s.now r).value
      go (inr x) = rw at_zero at x
      go (inl x) =
          let (w, y, c, n) = vote-added I i 0 (s.now r).value (rw at_zero at x) in
          absurd (n (vote-one I r 0 pre_received _ _ own (rw (lead-0 owner ∙ sym is-owner) at y)))

  fast-quiet : (s.now r).phase ≡ pre_accept_phase → (s.now r).joined ≡ 0 → (X : Rec) → Was s r X → (X.joined ≡ 0) × (X.status ≡ accept_vote → ⊥)
  fast-quiet phase at_zero X w = go (I.chain r X w)
    where
      u : (s.now r).status ≡ pre_received
      u = ((local-now I r).when-pre-accepting phase).2

      voted-joined : (s.now r).voted ≡ (s.now r).joined
      voted-joined = ((local-now I r).when-pre-accepting phase).1

      go : Le X (s.now r) → (X.joined ≡ 0) × (X.status ≡ accept_vote → ⊥)
      go (le_same a b c d) = (omega arith, λ e. clash (cc u))
      go (le-new a b c d e) = (omega arith, λ f. absurd (omega (arith, ap rank f, ap rank u, voted-joined)))
      go (le-com a b) = clash (cc u)

  fast-ev : (phase : (s.now r).phase ≡ pre_accept_phase) → (s.now r).joined ≡ 0 → r ≡ owner → (P : ℕ → Bool) → 2 * F ≤ suc (cnt (suc (2 * F)) P) → P owner ≡ false
      → ((i : ℕ) → P i ≡ true → HasPre s (s.now r) i (s.now r).value)
      → (T : Rec) (ms : List Msg) → T.status ≡ commit_vote → FastVotes F owner (push s r T ms) (s.now r).value
  fast-ev phase at_zero is-owner P enough out got T ms committed = record {
    set = P;
    size = enough;
    out = out;
    votes = λ i l m. vote-up T ms i 0 pre_received (s.now r).value (fast-votes-ok phase at_zero is-owner i (got i m));
    done = rw (← is-owner) (rw upd_same committed);
    quiet = λ X w n. go X (which s r T ms owner X w) n;
  }
    where
      go : (X : Rec) → ((owner ≡ r) × (X ≡ T)) ⊎ Was s owner X → (X.status ≡ commit_vote → ⊥) → (X.joined ≡ 0) × (X.status ≡ accept_vote → ⊥)
      go X (inl p) n = absurd (n (rw p.1 committed))
      go X (inr m) n = fast-quiet phase at_zero X (rw (← is-owner) at m)

  pub good : {Req : Command → Type 0} {R : Rec} {ms : List Msg} → Trans F owner Req s r (s.now r) R ms → Good F owner s r R ms
  good (repeat m h) = good-say m h
  good (request v e j z rq) = good-lead 0 pre_received v pre_accept_phase (m_pre_accept 0 v) (lead-0 owner ∙ sym e)
      (le-new (omega arith) (omega arith) (omega (arith, (local-now I r).unvoted z, ap rank z)) (λ f. clash (cc)) (λ f. clash (cc)))
      (λ f. clash (cc)) (λ f. clash (cc)) (λ f. clash (cc)) (λ f. clash (cc)) (λ f. refl) (λ f. clash (cc))
      (rw (lead-0 owner ∙ sym e) (new-at (mk 0 0 pre_received v pre_accept_phase nobody (s.now r).replies) (m_pre_accept 0 v ∷ []) 0 pre_received refl refl (λ f. clash (cc)) (λ f. clash (cc))))
      (λ p. absurd (omega arith))
  good (pre-same b v sent not-lead uncommitted l fresh) = good-vote b pre_received v (m_pre_accept_ok r b v) not-lead (le-new l l (key-fresh b l fresh) uncommitted (λ f. clash (cc)))
      (λ f. clash (cc)) (λ f. clash (cc))
      (record { added = λ e. clash (cc); unchanged = λ e. I.msgs (m_pre_accept b v) sent; accepted = λ e. clash (cc) })
      (inr (new-vote (mk b b pre_received v idle nobody (s.now r).replies) (m_pre_accept_ok r b v ∷ []) pre_received refl (λ f. clash (cc)) (λ f. clash (cc))))
  good (pre-more b v w sent not-lead uncommitted l fresh same-cmd differs) = good-vote b pre_added w (m_pre_accept_ok r b w) not-lead (le-new l l (key-fresh b l fresh) uncommitted (λ f. clash (cc)))
      (λ f. clash (cc)) (λ f. clash (cc))
      (record { added = λ e. (v, I.msgs (m_pre_accept b v) sent, same-cmd, differs); unchanged = λ e. clash (cc); accepted = λ e. clash (cc) })
      (inl (new-vote (mk b b pre_added w idle nobody (s.now r).replies) (m_pre_accept_ok r b w ∷ []) pre_added refl (λ f. clash (cc)) (λ f. clash (cc))))
  good (collect-pre i v sent phase) =
      let T : Rec = mk (s.now r).joined (s.now r).voted (s.now r).status (s.now r).value (s.now r).phase (upd (s.now r).got i true) (upd (s.now r).replies i (record { voted = (s.now r).joined; status = pre_added; value = v })) in
      let S : Sys = push s r T [] in
      good-same (s.now r).joined (s.now r).phase (upd (s.now r).got i true) (upd (s.now r).replies i (record { voted = (s.now r).joined; status = pre_added; value = v })) [] (omega arith)
      (record { voted-joined = (local-now I r).voted-joined; unvoted = (local-now I r).unvoted; when-preparing = (local-now I r).when-preparing; when-pre-accepting = (local-now I r).when-pre-accepting; when-accepting = (local-now I r).when-accepting })
      (record {
        promises = λ e. clash (cc);
        accepts = λ e. clash (cc);
        pre-accepts = λ e. coll-upd (λ (j : ℕ) (a : Reply). Vote S j (s.now r).joined pre_added a.value ⊎ Vote S j (s.now r).joined pre_received a.value) (s.now r).got (s.now r).replies i (record { voted = (s.now r).joined; status = pre_added; value = v })
            (up-two (grow T []) i (s.now r).joined v (I.msgs _ sent)) (λ j g. up-two (grow T []) j _ _ ((collected-now I r).pre-accepts phase j g));
      })
      (λ m k. absurd (Memᴰ.not-nil k))
  good (fast-commit phase at_zero is-owner P enough out got) = good-com (s.now r).value (m_commit (s.now r).value ∷ []) (λ f. clash (cc ((local-now I r).when-pre-accepting phase).2)) (com-fast (fast-ev phase at_zero is-owner P enough out got _ (m_commit (s.now r).value ∷ []) refl))
      (λ m k. Memᴰ.eq_of_singleton k)
  good (to-accept w phase same-cmd Q enough covers-them) =
      let (l, j, u) = (local-now I r).when-pre-accepting phase in
      good-lead (s.now r).joined accept_vote w accept_phase (m_accept (s.now r).joined w) l
      (le-acc (s.now r).joined w accept_phase (omega arith) (λ f. clash (cc)) (λ e f. clash (cc)))
      (λ f. clash (cc)) (λ f. clash (cc)) (λ f. clash (cc)) (λ f. clash (cc)) (λ f. clash (cc)) (λ f. refl)
      (rw l (new-at (mk (s.now r).joined (s.now r).joined accept_vote w accept_phase nobody (s.now r).replies) (m_accept (s.now r).joined w ∷ []) (s.now r).joined accept_vote refl refl (λ f. clash (cc)) (λ f. clash (cc))))
      (λ p. inl (j, λ f. clash (cc), obey-acc (s.now r).joined w u same-cmd))
  good (acc b v sent not-lead uncommitted l) = good-vote b accept_vote v (m_accept_ok r b) not-lead
      (le-acc b v idle l uncommitted (λ e f. vote-one I (lead owner b) b accept_vote _ _ (rw e at ((backed-now I r).accepted f)) (I.msgs (m_accept b v) sent)))
      (λ f. clash (cc)) (λ f. clash (cc))
      (record { added = λ e. clash (cc); unchanged = λ e. clash (cc); accepted = λ e. I.msgs (m_accept b v) sent })
      (v, new-vote (mk b b accept_vote v idle nobody (s.now r).replies) (m_accept_ok r b ∷ []) accept_vote refl (λ f. clash (cc)) (λ f. clash (cc)))
  good (collect-acc i sent phase) =
      let T : Rec = mk (s.now r).joined (s.now r).voted (s.now r).status (s.now r).value (s.now r).phase (upd (s.now r).got i true) (s.now r).replies in
      let S : Sys = push s r T [] in
      good-same (s.now r).joined (s.now r).phase (upd (s.now r).got i true) (s.now r).replies [] (omega arith)
      (record { voted-joined = (local-now I r).voted-joined; unvoted = (local-now I r).unvoted; when-preparing = (local-now I r).when-preparing; when-pre-accepting = (local-now I r).when-pre-accepting; when-accepting = (local-now I r).when-accepting })
      (record {
        promises = λ e. clash (cc);
        pre-accepts = λ e. clash (cc);
        accepts = λ e. coll-upd (λ (j : ℕ) (a : Reply). (v : Value) × Vote S j (s.now r).joined accept_vote v) (s.now r).got (s.now r).replies i ((s.now r).replies i)
            (let (v, x) = I.msgs _ sent in (v, vote-up T [] i (s.now r).joined accept_vote v x)) (λ j g. let (v, x) = (collected-now I r).accepts phase j g in (v, vote-up T [] j (s.now r).joined accept_vote v x));
      })
      (λ m k. absurd (Memᴰ.not-nil k))
  good (slow-commit phase Q enough q) = good-com (s.now r).value (m_commit (s.now r).value ∷ []) (λ f. clash (cc ((local-now I r).when-accepting phase).2))
      (com-slow (s.now r).joined (slow-votes (m_commit (s.now r).value ∷ []) _ phase Q enough q))
      (λ m k. Memᴰ.eq_of_singleton k)
  good (learn v sent uncommitted) = good-com v [] uncommitted
      (up-com s r (mk (s.now r).joined (s.now r).voted commit_vote v idle nobody (s.now r).replies) [] (le-com uncommitted refl) v (I.msgs (m_commit v) sent))
      (λ m k. absurd (Memᴰ.not-nil k))
  good (join b l uncommitted) = good-same b idle nobody (s.now r).replies [] (omega arith)
      (record { voted-joined = omega (arith, (local-now I r).voted-joined); unvoted = (local-now I r).unvoted; when-preparing = λ e. clash (cc); when-pre-accepting = λ e. clash (cc); when-accepting = λ e. clash (cc) })
      (record { promises = λ e. clash (cc); pre-accepts = λ e. clash (cc); accepts = λ e. clash (cc) })
      (λ m k. absurd (Memᴰ.not-nil k))
  good (promise b l voted-below uncommitted) = good-same b idle nobody (s.now r).replies (m_prepare_ok r b (reply-of (s.now r)) ∷ []) (omega arith)
      (record { voted-joined = omega (arith, (local-now I r).voted-joined); unvoted = (local-now I r).unvoted; when-preparing = λ e. clash (cc); when-pre-accepting = λ e. clash (cc); when-accepting = λ e. clash (cc) })
      (record { promises = λ e. clash (cc); pre-accepts = λ e. clash (cc); accepts = λ e. clash (cc) })
      (let T : Rec = mk b (s.now r).voted (s.now r).status (s.now r).value idle nobody (s.now r).replies in
      λ x k. subst (λ (y : Msg). Vouched F owner (push s r T (m_prepare_ok r b (reply-of (s.now r)) ∷ [])) y) (sym (Memᴰ.eq_of_singleton k))
      (record { saved = T; was = Memᴰ.head refl; joined = refl; uncommitted = uncommitted; below = voted-below; voted = refl; status = refl; value = refl }))
  good (recover b l leads uncommitted) =
      let T : Rec = mk b (s.now r).voted (s.now r).status (s.now r).value preparing (upd nobody r true) (upd (s.now r).replies r (reply-of (s.now r))) in
      let S : Sys = push s r T [] in
      good-same b preparing (upd nobody r true) (upd (s.now r).replies r (reply-of (s.now r))) [] (omega arith)
      (record { voted-joined = omega (arith, (local-now I r).voted-joined); unvoted = (local-now I r).unvoted; when-preparing = λ e. (leads, omega (arith, (local-now I r).voted-joined), uncommitted); when-pre-accepting = λ e. clash (cc); when-accepting = λ e. clash (cc) })
      (record {
        pre-accepts = λ e. clash (cc);
        accepts = λ e. clash (cc);
        promises = λ e. coll-upd (λ (j : ℕ) (a : Reply). Promised S j b a) nobody (s.now r).replies r (reply-of (s.now r))
            (record { saved = T; was = Memᴰ.head refl; joined = refl; uncommitted = uncommitted; below = omega (arith, (local-now I r).voted-joined); voted = refl; status = refl; value = refl }) (λ j g. clash (cc));
      })
      (λ m k. absurd (Memᴰ.not-nil k))
  good (collect-prep i a sent phase) =
      let T : Rec = mk (s.now r).joined (s.now r).voted (s.now r).status (s.now r).value (s.now r).phase (upd (s.now r).got i true) (upd (s.now r).replies i a) in
      let S : Sys = push s r T [] in
      good-same (s.now r).joined (s.now r).phase (upd (s.now r).got i true) (upd (s.now r).replies i a) [] (omega arith)
      (record { voted-joined = (local-now I r).voted-joined; unvoted = (local-now I r).unvoted; when-preparing = (local-now I r).when-preparing; when-pre-accepting = (local-now I r).when-pre-accepting; when-accepting = (local-now I r).when-accepting })
      (record {
        pre-accepts = λ e. clash (cc);
        accepts = λ e. clash (cc);
        promises = λ e. coll-upd (λ (j : ℕ) (a : Reply). Promised S j (s.now r).joined a) (s.now r).got (s.now r).replies i a
            (up_ok (grow T []) i (s.now r).joined a (I.msgs _ sent)) (λ j g. up_ok (grow T []) j _ _ ((collected-now I r).promises phase j g));
      })
      (λ m k. absurd (Memᴰ.not-nil k))
  good (decide-accept v phase Q rep enough has d) =
      let (l, lt, n) = (local-now I r).when-preparing phase in
      good-lead (s.now r).joined accept_vote v accept_phase (m_accept (s.now r).joined v) l
      (le-acc (s.now r).joined v accept_phase (omega arith) n (λ e f. absurd (omega arith)))
      (λ f. clash (cc)) (λ f. clash (cc)) (λ f. clash (cc)) (λ f. clash (cc)) (λ f. clash (cc)) (λ f. refl)
      (rw l (new-at (mk (s.now r).joined (s.now r).joined accept_vote v accept_phase nobody (s.now r).replies) (m_accept (s.now r).joined v ∷ []) (s.now r).joined accept_vote refl refl (λ f. clash (cc)) (λ f. clash (cc))))
      (λ p. inr (lt, n, record { Q = Q; rep = rep; outcome = accept v; size = enough; promises = λ i q. up_ok (grow _ (m_accept (s.now r).joined v ∷ [])) i _ _ (has-prep I r phase i (rep i) (has i q)); decided = d }, (refl, refl)))
  good (decide-afresh c v phase Q rep enough has d same-cmd) =
      let (l, lt, n) = (local-now I r).when-preparing phase in
      good-lead (s.now r).joined pre_received v pre_accept_phase (m_pre_accept (s.now r).joined v) l
      (le-new (omega arith) (omega arith) (key-fresh (s.now r).joined (omega arith) (inr lt)) n (λ f. clash (cc)))
      (λ f. clash (cc)) (λ f. clash (cc)) (λ f. clash (cc)) (λ f. clash (cc)) (λ f. refl) (λ f. clash (cc))
      (rw l (new-at (mk (s.now r).joined (s.now r).joined pre_received v pre_accept_phase nobody (s.now r).replies) (m_pre_accept (s.now r).joined v ∷ []) (s.now r).joined pre_received refl refl (λ f. clash (cc)) (λ f. clash (cc))))
      (λ p. inr (lt, n, record { Q = Q; rep = rep; outcome = afresh c; size = enough; promises = λ i q. up_ok (grow _ (m_pre_accept (s.now r).joined v ∷ [])) i _ _ (has-prep I r phase i (rep i) (has i q)); decided = d }, same-cmd))

pub holds : {F owner : ℕ} {Req : Command → Type 0} {s : Sys} → Reach F owner Req s → Inv F owner s
holds init = record {
  chain = λ r R w. absurd (Memᴰ.not-nil w);
  pair = λ r R S w. absurd (Memᴰ.not-nil w);
  current = λ r. inr (refl, refl, refl, refl);
  local = λ r R w. absurd (Memᴰ.not-nil w);
  backed = λ r R w. absurd (Memᴰ.not-nil w);
  collected = λ r R w. absurd (Memᴰ.not-nil w);
  reasons = λ r R w. absurd (Memᴰ.not-nil w);
  msgs = λ m k. absurd (Memᴰ.not-nil k);
  decisions = λ b p R w. absurd (Memᴰ.not-nil w);
}
holds (step {s = s} r R ms h l t) = keep s r R ms (holds h) (good (holds h) r t)
