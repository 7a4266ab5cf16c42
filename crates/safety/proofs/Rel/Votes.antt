-- Events of a copy that does not lead the ballot, and those that begin a ballot: each is a move of the model. Assumes nothing.
use Prim.Native.Nat.{ℕ, ◌^◌, ◌≤◌, ◌<◌}
use mathlib.Core.Path.{◌≡◌, refl, sym, ap, ◌∙◌}
use mathlib.Core.Logic.{inl, inr}
use mathlib.Core.Bool.{Bool, true, false, ◌&&◌, not, cond}
use mathlib.Core.List.Memᴰ
use mathlib.Core.List.{List, [], ◌∷◌}
use native.Mathlib.Omega.{arith}
use lib.Dec.{leb, ltb, eqb}
use lib.ListN.{get_or, length, set, length-set}
use lib.Seq.{get_or-set_same, get_or-set_other}
use native.Mathlib.Decide.{ℕ_discrete}
use Rattle.paper.specs.Ballot.{lead}
use Rattle.paper.specs.Deps.{no_deps, same_deps, join}
use Rattle.paper.specs.Vote.{no_vote, member, same_vote}
use Rattle.paper.specs.Logic.{all_below}
use Rattle.paper.specs.Command.{noop, same_command}
use Rattle.paper.specs.declared.Command.{Command}
use Rattle.paper.specs.declared.Record.{Record}
use Rattle.paper.specs.declared.Message.{Message}
use Rattle.rules.specs.declared.Step.{Step}
use Rattle.rules.specs.Step.{is_committed, no_replies}
use Rattle.rules.specs.Prepare.{prepare}
use Rattle.rules.specs.PreAccept.{voted_at, pre_accept_ok, pre_accept}
use Rattle.rules.specs.Accept.{accept}
use Rattle.rules.specs.Commit.{commit}
use Rattle.rules.specs.Nack.{nack}
use Rattle.rules.specs.Recover.{next_ballot, recover}
use Rattle.rules.specs.Request.{is_blank, request}
use Rattle.rules.specs.Afresh.{afresh}
use Rattle.reach.proofs.Tests.{clash, tf, and_l, and_r, not-not, eqb-eq, eqb_same, eqb-ne, leb-le, leb-gt, ltb-ge, not-true, by_cond}
use Rattle.safety.proofs.Sets.{member-only, only-small}
use Rattle.paper.proofs.Laws.{same_deps-eq}
use Rattle.paper.proofs.Deps.{join-seven}
use Rattle.safety.proofs.Deps.{Under, same-deps-refl, join-r}
use Rattle.safety.proofs.Value.{Value}
use Rattle.safety.proofs.Hist.{Status, unvoted, pre_added, pre_received, accept_vote, commit_vote}
use Rattle.safety.proofs.Sys.{idle, preparing, pre_accept_phase, Rec, mk, reply-of, m_pre_accept, m_pre_accept_ok, m_accept, m_accept_ok, m_commit, m_prepare_ok, upd, upd-cases, upd_same, nobody, Sent, Fresh, Says, say-ok1, say-ok2, repeat}
use Rattle.safety.proofs.Sys.{request as mv-request, pre-same, pre-more, acc, learn, join as mv-join, promise, recover as mv-recover}
use Rattle.safety.proofs.Inv.Facts.{local-now}
use Rattle.safety.proofs.Rel.{status_number, status-eq, val, Rel, rel-begun, quiet, spoken, kept, takes, commits, counts, moved, Spot, Ref, seven, open-st, still, refuse, commit-back, no-replies}

-- a blank record has joined nothing, voted for nothing and has no mark
pub blank-facts : (r : Record) → is_blank r ≡ true → (r.joined ≡ 0) × (r.vote.status ≡ 0) × (r.mark ≡ 0)
unfolding is_blank same_vote
blank-facts r bl =
    let but-replies = and_l _ (all_below 7 (λ q. same_vote (get_or r.replies q no_vote) no_vote)) bl in
    let but-set = and_l _ (eqb r.set 0) but-replies in
    let but-phase = and_l _ (eqb r.phase 0) but-set in
    let but-mark = and_l _ (eqb r.mark 0) but-phase in
    let own = and_r (eqb r.joined 0) (same_vote r.vote no_vote) but-mark in
    let but-deps = and_l _ (same_deps r.vote.deps no_deps) own in
    let but-command = and_l _ (same_command r.vote.command noop) but-deps in (
      eqb-eq _ _ (and_l _ (same_vote r.vote no_vote) but-mark),
      eqb-eq r.vote.status 0 (and_r (eqb r.vote.voted 0) _ but-command),
      eqb-eq r.mark 0 (and_r (eqb r.joined 0 && same_vote r.vote no_vote) _ but-phase),
    )

module _ (p : Spot) where
  open p use {F, o, j, c, Req, Cov, lc, S, I, r, rel}

  abbrev A : Rec
  A = S.now c

  abbrev Goal : Step → Type 0
  Goal = Ref p

  voted-joined : A.voted ≤ A.joined
  voted-joined = (local-now I c).voted-joined

  -- a lower ballot is refused, a committed record tells its commit
  or-refused : (m : Message) {x : Step} → (is_committed r ≡ false → A.joined ≤ m.ballot → Goal x)
      → Goal (cond (is_committed r) (Rattle.rules.specs.Step.commit_back c o j r m.from) (cond (ltb m.ballot r.joined) (Rattle.rules.specs.Step.nack_back c o j r m) x))
  or-refused m f = by_cond Goal (is_committed r) (λ e. commit-back p e m.from)
      (λ e. by_cond Goal (ltb m.ballot r.joined) (λ l. refuse p m) (λ l. f e (omega (arith, ltb-ge m.ballot r.joined l, rel.joined))))

  pub on-prepare : (m : Message) → Goal (prepare c o j r m)
  unfolding prepare
  on-prepare m = or-refused m λ e l. by_cond Goal (eqb r.vote.voted m.ballot) (λ q. still p)
      (λ q. moved (mk m.ballot A.voted A.status A.value idle nobody A.replies) (m_prepare_ok c m.ballot (reply-of A) ∷ [])
      (promise m.ballot l (omega (arith, voted-joined, rel.voted, eqb-ne r.vote.voted m.ballot q)) (open-st rel e))
      (rel-begun F c (seven p) m.ballot r.vote r.mark 0 _ refl rel.voted rel.status rel.value rel.len refl (λ f. clash (cc)) refl)
      refl (kept refl refl refl)
      (spoken refl refl (rel.len, (A.status, rel.status, Memᴰ.head (ap (m_prepare_ok c m.ballot) (λ i. record { voted = sym rel.voted i; status = A.status; value = sym rel.value i }))))))

  -- a PreAccept from the lead of its ballot, who is another copy
  module _ (m : Message) (k : Command) (not-lead : lead o m.ballot ≡ c → ⊥) (ml : length m.deps ≡ 7) where
    -- the vote was cast before: it is told again
    told-again : voted_at r m.ballot ≡ true → leb r.vote.status 2 ≡ true → Goal (pre_accept_ok c o j m r)
    told-again v t = go A.status refl
      where
        at : r.vote.voted ≡ m.ballot
        at = eqb-eq _ _ (and_r (leb 1 r.vote.status) _ v)

        low : 1 ≤ r.vote.status
        low = leb-le _ _ (and_l _ (eqb r.vote.voted m.ballot) v)

        high : r.vote.status ≤ 2
        high = leb-le _ _ t

        told : Says c A (m_pre_accept_ok c A.voted A.value) → Goal (pre_accept_ok c o j m r)
        told s = moved A (m_pre_accept_ok c A.voted A.value ∷ []) (repeat (m_pre_accept_ok c A.voted A.value) s) rel refl (kept refl refl refl)
            (spoken refl refl (rel.len, (r.vote.command, Memᴰ.head (λ i. m_pre_accept_ok c (sym (rel.voted ∙ at) i) (sym rel.value i)))))

        go : (u : Status) → A.status ≡ u → Goal (pre_accept_ok c o j m r)
        go unvoted e = absurd (omega (arith, rel.status, ap status_number e, low))
        go pre_added e = told (say-ok1 e)
        go pre_received e = told (say-ok2 e)
        go accept_vote e = absurd (omega (arith, rel.status, ap status_number e, high))
        go commit_vote e = absurd (omega (arith, rel.status, ap status_number e, high))

    pub on-preaccept : Sent S (m_pre_accept m.ballot (val k m.deps)) → (seen : List ℕ) → ((d : List ℕ) → Under seen d → Cov (val k d)) → Goal (pre_accept c o j r m k seen)
    unfolding pre_accept
    on-preaccept sent seen cov = or-refused m λ e l. by_cond Goal (voted_at r m.ballot)
        (λ v. by_cond Goal (leb r.vote.status 2) (told-again v) (λ t. still p))
        (λ v. new e l v (same_deps d m.deps) refl)
      where
        d : List ℕ
        d = join m.deps seen

        fresh : voted_at r m.ballot ≡ false → A.joined ≤ m.ballot → Fresh A m.ballot
        fresh v l = go (leb 1 r.vote.status) refl (eqb r.vote.voted m.ballot) refl v
          where
            go : (x : Bool) → leb 1 r.vote.status ≡ x → (y : Bool) → eqb r.vote.voted m.ballot ≡ y → (x && y) ≡ false → Fresh A m.ballot
            go true p true q h = clash (cc)
            go true p false q h = inr (omega (arith, voted-joined, rel.voted, eqb-ne r.vote.voted m.ballot q))
            go false p y q h = inl (status-eq A.status unvoted (omega (arith, rel.status, leb-gt 1 r.vote.status p)))

        new : is_committed r ≡ false → A.joined ≤ m.ballot → voted_at r m.ballot ≡ false → (b : Bool) → same_deps d m.deps ≡ b
            → Goal (pre_accept_ok c o j m (Rattle.rules.specs.Step.idle m.ballot (record { voted = m.ballot; status = cond b 2 1; command = k; deps = d }) r.mark))
        new e l v true q =
            let de : m.deps ≡ d = sym (same_deps-eq d m.deps (join-seven m.deps seen) ml q) in
            moved (mk m.ballot m.ballot pre_received (val k d) idle nobody A.replies) (m_pre_accept_ok c m.ballot (val k d) ∷ [])
            (pre-same m.ballot (val k d) (Memᴰ.cast (ap (λ (x : List ℕ). m_pre_accept m.ballot (val k x)) (sym de)) sent) not-lead (open-st rel e) l (fresh v l))
            (rel-begun F c (seven p) m.ballot _ r.mark 0 _ refl refl refl refl (join-seven m.deps seen) refl (λ f. clash (cc)) refl)
            refl (counts (cov d (join-r m.deps seen))) (spoken refl refl (join-seven m.deps seen, (k, Memᴰ.head refl)))
        new e l v false q =
            moved (mk m.ballot m.ballot pre_added (val k d) idle nobody A.replies) (m_pre_accept_ok c m.ballot (val k d) ∷ [])
            (pre-more m.ballot (val k m.deps) (val k d) sent not-lead (open-st rel e) l (fresh v l) refl
            (λ f. tf (same_deps d m.deps) (same-deps-refl d m.deps (ap (λ (x : Value). x.deps) f)) q))
            (rel-begun F c (seven p) m.ballot _ r.mark 0 _ refl refl refl refl (join-seven m.deps seen) refl (λ f. clash (cc)) refl)
            refl (counts (cov d (join-r m.deps seen))) (spoken refl refl (join-seven m.deps seen, (k, Memᴰ.head refl)))

    pub on-accept : Sent S (m_accept m.ballot (val k m.deps)) → Goal (accept c o j r m k)
    unfolding accept
    on-accept sent = or-refused m λ e l.
        moved (mk m.ballot m.ballot accept_vote (val k m.deps) idle nobody A.replies) (m_accept_ok c m.ballot ∷ [])
        (acc m.ballot (val k m.deps) sent not-lead (open-st rel e) l)
        (rel-begun F c (seven p) m.ballot _ r.mark 0 _ refl refl refl refl ml refl (λ f. clash (cc)) refl)
        refl (takes refl) (spoken refl refl (Memᴰ.head refl))

  pub on-commit : (m : Message) (k : Command) → length m.deps ≡ 7 → Sent S (m_commit (val k m.deps)) → Goal (commit r m k)
  unfolding commit
  on-commit m k ml sent = by_cond Goal (is_committed r) (λ e. still p) λ e.
      moved (mk A.joined A.voted commit_vote (val k m.deps) idle nobody A.replies) []
      (learn (val k m.deps) sent (open-st rel e))
      (rel-begun F c (seven p) r.joined _ r.mark 0 _ rel.joined rel.voted refl refl ml refl (λ f. clash (cc)) refl)
      refl (commits refl) (quiet (λ X. tt))

  pub on-nack : (m : Message) (x : ℕ) → m.ballot < x → Goal (nack r m x)
  unfolding nack
  on-nack m x lx = by_cond Goal (not (is_committed r) && eqb r.joined m.ballot)
      (λ e. let same-ballot : r.joined ≡ m.ballot = eqb-eq _ _ (and_r (not (is_committed r)) _ e) in
      moved (mk x A.voted A.status A.value idle nobody A.replies) []
      (mv-join x (omega (arith, rel.joined, same-ballot)) (open-st rel (not-not (is_committed r) (and_l _ (eqb r.joined m.ballot) e))))
      (rel-begun F c (seven p) x r.vote r.mark 0 _ refl rel.voted rel.status rel.value rel.len refl (λ f. clash (cc)) refl)
      refl (kept refl refl refl) (quiet (λ X. tt)))
      (λ e. still p)

  -- the ballot that a recovery takes up is led by its copy
  next-lead : lead o (next_ballot c r.joined) ≡ c
  unfolding lead
  next-lead = by_cond (λ (y : ℕ). y ≡ c) (eqb (next_ballot c r.joined) 0) (λ e. absurd (omega (arith, eqb-eq (next_ballot c r.joined) 0 e))) (λ e. omega arith)

  pub on-recover : (n : ℕ) → is_committed r ≡ false → Goal (recover n c o j r)
  unfolding recover
  on-recover n e = moved R [] (mv-recover b (omega (arith, rel.joined)) next-lead (open-st rel e)) rl refl (kept refl refl refl) (quiet (λ X. tt))
    where
      b : ℕ
      b = next_ballot c r.joined

      R : Rec
      R = mk b A.voted A.status A.value preparing (upd nobody c true) (upd A.replies c (reply-of A))

      only-c : (i : ℕ) → i < 7 → member i (2 ^ c) ≡ true → i ≡ c
      only-c i li m = eqb-eq i c (sym (member-only c i (seven p) li) ∙ m)

      rl : Rel F c (Rattle.rules.specs.Recover.preparing c r) R
      rl = record {
        joined = refl;
        voted = rel.voted;
        status = rel.status;
        value = rel.value;
        len = rel.len;
        phase = refl;
        small = only-small c (seven p);
        bound = λ i li m. rw (only-c i li m) lc;
        got = λ i li. upd-cases (λ (y : Bool). y ≡ member i (2 ^ c)) nobody c true i (λ q. sym (member-only c i (seven p) li ∙ eqb_same i c q)) (λ q. sym (member-only c i (seven p) li ∙ not-true (eqb i c) (λ z. q (eqb-eq i c z))));
        size = length-set no_replies c r.vote;
        lens = λ i. lens i (ℕ_discrete i c);
        told = λ h i li m. rw (only-c i li m) (rw (get_or-set_same no_replies c r.vote no_vote (seven p), upd_same A.replies c (reply-of A)) (record { voted = rel.voted; status = rel.status; value = rel.value }));
        added = λ h. clash (cc);
        self = λ n. absurd (n refl);
      }
        where
          lens : (i : ℕ) → Dec (i ≡ c) → length (get_or (set no_replies c r.vote) i no_vote).deps ≡ 7
          lens i (yes q) = rw q (rw (get_or-set_same no_replies c r.vote no_vote (seven p)) rel.len)
          lens i (no q) = rw (get_or-set_other no_replies c i r.vote no_vote q, no-replies i) refl

  -- a request takes a blank record of the copy's own
  pub on-request : c ≡ o → (n : ℕ) (k : Command) (d : List ℕ) → is_blank r ≡ true → Req k → Cov (val k d) → length d ≡ 7 → Goal (request n c j k d)
  unfolding request afresh
  on-request own n k d bl rq cv ld =
      let (unjoined, without, unmarked) = blank-facts r bl in
      moved (mk 0 0 pre_received (val k d) pre_accept_phase nobody A.replies) (m_pre_accept 0 (val k d) ∷ [])
      (mv-request (val k d) own (rel.joined ∙ unjoined) (status-eq A.status unvoted (rel.status ∙ without)) rq)
      (rel-begun F c (seven p) 0 _ 0 2 _ refl refl refl refl ld refl (λ f. clash (cc)) refl)
      (sym unmarked) (counts cv) (spoken own refl (ld, Memᴰ.head refl))
