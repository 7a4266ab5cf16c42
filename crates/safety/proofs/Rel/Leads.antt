-- A lead collects PreAcceptOK and AcceptOK, goes to accepting, and commits: each is a move of the model. Assumes nothing.
use Prim.Native.Nat.{ℕ, suc, ◌-◌, ◌*◌, ◌≤◌, ◌<◌}
use mathlib.Core.Path.{◌≡◌, refl, sym, ap, ◌∙◌}
use mathlib.Core.Logic.{◌⊎◌, inl, inr, ⊎_elim}
use mathlib.Core.Bool.{Bool, true, false, ◌&&◌, not}
use mathlib.Core.List.Memᴰ
use mathlib.Core.List.{List, [], ◌∷◌}
use native.Mathlib.Omega.{arith}
use lib.Count.{ones}
use lib.Dec.{leb, ltb, eqb}
use lib.ListN.{length}
use Rattle.paper.specs.Setup.{faults}
use Rattle.paper.specs.Deps.{same_deps}
use Rattle.paper.specs.Vote.{no_vote, member}
use Rattle.paper.specs.declared.Command.{Command}
use Rattle.paper.specs.declared.Record.{Record}
use Rattle.paper.specs.declared.Message.{Message}
use Rattle.rules.specs.declared.Step.{Step}
use Rattle.rules.specs.Sets.{those}
use Rattle.rules.specs.Step.{is_committed, collect, awaited, silent}
use Rattle.rules.specs.Accepting.{join_all, accepting, accepting_join}
use Rattle.rules.specs.Committing.{committing}
use Rattle.rules.specs.PreAcceptOk.{added, added_vote, matching, different, fast_enough, slow_enough, some_enough, pre_accepted_by, on_pre_accept_ok}
use Rattle.rules.specs.AcceptOk.{accepted_by, on_accept_ok}
use Rattle.rules.specs.Nudge.{nothing_to_nudge, again, nudge}
use Rattle.reach.proofs.Tests.{clash, tf, and_l, and_r, or_cases, not-not, eqb-eq, eqb_same, eqb-ne, leb-le, leb-in, ltb-lt, by_cond, not-true}
use Rattle.reach.proofs.Count.{cnt}
use Rattle.safety.proofs.Sets.{ones-cnt, ones-those}
use Rattle.paper.proofs.Laws.{same_deps-eq}
use Rattle.rules.proofs.Joins.{joins-seven}
use Rattle.safety.proofs.Deps.{joins-own, joins-each}
use Rattle.safety.proofs.Value.{Value, cmd, Sub, lead-0}
use Rattle.safety.proofs.Hist.{pre_added, pre_received, accept_vote, commit_vote, Reply}
use Rattle.safety.proofs.Sys.{idle, preparing, pre_accept_phase, accept_phase, Rec, mk, m_pre_accept, m_pre_accept_ok, m_accept, m_accept_ok, m_commit, upd, upd-cases, upd_same, nobody, Sent, say-pre, say-acc, HasPre, HasAcc, repeat, collect-pre, fast-commit, to-accept, collect-acc, slow-commit}
use Rattle.safety.proofs.Inv.Facts.{local-now, own_at, near, has-pre}
use Rattle.safety.proofs.Rel.{phase_number, phase-eq, is-accphase, val, Rel, rel-begun, quiet, spoken, kept, takes, commits, same, moved, Spot, Ref, seven, still, tell-commit}
use Rattle.safety.proofs.Rel.Collect.{within, among, and_one, in_one, of-with, rel-collect}

pub faults-n : (F : ℕ) → faults (suc (2 * F)) ≡ F
faults-n F = omega arith

module _ (p : Spot) where
  open p use {F, o, j, c, fit, pos, lc, S, I, r, rel}

  abbrev A : Rec
  A = S.now c

  abbrev n : ℕ
  n = suc (2 * F)

  abbrev Goal : Step → Type 0
  Goal = Ref p

  -- the lead's record with some replies: those it has, or one more
  module _ (g : ℕ → Bool) (a : ℕ → Reply) (r' : Record) (rel' : Rel F c r' (mk A.joined A.voted A.status A.value A.phase g a)) (mk' : r'.mark ≡ r.mark) where
    counted : ones r'.set ≡ cnt 7 (λ i. member i r'.set)
    counted = ones-cnt r'.set rel'.small

    -- F who replied and the lead
    enough : (A.phase ≡ preparing → ⊥) → some_enough n r' ≡ true → suc F ≤ cnt n (upd (within F fit (λ i. member i r'.set)) c true)
    unfolding some_enough
    enough np e = omega (arith, leb-le (faults n) (ones r'.set) e, faults-n F, counted, and_one F fit (λ i. member i r'.set) c lc (rel'.self np) rel'.bound)

    module _ (phase : A.phase ≡ pre_accept_phase) (has : (i : ℕ) → i < 7 → member i r'.set ≡ true → HasPre S A i (a i).value) where
      no1 : A.phase ≡ preparing → ⊥
      no1 e = clash (cc phase)

      -- all pre-accept the lead's command
      agreed : (i : ℕ) → i < 7 → member i r'.set ≡ true → (a i).value.command ≡ A.value.command
      agreed i li m =
          let (l, v, u) = (local-now I c).when-pre-accepting phase in
          near I i A.joined (a i).value A.value (rw l (own_at I c A.joined pre_received v u (λ f. clash (cc)) (λ f. clash (cc)))) (has-pre I c phase i (a i).value (has i li m))

      to-accepting : some_enough n r' ≡ true → Goal (accepting_join n c o j r')
      unfolding accepting_join accepting
      to-accepting e = moved (mk A.joined A.joined accept_vote w accept_phase nobody A.replies) (m_accept A.joined w ∷ [])
          (to-accept w phase (sym (ap cmd rel'.value)) (upd (within F fit (λ i. member i r'.set)) c true) (enough no1 e) each)
          (rel-begun F c (seven p) r'.joined _ r'.mark 3 _ rel'.joined rel'.joined refl refl lw refl (λ f. clash (cc)) refl)
          mk' (takes refl) (spoken refl refl (lw, Memᴰ.head (ap (λ (b : ℕ). m_accept b w) (sym rel'.joined))))
        where
          d : List ℕ
          d = join_all r'.vote.deps r'.replies

          w : Value
          w = val r'.vote.command d

          lw : length d ≡ 7
          lw = joins-seven r'.vote.deps r'.replies rel'.len

          each : (i : ℕ) → upd (within F fit (λ i. member i r'.set)) c true i ≡ true → ((i ≡ c) × Sub A.value w) ⊎ ((v : Value) × HasPre S A i v × Sub v w)
          each i t = ⊎_elim (λ e. inl (e, λ p lp. rw rel'.value (joins-own r'.vote.deps r'.replies p lp)))
              (λ h. inr ((a i).value, has i h.0 h.1, λ p lp. rw (rel'.added phase i h.0 h.1) (joins-each r'.vote.deps r'.replies i p lp)))
              (in_one F fit (λ i. member i r'.set) c i t)

      to-fast : r'.joined ≡ 0 → fast_enough n r' ≡ true → Goal (committing n c o j r')
      unfolding committing fast_enough matching
      to-fast at_zero e = moved (mk A.joined A.voted commit_vote A.value idle nobody A.replies) (m_commit A.value ∷ [])
          (fast-commit phase aj co (within F fit match) size out (λ i t. each i (ltb-lt i 7 (and_l _ (match i) t)) (and_r (ltb i 7) _ t)))
          (rel-begun F c (seven p) r'.joined _ r'.mark 0 _ rel'.joined rel'.voted refl rel'.value rel'.len refl (λ f. clash (cc)) refl)
          mk' (commits refl) (spoken refl refl (rel'.len, Memᴰ.head (ap m_commit (sym rel'.value))))
        where
          match : ℕ → Bool
          match q = member q r'.set && same_deps (added r' q) r'.vote.deps

          aj : A.joined ≡ 0
          aj = rel'.joined ∙ at_zero

          co : c ≡ o
          co = sym (rw (aj, lead-0 o) at ((local-now I c).when-pre-accepting phase).0)

          size : 2 * F ≤ suc (cnt n (within F fit match))
          size = omega (arith, leb-le (2 * faults n - 1) (ones (those match)) e, faults-n F, ones-those match, among F fit match (λ i li t. rel'.bound i li (and_l _ (same_deps (added r' i) r'.vote.deps) t)))

          out : within F fit match o ≡ false
          out = not-true (within F fit match o) (λ t. tf (member o r'.set) (and_l _ (same_deps (added r' o) r'.vote.deps) (and_r (ltb o 7) _ t)) (rw co at (rel'.self no1)))

          each : (i : ℕ) → i < 7 → match i ≡ true → HasPre S A i A.value
          each i li t =
              let m : member i r'.set ≡ true = and_l _ (same_deps (added r' i) r'.vote.deps) t in
              let d : added r' i ≡ r'.vote.deps = same_deps-eq (added r' i) r'.vote.deps (rel'.lens i) rel'.len (and_r (member i r'.set) _ t) in
              let p : (a i).value.deps ≡ A.value.deps = rel'.added phase i li m ∙ d ∙ sym (ap (λ (v : Value). v.deps) rel'.value) in
              let e : (a i).value ≡ A.value = (λ k. record { command = agreed i li m k; deps = p k }) in
              rw e at (has i li m)

      -- what follows once a reply is in
      pub on-replies : Goal (silent r') → Goal (pre_accepted_by n c o j r')
      unfolding pre_accepted_by slow_enough some_enough
      on-replies wait = by_cond Goal (eqb r'.joined 0)
          (λ z. by_cond Goal (fast_enough n r') (to-fast (eqb-eq _ _ z)) (λ e. by_cond Goal (slow_enough n r') (λ t. to-accepting (slow t)) (λ t. wait)))
          (λ z. by_cond Goal (some_enough n r') to-accepting (λ t. wait))
        where
          slow : slow_enough n r' ≡ true → some_enough n r' ≡ true
          slow t = ⊎_elim (λ h. and_l _ (different r') h) (λ h. leb-in (faults n) (ones r'.set) (omega (arith, leb-le (2 * faults n) (ones r'.set) h))) (or_cases (leb (faults n) (ones r'.set) && different r') _ t)

    -- F accepted what the lead accepted
    module _ (phase : A.phase ≡ accept_phase) (has : (i : ℕ) → i < 7 → member i r'.set ≡ true → HasAcc S A i) where
      to-slow : some_enough n r' ≡ true → Goal (committing n c o j r')
      unfolding committing
      to-slow e = moved (mk A.joined A.voted commit_vote A.value idle nobody A.replies) (m_commit A.value ∷ [])
          (slow-commit phase (upd (within F fit (λ i. member i r'.set)) c true) (enough (λ f. clash (cc phase)) e)
          (λ i t. ⊎_elim (λ h. inl h) (λ h. inr (has i h.0 h.1)) (in_one F fit (λ i. member i r'.set) c i t)))
          (rel-begun F c (seven p) r'.joined _ r'.mark 0 _ rel'.joined rel'.voted refl rel'.value rel'.len refl (λ f. clash (cc)) refl)
          mk' (commits refl) (spoken refl refl (rel'.len, Memᴰ.head (ap m_commit (sym rel'.value))))

  -- a reply that is looked at: its phase, its ballot, a new sender
  module _ (w : ℕ) (m : Message) (aw : awaited w r m ≡ true) where
    pub in-phase : phase_number A.phase ≡ w
    unfolding awaited
    in-phase = rel.phase ∙ eqb-eq _ _ (and_l _ (eqb r.joined m.ballot) (and_l _ (not (member m.from r.set)) aw))

    pub at-ballot : m.ballot ≡ A.joined
    unfolding awaited
    at-ballot = sym (rel.joined ∙ eqb-eq _ _ (and_r (eqb r.phase w) _ (and_l _ (not (member m.from r.set)) aw)))

    pub new-sender : member m.from r.set ≡ false
    unfolding awaited
    new-sender = not-not _ (and_r (eqb r.phase w && eqb r.joined m.ballot) _ aw)

  pub on-preacceptok : (m : Message) → m.from < n → (c ≡ m.from → ⊥) → length m.deps ≡ 7 → (k : Command) → Sent S (m_pre_accept_ok m.from m.ballot (val k m.deps))
      → Goal (on_pre_accept_ok n c o j r m)
  unfolding on_pre_accept_ok collect
  on-preacceptok m lq nc lm k sent = by_cond Goal (awaited 2 r m) (λ aw. go aw (phase-eq A.phase pre_accept_phase (in-phase 2 m aw)) (Memᴰ.cast (ap (λ (b : ℕ). m_pre_accept_ok m.from b (val k m.deps)) (sym (at-ballot 2 m aw))) sent))
      (λ aw. still p)
    where
      q : ℕ
      q = m.from

      a : ℕ → Reply
      a = upd A.replies q (record { voted = A.joined; status = pre_added; value = val k m.deps })

      old : (i : ℕ) → (i ≡ q → ⊥) → a i ≡ A.replies i
      old i n = upd-cases (λ (y : Reply). y ≡ A.replies i) A.replies q _ i (λ e. absurd (n e)) (λ e. refl)

      mine : a q ≡ record { voted = A.joined; status = pre_added; value = val k m.deps }
      mine = upd_same A.replies q _

      go : awaited 2 r m ≡ true → A.phase ≡ pre_accept_phase → Sent S (m_pre_accept_ok q A.joined (val k m.deps)) → Goal (pre_accepted_by n c o j (collect r q (added_vote m.deps)))
      go aw phase sent = on-replies (upd A.got q true) a (collect r q (added_vote m.deps)) rl refl phase has (moved _ [] (collect-pre q (val k m.deps) sent phase) rl refl (kept refl refl refl) (quiet (λ X. tt)))
        where
          nw : member q r.set ≡ false
          nw = new-sender 2 m aw

          rl : Rel F c (collect r q (added_vote m.deps)) (mk A.joined A.voted A.status A.value A.phase (upd A.got q true) a)
          rl = rel-collect F c (seven p) fit r A rel q lq nw (added_vote m.deps) a lm (λ e. clash (cc phase)) (λ e. ap (λ (x : Reply). x.value.deps) mine) old nc

          has : (i : ℕ) → i < 7 → member i (collect r q (added_vote m.deps)).set ≡ true → HasPre S A i (a i).value
          has i li t = ⊎_elim (λ e. inr (rw e (Memᴰ.cast (ap (λ (x : Reply). m_pre_accept_ok q A.joined x.value) mine) sent)))
              (λ h. inl (rel.got i li ∙ h.1, ap (λ (x : Reply). x.value) (sym (old i h.0))))
              (of-with F c (seven p) fit r A rel q lq nw (added_vote m.deps) i li t)

  pub on-acceptok : (m : Message) → m.from < n → (c ≡ m.from → ⊥) → Sent S (m_accept_ok m.from m.ballot) → Goal (on_accept_ok n c o j r m)
  unfolding on_accept_ok accepted_by collect
  on-acceptok m lq nc sent = by_cond Goal (awaited 3 r m)
      (λ aw. go aw (is-accphase A.phase (λ e. absurd (omega (arith, in-phase 3 m aw))) (λ e. absurd (omega (arith, in-phase 3 m aw))) (λ e. absurd (omega (arith, in-phase 3 m aw))))
      (Memᴰ.cast (ap (m_accept_ok m.from) (sym (at-ballot 3 m aw))) sent))
      (λ aw. still p)
    where
      q : ℕ
      q = m.from

      go : awaited 3 r m ≡ true → A.phase ≡ accept_phase → Sent S (m_accept_ok q A.joined) → Goal (accepted_by n c o j (collect r q no_vote))
      go aw phase sent = by_cond Goal (some_enough n (collect r q no_vote)) (to-slow (upd A.got q true) A.replies (collect r q no_vote) rl refl phase has)
          (λ t. moved _ [] (collect-acc q sent phase) rl refl (kept refl refl refl) (quiet (λ X. tt)))
        where
          nw : member q r.set ≡ false
          nw = new-sender 3 m aw

          rl : Rel F c (collect r q no_vote) (mk A.joined A.voted A.status A.value A.phase (upd A.got q true) A.replies)
          rl = rel-collect F c (seven p) fit r A rel q lq nw no_vote A.replies refl (λ e. clash (cc phase)) (λ e. clash (cc phase)) (λ i n. refl) nc

          has : (i : ℕ) → i < 7 → member i (collect r q no_vote).set ≡ true → HasAcc S A i
          has i li t = ⊎_elim (λ e. inr (rw e sent)) (λ h. inl (rel.got i li ∙ h.1)) (of-with F c (seven p) fit r A rel q lq nw no_vote i li t)

  pub on-nudge : nothing_to_nudge r ≡ false → Goal (nudge n c o j r)
  unfolding nudge again
  on-nudge nz = by_cond Goal (is_committed r) (λ e. tell-commit p e _) λ e.
      by_cond Goal (eqb r.phase 2 && eqb r.joined 0 && some_enough n r)
      (λ t. let phase : A.phase ≡ pre_accept_phase = phase-eq A.phase pre_accept_phase (rel.phase ∙ eqb-eq _ _ (and_l _ (eqb r.joined 0) (and_l _ (some_enough n r) t))) in
      to-accepting A.got A.replies r rel refl phase (λ i li m. inl (rel.got i li ∙ m, refl)) (and_r (eqb r.phase 2 && eqb r.joined 0) _ t))
      λ t. by_cond Goal (eqb r.phase 1) (λ p. same refl (quiet (λ X. tt))) λ p.
      by_cond Goal (eqb r.phase 2)
      (λ q. let phase : A.phase ≡ pre_accept_phase = phase-eq A.phase pre_accept_phase (rel.phase ∙ eqb-eq _ _ q) in
      moved A (m_pre_accept A.joined A.value ∷ []) (repeat _ (say-pre phase)) rel refl (kept refl refl refl) (spoken refl refl (rel.len, Memᴰ.head (λ i. m_pre_accept (sym rel.joined i) (sym rel.value i)))))
      (λ q. let phase : A.phase ≡ accept_phase = is-accphase A.phase (λ z. busy e (sym rel.phase ∙ z)) (λ z. eqb-ne r.phase 1 p (sym rel.phase ∙ z)) (λ z. eqb-ne r.phase 2 q (sym rel.phase ∙ z)) in
      moved A (m_accept A.joined A.value ∷ []) (repeat _ (say-acc phase)) rel refl (kept refl refl refl) (spoken refl refl (rel.len, Memᴰ.head (λ i. m_accept (sym rel.joined i) (sym rel.value i)))))
    where
      busy : is_committed r ≡ false → r.phase ≡ 0 → ⊥
      busy e z = tf (nothing_to_nudge r) (rw (e, eqb_same r.phase 0 z) refl) nz
