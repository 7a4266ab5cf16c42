-- A lead collects PrepareOK and, on F+1 replies, decides: a move of the model. Assumes nothing.
use Prim.Native.Nat.{ℕ, suc, ◌+◌, ◌*◌, ◌≤◌, ◌<◌}
use mathlib.Core.Path.{◌≡◌, refl, sym, ap, ◌∙◌}
use mathlib.Core.Logic.{◌⊎◌, inl, inr, ⊎_elim}
use mathlib.Core.Bool.{Bool, true, false}
use mathlib.Core.List.Memᴰ
use mathlib.Core.List.{List, [], ◌∷◌}
use native.Mathlib.Omega.{arith}
use lib.Count.{ones}
use lib.Dec.{ltb}
use lib.ListN.{length}
use Rattle.paper.specs.Setup.{faults}
use Rattle.paper.specs.Vote.{member}
use Rattle.paper.specs.Message.{vote_in}
use Rattle.paper.specs.declared.Command.{Command}
use Rattle.paper.specs.declared.Record.{Record}
use Rattle.paper.specs.declared.Message.{Message}
use Rattle.rules.specs.declared.Step.{Step}
use Rattle.rules.specs.Step.{collect, awaited}
use Rattle.rules.specs.Accepting.{accepting}
use Rattle.rules.specs.Afresh.{afresh}
use Rattle.rules.specs.PrepareOk.{told_by, afresh_command, accepted_from, decide, quorum, prepared_by, on_prepare_ok}
use Rattle.reach.proofs.Tests.{clash, tf, and_l, and_r, leb-le, ltb-lt, ltb-in, by_cond}
use Rattle.reach.proofs.Count.{cnt}
use Rattle.safety.proofs.Sets.{ones-cnt}
use Rattle.safety.proofs.Deps.{Under, under-refl}
use Rattle.safety.proofs.Value.{Value}
use Rattle.safety.proofs.Hist.{pre_received, accept_vote, Reply, Decided}
use Rattle.safety.proofs.Hist.{accept as o-accept, afresh as o-afresh}
use Rattle.safety.proofs.Sys.{preparing, pre_accept_phase, accept_phase, Rec, mk, m_pre_accept, m_accept, m_prepare_ok, upd, upd-cases, upd_same, nobody, Sent, HasPrep, collect-prep, decide-accept, decide-afresh}
use Rattle.safety.proofs.Rel.{phase-eq, val, value_of, Tells, Rel, rel-begun, quiet, spoken, kept, takes, counts, moved, Spot, Ref, seven, still}
use Rattle.safety.proofs.Rel.Collect.{among, of-with, rel-collect}
use Rattle.safety.proofs.Rel.Decide.{Q, chosen}
use Rattle.safety.proofs.Rel.Leads.{faults-n, in-phase, at-ballot, new-sender}

module _ (p : Spot) where
  open p use {F, o, j, c, Cov, fit, pos, lo, lc, S, I, r, rel}

  abbrev A : Rec
  A = S.now c

  abbrev n : ℕ
  n = suc (2 * F)

  abbrev Goal : Step → Type 0
  Goal = Ref p

  module _ (seen : Command → List ℕ) (ls : (k : Command) → length (seen k) ≡ 7) (cov : (k : Command) (d : List ℕ) → Under (seen k) d → Cov (val k d)) where
    -- with replies that each tell what is known of a copy
    module _ (g : ℕ → Bool) (a : ℕ → Reply) (r' : Record) (rel' : Rel F c r' (mk A.joined A.voted A.status A.value A.phase g a)) (mk' : r'.mark ≡ r.mark)
        (phase : A.phase ≡ preparing) (has : (i : ℕ) → i < 7 → member i r'.set ≡ true → HasPrep S A i (a i)) where
      abbrev P : ℕ → Bool
      P = Q F o fit pos lo r' a rel'.bound (rel'.told phase)

      enough : quorum n r' ≡ true → suc F ≤ cnt n P
      unfolding quorum
      enough e = omega (arith, leb-le (faults n + 1) (ones r'.set) e, faults-n F, ones-cnt r'.set rel'.small, among F fit (λ i. member i r'.set) rel'.bound)

      each : (i : ℕ) → P i ≡ true → HasPrep S A i (a i)
      each i t = has i (ltb-lt i 7 (and_l _ (member i r'.set) t)) (and_r (ltb i 7) _ t)

      to-decided : quorum n r' ≡ true → Goal (decide n c o j r' (seen (afresh_command r')))
      unfolding decide accepting afresh
      to-decided e = go (chosen F o fit pos lo r' a rel'.bound (rel'.told phase))
        where
          go : ((accepted_from n o r' < 7) × Decided F o P a (o-accept (value_of (told_by r' (accepted_from n o r'))))) ⊎ ((accepted_from n o r' ≡ 7) × Decided F o P a (o-afresh (afresh_command r')))
              → Goal (decide n c o j r' (seen (afresh_command r')))
          go (inl (l, d)) = by_cond Goal (ltb (accepted_from n o r') 7)
              (λ t. moved (mk A.joined A.joined accept_vote v accept_phase nobody A.replies) (m_accept A.joined v ∷ [])
              (decide-accept v phase P a (enough e) each d)
              (rel-begun F c (seven p) r'.joined _ r'.mark 3 _ rel'.joined rel'.joined refl refl (rel'.lens (accepted_from n o r')) refl (λ f. clash (cc)) refl)
              mk' (takes refl) (spoken refl refl (rel'.lens (accepted_from n o r'), Memᴰ.head (ap (λ (b : ℕ). m_accept b v) (sym rel'.joined)))))
              (λ t. tf (ltb (accepted_from n o r') 7) (ltb-in _ _ l) t)
            where
              v : Value
              v = value_of (told_by r' (accepted_from n o r'))
          go (inr (q, d)) = by_cond Goal (ltb (accepted_from n o r') 7) (λ t. absurd (omega (arith, ltb-lt (accepted_from n o r') 7 t)))
              (λ t. moved (mk A.joined A.joined pre_received v pre_accept_phase nobody A.replies) (m_pre_accept A.joined v ∷ [])
              (decide-afresh (afresh_command r') v phase P a (enough e) each d refl)
              (rel-begun F c (seven p) r'.joined _ r'.mark 2 _ rel'.joined rel'.joined refl refl (ls (afresh_command r')) refl (λ f. clash (cc)) refl)
              mk' (counts (cov (afresh_command r') (seen (afresh_command r')) (under-refl (seen (afresh_command r')))))
              (spoken refl refl (ls (afresh_command r'), Memᴰ.head (ap (λ (b : ℕ). m_pre_accept b v) (sym rel'.joined)))))
            where
              v : Value
              v = val (afresh_command r') (seen (afresh_command r'))

    pub on-prepareok : (m : Message) → m.from < n → (c ≡ m.from → ⊥) → length m.deps ≡ 7 → (x : Reply) → Tells (vote_in m) x → Sent S (m_prepare_ok m.from m.ballot x)
        → Goal (on_prepare_ok n c o j r m seen)
    unfolding on_prepare_ok prepared_by collect
    on-prepareok m lq nc lm x tl sent = by_cond Goal (awaited 1 r m)
        (λ aw. go aw (phase-eq A.phase preparing (in-phase p 1 m aw)) (Memᴰ.cast (ap (λ (b : ℕ). m_prepare_ok m.from b x) (sym (at-ballot p 1 m aw))) sent))
        (λ aw. still p)
      where
        q : ℕ
        q = m.from

        a : ℕ → Reply
        a = upd A.replies q x

        old : (i : ℕ) → (i ≡ q → ⊥) → a i ≡ A.replies i
        old i n = upd-cases (λ (y : Reply). y ≡ A.replies i) A.replies q x i (λ e. absurd (n e)) (λ e. refl)

        go : awaited 1 r m ≡ true → A.phase ≡ preparing → Sent S (m_prepare_ok q A.joined x) → Goal (prepared_by n c o j (collect r q (vote_in m)) seen)
        go aw phase sent = by_cond Goal (quorum n (collect r q (vote_in m))) (to-decided (upd A.got q true) a (collect r q (vote_in m)) rl refl phase has)
            (λ t. moved _ [] (collect-prep q x sent phase) rl refl (kept refl refl refl) (quiet (λ X. tt)))
          where
            nw : member q r.set ≡ false
            nw = new-sender p 1 m aw

            rl : Rel F c (collect r q (vote_in m)) (mk A.joined A.voted A.status A.value A.phase (upd A.got q true) a)
            rl = rel-collect F c (seven p) fit r A rel q lq nw (vote_in m) a lm (λ e. rw (upd_same A.replies q x) tl) (λ e. clash (cc phase)) old nc

            has : (i : ℕ) → i < 7 → member i (collect r q (vote_in m)).set ≡ true → HasPrep S A i (a i)
            has i li t = ⊎_elim (λ e. inr (rw e (rw (upd_same A.replies q x) sent))) (λ h. inl (rel.got i li ∙ h.1, sym (old i h.0)))
                (of-with F c (seven p) fit r A rel q lq nw (vote_in m) i li t)
