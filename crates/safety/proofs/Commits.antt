-- What is committed in a state of a run: one value, requested, covering, and never refused. Assumes nothing.
use Prim.Native.Nat.{ℕ, ◌<◌}
use mathlib.Core.Path.{◌≡◌, refl, sym, ap, subst, ◌∙◌}
use mathlib.Core.Logic.{◌⊎◌, inl, inr, ⊎_elim}
use mathlib.Core.Bool.{Bool, true, false, ◌&&◌, not}
use mathlib.Core.List.{List, Memᴰ}
use native.Mathlib.Omega.{arith}
use native.Mathlib.Decide.{dec_lt}
use lib.Dec.{eqb}
use lib.ListN.{get_or}
use Rattle.paper.specs.Instance.{instance_ok}
use Rattle.paper.specs.Command.{noop, is_noop, interfere, same_command}
use Rattle.paper.proofs.Laws.{same_command-refl}
use Rattle.paper.specs.Deps.{covers, same_deps}
use Rattle.paper.specs.Message.{is_commit, command_in}
use Rattle.paper.specs.Valid.{valid}
use Rattle.paper.proofs.Bodies.{commit-is}
use Rattle.paper.specs.declared.Command.{Command}
use Rattle.paper.specs.declared.Record.{Record}
use Rattle.paper.specs.declared.Message.{Message}
use Rattle.paper.specs.declared.Body.{Body}
use Rattle.paper.specs.declared.Body.TheVariants.{Commit}
use Rattle.rules.specs.Step.{is_committed}
use Rattle.rules.specs.Commit.{differs}
use Rattle.rules.specs.Received.{conflict}
use Rattle.safety.specs.Run.{State, requested}
use Rattle.safety.specs.Demand.{Committed}
use Rattle.reach.proofs.Tests.{clash, tf, bool, and_l, and_r, and_in, not-true, eqb-eq, eqb_same, leb-in}
use Rattle.safety.proofs.Deps.{same-deps-refl}
use Rattle.safety.proofs.Value.{Value, cmd}
use Rattle.safety.proofs.Case.{Case, copies, code, code-owner, code-number, own, Req, Cover, range}
use Rattle.safety.proofs.Hist.{commit_vote}
use Rattle.safety.proofs.Sys.{Rec, Sys, m_commit}
use Rattle.safety.proofs.Inv.{Reason}
use Rattle.safety.proofs.Older.{Le, le_same, le-new, le-com}
use Rattle.safety.proofs.Inv.Facts.{now-in}
use Rattle.safety.proofs.Inv.Multi.{agree, covered, alone}
use Rattle.safety.proofs.Inv.Valid.{all_valid}
use Rattle.safety.proofs.Rel.{status_number, status-eq, val, value_of, Means}
use Rattle.safety.proofs.Received.{Fit, fits}
use Rattle.safety.proofs.Sim.{Tie, Next, inv, rel-at, reached}

-- copy a has o.j committed with value v, in the model
pub record Com (C : Case) (G : ℕ → Sys) (a o j : ℕ) (v : Value) : Type 0 where
  pub copy : a < copies C
  pub inst : instance_ok (copies C) C.s o j ≡ true
  pub status : ((G (code o j)).now a).status ≡ commit_vote
  pub value : ((G (code o j)).now a).value ≡ v

-- a committed value stays
le-keeps : {R S : Rec} → Le R S → R.status ≡ commit_vote → (S.status ≡ commit_vote) × (R.value ≡ S.value)
le-keeps (le_same a b c d) e = (sym c ∙ e, d)
le-keeps (le-new a b c d f) e = absurd (d e)
le-keeps (le-com a b) e = absurd (a e)

module _ {C : Case} {z : State} (t : Tie C z) where
  open C use {F, s, fit, pos}
  open t use {G, none, msgs}

  abbrev n : ℕ
  n = copies C

  pub com-in : (a o j : ℕ) (k : Command) (d : List ℕ) → Committed z a o j k d → Com C G a o j (val k d)
  com-in a o j k d h = go (dec_lt a n) (bool (instance_ok n s o j))
    where
      four : (z.tables a o j).vote.status ≡ 4
      four = eqb-eq (z.tables a o j).vote.status 4 h.status

      never : ((a < n) × (instance_ok n s o j ≡ true) → ⊥) → ⊥
      never q = omega (arith, four, none a o j q)

      go : Dec (a < n) → (instance_ok n s o j ≡ true) ⊎ (instance_ok n s o j ≡ false) → Com C G a o j (val k d)
      go (no q) b = absurd (never (λ e. q e.0))
      go (yes q) (inr b) = absurd (never (λ e. tf (instance_ok n s o j) e.1 b))
      go (yes q) (inl b) =
          let r = rel-at t a o j q (range n s o j b).0 in
          record { copy = q; inst = b; status = status-eq _ commit_vote (r.status ∙ four); value = r.value ∙ (λ i. val (h.command i) (h.deps i)) }

  pub in-com : (a o j : ℕ) (k : Command) (d : List ℕ) → Com C G a o j (val k d) → Committed z a o j k d
  in-com a o j k d h =
      let r = rel-at t a o j h.copy (range n s o j h.inst).0 in
      let e : value_of (z.tables a o j).vote ≡ val k d = sym r.value ∙ h.value in
      record { status = eqb_same (z.tables a o j).vote.status 4 (sym r.status ∙ ap status_number h.status); command = ap cmd e; deps = ap (λ (v : Value). v.deps) e }

  -- a commit at z is one later on
  pub com-stays : {y : State} (m : Next t y) (a o j : ℕ) (v : Value) → Com C G a o j v → Com C m.tie.G a o j v
  com-stays m a o j v h = let (e, q) = le-keeps (m.grow (code o j) a) h.status in record { copy = h.copy; inst = h.inst; status = e; value = sym q ∙ h.value }

  abbrev pub Evidence : ℕ → Value → Type 0
  Evidence J v = Reason F (own C J) (G J) v

  pub evidence : (a o j : ℕ) (v : Value) → Com C G a o j v → Evidence (code o j) v
  evidence a o j v h =
      rw h.value at ((inv t (code o j)).reasons a ((G (code o j)).now a) (now-in (inv t (code o j)) a (λ e. clash (cc h.status))) h.status)

  pub one_value : (J : ℕ) (v w : Value) → Evidence J v → Evidence J w → v ≡ w
  one_value J v w p q = agree C (reached t) J v w p q

  pub asked-for : (a o j : ℕ) (k : Command) (d : List ℕ) → Com C G a o j (val k d) → (is_noop k ≡ true) ⊎ Memᴰ (requested o j k) C.past
  asked-for a o j k d h = go (rw h.value at (all_valid F (own C (code o j)) (Req C (code o j)) pos (alone C (reached t) (code o j)) a ((G (code o j)).now a)
      (now-in (inv t (code o j)) a (λ e. clash (cc h.status))) (λ e. clash (cc h.status))))
    where
      go : (k ≡ noop) ⊎ Req C (code o j) k → (is_noop k ≡ true) ⊎ Memᴰ (requested o j k) C.past
      go (inl e) = inl (rw e refl)
      go (inr m) = let lo = (range n s o j h.inst).0 in inr (rw (code-owner o j (omega arith), code-number o j (omega arith)) at m)

  -- dependencies that reach as far as p.i cover it
  covers-in : (o j p i : ℕ) (k : Command) (d : List ℕ) → ((o ≡ p) × (j ≡ i) → ⊥) → p < n → Cover C (val k d) (code p i) → covers o j d p i ≡ true
  unfolding covers
  covers-in o j p i k d ne lp c =
      let ep = code-owner p i (omega arith) in
      let ei = code-number p i (omega arith) in
      and_in _ _ (and_in (not (eqb p o && eqb i j)) _ (rw apart refl) (leb-in 1 i (rw ei at c.first))) (leb-in i (get_or d p 0) (rw (ep, ei) at c.far))
    where
      apart : (eqb p o && eqb i j) ≡ false
      apart = not-true (eqb p o && eqb i j) (λ e. ne (sym (eqb-eq p o (and_l _ (eqb i j) e)), sym (eqb-eq i j (and_r (eqb p o) _ e))))

  pub one_covers : (a b o j p i : ℕ) (k l : Command) (d e : List ℕ) → ((o ≡ p) × (j ≡ i) → ⊥) → Com C G a o j (val k d) → Com C G b p i (val l e) → interfere k l ≡ true
      → (covers o j d p i ≡ true) ⊎ (covers p i e o j ≡ true)
  one_covers a b o j p i k l d e ne h g it =
      let lo = (range n s o j h.inst).0 in
      let lp = (range n s p i g.inst).0 in
      ⊎_elim (λ c. inl (covers-in o j p i k d ne lp c)) (λ c. inr (covers-in p i o j l e (λ q. ne (sym q.0, sym q.1)) lo c))
      (covered C (reached t) (code o j) (code p i) (λ q. ne (apart lo lp q)) (val k d) (val l e) (evidence a o j (val k d) h) (evidence b p i (val l e) g) it)
    where
      apart : o < n → p < n → code o j ≡ code p i → (o ≡ p) × (j ≡ i)
      apart lo lp q = (omega arith, omega arith)

  pub never-differs : (c : ℕ) (m : Message) → Memᴰ m z.sent → valid n s c m ≡ true → conflict (z.tables c m.owner m.number) m m.body ≡ false
  unfolding conflict differs
  never-differs c m h v = by m.body (msgs m h f.inst)
    where
      f : Fit n s c m
      f = fits n s c m v

      o : ℕ
      o = m.owner

      j : ℕ
      j = m.number

      r : Record
      r = z.tables c o j

      final : (k : Command) → Means (G (code o j)) m (Commit k) → differs r m k ≡ false
      final k (l, w) = go (is_committed r) refl
        where
          go : (b : Bool) → is_committed r ≡ b → (b && not (same_command k r.vote.command && same_deps m.deps r.vote.deps)) ≡ false
          go false e = refl
          go true e =
              let g = com-in c o j r.vote.command r.vote.deps (record { status = e; command = refl; deps = refl }) in
              let q : val k m.deps ≡ value_of r.vote = one_value (code o j) (val k m.deps) (value_of r.vote) ((inv t (code o j)).msgs (m_commit (val k m.deps)) w) (evidence c o j (value_of r.vote) g) in
              rw (ap (same_command k) (sym (ap cmd q)) ∙ same_command-refl k, same-deps-refl m.deps r.vote.deps (ap (λ (u : Value). u.deps) q)) refl

      by : (b : Body) → Means (G (code o j)) m b → conflict r m b ≡ false
      by b w = which (is_commit b) refl
        where
          which : (x : Bool) → is_commit b ≡ x → (x && differs r m (command_in b)) ≡ false
          which false e = refl
          which true e = final (command_in b) (subst (λ (y : Body). Means (G (code o j)) m y) (commit-is b e) w)
