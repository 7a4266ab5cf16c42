-- A valid message, by its kind: a move of the model. Assumes nothing.
use Prim.Native.Nat.{ℕ, suc, ◌*◌, ◌<◌}
use mathlib.Core.Path.{◌≡◌, refl, sym, subst, ◌∙◌}
use mathlib.Core.Bool.{true}
use mathlib.Core.List.{List}
use lib.ListN.{length}
use Rattle.paper.specs.Instance.{instance_ok}
use Rattle.paper.specs.Ballot.{lead}
use Rattle.paper.specs.Message.{row_of, said_in, joined_in}
use Rattle.paper.proofs.Bodies.{said-role, said-joined}
use Rattle.paper.specs.Valid.{valid, from_lead, joined_above}
use Rattle.paper.proofs.Valid.{clauses-of}
use Rattle.paper.specs.declared.Command.{Command}
use Rattle.paper.specs.declared.Message.{Message}
use Rattle.paper.specs.declared.Body.{Body}
use Rattle.paper.specs.declared.Body.TheVariants.{PreAccept, PreAcceptOk, Accept, AcceptOk, Commit, Prepare, PrepareOk, Nack}
use Rattle.rules.specs.Received.{by_kind}
use Rattle.reach.proofs.Tests.{and_in, not-not, eqb-eq, eqb-ne, ltb-lt}
use Rattle.safety.proofs.Deps.{Under}
use Rattle.safety.proofs.Rel.{val, Means, Spot, Ref}
use Rattle.safety.proofs.Rel.Votes.{on-prepare, on-preaccept, on-accept, on-commit, on-nack}
use Rattle.safety.proofs.Rel.Leads.{on-preacceptok, on-acceptok}
use Rattle.safety.proofs.Rel.Prepared.{on-prepareok}

-- what a valid message says of itself
pub record Fit (n s c : ℕ) (m : Message) : Type 0 where
  pub from : m.from < n
  pub inst : instance_ok n s m.owner m.number ≡ true
  pub other : c ≡ m.from → ⊥
  pub lead : from_lead (said_in m.body) m ≡ true
  pub above : joined_above (said_in m.body) m (joined_in m.body) ≡ true

pub fits : (n s c : ℕ) (m : Message) → valid n s c m ≡ true → Fit n s c m
unfolding instance_ok
fits n s c m v =
    let k = clauses-of n s c m v in
    record {
      from = ltb-lt _ _ k.from;
      inst = and_in _ _ k.owner k.number;
      other = λ e. eqb-ne m.from c (not-not _ k.another) (sym e);
      lead = rw (← said-role m.body) k.lead;
      above = rw (← said-joined m.body) k.above;
    }

module _ (p : Spot) where
  open p use {F, o, j, c, Cov, S, r}

  module _ (seen : Command → List ℕ) (ls : (k : Command) → length (seen k) ≡ 7) (cov : (k : Command) (d : List ℕ) → Under (seen k) d → Cov (val k d)) where
    -- the parts of a message but its body
    module _ (from to b : ℕ) (d : List ℕ) (s : ℕ) where
      abbrev msg : Body → Message
      msg x = record { from = from; to = to; owner = o; number = j; ballot = b; body = x; deps = d }

      not-lead : from ≡ lead o b → (c ≡ from → ⊥) → lead o b ≡ c → ⊥
      not-lead e n z = n (sym (e ∙ z))

      on-body : (x : Body) → Fit (suc (2 * F)) s c (msg x) → Means S (msg x) x → Ref p (by_kind (suc (2 * F)) c o j seen r (msg x) x)
      unfolding by_kind row_of
      on-body (PreAccept k) f (l, t) = on-preaccept p (msg (PreAccept k)) k (not-lead (eqb-eq _ _ f.lead) f.other) l t (seen k) (cov k)
      on-body PreAcceptOk f (l, (k, t)) = on-preacceptok p (msg PreAcceptOk) f.from f.other l k t
      on-body (Accept k) f (l, t) = on-accept p (msg (Accept k)) k (not-lead (eqb-eq _ _ f.lead) f.other) l t
      on-body AcceptOk f t = on-acceptok p (msg AcceptOk) f.from f.other t
      on-body (Commit k) f (l, t) = on-commit p (msg (Commit k)) k l t
      on-body Prepare f t = on-prepare p (msg Prepare)
      on-body (PrepareOk v t k) f (l, (u, e, q)) = on-prepareok p seen ls cov (msg (PrepareOk v t k)) f.from f.other l
          (record { voted = v; status = u; value = val k d }) (record { voted = refl; status = e; value = refl }) q
      on-body (Nack x) f t = on-nack p (msg (Nack x)) x (ltb-lt _ _ f.above)

    -- a valid message of o.j
    pub on-received : (s : ℕ) (m : Message) → m.owner ≡ o → m.number ≡ j → Fit (suc (2 * F)) s c m → Means S m m.body → Ref p (by_kind (suc (2 * F)) c o j seen r m m.body)
    on-received s m owner-is number_is f t =
        subst (λ (y : Message). Fit (suc (2 * F)) s c y → Means S y m.body → Ref p (by_kind (suc (2 * F)) c o j seen r y m.body))
        (λ i. record { from = m.from; to = m.to; owner = sym owner-is i; number = sym number_is i; ballot = m.ballot; body = m.body; deps = m.deps })
        (on-body m.from m.to m.ballot m.deps s m.body) f t
