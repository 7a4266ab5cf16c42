-- What a valid message says of itself, by its body. Assumes nothing.
use Prim.Native.Nat.{ℕ, ◌^◌, ◌<◌}
use mathlib.Core.Path.{◌≡◌, ◌∙◌}
use mathlib.Core.Bool.{true, false}
use lib.Dec.{leb, ltb, eqb}
use borrow.Author.Tests.{ltb-true, eqb-true, eqb-false, not-true}
use Rattle.paper.specs.Logic.{implies}
use Rattle.paper.specs.Instance.{instance_ok}
use Rattle.paper.specs.Command.{command_ok}
use Rattle.paper.specs.Deps.{deps_ok}
use Rattle.paper.specs.Ballot.{ballot_ok, lead}
use Rattle.paper.specs.Vote.{member, told_ok}
use Rattle.paper.specs.Message.{row_in, said_in, carried_in, command_in, voted_in, status_in, joined_in, vote_in, is_word, is_recovery}
use Rattle.paper.specs.Valid.{valid}
use Rattle.paper.specs.declared.Record.{Record}
use Rattle.paper.specs.declared.Body.{Body}
use Rattle.paper.specs.declared.Message.{Message}
use Rattle.rules.specs.Step.{awaited}
use Rattle.paper.specs.Fits.{DepsFit, CarriedFits, MessageFits}
use Rattle.paper.proofs.Bodies.{said-role, said-ballots, said-told, said-joined}
use Rattle.paper.proofs.Valid.{clauses-of, told_of}
use Rattle.closed.proofs.Laws.{both, three}
use Rattle.closed.proofs.Votes.{vote-is}

-- of a message about an instance of owner o, with body x
pub record Heard (n s c o : ℕ) (m : Message) (x : Body) : Type 0 where
  pub from : m.from < n
  pub other : m.from ≡ c → ⊥
  pub ballot : ballot_ok n m.ballot ≡ true
  pub recovery : implies (is_recovery (said_in x).ballots) (leb 8 m.ballot) ≡ true
  pub lead : implies (is_word (said_in x).role) (eqb m.from (lead o m.ballot)) ≡ true
  pub command : command_ok (command_in x) ≡ true
  pub deps : deps_ok n s m.deps ≡ true
  pub joined : ballot_ok n (joined_in x) ≡ true
  pub told : (said_in x).parts.told ≡ true → told_ok n s m.ballot (record { voted = voted_in x; status = status_in x; command = command_in x; deps = m.deps }) ≡ true
  pub above : implies (said_in x).parts.joined (ltb m.ballot (joined_in x)) ≡ true
  pub ballot_fits : m.ballot < 256 ^ 4
  pub body_fits : CarriedFits (carried_in x)
  pub deps_fit : DepsFit m.deps

pub heard : (n s c : ℕ) (m : Message) → valid n s c m ≡ true → MessageFits m → Heard n s c m.owner m m.body
heard n s c m v g =
    let k = clauses-of n s c m v in
    let vote = vote-is n s 3 (vote_in m) k.vote in
    record {
      from = ltb-true _ _ k.from;
      other = eqb-false _ _ (not-true _ k.another);
      ballot = k.ballot;
      recovery = rw (← said-ballots m.body) k.recovery;
      lead = rw (← said-role m.body) k.lead;
      command = vote.command;
      deps = vote.deps;
      joined = k.joined;
      told = λ e. told_of n s c (row_in m.body) m (vote_in m) (joined_in m.body) k (said-told m.body ∙ e);
      above = rw (← said-joined m.body) k.above;
      ballot_fits = g.ballot;
      body_fits = g.body;
      deps_fit = g.deps;
    }

-- its instance is in range
pub valid-instance : (n s c : ℕ) (m : Message) → valid n s c m ≡ true → instance_ok n s m.owner m.number ≡ true
unfolding instance_ok
valid-instance n s c m v = let k = clauses-of n s c m v in both _ _ k.owner k.number

-- a reply that is looked at comes in its phase, at its ballot, from a copy that had not replied
pub awaited-is : (p : ℕ) (r : Record) (m : Message) → awaited p r m ≡ true → (r.phase ≡ p) × (r.joined ≡ m.ballot) × (member m.from r.set ≡ false)
unfolding awaited
awaited-is p r m h = let (a, b, c) = three _ _ _ h in (eqb-true _ _ a, eqb-true _ _ b, not-true _ c)
