use Rattle.std.proofs.Common.{◌≡◌, ℕ, List, sym, ap, ◌∙◌}
use Rattle.paper.specs.declared.Command.{Command}
use Rattle.paper.specs.declared.Record.{Record}
use Rattle.paper.specs.declared.Message.{Message}
use Rattle.paper.specs.declared.Body.{Body}
use Rattle.rules.specs.declared.Step.{Step}
use Rattle.rules.specs.Received.{by_kind, receive}
use Rattle.receive.proofs.by_kind.receive.Goals as goal

-- the rule of the body that m has
with_body : (n c : ℕ) (seen : Command → List ℕ) (r : Record) (m : Message) {x : Step} (b : Body) → m.body ≡ b → x ≡ by_kind n c m.owner m.number seen r m b → x ≡ receive n c seen r m
with_body n c seen r m b e f = f ∙ ap (λ (z : Body). by_kind n c m.owner m.number seen r m z) (sym e)

pub returns-in-PreAccept : goal.returns-in-PreAccept
unfolding by_kind
returns-in-PreAccept c = with_body _ _ _ _ _ _ c.in-PreAccept.is c.on_proposal.ensures

pub returns-in-PreAcceptOk : goal.returns-in-PreAcceptOk
unfolding by_kind
returns-in-PreAcceptOk c = with_body _ _ _ _ _ _ c.in-PreAcceptOk.is c.on_pre_accept_ok.ensures

pub returns-in-Accept : goal.returns-in-Accept
unfolding by_kind
returns-in-Accept c = with_body _ _ _ _ _ _ c.in-Accept.is c.accept.ensures

pub returns-in-AcceptOk : goal.returns-in-AcceptOk
unfolding by_kind
returns-in-AcceptOk c = with_body _ _ _ _ _ _ c.in-AcceptOk.is c.on_accept_ok.ensures

pub returns-in-Commit : goal.returns-in-Commit
unfolding by_kind
returns-in-Commit c = with_body _ _ _ _ _ _ c.in-Commit.is c.commit.ensures

pub returns-in-Prepare : goal.returns-in-Prepare
unfolding by_kind
returns-in-Prepare c = with_body _ _ _ _ _ _ c.in-Prepare.is c.prepare.ensures

pub returns-in-PrepareOk : goal.returns-in-PrepareOk
unfolding by_kind
returns-in-PrepareOk c = with_body _ _ _ _ _ _ c.in-PrepareOk.is c.on_prepare_ok.ensures

pub returns-in-Nack : goal.returns-in-Nack
unfolding by_kind
returns-in-Nack c = with_body _ _ _ _ _ _ c.in-Nack.is c.nack.ensures
