use Rattle.receive.proofs.by_kind.on_proposal.Goals as goal

pub returns : goal.returns
returns c = cc
