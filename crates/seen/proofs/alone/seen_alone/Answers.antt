use Rattle.seen.proofs.alone.seen_alone.Goals as goal

pub returns : goal.returns
returns c = cc
