use Rattle.table.proofs.Mark.{mark-put}
use Rattle.table.proofs.records.put_mark.Goals as goal

pub returns : goal.returns
returns c =
    let e = c in
    mark-put e.args.n e.args.s e.args.t.now e.args.o e.args.j e.requires.0 e.requires.1 c.place_of-at.ensures.0
