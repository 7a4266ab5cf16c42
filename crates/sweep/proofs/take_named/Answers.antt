use native.Mathlib.Omega.{arith}
use Rattle.sweep.proofs.Named.{wrote-same, named_none, named-taken}
use Rattle.sweep.proofs.take_named.Goals as goal

pub returns-then-entry-eq0 : goal.returns-then-entry-eq0
returns-then-entry-eq0 c =
    let m = c in
    let e = m in
    record { row = named_none e.args.n e.args.g.now e.args.q _ _ m.mark_at-entry.ensures c.if-entry-eq0.true; wrote = wrote-same _ _ e.requires.1.long }

pub returns : goal.returns
returns c =
    let t = c in
    let l = t in
    let m = l in
    let e = m in
    record { row = named-taken e.args.n e.args.g.now e.args.q _ _ e.requires.0.owner m.mark_at-entry.ensures (omega (arith, l.if-entry-eq0.false)) t.slot_of.ensures.0 t.take_row.ensures.row; wrote = t.take_row.ensures.wrote }
