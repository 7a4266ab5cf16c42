use mathlib.Core.Path.{sym, ap, ◌∙◌}
use Rattle.paper.specs.Vote.{member}
use Rattle.record.proofs.Laws.{reply_part-op, reply_part-in, reply_part-out}
use Rattle.record.proofs.reply_part.Goals as goal

pub returns-then-not-op_fits : goal.returns-then-not-op_fits
returns-then-not-op_fits c = reply_part-op _ _ _ _ _ c.requires.1 (sym c.op_fits.ensures ∙ c.if-not-op_fits.true)

pub returns-then-member : goal.returns-then-member
returns-then-member c =
    let e = c in
    let p = sym c.op_fits.ensures ∙ c.if-not-op_fits.false in
    let m = ap (member e.args.q) (sym c.get-set.ensures) ∙ sym c.member.ensures ∙ c.if-member.true in
    let r = reply_part-in e.args.n e.args.s e.args.c e.args.b.now e.args.q e.requires.1 p m in
    cc (r, c.collected_ok.ensures, c.get-phase.ensures, c.read_vote-own.ensures, c.get-joined.ensures, c.read_vote-v.ensures)

pub returns : goal.returns
returns c =
    let e = c in
    let p = sym c.op_fits.ensures ∙ c.if-not-op_fits.false in
    let m = ap (member e.args.q) (sym c.get-set.ensures) ∙ sym c.member.ensures ∙ c.if-member.false in
    let r = reply_part-out e.args.n e.args.s e.args.c e.args.b.now e.args.q e.requires.1 p m in
    cc (r, c.same_vote.ensures, c.no_vote.ensures, c.read_vote-v.ensures)
