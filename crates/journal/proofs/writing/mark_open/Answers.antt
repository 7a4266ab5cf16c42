use mathlib.Core.Path.{sym, ◌∙◌}
use native.Mathlib.Omega.{arith}
use Rattle.entries.proofs.Written.{enters-has, enters-small, mark-unsound, mark-put}
use Rattle.journal.proofs.writing.mark_open.Goals as goal

pub handed_out-requires : goal.handed_out-requires
handed_out-requires c = enters-has _ _ _ _ _ _ _ _ c.requires

pub returns-then-not-handed_out : goal.returns-then-not-handed_out
returns-then-not-handed_out c = mark-unsound _ _ _ _ _ (sym c.handed_out.ensures ∙ c.if-not-handed_out.true)

pub write_head-requires : goal.write_head-requires
write_head-requires c = let a = enters-small _ _ _ _ _ _ _ _ c.requires in (c.requires.room, omega (arith, c.number.ensures, c.from.ensures), a.0, a.1)

pub returns : goal.returns
returns c = mark-put _ _ _ _ _ (sym c.handed_out.ensures ∙ c.if-not-handed_out.false) (rw (c.from.ensures, c.number.ensures) at c.write_head.ensures)
