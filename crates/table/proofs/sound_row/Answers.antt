use mathlib.Core.Path.{sym, ◌∙◌}
use native.Mathlib.Omega.{arith}
use Rattle.table.proofs.Walk.{row-start, row-names, row-past, row_next, past-few, left_false, left-none}
use Rattle.table.proofs.sound_row.Goals as goal

pub loop-left-init : goal.loop-left-init
loop-left-init c = row-start _ _ _ _ _ c.requires

pub past_idle-left-requires : goal.past_idle-left-requires
past_idle-left-requires c = let j = c.loop-left.invariant in (row-names _ _ _ _ _ _ j c.loop-left-test.true, j.row.sizes.long)

pub returns-then-left-eq0 : goal.returns-then-left-eq0
returns-then-left-eq0 c = let j = row-past _ _ _ _ _ _ c.loop-left.invariant c.past_idle-left.ensures in left-none _ _ j.so c.if-left-eq0.true

pub record_sound-requires : goal.record_sound-requires
record_sound-requires c = let j = row-past _ _ _ _ _ _ c.loop-left.invariant c.past_idle-left.ensures in (j.row.sizes, row-names _ _ _ _ _ _ j (omega (arith, c.if-left-eq0.false)))

pub returns-then-not-record_sound : goal.returns-then-not-record_sound
returns-then-not-record_sound c = let j = row-past _ _ _ _ _ _ c.loop-left.invariant c.past_idle-left.ensures in left_false _ _ j.so (omega (arith, c.if-left-eq0.false)) (sym c.record_sound.ensures ∙ c.if-not-record_sound.true)

pub overflow_sub-left : goal.overflow_sub-left
overflow_sub-left c = omega arith

pub loop-left-smaller : goal.loop-left-smaller
loop-left-smaller c = let a = c.args in let f = past-few a.n a.s a.t.now a.o c.loop-left.left in omega (arith, f, c.past_idle-left.ensures, c.if-left-eq0.false)

pub loop-left-preserved : goal.loop-left-preserved
loop-left-preserved c = let j = row-past _ _ _ _ _ _ c.loop-left.invariant c.past_idle-left.ensures in row_next _ _ _ _ _ _ j (omega (arith, c.if-left-eq0.false)) (sym c.record_sound.ensures ∙ c.if-not-record_sound.false)

pub returns : goal.returns
returns c = left-none _ _ c.loop-left.invariant.so (omega arith)
