use native.Mathlib.Omega.{arith}
use Rattle.std.proofs.lemmas.Result.{err_from_is_err_and}
use Rattle.table.proofs.Laws.{sizes}
use Rattle.journal.proofs.Put.{held_in}
use Rattle.journal.proofs.Replayed.{upto-length, upto-ready, open-bad, open-upto}
use Rattle.journal.proofs.replaying.replay_open.Goals as goal

pub returns-in_err-at : goal.returns-in_err-at
returns-in_err-at c = let p = err_from_is_err_and c.from_residual.result c.from_residual.ensures.1 in rw (p.1, p.2) (open-bad _ _ _ _ _ c.in_err-at.ensures)

pub slice_bounds-put_entries-end : goal.slice_bounds-put_entries-end
slice_bounds-put_entries-end c = let z = sizes _ _ _ _ c.requires.setup in upto-length _ _ _ _ _ c.in_ok-at.ensures z.copies z.numbers

pub put_entries-requires : goal.put_entries-requires
put_entries-requires c = upto-ready _ _ _ _ _ c.in_ok-at.ensures (held_in _ _ _ _ c.requires (λ i. omega (arith, c.slice_known-1.given i)))

pub returns : goal.returns
returns c = open-upto _ _ _ _ _ c.in_ok-at.ensures (held_in _ _ _ _ c.requires (λ i. omega (arith, c.slice_known-1.given i))) c.put_entries.ensures
