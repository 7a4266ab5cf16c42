use mathlib.Core.Path.{refl, ◌∙◌}
use Rattle.table.proofs.Laws.{sizes}
use native.Mathlib.Omega.{arith}
use Rattle.journal.proofs.Put.{held_in, end_same}
use Rattle.journal.proofs.judging.end_of.Goals as goal

pub returns : goal.returns
returns c =
    let h = held_in _ _ _ _ c.requires (λ i. omega (arith, c.type_inv.t i)) in
    c.walk.ensures ∙ end_same _ _ _ _ _ _ _ _ h c.chart.ensures (λ i. omega (arith, c.type_inv.b i))

pub chart-requires : goal.chart-requires
chart-requires c = let z = sizes _ _ _ _ c.requires.setup in record { copies = z.copies; numbers = z.numbers; table = z.long; long = refl }

pub walk-requires : goal.walk-requires
walk-requires c = let z = sizes _ _ _ _ c.requires.setup in record { least = z.least; copies = z.copies; numbers = z.numbers; copy = z.copy; long = c.chart.ensures.long }
