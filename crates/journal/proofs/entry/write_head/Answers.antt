use mathlib.Core.Path.{refl}
use mathlib.Core.List.{◌++◌}
use native.Mathlib.Omega.{arith}
use Rattle.numbers.specs.Num.{bytes_of}
use Rattle.numbers.proofs.Laws.{splice-step}
use Rattle.journal.proofs.entry.write_head.Goals as goal

pub returns : goal.returns
returns c =
    let a = c in
    let l = a.args.out.now in
    let k = bytes_of 1 a.args.kind in
    let w = splice-step l 0 k 1 (bytes_of 1 a.args.o) c.put.ensures c.put-2.ensures refl (omega (arith, a.requires.0)) in
    splice-step l 0 (k ++ bytes_of 1 a.args.o) 2 (bytes_of 2 a.args.j) w c.put-3.ensures refl (omega (arith, a.requires.0))
