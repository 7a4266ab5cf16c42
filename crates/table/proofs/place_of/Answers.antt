use mathlib.Core.Path.{◌≡◌, ap}
use Prim.Native.Nat.{ℕ, ◌+◌, ◌*◌, ◌-◌}
use Rattle.table.specs.Place.{head_length, place_at, place_of}
use Rattle.table.proofs.Laws.{place_end}
use Rattle.record.specs.Layout.{record_length}
use Rattle.table.proofs.place_of.Goals as goal

pub returns : goal.returns
unfolding place_at
returns c =
    let a = c.args in
    let e : head_length + record_length * (c.times.result + (a.j - 1)) ≡ place_of a.s a.o a.j = ap (λ (k : ℕ). head_length + record_length * (k + (a.j - 1))) c.times.ensures.0 in
    (e, rw e (place_end a.n a.s a.o a.j c.requires))
