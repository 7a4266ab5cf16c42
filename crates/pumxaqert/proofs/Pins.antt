-- The nineteen numbers of a message stand in their order, every one of them different; and whom numbers blame that are no message's.
-- Assumes nothing.
use mathlib.Core.Path.{◌≡◌, refl}
use mathlib.Core.List.{List, [], ◌∷◌, ◌++◌}
use Prim.Native.Nat.{ℕ}
use lib.ListN.{replicate}
use Rattle.paper.specs.Logic.{all_below}
use Rattle.paper.specs.Message.{row_of}
use Rattle.paper.specs.declared.Body.TheVariants.{PrepareOk, Nack}
use Rattle.paper.specs.declared.Field.TheVariants as field
use Rattle.paper.specs.declared.Blame.TheVariants as blame
use Rattle.wire.specs.Examples.{deps, read, rewire, said}
use Rattle.pumxaqert.specs.Fields.{other_ballot, fields_of, number_fields, most, carried_only, first_unheld, misfit}

pub told-fields : fields_of (said (PrepareOk 0x43424140 3 read))
    ≡ (7 ∷ 5 ∷ 6 ∷ 4 ∷ 0x1110 ∷ 0x15141312 ∷ 0x43424140 ∷ 3 ∷ 1 ∷ 0x33323130 ∷ 0 ∷ 0x3b3a393837363534 ∷ []) ++ deps
unfolding row_of other_ballot fields_of
told-fields = refl

pub rewire-fields : fields_of (said (PrepareOk 0x43424140 3 rewire))
    ≡ (12 ∷ 5 ∷ 6 ∷ 4 ∷ 0x1110 ∷ 0x15141312 ∷ 0x43424140 ∷ 3 ∷ 3 ∷ 0x33323130 ∷ 0x37363534 ∷ 0x3f3e3d3c3b3a3938 ∷ []) ++ deps
unfolding row_of other_ballot fields_of
rewire-fields = refl

pub joined-fields : fields_of (said (Nack 0x43424140)) ≡ (8 ∷ 5 ∷ 6 ∷ 4 ∷ 0x1110 ∷ 0x15141312 ∷ 0x43424140 ∷ 0 ∷ 0 ∷ 0 ∷ 0 ∷ 0 ∷ []) ++ deps
unfolding row_of other_ballot fields_of
joined-fields = refl

-- numbers that are no message's: the kind, a number where the kind has none, then the first that its place cannot hold
abbrev long : ℕ → ℕ → ℕ → ℕ → ℕ → ℕ → ℕ → List ℕ
long k from other status op key second = k ∷ from ∷ 2 ∷ 1 ∷ 3 ∷ 0 ∷ other ∷ status ∷ op ∷ key ∷ second ∷ 0 ∷ replicate 7 0

abbrev fields : ℕ → ℕ → ℕ → ℕ → ℕ → ℕ → List ℕ
fields k from other status op key = long k from other status op key 0

pub misfits : (misfit (fields 13 300 0 0 0 0) ≡ blame.Kind)
    × (misfit (fields 4 300 0 1 0 0) ≡ blame.Length)
    × (misfit (fields 5 300 7 0 3 0) ≡ blame.Length)
    × (misfit (fields 5 300 0 0 3 0) ≡ blame.Of field.From)
    × (misfit (fields 5 4 0 0 3 4294967296) ≡ blame.Of field.Op)
    × (misfit (fields 5 4 0 0 2 4294967296) ≡ blame.Of field.Key)
    × (misfit (long 5 300 0 0 2 7 9) ≡ blame.Length)
    × (misfit (long 11 4 0 0 2 7 9) ≡ blame.Of field.Op)
    × (misfit (long 11 4 0 0 4 7 9) ≡ blame.Of field.Op)
    × (misfit (long 11 4 0 0 3 7 4294967296) ≡ blame.Of field.Second)
    × (misfit (fields 7 4 4294967296 256 2 0) ≡ blame.Of field.Voted)
    × (misfit (fields 7 4 0 256 2 0) ≡ blame.Of field.Status)
    × (misfit (fields 8 4 4294967296 0 0 0) ≡ blame.Of field.Joined)
unfolding misfit row_of carried_only all_below number_fields first_unheld most
misfits = (refl, refl, refl, refl, refl, refl, refl, refl, refl, refl, refl, refl, refl)
