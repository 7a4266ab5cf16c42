-- A cleared table with its head is the blank one. Assumes nothing.
use mathlib.Core.Path.{◌≡◌}
use mathlib.Core.List.{List}
use Prim.Native.Nat.{ℕ, suc, ◌*◌}
use native.Mathlib.Omega.{arith}
use lib.ListN.{length, set, replicate}
use Rattle.table.specs.Table.{blank_table}
use Rattle.table.specs.Sizes.{Sizes}
use Rattle.record.specs.Layout.{record_length}

-- the numbers n, s and c written over the first of a cleared table
pub head-written : (n s c : ℕ) (t : List ℕ) {z : List ℕ} → Sizes n s c t → z ≡ replicate (length t) 0 → set (set (set z 0 n) 1 s) 2 c ≡ blank_table n s c
unfolding blank_table
head-written n s c t {z} h e =
    let l : length t ≡ suc (suc (suc (record_length * (n * s)))) = omega (arith, h.long) in
    rw (e, l)
