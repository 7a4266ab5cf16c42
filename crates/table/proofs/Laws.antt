-- Sizes and places. Assumes nothing.
use mathlib.Core.Path.{◌≡◌, refl, sym}
use mathlib.Core.Bool.{Bool, true, false, ◌&&◌, ◌||◌}
use mathlib.Core.List.{List, append_assoc}
use Prim.Native.Nat.{ℕ, suc, ◌+◌, ◌*◌, ◌-◌, ◌≤◌, ◌<◌}
use native.Mathlib.Omega.{arith}
use native.Mathlib.Nat.{mul-le-mul_right, suc-mul}
use lib.Dec.{leb, eqb}
use lib.ListN.{length, take, drop}
use borrow.Author.Tests.{leb-true, ltb-true, eqb-true}
use borrow.Rule.Slice.PartMut.{put_mid, Post-is}
use Rattle.numbers.specs.Num.{splice}
use Rattle.paper.specs.Setup.{setup_ok, copies_ok, numbers_ok, copy_ok}
use Rattle.paper.specs.Instance.{instance_ok, owner_ok, number_ok}
use Rattle.paper.proofs.Laws.{and-true}
use Rattle.table.specs.Place.{head_length, table_length, place_at, place_of}
use Rattle.table.specs.Table.{fits_setup}
use Rattle.table.specs.Sizes.{Sizes, Names, Has}
use Rattle.record.specs.Layout.{record_length}

-- one of 3, 5 and 7
copies-bound : (n : ℕ) → copies_ok n ≡ true → (1 ≤ n) × (n ≤ 7)
copies-bound n h = go (eqb n 3) (eqb n 5) refl refl h
  where
    go : (a b : Bool) → eqb n 3 ≡ a → eqb n 5 ≡ b → (a || b || eqb n 7) ≡ true → (1 ≤ n) × (n ≤ 7)
    go true b e f h = omega (arith, eqb-true n 3 e)
    go false true e f h = omega (arith, eqb-true n 5 f)
    go false false e f h = omega (arith, eqb-true n 7 h)

pub setup-bounds : (n s c : ℕ) → setup_ok n s c ≡ true → (1 ≤ n) × (n ≤ 7) × (1 ≤ s) × (s ≤ 64) × (c < n)
unfolding setup_ok
setup-bounds n s c h =
    let p = and-true (copies_ok n && numbers_ok s) (copy_ok n c) h in
    let q = and-true (copies_ok n) (numbers_ok s) p.0 in
    let k = copies-bound n q.0 in
    let m = and-true (leb 1 s) (leb s 64) q.1 in
    (k.0, k.1, leb-true 1 s m.0, leb-true s 64 m.1, ltb-true c n p.1)

pub setup_small : (n s c : ℕ) → setup_ok n s c ≡ true → (n ≤ 7) × (s ≤ 64)
setup_small n s c h = let b = setup-bounds n s c h in (b.1, b.3)

pub sizes : (n s c : ℕ) (t : List ℕ) → fits_setup n s c t ≡ true → Sizes n s c t
unfolding fits_setup
sizes n s c t h =
    let p = and-true (setup_ok n s c) _ h in
    let b = setup-bounds n s c p.0 in
    record { least = b.0; copies = b.1; numbers = b.3; copy = b.4; long = eqb-true _ _ p.1 }

pub names : (n s c : ℕ) (t : List ℕ) (o j : ℕ) → fits_setup n s c t ≡ true → instance_ok n s o j ≡ true → Names n s o j
unfolding instance_ok
names n s c t o j h i =
    let z = sizes n s c t h in
    let p = and-true (owner_ok n o) (number_ok s j) i in
    let q = and-true (leb 1 j) (leb j s) p.1 in
    record { copies = z.copies; numbers = z.numbers; owner = ltb-true o n p.0; first = leb-true 1 j q.0; last = leb-true j s q.1 }

pub has : (n s c : ℕ) (t : List ℕ) (o j : ℕ) → (fits_setup n s c t && instance_ok n s o j) ≡ true → Has n s o j t
has n s c t o j h =
    let p = and-true (fits_setup n s c t) (instance_ok n s o j) h in
    record { names = names n s c t o j p.0 p.1; long = (sizes n s c t p.0).long }

-- an owner's row ends within the table
pub row-end : (n s o : ℕ) → o < n → head_length + record_length * (o * s + s) ≤ table_length n s
row-end n s o h =
    let a : suc o * s ≤ n * s = mul-le-mul_right s h in
    omega (arith, suc-mul o s)

pub place_end : (n s o j : ℕ) → Names n s o j → place_of s o j + record_length ≤ table_length n s
unfolding place_at
place_end n s o j h = omega (arith, row-end n s o h.owner, h.first, h.last)

-- what stands in a slice after a part of it was lent and written over
pub put-splice : (l : List ℕ) (a k : ℕ) (v : List ℕ) → length v ≡ k → put_mid a (a + k - a) l v ≡ splice l a v
unfolding splice
put-splice l a k v e = rw (Post-is a (a + k) l (omega arith), ← e) (sym (append_assoc (take a l) v (drop (a + length v) l)))
