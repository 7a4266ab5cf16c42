-- A set grows by a place that passes a test; the lowest member of a byte; the lowest that passes a test is the lowest member
-- of the set of those that do. Assumes nothing.
use mathlib.Core.Path.{◌≡◌, refl, ap, ◌∙◌}
use mathlib.Core.Bool.{Bool, true, false, ◌&&◌, cond}
use Prim.Native.Nat.{ℕ, ◌+◌, ◌^◌, ◌<◌, min}
use native.Mathlib.Omega.{arith}
use native.Mathlib.Nat.{pow-suc}
use Rattle.std.proofs.Common.{add-one}
use lib.Dec.{eqb}
use lib.Count.{count_trailing_zeros}
use borrow.Author.Tests.{eqb-true}
use Rattle.paper.specs.Logic.{all_below}
use Rattle.paper.specs.Vote.{member}
use Rattle.paper.proofs.Laws.{and-true, all_below-at}
use Rattle.rules.specs.Sets.{bits_below, those, lowest_from, lowest}

-- one place more, which passes the test or not
pub pow_next : (q : ℕ) → 2 ^ (q + 1) ≡ 2 ^ q + 2 ^ q
pow_next q = rw (add-one, pow-suc) (omega arith)

pub place_in : (f : ℕ → Bool) (q s : ℕ) → f q ≡ true → s ≡ bits_below q f → s + 2 ^ q ≡ bits_below (q + 1) f
unfolding bits_below
place_in f q s h e = rw (add-one, h, ← e) (omega arith)

pub place_out : (f : ℕ → Bool) (q s : ℕ) → f q ≡ false → s ≡ bits_below q f → s ≡ bits_below (q + 1) f
unfolding bits_below
place_out f q s h e = rw (add-one, h, ← e) (omega arith)

-- the lowest member of a byte is its first one, at most 7
lowest_byte : ℕ → Bool
lowest_byte m = eqb (min (count_trailing_zeros 8 m) 7) (lowest (λ q. member q m))

lowest-all : all_below 256 lowest_byte ≡ true
unfolding all_below lowest_byte lowest_from member count_trailing_zeros
lowest-all = refl

pub lowest_one : (m : ℕ) → m < 256 → min (count_trailing_zeros 8 m) 7 ≡ lowest (λ q. member q m)
unfolding lowest_byte
lowest_one m h = eqb-true _ _ (all_below-at 256 lowest_byte lowest-all m h)

-- a test of both bools, and of seven at once
each : (Bool → Bool) → Bool
each P = P true && P false

each_at : (P : Bool → Bool) → each P ≡ true → (b : Bool) → P b ≡ true
unfolding each
each_at P h true = (and-true (P true) (P false) h).0
each_at P h false = (and-true (P true) (P false) h).1

-- the lowest member of a set of bits is the lowest bit
lows : Bool → Bool → Bool → Bool → Bool → Bool → Bool → Bool
lows a b c d e f g =
    eqb
    (lowest (λ q. member q (cond g 64 0 + (cond f 32 0 + (cond e 16 0 + (cond d 8 0 + (cond c 4 0 + (cond b 2 0 + (cond a 1 0 + 0)))))))))
    (cond a 0 (cond b 1 (cond c 2 (cond d 3 (cond e 4 (cond f 5 (cond g 6 7)))))))

lows-all : each (λ a. each (λ b. each (λ c. each (λ d. each (λ e. each (λ f. each (λ g. lows a b c d e f g))))))) ≡ true
unfolding each lows member lowest_from
lows-all = refl

lows-at : (a b c d e f g : Bool) → lows a b c d e f g ≡ true
lows-at a b c d e f g =
    each_at (λ z. lows a b c d e f z)
    (each_at (λ y. each (λ z. lows a b c d e y z))
    (each_at (λ x. each (λ y. each (λ z. lows a b c d x y z)))
    (each_at (λ w. each (λ x. each (λ y. each (λ z. lows a b c w x y z))))
    (each_at (λ v. each (λ w. each (λ x. each (λ y. each (λ z. lows a b v w x y z)))))
    (each_at (λ u. each (λ v. each (λ w. each (λ x. each (λ y. each (λ z. lows a u v w x y z))))))
    (each_at (λ t. each (λ u. each (λ v. each (λ w. each (λ x. each (λ y. each (λ z. lows t u v w x y z))))))) lows-all a) b) c) d) e) f) g

-- the lowest member of the set of those that pass a test is the lowest that passes it
pub lowest_those : (f : ℕ → Bool) {m r : ℕ} → m ≡ those f → r ≡ lowest (λ q. member q m) → r ≡ lowest f
unfolding bits_below lowest_from lows
lowest_those f p e = e ∙ ap (λ (m : ℕ). lowest (λ q. member q m)) p ∙ eqb-true _ _ (lows-at (f 0) (f 1) (f 2) (f 3) (f 4) (f 5) (f 6))
