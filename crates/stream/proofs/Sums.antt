-- Numbers of bytes that whole messages can have together: a message more leads to another, every large number is one, and which they are
-- is told by the least with each last digit. Assumes nothing.
use mathlib.Core.Path.{◌≡◌, refl, sym, ◌∙◌}
use mathlib.Core.Bool.{Bool, true, false, ◌&&◌, ◌||◌, not}
use mathlib.Core.List.{List, [], ◌∷◌}
use Prim.Native.Nat.{ℕ, zero, suc, ◌+◌, ◌-◌, ◌%◌, ◌≤◌, ◌<◌}
use native.Mathlib.Omega.{arith}
use borrow.Author.Tests.{eqb-true, eqb-false, le-leb, leb-true, leb-false, not-true}
use lib.Dec.{eqb, leb}
use lib.ListN.{length, get_or, get_or-eq_default}
use Rattle.paper.specs.Logic.{all_below}
use Rattle.paper.specs.Message.{unknown, rows, row_of, kind_of}
use Rattle.paper.specs.declared.Body.TheVariants.{AcceptOk}
use Rattle.paper.proofs.Bodies.{kind-known}
use Rattle.paper.proofs.Laws.{and-true, all_below-at}
use Rattle.wire.specs.Wire.{length_of, past}
use Rattle.wire.proofs.Laws.{ten}
use Rattle.stream.specs.Place.{some_kind, sums, is_sum, least}

-- either test
pub either_true : (a b : Bool) {A : Type 0} → (a || b) ≡ true → (a ≡ true → A) → (b ≡ true → A) → A
either_true true b e f g = f refl
either_true false b e f g = g e

or_left : (a b : Bool) → a ≡ true → (a || b) ≡ true
or_left true b e = refl
or_left false b e = let z : ◌≡◌ {A = ℕ} 0 1 = cc in absurd (omega arith)

or_right : (a b : Bool) → b ≡ true → (a || b) ≡ true
or_right true b e = refl
or_right false b e = e

-- a kind below m that passes
some_of : (m : ℕ) (f : ℕ → Bool) (k : ℕ) → k < m → (row_of k).known ≡ true → f k ≡ true → some_kind m f ≡ true
some_of zero f k l known p = absurd (omega arith)
some_of (suc m) f k l known p = go (eqb k m) refl (λ e. some_of m f k e known p)
  where
    go : (a : Bool) → eqb k m ≡ a → (k < m → some_kind m f ≡ true) → some_kind (suc m) f ≡ true
    go true e h =
        let q : k ≡ m = eqb-true k m e in
        or_left ((row_of m).known && f m) (some_kind m f) (rw (← q, known, p))
    go false e h = or_right ((row_of m).known && f m) (some_kind m f) (h (omega (arith, eqb-false k m e)))

some_more : (m : ℕ) (f g : ℕ → Bool) → ((k : ℕ) → f k ≡ true → g k ≡ true) → some_kind m f ≡ true → some_kind m g ≡ true
some_more zero f g h e = e
some_more (suc m) f g h e =
    either_true ((row_of m).known && f m) (some_kind m f) e
    (λ a. let (x, y) = and-true (row_of m).known (f m) a in or_left ((row_of m).known && g m) (some_kind m g) (rw (x, h m y)))
    (λ b. or_right ((row_of m).known && g m) (some_kind m g) (some_more m f g h b))

-- more messages allow no fewer sums
more : (f x : ℕ) → sums f x ≡ true → sums (suc f) x ≡ true
unfolding sums
more zero x e = or_left (eqb x 0) _ e
more (suc f) x e =
    either_true (eqb x 0) _ e (λ a. or_left (eqb x 0) _ a)
    (λ b. or_right (eqb x 0) _ (some_more (suc (length rows)) (λ k. leb (length_of k) x && sums f (x - length_of k)) (λ k. leb (length_of k) x && sums (suc f) (x - length_of k))
    (λ k a. let (l, r) = and-true (leb (length_of k) x) (sums f (x - length_of k)) a in rw (l, more f (x - length_of k) r)) b))

much-more : (d f g x : ℕ) → d + f ≡ g → sums f x ≡ true → sums g x ≡ true
much-more zero f g x q e = let z : f ≡ g = omega arith in rw (← z, e)
much-more (suc d) f zero x q e = absurd (omega arith)
much-more (suc d) f (suc g) x q e = more g x (much-more d f g x (omega arith) e)

-- a known kind is in the table of bodies
below : (k : ℕ) → (row_of k).known ≡ true → k < suc (length rows)
unfolding row_of
below k e = go (leb (suc (length rows)) k) refl
  where
    go : (a : Bool) → leb (suc (length rows)) k ≡ a → k < suc (length rows)
    go true l =
        let z : get_or (unknown ∷ rows) k unknown ≡ unknown = get_or-eq_default (unknown ∷ rows) unknown (leb-true (suc (length rows)) k l) in
        let y : ◌≡◌ {A = ℕ} 0 1 = cc in absurd (omega arith)
    go false l = leb-false (suc (length rows)) k l

-- a message more
another : (x k g : ℕ) → (row_of k).known ≡ true → sums x x ≡ true → suc g ≡ x + length_of k → sums (suc g) (suc g) ≡ true
unfolding sums
another x k g known e q =
    let t = ten k in
    let l : leb (length_of k) (suc g) ≡ true = le-leb (length_of k) (suc g) (omega arith) in
    let d : suc g - length_of k ≡ x = omega arith in
    let m : sums g x ≡ true = much-more (g - x) x g x (omega arith) e in
    or_right (eqb (suc g) 0) _ (some_of (suc (length rows)) (λ k. leb (length_of k) (suc g) && sums g (suc g - length_of k)) k (below k known) known (rw (l, d, m)))

pub and-another : (x k : ℕ) → (row_of k).known ≡ true → is_sum x ≡ true → is_sum (x + length_of k) ≡ true
unfolding is_sum
and-another x k known e =
    let t = ten k in
    let q : x + length_of k ≡ suc (x + length_of k - 1) = omega arith in
    rw q (another x k (x + length_of k - 1) known e (sym q))

-- a kind that passed
pub some_is : (m : ℕ) (f : ℕ → Bool) {A : Type 0} → some_kind m f ≡ true → ((k : ℕ) → (row_of k).known ≡ true → f k ≡ true → A) → A
some_is zero f e h = let z : ◌≡◌ {A = ℕ} 0 1 = cc in absurd (omega arith)
some_is (suc m) f e h =
    either_true ((row_of m).known && f m) (some_kind m f) e
    (λ a. let (x, y) = and-true (row_of m).known (f m) a in h m x y)
    (λ b. some_is m f b h)

-- messages and messages
sums-add : (f x y : ℕ) → sums f x ≡ true → is_sum y ≡ true → is_sum (x + y) ≡ true
unfolding sums
sums-add zero x y e h = let z : x ≡ 0 = eqb-true x 0 e in let q : x + y ≡ y = omega arith in rw (q, h)
sums-add (suc f) x y e h =
    either_true (eqb x 0) _ e
    (λ a. let z : x ≡ 0 = eqb-true x 0 a in let q : x + y ≡ y = omega arith in rw (q, h))
    (λ b. some_is (suc (length rows)) (λ k. leb (length_of k) x && sums f (x - length_of k)) b
    (λ k known p.
    let (l, r) = and-true (leb (length_of k) x) (sums f (x - length_of k)) p in
    let le : length_of k ≤ x = leb-true (length_of k) x l in
    let q : x - length_of k + y + length_of k ≡ x + y = omega arith in
    rw q at (and-another (x - length_of k + y) k known (sums-add f (x - length_of k) y r h))))

pub sum-add : (x y : ℕ) → is_sum x ≡ true → is_sum y ≡ true → is_sum (x + y) ≡ true
unfolding is_sum
sum-add x y e h = sums-add x x y e h

pub sum-none : is_sum 0 ≡ true
unfolding is_sum sums
sum-none = refl

-- ten numbers one after another are sums, and so is each that is ten more
first-ten : all_below 10 (λ i. is_sum (74 + i)) ≡ true
unfolding all_below is_sum sums row_of length_of past
first-ten = refl

ten-more : length_of (kind_of AcceptOk) ≡ 10
unfolding length_of past row_of
ten-more = refl

large-below : (n x : ℕ) → x < n → 74 ≤ x → is_sum x ≡ true
large-below zero x a l = absurd (omega arith)
large-below (suc n) x a l = at (leb 84 x) refl (λ m. large-below n (x - 10) (omega arith) (omega arith))
  where
    at : (b : Bool) → leb 84 x ≡ b → (84 ≤ x → is_sum (x - 10) ≡ true) → is_sum x ≡ true
    at true m h =
        let lt = leb-true 84 x m in
        let q : x - 10 + length_of (kind_of AcceptOk) ≡ x = omega (arith, ten-more) in
        rw q at (and-another (x - 10) (kind_of AcceptOk) (kind-known AcceptOk) (h lt))
    at false m h =
        let lt = leb-false 84 x m in
        let q : 74 + (x - 74) ≡ x = omega arith in
        rw q at (all_below-at 10 (λ i. is_sum (74 + i)) first-ten (x - 74) (omega arith))

pub large : (x : ℕ) → 74 ≤ x → is_sum x ≡ true
large x l = large-below (suc x) x (omega arith) l

abbrev same : Bool → Bool → Bool
same true b = b
same false b = not b

same-eq : (a b : Bool) → same a b ≡ true → a ≡ b
same-eq true b e = sym e
same-eq false b e = sym (not-true b e)

-- none of them is above 83
least-small : (d : ℕ) → least d ≤ 83
least-small d = go (0 ∷ 41 ∷ 42 ∷ 83 ∷ 14 ∷ 55 ∷ 46 ∷ 37 ∷ 28 ∷ []) (omega arith, (omega arith, (omega arith, (omega arith, (omega arith, (omega arith, (omega arith, (omega arith, (omega arith, tt))))))))) d
  where
    Small : List ℕ → Type 0
    Small [] = Unit {0}
    Small (x ∷ xs) = (x ≤ 83) × Small xs

    go : (l : List ℕ) → Small l → (d : ℕ) → get_or l d 69 ≤ 83
    go [] s d = omega arith
    go (x ∷ l) s zero = s.0
    go (x ∷ l) s (suc d) = go l s.1 d

every-small : all_below 84 (λ x. same (leb (least (x % 10)) x) (is_sum x)) ≡ true
unfolding all_below is_sum sums row_of length_of past
every-small = refl

pub least-sum : (x : ℕ) → leb (least (x % 10)) x ≡ is_sum x
least-sum x = go (leb 84 x) refl
  where
    go : (a : Bool) → leb 84 x ≡ a → leb (least (x % 10)) x ≡ is_sum x
    go true e = let l = leb-true 84 x e in let m = least-small (x % 10) in le-leb (least (x % 10)) x (omega arith) ∙ sym (large x (omega arith))
    go false e = same-eq (leb (least (x % 10)) x) (is_sum x) (all_below-at 84 (λ x. same (leb (least (x % 10)) x) (is_sum x)) every-small x (leb-false 84 x e))
