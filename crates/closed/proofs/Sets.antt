-- The rules' sets of seven bits: who is in them. Assumes nothing.
use Prim.Native.Nat.{ℕ, zero, suc, ◌+◌, ◌*◌, ◌/◌, ◌%◌, ◌^◌, ◌≤◌, ◌<◌}
use mathlib.Core.Path.{◌≡◌, refl, sym, ◌∙◌}
use mathlib.Core.Bool.{Bool, true, false, ◌&&◌, ◌||◌, not, cond}
use native.Mathlib.Omega.{arith}
use mathlib.Core.List.{List, [], ◌∷◌}
use native.Mathlib.Decide.{dec_lt}
use native.Mathlib.Nat.{div-eq_of_lt, pow-suc, one-le-pow}
use lib.ListN.{get_or}
use lib.Dec.{ltb, eqb}
use lib.Count.{ones}
use lib.Pow.{pow_mono}
use borrow.Author.Tests.{ltb-true, eqb-true, eqb-false, not-true, lt-ltb}
use Rattle.paper.specs.Logic.{implies, all_below}
use Rattle.paper.specs.Vote.{member, count}
use Rattle.paper.proofs.Laws.{all_below-at}
use Rattle.rules.specs.Sets.{bits_below, those, others, absent, only, with}
use Rattle.closed.proofs.Laws.{clash, tf, is_false, two, three, imp-at}

-- equality of tests
same : Bool → Bool → Bool
same true b = b
same false b = not b

same-eq : (a b : Bool) → same a b ≡ true → a ≡ b
unfolding same
same-eq true b e = sym e
same-eq false true e = e
same-eq false false e = refl

-- a copy that was not in the set joins it: it is a member, and the others are as before; the set stays below 2 ^ N
joins : ℕ → ℕ → ℕ → Bool
joins q m p = member q m || same (member p (m + 2 ^ q)) (eqb p q || member p m)

joins-all : all_below 7 (λ q. all_below 128 (λ m. all_below 7 (joins q m))) ≡ true
unfolding all_below joins member same
joins-all = refl

pub member-with : (q m p : ℕ) → q < 7 → m < 128 → p < 7 → member q m ≡ false → member p (with m q) ≡ (eqb p q || member p m)
unfolding joins
member-with q m p lq lm lp e =
    let t : joins q m p ≡ true = all_below-at 7 (joins q m) (all_below-at 128 (λ m. all_below 7 (joins q m)) (all_below-at 7 (λ q. all_below 128 (λ m. all_below 7 (joins q m))) joins-all q lq) m lm) p lp in
    same-eq _ _ (rw e at t)

stays : ℕ → ℕ → ℕ → Bool
stays n q m = implies (ltb m (2 ^ n) && ltb q n) (member q m || ltb (m + 2 ^ q) (2 ^ n))

stays_all : all_below 8 (λ n. all_below 7 (λ q. all_below 128 (stays n q))) ≡ true
unfolding all_below stays member
stays_all = refl

pub with-small : (n q m : ℕ) → n ≤ 7 → q < n → m < 2 ^ n → member q m ≡ false → with m q < 2 ^ n
unfolding stays
with-small n q m ln lq lm e =
    let l : m < 128 = omega (arith, pow_mono ln) in
    let t : stays n q m ≡ true = all_below-at 128 (stays n q) (all_below-at 7 (λ q. all_below 128 (stays n q)) (all_below-at 8 (λ n. all_below 7 (λ q. all_below 128 (stays n q))) stays_all n (omega arith)) q (omega arith)) m l in
    ltb-true _ _ (rw (lt-ltb m (2 ^ n) lm, lt-ltb q n lq, e) at t)

-- one copy alone
alone : ℕ → ℕ → Bool
alone q p = same (member p (2 ^ q)) (eqb p q) && eqb (ones (2 ^ q)) 1

alone-all : all_below 7 (λ q. all_below 7 (alone q)) ≡ true
unfolding all_below alone member same ones
alone-all = refl

alone_at : (q p : ℕ) → q < 7 → p < 7 → (member p (only q) ≡ eqb p q) × (count (only q) ≡ 1)
unfolding alone
alone_at q p lq lp =
    let (a, b) = two _ _ (all_below-at 7 (alone q) (all_below-at 7 (λ q. all_below 7 (alone q)) alone-all q lq) p lp) in
    (same-eq _ _ a, eqb-true _ _ b)

pub member-only : (q p : ℕ) → q < 7 → p < 7 → member p (only q) ≡ eqb p q
member-only q p lq lp = (alone_at q p lq lp).0

pub count-only : (q : ℕ) → q < 7 → count (only q) ≡ 1
count-only q lq = (alone_at q q lq lq).1

pub only-small : (n q : ℕ) → q < n → only q < 2 ^ n
only-small n q l =
    let p : 2 ^ suc q ≤ 2 ^ n = pow_mono l in
    let e : 2 ^ suc q ≡ 2 ^ q * 2 = pow-suc 2 q in
    let h : 1 ≤ 2 ^ q = one-le-pow q 2 (omega arith) in
    let g : 2 ^ q < 2 ^ n = omega arith in
    g

-- a set of seven bits has no member from 7 on
member-small : (m q : ℕ) → m < 128 → member q m ≡ true → q < 7
unfolding member
member-small m q l e = go (dec_lt q 7)
  where
    go : Dec (q < 7) → q < 7
    go (yes h) = h
    go (no h) =
        let g : m < 2 ^ q = omega (arith, pow_mono {i = 7} {j = q} (omega arith)) in
        let z : m / 2 ^ q ≡ 0 = div-eq_of_lt g in
        clash (eqb-true 0 1 (rw z at e))

pub member-only-is : (q p : ℕ) → q < 7 → member p (only q) ≡ true → p ≡ q
member-only-is q p lq e =
    let lp : p < 7 = member-small (only q) p (omega (arith, only-small 7 q lq)) e in
    eqb-true p q (sym (member-only q p lq lp) ∙ e)

-- nobody
none-all : all_below 7 (λ p. not (eqb (0 / 2 ^ p % 2) 1)) ≡ true
unfolding all_below
none-all = refl

pub member-none : (p : ℕ) → member p 0 ≡ false
unfolding member
member-none p = is_false _ (λ e. tf _ e (not-true _ (all_below-at 7 (λ p. not (eqb (0 / 2 ^ p % 2) 1)) none-all p (member-small 0 p (omega arith) e))))

-- the places of a test as bits: a member is one of them
each : (Bool → Bool) → Bool
each P = P true && P false

each_at : (P : Bool → Bool) → each P ≡ true → (b : Bool) → P b ≡ true
unfolding each
each_at P h true = (two (P true) (P false) h).0
each_at P h false = (two (P true) (P false) h).1

row : Bool → Bool → Bool → Bool → Bool → Bool → Bool → List Bool
row a b c d e f g = a ∷ b ∷ c ∷ d ∷ e ∷ f ∷ g ∷ []

bits : Bool → Bool → Bool → Bool → Bool → Bool → Bool → ℕ
bits a b c d e f g = cond g 64 0 + (cond f 32 0 + (cond e 16 0 + (cond d 8 0 + (cond c 4 0 + (cond b 2 0 + (cond a 1 0 + 0))))))

placed : Bool → Bool → Bool → Bool → Bool → Bool → Bool → Bool
placed a b c d e f g = ltb (bits a b c d e f g) 128 && all_below 7 (λ q. implies (member q (bits a b c d e f g)) (get_or (row a b c d e f g) q false))

placed-all : each (λ a. each (λ b. each (λ c. each (λ d. each (λ e. each (λ f. each (λ g. placed a b c d e f g))))))) ≡ true
unfolding each placed bits row member all_below
placed-all = refl

placed_at : (a b c d e f g : Bool) → placed a b c d e f g ≡ true
placed_at a b c d e f g =
    each_at (λ z. placed a b c d e f z)
    (each_at (λ y. each (λ z. placed a b c d e y z))
    (each_at (λ x. each (λ y. each (λ z. placed a b c d x y z)))
    (each_at (λ w. each (λ x. each (λ y. each (λ z. placed a b c w x y z))))
    (each_at (λ v. each (λ w. each (λ x. each (λ y. each (λ z. placed a b v w x y z)))))
    (each_at (λ u. each (λ v. each (λ w. each (λ x. each (λ y. each (λ z. placed a u v w x y z))))))
    (each_at (λ t. each (λ u. each (λ v. each (λ w. each (λ x. each (λ y. each (λ z. placed t u v w x y z))))))) placed-all a) b) c) d) e) f) g

row_at : (f : ℕ → Bool) (q : ℕ) → q < 7 → get_or (row (f 0) (f 1) (f 2) (f 3) (f 4) (f 5) (f 6)) q false ≡ f q
unfolding row
row_at f zero l = refl
row_at f (suc zero) l = refl
row_at f (suc (suc zero)) l = refl
row_at f (suc (suc (suc zero))) l = refl
row_at f (suc (suc (suc (suc zero)))) l = refl
row_at f (suc (suc (suc (suc (suc zero))))) l = refl
row_at f (suc (suc (suc (suc (suc (suc zero)))))) l = refl
row_at f (suc (suc (suc (suc (suc (suc (suc q))))))) l = absurd (omega arith)

pub member-those : (f : ℕ → Bool) (q : ℕ) → member q (those f) ≡ true → f q ≡ true
unfolding bits_below placed bits
member-those f q e =
    let (small, all) = two _ _ (placed_at (f 0) (f 1) (f 2) (f 3) (f 4) (f 5) (f 6)) in
    let l : q < 7 = member-small (those f) q (ltb-true _ _ small) e in
    sym (row_at f q l) ∙ imp-at _ _ (all_below-at 7 (λ q. implies (member q (those f)) (get_or (row (f 0) (f 1) (f 2) (f 3) (f 4) (f 5) (f 6)) q false)) all q l) e

-- the others, and those of them that have not replied
pub member-others : (n c q : ℕ) → member q (others n c) ≡ true → (q < n) × (q ≡ c → ⊥)
unfolding others
member-others n c q e =
    let (a, b) = two _ _ (member-those (λ q. ltb q n && not (eqb q c)) q e) in (ltb-true _ _ a, eqb-false q c (not-true _ b))

pub member-absent : (n c m q : ℕ) → member q (absent n c m) ≡ true → (q < n) × (q ≡ c → ⊥)
unfolding absent
member-absent n c m q e =
    let (a, b, z) = three _ _ _ (member-those (λ q. ltb q n && not (eqb q c) && not (member q m)) q e) in (ltb-true _ _ a, eqb-false q c (not-true _ b))
