-- Any cutting of a stream shows what the uncut stream is. What a run keeps: the place is one that calls take, all that was taken is what
-- was yielded and then what is held, and what was yielded is whole messages. Assumes nothing.
use mathlib.Core.Path.{◌≡◌, refl, sym, ap, ◌∙◌}
use mathlib.Core.Bool.{Bool, true, false, ◌&&◌}
use mathlib.Core.List.{List, [], ◌∷◌, ◌++◌, append_assoc, append-nil}
use Prim.Native.Nat.{ℕ, zero, suc, ◌≤◌, ◌<◌}
use native.Mathlib.Omega.{arith}
use borrow.Author.Tests.{le-leb, lt-leb}
use lib.Dec.{leb}
use lib.ListN.{length, get_or, take, drop, length-append, length-drop, get_or-append}
use lib.Seq.{take_at, drop_at}
use Rattle.paper.specs.Message.{row_of}
use Rattle.wire.specs.Wire.{length_of, kind_at}
use Rattle.wire.proofs.Laws.{ten}
use Rattle.stream.specs.Stream.{is_stopped, is_whole}
use Rattle.stream.specs.Cutting.{joined, whole_in, rest_in, uncut}

-- a message and nothing else, by its kind byte
pub record Exact (m : List ℕ) : Type 0 where
  pub known : (row_of (kind_at m)).known ≡ true
  pub exact : length m ≡ length_of (kind_at m)

abbrev pub AllExact : List (List ℕ) → Type 0
AllExact [] = Unit {0}
AllExact (m ∷ ms) = Exact m × AllExact ms

pub exact-snoc : (ms : List (List ℕ)) (m : List ℕ) → AllExact ms → Exact m → AllExact (ms ++ m ∷ [])
exact-snoc [] m a e = (e, tt)
exact-snoc (n ∷ ms) m a e = (a.0, exact-snoc ms m a.1 e)

pub joined_snoc : (ms : List (List ℕ)) (m : List ℕ) → joined (ms ++ m ∷ []) ≡ joined ms ++ m
joined_snoc [] m = append-nil m
joined_snoc (n ∷ ms) m = rw (joined_snoc ms m) (sym (append_assoc n (joined ms) m))

-- the kind is in the first byte, whatever follows
pub kind-append : (m r : List ℕ) → 0 < length m → kind_at (m ++ r) ≡ kind_at m
kind-append m r l = let e : get_or (m ++ r) 0 0 ≡ get_or m 0 0 = get_or-append m r 0 0 l in rw e

module _ (m r : List ℕ) (e : Exact m) where
  pub exact-kind : kind_at (m ++ r) ≡ kind_at m
  exact-kind = kind-append m r (omega (arith, e.exact, ten (kind_at m)))

  pub exact-whole : is_whole (m ++ r) ≡ true
  unfolding is_whole
  exact-whole =
      let l : leb (length_of (kind_at m)) (length (m ++ r)) ≡ true = le-leb (length_of (kind_at m)) (length (m ++ r)) (omega (arith, e.exact, length-append m r)) in
      rw (exact-kind, e.known, l)

  exact-take : take (length_of (kind_at (m ++ r))) (m ++ r) ≡ m
  exact-take = rw exact-kind (take_at m r (length_of (kind_at m)) e.exact)

  exact-drop : drop (length_of (kind_at (m ++ r))) (m ++ r) ≡ r
  exact-drop = rw exact-kind (drop_at m r (length_of (kind_at m)) e.exact)

  pub first-message : (f : ℕ) → whole_in (suc f) (m ++ r) ≡ m ∷ whole_in f r
  unfolding whole_in
  first-message f = rw (exact-whole, exact-take, exact-drop)

  pub first_rest : (f : ℕ) → rest_in (suc f) (m ++ r) ≡ rest_in f r
  unfolding rest_in
  first_rest f = rw (exact-whole, exact-drop)

pub no_bytes : (x : List ℕ) → length x ≡ 0 → is_whole x ≡ false
unfolding is_whole
no_bytes x z = go (row_of (kind_at x)).known (lt-leb (length_of (kind_at x)) (length x) (omega (arith, ten (kind_at x))))
  where
    go : (k : Bool) {l : Bool} → l ≡ false → (k && l) ≡ false
    go true e = e
    go false e = refl

-- rounds that find nothing
pub none_left : (f : ℕ) (x : List ℕ) → is_whole x ≡ false → (whole_in f x ≡ []) × (rest_in f x ≡ x)
unfolding whole_in rest_in
none_left zero x e = (refl, refl)
none_left (suc f) x e = (rw e, rw e)

one-round : (f g : ℕ) (x : List ℕ)
    → (is_whole x ≡ true → (whole_in f (drop (length_of (kind_at x)) x) ≡ whole_in g (drop (length_of (kind_at x)) x)) × (rest_in f (drop (length_of (kind_at x)) x) ≡ rest_in g (drop (length_of (kind_at x)) x)))
    → (whole_in (suc f) x ≡ whole_in (suc g) x) × (rest_in (suc f) x ≡ rest_in (suc g) x)
unfolding whole_in rest_in
one-round f g x h = go (is_whole x) refl
  where
    go : (a : Bool) → is_whole x ≡ a → (whole_in (suc f) x ≡ whole_in (suc g) x) × (rest_in (suc f) x ≡ rest_in (suc g) x)
    go true e = let r = h e in (rw (e, r.0), rw (e, r.1))
    go false e = (rw e, rw e)

-- as many rounds as there are bytes are enough
pub enough : (f g : ℕ) (x : List ℕ) → length x ≤ f → length x ≤ g → (whole_in f x ≡ whole_in g x) × (rest_in f x ≡ rest_in g x)
enough zero g x a b = let z = no_bytes x (omega arith) in let u = none_left zero x z in let v = none_left g x z in (u.0 ∙ sym v.0, u.1 ∙ sym v.1)
enough (suc f) zero x a b = let z = no_bytes x (omega arith) in let u = none_left (suc f) x z in let v = none_left zero x z in (u.0 ∙ sym v.0, u.1 ∙ sym v.1)
enough (suc f) (suc g) x a b =
    let t = ten (kind_at x) in
    let d = length-drop (length_of (kind_at x)) x in
    one-round f g x (λ _. enough f g (drop (length_of (kind_at x)) x) (omega arith) (omega arith))

-- messages one after another, and then other bytes
pub in-front : (ms : List (List ℕ)) (r : List ℕ) → AllExact ms → (f : ℕ) → length (joined ms ++ r) ≤ f
    → (whole_in f (joined ms ++ r) ≡ ms ++ whole_in f r) × (rest_in f (joined ms ++ r) ≡ rest_in f r)
in-front [] r a f l = (refl, refl)
in-front (m ∷ ms) r a zero l =
    let t = ten (kind_at m) in
    let e = a.0.exact in
    absurd (omega (arith, length-append (m ++ joined ms) r, length-append m (joined ms)))
in-front (m ∷ ms) r a (suc f) l =
    let t = ten (kind_at m) in
    let e = a.0.exact in
    let long : length (joined ms ++ r) ≤ f = omega (arith, length-append (m ++ joined ms) r, length-append m (joined ms), length-append (joined ms) r) in
    let q : (m ++ joined ms) ++ r ≡ m ++ (joined ms ++ r) = append_assoc m (joined ms) r in
    let h = in-front ms r a.1 f long in
    let n = enough f (suc f) r (omega (arith, length-append (joined ms) r)) (omega (arith, length-append (joined ms) r)) in
    (rw (q, first-message m (joined ms ++ r) a.0 f, h.0, n.0), rw (q, first_rest m (joined ms ++ r) a.0 f, h.1, n.1))

pub uncut-front : (ms : List (List ℕ)) (r : List ℕ) → AllExact ms → (uncut (joined ms ++ r)).messages ≡ ms ++ (uncut r).messages
unfolding uncut
uncut-front ms r a =
    let l = length-append (joined ms) r in
    (in-front ms r a (length (joined ms ++ r)) (omega arith)).0 ∙ ap (λ (k : List (List ℕ)). ms ++ k) (enough (length (joined ms ++ r)) (length r) r (omega arith) (omega arith)).0

pub uncut-all : (ms : List (List ℕ)) (r : List ℕ) → AllExact ms → is_whole r ≡ false
    → record { messages = ms; rest = length (joined ms); stopped = is_stopped r } ≡ uncut (joined ms ++ r)
unfolding uncut
uncut-all ms r a z =
    let f : ℕ = length (joined ms ++ r) in
    let h = in-front ms r a f (omega arith) in
    let n = none_left f r z in
    let m : whole_in f (joined ms ++ r) ≡ ms = h.0 ∙ rw n.0 (append-nil ms) in
    let k : rest_in f (joined ms ++ r) ≡ r = h.1 ∙ n.1 in
    rw (m, k)
