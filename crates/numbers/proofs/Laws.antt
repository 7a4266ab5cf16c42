-- Laws of little-endian numbers, once over the width. Assumes nothing.
use mathlib.Core.Path.{◌≡◌, refl, sym, ap, ◌∙◌}
use mathlib.Core.List.{List, [], ◌∷◌, ◌++◌, append_assoc, append-nil}
use Prim.Native.Nat.{ℕ, zero, suc, ◌+◌, ◌*◌, ◌/◌, ◌%◌, ◌^◌, ◌≤◌, ◌<◌, ◌-◌}
use native.Mathlib.Omega.{arith}
use native.Mathlib.Numerals.{add-one}
use native.Mathlib.Nat.{pow-succ', add-zero}
use lib.ListN.{take-append-drop, length, get_or, take, drop, length-append, length-take, length-drop, drop_of_length-le, get_or-append}
use lib.Seq.{paste, get_or_at, get_or-take, get_or-drop, drop-cons, ext_get_or, append_snoc, take_at, drop_at, drop-drop, length-take-le, take-add}
use Rattle.numbers.specs.Num.{num_at, bytes_of, splice}

pub length-bytes_of : (w x : ℕ) → length (bytes_of w x) ≡ w
length-bytes_of zero x = refl
length-bytes_of (suc w) x = ap suc (length-bytes_of w (x / 256))

-- a number of w bytes is below 256 ^ w
pub num_at-small : (w : ℕ) (b : List ℕ) (at : ℕ) → ((i : ℕ) → get_or b i 0 < 256) → num_at w b at < 256 ^ w
num_at-small zero b at h = omega arith
num_at-small (suc w) b at h =
    let x = h at in
    let y = num_at-small w b (at + 1) h in
    rw (pow-succ' 256 w) (omega arith)

-- a number read out of the middle of a list is the number at the place that the middle has in the whole
pub num_at-part : (w : ℕ) (s : List ℕ) (a k i : ℕ) → i + w ≤ k → num_at w (take k (drop a s)) i ≡ num_at w s (a + i)
num_at-part zero s a k i h = refl
num_at-part (suc w) s a k i h =
    let e : get_or (take k (drop a s)) i 0 ≡ get_or s (a + i) 0 = get_or-take k (drop a s) i 0 (omega arith) ∙ get_or-drop a s i 0 in
    let f : num_at w (take k (drop a s)) (i + 1) ≡ num_at w s (a + (i + 1)) = num_at-part w s a k (i + 1) (omega arith) in
    let g : a + (i + 1) ≡ a + i + 1 = omega arith in
    rw (e, f, g)

-- decode after encode
pub num_at-bytes_of : (w x : ℕ) (p q : List ℕ) (at : ℕ) → length p ≡ at → x < 256 ^ w → num_at w (p ++ (bytes_of w x ++ q)) at ≡ x
num_at-bytes_of zero x p q at e h = omega arith
num_at-bytes_of (suc w) x p q at e h =
    let r : List ℕ = bytes_of w (x / 256) ++ q in
    let l : x / 256 < 256 ^ w = omega (arith, rw pow-succ' at h) in
    let n : length (p ++ (x % 256 ∷ [])) ≡ at + 1 = simp length-append (omega arith) in
    let f : num_at w (p ++ (x % 256 ∷ r)) (at + 1) ≡ x / 256 = rw (← append_snoc p (x % 256) r) (num_at-bytes_of w (x / 256) (p ++ (x % 256 ∷ [])) q (at + 1) n l) in
    rw (get_or_at p (x % 256) r 0 at e, f) (omega arith)

-- encode after decode
pub bytes_of-num_at : (w : ℕ) (s : List ℕ) (at : ℕ) → ((i : ℕ) → get_or s i 0 < 256) → at + w ≤ length s → bytes_of w (num_at w s at) ≡ take w (drop at s)
bytes_of-num_at zero s at b h = refl
bytes_of-num_at (suc w) s at b h =
    let g : get_or s at 0 < 256 = b at in
    let n : (get_or s at 0 + 256 * num_at w s (at + 1)) % 256 ≡ get_or s at 0 = omega arith in
    let d : (get_or s at 0 + 256 * num_at w s (at + 1)) / 256 ≡ num_at w s (at + 1) = omega arith in
    let f : bytes_of w (num_at w s (at + 1)) ≡ take w (drop (at + 1) s) = bytes_of-num_at w s (at + 1) b (omega arith) in
    rw (n, d, f, drop-cons s at 0 (omega arith), add-one)

pub length-splice : (l : List ℕ) (at : ℕ) (v : List ℕ) → at + length v ≤ length l → length (splice l at v) ≡ length l
unfolding splice
length-splice l at v h = simp (length-append, length-take, length-drop) (omega arith)

pub paste-splice : (l : List ℕ) (at : ℕ) (s : List ℕ) (n : ℕ) → n ≤ length s → paste l at s n ≡ splice l at (take n s)
unfolding splice
paste-splice l at s n h = let e : length (take n s) ≡ n = length-take-le n s h in rw e

-- two writes, the second right after the first
pub splice-next : (l : List ℕ) (a : ℕ) (u : List ℕ) (b : ℕ) (v : List ℕ) → a + length u ≡ b → b + length v ≤ length l
    → splice (splice l a u) b v ≡ splice l a (u ++ v)
unfolding splice
splice-next l a u b v e h =
    let la : length (take a l) ≡ a = length-take-le a l (omega arith) in
    let n : length (take a l ++ u) ≡ b = simp length-append (omega arith) in
    let t : take b (take a l ++ u ++ drop (a + length u) l) ≡ take a l ++ u = take_at (take a l ++ u) (drop (a + length u) l) b n in
    let d : drop b (take a l ++ u ++ drop (a + length u) l) ≡ drop (a + length u) l = drop_at (take a l ++ u) (drop (a + length u) l) b n in
    let m : drop (b + length v) (take a l ++ u ++ drop (a + length u) l) ≡ drop (b + length v) l =
    rw (← drop-drop (length v) b (take a l ++ u ++ drop (a + length u) l), d, drop-drop, e) in
    let k : a + length (u ++ v) ≡ b + length v = simp length-append (omega arith) in
    rw (t, m, k, append_assoc (take a l) u v)

-- a write over all of a list
pub splice_all : (l v : List ℕ) → length v ≡ length l → splice l 0 v ≡ v
unfolding splice
splice_all l v e =
    let d : drop (0 + length v) l ≡ [] = drop_of_length-le l {i = 0 + length v} (omega arith) in
    rw d (append-nil v)

-- a write that is known by an equation, and one right after it
pub splice-step : (l : List ℕ) {l₁ l₂ : List ℕ} (a : ℕ) (u : List ℕ) (b : ℕ) (v : List ℕ) → l₁ ≡ splice l a u → l₂ ≡ splice l₁ b v → a + length u ≡ b
    → b + length v ≤ length l → l₂ ≡ splice l a (u ++ v)
splice-step l a u b v p q e h = q ∙ ap (λ (k : List ℕ). splice k b v) p ∙ splice-next l a u b v e h

-- a write of nothing
pub splice-nil : (l : List ℕ) (at : ℕ) → l ≡ splice l at []
unfolding splice
splice-nil l at = sym (rw (add-zero, append-nil (take at l)) (take-append-drop at l))

-- what was written is read back
pub splice-same : (l : List ℕ) (a : ℕ) (v : List ℕ) (k : ℕ) → length v ≡ k → a + k ≤ length l → take k (drop a (splice l a v)) ≡ v
unfolding splice
splice-same l a v k e h =
    let la : length (take a l) ≡ a = length-take-le a l (omega arith) in
    rw (append_assoc (take a l) v (drop (a + length v) l), drop_at (take a l) (v ++ drop (a + length v) l) a la, take_at v (drop (a + length v) l) k e)

lt-take : (i k : ℕ) (l : List ℕ) → i < length (take k l) → i < k
lt-take i k l h = omega (arith, length-take k l)

-- what stands before a write stays
pub splice-before : (l : List ℕ) (a : ℕ) (v : List ℕ) (b k : ℕ) → b + k ≤ a → a + length v ≤ length l → take k (drop b (splice l a v)) ≡ take k (drop b l)
unfolding splice
splice-before l a v b k h r =
    let la : length (take a l) ≡ a = length-take-le a l (omega arith) in
    ext_get_or 0 _ _ (simp (length-take, length-drop, length-append) (omega arith))
    (λ i lt.
    let li : i < k = lt-take i k (drop b (take a l ++ v ++ drop (a + length v) l)) lt in
    rw (get_or-take k (drop b (take a l ++ v ++ drop (a + length v) l)) i 0 li, get_or-take k (drop b l) i 0 li, get_or-drop, get_or-drop, append_assoc (take a l) v (drop (a + length v) l))
    (get_or-append (take a l) (v ++ drop (a + length v) l) 0 (b + i) (omega arith) ∙ get_or-take a l (b + i) 0 (omega arith)))

-- what stands after a write stays
pub splice-after : (l : List ℕ) (a : ℕ) (v : List ℕ) (b : ℕ) → a + length v ≤ b → b ≤ length l → drop b (splice l a v) ≡ drop b l
unfolding splice
splice-after l a v b h r =
    let n : length (take a l ++ v) ≡ a + length v = simp length-append (omega (arith, length-take-le a l (omega arith))) in
    let i : b ≡ (a + length v) + (b - (a + length v)) = omega arith in
    rw (
      i,
      ← drop-drop (b - (a + length v)) (a + length v) (take a l ++ v ++ drop (a + length v) l),
      drop_at (take a l ++ v) (drop (a + length v) l) (a + length v) n,
      drop-drop,
    )

-- what stands there already, written again
pub splice-own : (l : List ℕ) (a k : ℕ) → a + k ≤ length l → splice l a (take k (drop a l)) ≡ l
unfolding splice
splice-own l a k h =
    let n : length (take k (drop a l)) ≡ k = length-take-le k (drop a l) (simp length-drop (omega arith)) in
    rw (n, ← take-add a k l) (take-append-drop (a + k) l)
