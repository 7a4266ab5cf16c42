-- Fields of fixed widths: reading after writing, and writing after reading, once for every list of widths. Assumes nothing.
use mathlib.Core.Path.{◌≡◌, refl, sym, ap}
use mathlib.Core.List.{List, [], ◌∷◌, ◌++◌, append_assoc}
use Prim.Native.Nat.{ℕ, zero, suc, ◌+◌, ◌≤◌, ◌<◌}
use native.Mathlib.Omega.{arith}
use native.Mathlib.Numerals.{add-one}
use lib.ListN.{length, get_or, take, drop, length-append}
use lib.Seq.{take-add, drop-drop, drop-cons}
use Rattle.numbers.specs.Num.{num_at, bytes_of}
use Rattle.numbers.specs.Fields.{size_of, fields_at, fields_bytes, FieldsFit, entries}
use Rattle.numbers.proofs.Laws.{length-bytes_of, num_at-bytes_of, bytes_of-num_at}

-- what was written is read back
pub fields_at-fields_bytes : (ws ns p q : List ℕ) (at : ℕ) → length p ≡ at → FieldsFit ws ns → fields_at ws (p ++ (fields_bytes ws ns ++ q)) at ≡ ns
fields_at-fields_bytes [] [] p q at e f = refl
fields_at-fields_bytes [] (n ∷ ns) p q at e f = absurd f
fields_at-fields_bytes (w ∷ ws) [] p q at e f = absurd f
fields_at-fields_bytes (w ∷ ws) (n ∷ ns) p q at e f =
    let b : List ℕ = bytes_of w n in
    let r : List ℕ = fields_bytes ws ns in
    let one : num_at w (p ++ (b ++ (r ++ q))) at ≡ n = num_at-bytes_of w n p (r ++ q) at e f.0 in
    let long : length (p ++ b) ≡ at + w = simp (length-append, length-bytes_of) (omega arith) in
    let more : fields_at ws (p ++ b ++ (r ++ q)) (at + w) ≡ ns = fields_at-fields_bytes ws ns (p ++ b) q (at + w) long f.1 in
    rw (append_assoc b r q, one) (ap (λ (l : List ℕ). n ∷ l) (rw (← append_assoc p b (r ++ q)) more))

-- what was read is written back
pub fields_bytes-fields_at : (ws s : List ℕ) (at : ℕ) → ((i : ℕ) → get_or s i 0 < 256) → at + size_of ws ≤ length s
    → fields_bytes ws (fields_at ws s at) ≡ take (size_of ws) (drop at s)
fields_bytes-fields_at [] s at b h = refl
fields_bytes-fields_at (w ∷ ws) s at b h =
    let one : bytes_of w (num_at w s at) ≡ take w (drop at s) = bytes_of-num_at w s at b (omega arith) in
    let more : fields_bytes ws (fields_at ws s (at + w)) ≡ take (size_of ws) (drop (at + w) s) = fields_bytes-fields_at ws s (at + w) b (omega arith) in
    rw (one, more, take-add w (size_of ws) (drop at s), drop-drop w at s)

-- a list is its entries, written out
entries-drop : (k : ℕ) (d : List ℕ) (i : ℕ) → length d ≡ i + k → entries k d i ≡ drop i d
entries-drop zero d i e = sym (lib.ListN.drop_of_length-le d {i = i} (omega arith))
entries-drop (suc k) d i e = rw (entries-drop k d (i + 1) (omega arith), drop-cons d i 0 (omega arith), add-one)

pub entries-all : (k : ℕ) (d : List ℕ) → length d ≡ k → entries k d 0 ≡ d
entries-all k d e = entries-drop k d 0 (omega arith)
