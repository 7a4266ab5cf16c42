-- No second result satisfies a contract of the stream's calls, and numbers and values tell the answers apart. Assumes nothing.
use mathlib.Core.Path.{◌≡◌, refl, sym, ap, ◌∙◌}
use mathlib.Core.List.{List}
use Prim.Native.Nat.{ℕ}
use native.Mathlib.Omega.{arith}
use lib.ListN.{length, get_or}
use Rattle.std.specs.Prelude.{Option, Some, None, Result, Ok, Err}
use Rattle.paper.specs.declared.Refusal.{Refusal}
use Rattle.paper.proofs.Numbers.{number-apart, number_of-pos}
use Rattle.stream.specs.declared.place.Place.{Place}
use Rattle.stream.specs.declared.place.Halt.{Halt}
use Rattle.stream.specs.declared.place.Halt.TheVariants.{Stopped, Refused}
use Rattle.stream.specs.declared.taking.Taken.{Taken}
use Rattle.stream.specs.declared.yielding.Yielded.{Yielded}
use Rattle.stream.specs.Place.{begun}
use Rattle.stream.specs.Stream.{taken, yielded, front_of, message_in, took_number, took_values, found_number, found_values}

pub begin-unique : (b : List ℕ) (x y : Result Place Refusal) → x ≡ begun (length b) → y ≡ begun (length b) → x ≡ y
begin-unique b x y p q = p ∙ sym q

pub take-unique : (b : List ℕ) (p : Place) (n : List ℕ) (x y : Result Taken Halt) (u v : List ℕ) → x ≡ (taken b p n).told → u ≡ (taken b p n).buffer → y ≡ (taken b p n).told
    → v ≡ (taken b p n).buffer → (x ≡ y) × (u ≡ v)
take-unique b p n x y u v a c d e = (a ∙ sym d, c ∙ sym e)

pub next-unique : (b : List ℕ) (p : Place) (x y : Result (Option Yielded) Halt) → x ≡ yielded b p → y ≡ yielded b p → x ≡ y
next-unique b p x y a c = a ∙ sym c

pub message-unique : (b : List ℕ) (p : Place) (x y : List ℕ) → x ≡ message_in b p → y ≡ message_in b p → x ≡ y
message-unique b p x y a c = a ∙ sym c

value : (i : ℕ) {u v : List ℕ} → u ≡ v → get_or u i 0 ≡ get_or v i 0
value i e = ap (λ (l : List ℕ). get_or l i 0) e

-- an answer without the place
abbrev pub took_of : Result Taken Halt → Result ℕ Halt
took_of (Ok t) = Ok t.count
took_of (Err h) = Err h

pub took-apart : (a b : Result Taken Halt) → took_number a ≡ took_number b → took_values a ≡ took_values b → (took_number a ≡ 35 → ⊥) → took_of a ≡ took_of b
took-apart (Ok t) (Ok u) e v m = let k : t.count ≡ u.count = value 0 v in rw k
took-apart (Ok t) (Err (Stopped o)) e v m = absurd (omega (arith, value 1 v))
took-apart (Ok t) (Err (Refused r)) e v m = absurd (omega (arith, number_of-pos r))
took-apart (Err (Stopped o)) (Ok u) e v m = absurd (omega (arith, value 1 v))
took-apart (Err (Stopped o)) (Err (Stopped q)) e v m = let k : o ≡ q = value 2 v in rw k
took-apart (Err (Stopped o)) (Err (Refused r)) e v m = absurd (omega (arith, number_of-pos r))
took-apart (Err (Refused r)) (Ok u) e v m = absurd (omega (arith, number_of-pos r))
took-apart (Err (Refused r)) (Err (Stopped o)) e v m = absurd (omega (arith, number_of-pos r))
took-apart (Err (Refused r)) (Err (Refused t)) e v m = let k : r ≡ t = number-apart r t e m in rw k

pub found-apart : (i : ℕ) (a b : Result (Option Yielded) Halt) → found_number a ≡ found_number b → found_values i a ≡ found_values i b → (found_number a ≡ 35 → ⊥)
    → front_of a ≡ front_of b
found-apart i (Ok (Some y)) (Ok (Some z)) e v m = let k : y.length ≡ z.length = value 2 v in rw k
found-apart i (Ok (Some y)) (Ok None) e v m = absurd (omega (arith, value 0 v))
found-apart i (Ok (Some y)) (Err (Stopped o)) e v m = absurd (omega (arith, value 0 v))
found-apart i (Ok (Some y)) (Err (Refused r)) e v m = absurd (omega (arith, number_of-pos r))
found-apart i (Ok None) (Ok (Some z)) e v m = absurd (omega (arith, value 0 v))
found-apart i (Ok None) (Ok None) e v m = refl
found-apart i (Ok None) (Err (Stopped o)) e v m = absurd (omega (arith, value 0 v))
found-apart i (Ok None) (Err (Refused r)) e v m = absurd (omega (arith, number_of-pos r))
found-apart i (Err (Stopped o)) (Ok (Some z)) e v m = absurd (omega (arith, value 0 v))
found-apart i (Err (Stopped o)) (Ok None) e v m = absurd (omega (arith, value 0 v))
found-apart i (Err (Stopped o)) (Err (Stopped q)) e v m = let k : o ≡ q = value 1 v in rw k
found-apart i (Err (Stopped o)) (Err (Refused r)) e v m = absurd (omega (arith, number_of-pos r))
found-apart i (Err (Refused r)) (Ok (Some z)) e v m = absurd (omega (arith, number_of-pos r))
found-apart i (Err (Refused r)) (Ok None) e v m = absurd (omega (arith, number_of-pos r))
found-apart i (Err (Refused r)) (Err (Stopped o)) e v m = absurd (omega (arith, number_of-pos r))
found-apart i (Err (Refused r)) (Err (Refused t)) e v m = let k : r ≡ t = number-apart r t e m in rw k
