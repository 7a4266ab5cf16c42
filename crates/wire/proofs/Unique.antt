-- No second result satisfies a contract of this crate's calls, and the answers' numbers tell them apart. Assumes nothing.
use mathlib.Core.Path.{◌≡◌, refl, sym, ap, ◌∙◌}
use mathlib.Core.List.{List}
use Prim.Native.Nat.{ℕ}
use native.Mathlib.Omega.{arith}
use Rattle.std.specs.Prelude.{Result, Ok, Err}
use Rattle.paper.proofs.Numbers.{number_of-apart, number_of-pos}
use Rattle.paper.specs.declared.Message.{Message}
use Rattle.paper.specs.declared.Refusal.{Refusal}
use Rattle.wire.specs.Calls.{read_message, wrote, reading_number, reading_offset, writing_number, writing_count, writing_offset}

pub read-message-unique : (n s c : ℕ) (b : List ℕ) (x y : Result Message Refusal) → x ≡ read_message n s c b → y ≡ read_message n s c b → x ≡ y
read-message-unique n s c b x y p q = p ∙ sym q

pub write-message-unique : (n s c : ℕ) (out : List ℕ) (m : Message) (x y : Result ℕ Refusal) (u v : List ℕ) → x ≡ (wrote n s c out m).answer
    → u ≡ (wrote n s c out m).out → y ≡ (wrote n s c out m).answer → v ≡ (wrote n s c out m).out → (x ≡ y) × (u ≡ v)
write-message-unique n s c out m x y u v p q r t = (p ∙ sym r, q ∙ sym t)

-- what was read, but for the message
abbrev pub without_message : Result Message Refusal → Result Unit Refusal
without_message (Ok m) = Ok tt
without_message (Err r) = Err r

pub reading-apart : (a b : Result Message Refusal) → reading_number a ≡ reading_number b → reading_offset a ≡ reading_offset b → without_message a ≡ without_message b
reading-apart (Ok l) (Ok m) e o = refl
reading-apart (Ok m) (Err r) e o = absurd (omega (arith, number_of-pos r))
reading-apart (Err r) (Ok m) e o = absurd (omega (arith, number_of-pos r))
reading-apart (Err r) (Err t) e o = ap Err (number_of-apart r t e o)

pub writing-apart : (a b : Result ℕ Refusal) → writing_number a ≡ writing_number b → writing_count a ≡ writing_count b → writing_offset a ≡ writing_offset b → a ≡ b
writing-apart (Ok j) (Ok k) e f o = ap Ok f
writing-apart (Ok j) (Err r) e f o = absurd (omega (arith, number_of-pos r))
writing-apart (Err r) (Ok k) e f o = absurd (omega (arith, number_of-pos r))
writing-apart (Err r) (Err t) e f o = ap Err (number_of-apart r t e o)
