-- No second result satisfies a contract of this crate's calls, and the answers' numbers and values tell them apart. Assumes nothing.
use mathlib.Core.Path.{◌≡◌, sym, ap, ◌∙◌}
use mathlib.Core.List.{List}
use Prim.Native.Nat.{ℕ}
use native.Mathlib.Omega.{arith}
use Rattle.std.specs.Prelude.{Result, Ok, Err}
use Rattle.paper.proofs.Numbers.{number_of-apart, number_of-pos}
use Rattle.paper.specs.declared.Refusal.{Refusal}
use Rattle.gate.specs.declared.Event.{Event}
use Rattle.gate.specs.Events.{Outcome, answer_number, answer_owner, answer_instance, answer_written, answer_offset}
use Rattle.gate.proofs.Calls.{Met}

-- each call's contract is `Met` of its outcome, a function of what came in
pub event-unique : (x : Outcome) (a b : Result Event Refusal) (t u o p : List ℕ) → Met x a t o → Met x b u p → (a ≡ b) × (t ≡ u) × (o ≡ p)
event-unique x a b t u o p f g = (f.answers ∙ sym g.answers, f.table ∙ sym g.table, f.room ∙ sym g.room)

pub answer-apart : (a b : Result Event Refusal) → answer_number a ≡ answer_number b → answer_owner a ≡ answer_owner b → answer_instance a ≡ answer_instance b
    → answer_written a ≡ answer_written b → answer_offset a ≡ answer_offset b → a ≡ b
answer-apart (Ok x) (Ok y) e f g h m = λ i. Ok (record { owner = f i; number = g i; written = h i })
answer-apart (Ok x) (Err r) e f g h m = absurd (omega (arith, number_of-pos r))
answer-apart (Err r) (Ok x) e f g h m = absurd (omega (arith, number_of-pos r))
answer-apart (Err r) (Err t) e f g h m = ap Err (number_of-apart r t e m)
