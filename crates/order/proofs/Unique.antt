-- No second result satisfies a contract of this crate's calls, and number and values tell the answers apart. Assumes nothing.
use Rattle.std.specs.Prelude.{Option, Some, None, Result, Ok, Err}
use mathlib.Core.Path.{◌≡◌, sym, ap, ap₂, ◌∙◌}
use mathlib.Core.Bool.{Bool, true, false, not, cond}
use mathlib.Core.List.{List}
use Prim.Native.Nat.{ℕ}
use native.Mathlib.Omega.{arith}
use lib.ListN.{get_or}
use Rattle.paper.proofs.Laws.{op_number-apart}
use Rattle.paper.proofs.Numbers.{number-apart, number_of-pos}
use Rattle.paper.specs.Instance.{instance_ok}
use Rattle.paper.specs.declared.Refusal.{Refusal}
use Rattle.paper.specs.declared.Refusal.TheVariants as why
use Rattle.rules.specs.Order.{instance, found, first_open}
use Rattle.rules.specs.declared.Instance.{Instance}
use Rattle.table.specs.Table.{record_in}
use Rattle.table.specs.Calls.{judged, judging_number}
use Rattle.table.proofs.Unique.{judged-plain}
use Rattle.seen.specs.Records.{records_in}
use Rattle.order.specs.declared.Settling.{Settling}
use Rattle.order.specs.declared.Settling.TheVariants.{Settled, Waits}
use Rattle.order.specs.Calls.{settled_through, settled_open, settled, Handed, handed_through, handed_open, handed, settling_number, settling_values, handing_number, handing_count}

pub settled-unique : (n s c : ℕ) (t : List ℕ) (o j : ℕ) (x y : Result Settling Refusal) → x ≡ settled n s c t o j → y ≡ settled n s c t o j → x ≡ y
settled-unique n s c t o j x y p q = p ∙ sym q

-- what `hand_out` ensures, of a result, the table and the list
abbrev Met : Handed → Result ℕ Refusal → List ℕ → List ℕ → Type 0
Met h a t l = (a ≡ h.answer) × ((t ≡ h.table) × (l ≡ h.list))

pub hand-out-unique : (n s c : ℕ) (t list : List ℕ) (x y : Result ℕ Refusal) (u v k l : List ℕ) → Met (handed n s c t list) x u k → Met (handed n s c t list) y v l
    → (x ≡ y) × (u ≡ v) × (k ≡ l)
hand-out-unique n s c t list x y u v k l p q = (p.0 ∙ sym q.0, p.1.0 ∙ sym q.1.0, p.1.1 ∙ sym q.1.1)

-- number and values tell any two answers apart; neither call answers 35
pub settling-apart : (a b : Result Settling Refusal) → settling_number a ≡ settling_number b → settling_values a ≡ settling_values b → (settling_number a ≡ 35 → ⊥) → a ≡ b
settling-apart (Ok (Settled k)) (Ok (Settled l)) e v m =
    let op = op_number-apart k.op l.op (value 1 v) in
    λ i. Ok (Settled (record { op = op i; key = value 2 v i; second = value 3 v i; edit = value 4 v i }))
  where
    value : (i : ℕ) → settling_values (Ok (Settled k)) ≡ settling_values (Ok (Settled l)) → get_or (settling_values (Ok (Settled k))) i 0 ≡ get_or (settling_values (Ok (Settled l))) i 0
    value i v = ap (λ (x : List ℕ). get_or x i 0) v
settling-apart (Ok (Settled k)) (Ok (Waits i)) e v m = let z : ◌≡◌ {A = ℕ} 1 0 = ap (λ (x : List ℕ). get_or x 0 0) v in absurd (omega arith)
settling-apart (Ok (Waits i)) (Ok (Settled k)) e v m = let z : ◌≡◌ {A = ℕ} 0 1 = ap (λ (x : List ℕ). get_or x 0 0) v in absurd (omega arith)
settling-apart (Ok (Waits i)) (Ok (Waits w)) e v m =
    ap₂ (λ (p k : ℕ). Ok (Waits (instance p k))) (ap (λ (x : List ℕ). get_or x 1 0) v) (ap (λ (x : List ℕ). get_or x 2 0) v)
settling-apart (Ok x) (Err r) e v m = absurd (omega (arith, number_of-pos r))
settling-apart (Err r) (Ok x) e v m = absurd (omega (arith, number_of-pos r))
settling-apart (Err r) (Err t) e v m = ap Err (number-apart r t e m)

pub handing-apart : (a b : Result ℕ Refusal) → handing_number a ≡ handing_number b → handing_count a ≡ handing_count b → (handing_number a ≡ 35 → ⊥) → a ≡ b
handing-apart (Ok j) (Ok k) e v m = ap Ok v
handing-apart (Ok j) (Err r) e v m = absurd (omega (arith, number_of-pos r))
handing-apart (Err r) (Ok k) e v m = absurd (omega (arith, number_of-pos r))
handing-apart (Err r) (Err t) e v m = ap Err (number-apart r t e m)

-- what the table's judge refuses is no 35
through : (x : Result Unit Refusal) → (judging_number x ≡ 35 → ⊥) → (rest : Result Settling Refusal) → (settling_number rest ≡ 35 → ⊥) → settling_number (settled_through x rest) ≡ 35 → ⊥
through (Ok x) p rest q e = q e
through (Err r) p rest q e = p e

pub settled_plain : (n s c : ℕ) (t : List ℕ) (o j : ℕ) → settling_number (settled n s c t o j) ≡ 35 → ⊥
unfolding settled settled_open
settled_plain n s c t o j = through (judged n s c t) (judged-plain n s c t) (settled_open n s t o j) (unjudged (instance_ok n s o j) (first_open n s (records_in s t) o j))
  where
    unjudged : (b : Bool) (x : Option Instance)
        → settling_number (cond (not b) (Err why.Instance) (found x (Ok (Settled (record_in s t o j).vote.command)) (λ p k. Ok (Waits (instance p k))))) ≡ 35 → ⊥
    unjudged false x e = omega arith
    unjudged true None e = omega arith
    unjudged true (Some i) e = omega arith

pub handed-plain : (n s c : ℕ) (t list : List ℕ) → handing_number (handed n s c t list).answer ≡ 35 → ⊥
unfolding handed handed_open
handed-plain n s c t list = go (judged n s c t) (judged-plain n s c t)
  where
    go : (x : Result Unit Refusal) → (judging_number x ≡ 35 → ⊥) → handing_number (handed_through x t list (handed_open n s t list)).answer ≡ 35 → ⊥
    go (Ok x) p e = omega arith
    go (Err r) p e = p e
