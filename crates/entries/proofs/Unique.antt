-- No second result satisfies a contract, and number and values tell the answers apart. Assumes nothing.
use Prim.Native.Nat.{ℕ, ◌≤◌}
use mathlib.Core.Path.{◌≡◌, refl, sym, ap, ap₂, ◌∙◌}
use mathlib.Core.List.{List}
use native.Mathlib.Omega.{arith}
use Rattle.std.specs.Prelude.{Result, Ok, Err}
use Rattle.paper.specs.Refusal.{number_of}
use Rattle.paper.proofs.Numbers.{number-apart, number_of-pos}
use Rattle.paper.specs.declared.Refusal.{Refusal}
use Rattle.paper.specs.declared.Refusal.TheVariants as why
use Rattle.entries.specs.declared.Fault.{Fault}
use Rattle.entries.specs.declared.Fault.TheVariants as fault
use Rattle.entries.specs.declared.Unreplayed.{Unreplayed}
use Rattle.entries.specs.declared.Unreplayed.TheVariants as unreplayed
use Rattle.entries.specs.declared.Unwritten.{Unwritten}
use Rattle.entries.specs.declared.Unwritten.TheVariants as unwritten
use Rattle.entries.specs.Writing.{Entered, record_entered, mark_entered, entering_number, entering_length}
use Rattle.entries.specs.Replay.{replayed, fault_number, replaying_number, replaying_offset}

-- a result that meets its definition is the definition's
pub entered-unique : (e : Entered) (x y : Result ℕ Unwritten) (u v : List ℕ) → x ≡ e.answer → u ≡ e.out → y ≡ e.answer → v ≡ e.out → (x ≡ y) × (u ≡ v)
entered-unique e x y u v a b c d = (a ∙ sym c, b ∙ sym d)

pub record-entry-unique : (n s c : ℕ) (t out : List ℕ) (o j : ℕ) (x y : Result ℕ Unwritten) (u v : List ℕ) → x ≡ (record_entered n s c t out o j).answer → u ≡ (record_entered n s c t out o j).out
    → y ≡ (record_entered n s c t out o j).answer → v ≡ (record_entered n s c t out o j).out → (x ≡ y) × (u ≡ v)
record-entry-unique n s c t out o j = entered-unique (record_entered n s c t out o j)

pub mark-entry-unique : (n s c : ℕ) (t out : List ℕ) (o j : ℕ) (x y : Result ℕ Unwritten) (u v : List ℕ) → x ≡ (mark_entered n s c t out o j).answer → u ≡ (mark_entered n s c t out o j).out
    → y ≡ (mark_entered n s c t out o j).answer → v ≡ (mark_entered n s c t out o j).out → (x ≡ y) × (u ≡ v)
mark-entry-unique n s c t out o j = entered-unique (mark_entered n s c t out o j)

pub replay-unique : (n s c : ℕ) (t b : List ℕ) (x y : Result ℕ Unreplayed) (u v : List ℕ) → x ≡ (replayed n s c t b).answer → u ≡ (replayed n s c t b).table
    → y ≡ (replayed n s c t b).answer → v ≡ (replayed n s c t b).table → (x ≡ y) × (u ≡ v)
replay-unique n s c t b x y u v a d e f = (a ∙ sym e, d ∙ sym f)

-- a fault by its number
pub fault-apart : (f g : Fault) → fault_number f ≡ fault_number g → f ≡ g
fault-apart fault.Kind fault.Kind e = refl
fault-apart fault.Kind fault.Instance e = absurd (omega arith)
fault-apart fault.Kind fault.Unsound e = absurd (omega arith)
fault-apart fault.Instance fault.Kind e = absurd (omega arith)
fault-apart fault.Instance fault.Instance e = refl
fault-apart fault.Instance fault.Unsound e = absurd (omega arith)
fault-apart fault.Unsound fault.Kind e = absurd (omega arith)
fault-apart fault.Unsound fault.Instance e = absurd (omega arith)
fault-apart fault.Unsound fault.Unsound e = refl

-- no other refusal has the number of a fault
few : (r : Refusal) → number_of r ≤ 35
few why.Setup = omega arith
few why.Unsound = omega arith
few why.Room = omega arith
few why.UnknownKind = omega arith
few why.WrongLength = omega arith
few why.WrongWay = omega arith
few why.WrongLead = omega arith
few (why.WrongField k) = omega arith
few why.Op = omega arith
few why.Instance = omega arith
few why.RecoverCommitted = omega arith
few why.NudgeIdle = omega arith
few why.BallotsUsedUp = omega arith
few why.NoBlank = omega arith
few why.OtherCommit = omega arith

many : (f : Fault) → 41 ≤ fault_number f
many fault.Kind = omega arith
many fault.Instance = omega arith
many fault.Unsound = omega arith

-- number and offset tell the answers of a replay apart, which gives no 35
pub replaying-apart : (a b : Result ℕ Unreplayed) → replaying_number a ≡ replaying_number b → replaying_offset a ≡ replaying_offset b → (replaying_number a ≡ 35 → ⊥) → a ≡ b
replaying-apart (Ok i) (Ok k) e o m = ap (λ (x : ℕ). Ok x) o
replaying-apart (Ok i) (Err (unreplayed.Bad y)) e o m = absurd (omega (arith, many y.why))
replaying-apart (Ok i) (Err (unreplayed.Refused r)) e o m = absurd (omega (arith, number_of-pos r))
replaying-apart (Err (unreplayed.Bad x)) (Ok k) e o m = absurd (omega (arith, many x.why))
replaying-apart (Err (unreplayed.Bad x)) (Err (unreplayed.Bad y)) e o m =
    ap₂ (λ (f : Fault) (at : ℕ). Err (unreplayed.Bad (record { why = f; offset = at }))) (fault-apart x.why y.why e) o
replaying-apart (Err (unreplayed.Bad x)) (Err (unreplayed.Refused r)) e o m = absurd (omega (arith, many x.why, few r))
replaying-apart (Err (unreplayed.Refused r)) (Ok k) e o m = absurd (omega (arith, number_of-pos r))
replaying-apart (Err (unreplayed.Refused r)) (Err (unreplayed.Bad y)) e o m = absurd (omega (arith, many y.why, few r))
replaying-apart (Err (unreplayed.Refused r)) (Err (unreplayed.Refused t)) e o m = ap (λ (x : Refusal). Err (unreplayed.Refused x)) (number-apart r t e m)

-- and so do number and length those of a writer
pub entering-apart : (a b : Result ℕ Unwritten) → entering_number a ≡ entering_number b → entering_length a ≡ entering_length b → (entering_number a ≡ 35 → ⊥) → a ≡ b
entering-apart (Ok i) (Ok k) e l m = ap (λ (x : ℕ). Ok x) l
entering-apart (Ok i) (Err (unwritten.Refused r)) e l m = absurd (omega (arith, number_of-pos r))
entering-apart (Ok i) (Err unwritten.Unsound) e l m = absurd (omega arith)
entering-apart (Err (unwritten.Refused r)) (Ok k) e l m = absurd (omega (arith, number_of-pos r))
entering-apart (Err (unwritten.Refused r)) (Err (unwritten.Refused t)) e l m = ap (λ (x : Refusal). Err (unwritten.Refused x)) (number-apart r t e m)
entering-apart (Err (unwritten.Refused r)) (Err unwritten.Unsound) e l m = absurd (omega (arith, few r))
entering-apart (Err unwritten.Unsound) (Ok k) e l m = absurd (omega arith)
entering-apart (Err unwritten.Unsound) (Err (unwritten.Refused r)) e l m = absurd (omega (arith, few r))
entering-apart (Err unwritten.Unsound) (Err unwritten.Unsound) e l m = refl
