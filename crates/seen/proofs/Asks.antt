-- What is sought for a command is what interferes with it. Assumes nothing.
use Prim.Native.Nat.{ℕ, ◌≤◌}
use mathlib.Core.Path.{◌≡◌, refl, sym, ap, ◌∙◌}
use mathlib.Core.Bool.{Bool, true, false, ◌&&◌, ◌||◌, not}
use mathlib.Core.List.{List}
use lib.Dec.{leb, eqb}
use borrow.Author.Tests.{eq-eqb, ne_eqb, le-leb}
use Rattle.paper.specs.Command.{op_number, is_rewire, touches, interfere}
use Rattle.paper.specs.declared.Op.{Op}
use Rattle.paper.specs.declared.Op.TheVariants.{Noop, Read, Write, Rewire}
use Rattle.paper.specs.declared.Command.{Command}
use Rattle.paper.proofs.Interference.{by-objects, by-fields}
use Rattle.seen.specs.Records.{records_in}
use Rattle.seen.specs.declared.sought.Sought.{Sought}
use Rattle.seen.specs.Sought.{least_op, sought_for, asks}

pub on_both : (k : Command) {l : ℕ} → l ≡ least_op k.op → is_rewire k ≡ true → record { first = k.key; second = k.second; least = l } ≡ sought_for k
on_both k e h = rw (e, h)

pub on-only : (k : Command) {l : ℕ} → l ≡ least_op k.op → is_rewire k ≡ false → record { first = k.key; second = k.key; least = l } ≡ sought_for k
on-only k e h = rw (e, h)

-- the ops of two commands that interfere on a common object
least-op : (a b : Op) → leb (least_op a) (op_number b)
    ≡ (not (eqb (op_number a) 0) && not (eqb (op_number b) 0) && (leb 2 (op_number a) || leb 2 (op_number b)))
least-op Noop Noop = refl
least-op Noop Read = refl
least-op Noop Write = refl
least-op Noop Rewire = refl
least-op Read Noop = refl
least-op Read Read = refl
least-op Read Write = refl
least-op Read Rewire = refl
least-op Write Noop = refl
least-op Write Read = refl
least-op Write Write = refl
least-op Write Rewire = refl
least-op Rewire Noop = refl
least-op Rewire Read = refl
least-op Rewire Write = refl
least-op Rewire Rewire = refl

pub sought : (k l c : Command) → asks (sought_for k) l c ≡ interfere k c
sought k l c = rw (least-op k.op c.op) (sym (by-objects k c))

-- a command is asked for its first key, then for its op, and for its second key if it is a rewire
module _ (c : Command) (a b : ℕ) {key : ℕ} (ek : key ≡ c.key) where
  pub on-first : key ≡ a → true ≡ (touches c a || touches c b)
  on-first h = sym (by-fields c a b ∙ rw (eq-eqb c.key a (sym ek ∙ h)))

  pub on-second : (key ≡ a → ⊥) → key ≡ b → true ≡ (touches c a || touches c b)
  on-second m h = sym (by-fields c a b ∙ rw (ne_eqb c.key a (λ x. m (ek ∙ x)), eq-eqb c.key b (sym ek ∙ h)))

  module _ (m : key ≡ a → ⊥) (m' : key ≡ b → ⊥) {n : ℕ} (eo : n ≡ op_number c.op) where
    pub on_one : (n ≡ 3 → ⊥) → false ≡ (touches c a || touches c b)
    on_one h = sym (by-fields c a b ∙ rw (ne_eqb c.key a (λ x. m (ek ∙ x)), ne_eqb c.key b (λ x. m' (ek ∙ x)), ne_eqb (op_number c.op) 3 (λ x. h (eo ∙ x))))

    pub on-two : n ≡ 3 → {second : ℕ} → second ≡ c.second → (touches c a || touches c b) ≡ (eqb second a || eqb second b)
    on-two h es = by-fields c a b ∙ rw (ne_eqb c.key a (λ x. m (ek ∙ x)), ne_eqb c.key b (λ x. m' (ek ∙ x)), eq-eqb (op_number c.op) 3 (sym eo ∙ h), es)

-- a record is passed over that is on neither object, or without a vote; else its op decides
module _ (w : Sought) (k : Command) (s : ℕ) (t : List ℕ) (p i : ℕ) where
  abbrev command : Command
  command = (records_in s t p i).vote.command

  abbrev status : ℕ
  status = (records_in s t p i).vote.status

  pub passed_over : (touches command w.first || touches command w.second) ≡ false → false ≡ (leb 1 status && asks w k command)
  passed_over e = rw e (nothing (leb 1 status))
    where
      nothing : (b : Bool) → false ≡ (b && false)
      nothing true = refl
      nothing false = refl

  pub unvoted : status ≡ 0 → false ≡ (leb 1 status && asks w k command)
  unvoted e = rw e

  pub voted : {x : ℕ} → x ≡ status → 1 ≤ x → (touches command w.first || touches command w.second) ≡ true → {n : ℕ} → n ≡ op_number command.op
      → leb w.least n ≡ (leb 1 status && asks w k command)
  voted ex h e eo = let one : leb 1 status ≡ true = sym (ap (leb 1) ex) ∙ le-leb 1 _ h in rw (one, e, eo)
