-- Demand 3: what holds of every run, wherever it may start, at any two moments x and then y. Assumes nothing.
use Rattle.std.specs.Prelude.{ℕ, ◌≡◌, ◌⊎◌, true, false}
use mathlib.Core.List.{List, ◌∷◌, ◌++◌, Memᴰ}
use Rattle.paper.specs.Command.{is_noop, interfere}
use Rattle.paper.specs.Deps.{covers}
use Rattle.paper.specs.Valid.{valid}
use Rattle.paper.specs.declared.Command.{Command}
use Rattle.paper.specs.declared.Message.{Message}
use Rattle.paper.specs.Instance.{instance_ok}
use Rattle.rules.specs.Step.{is_committed}
use Rattle.rules.specs.Order.{is_marked}
use Rattle.rules.specs.Received.{refused10}
use Rattle.safety.specs.Run.{State, Instance, requested, Start, Run}

-- copy c has o.j committed, with this command and these dependencies
pub record Committed (x : State) (c o j : ℕ) (k : Command) (d : List ℕ) : Type 0 where
  pub status : is_committed (x.tables c o j) ≡ true
  pub command : (x.tables c o j).vote.command ≡ k
  pub deps : (x.tables c o j).vote.deps ≡ d

-- a stands before b in a list
pub data Before (a b : Instance) : List Instance → Type 0 where
  now : {l : List Instance} → Memᴰ b l → Before a b (a ∷ l)
  later : {e : Instance} {l : List Instance} → Before a b l → Before a b (e ∷ l)

module _ (n s : ℕ) where
  -- 1: an instance committed at two copies, at whatever moments, has one command and one list of dependencies
  abbrev pub Agreement : Type 0
  Agreement = (x₀ x y : State) → Start n s x₀ → Run n s x₀ x → Run n s x y → (a b o j : ℕ) (k l : Command) (d e : List ℕ)
      → Committed x a o j k d → Committed y b o j l e → (k ≡ l) × (d ≡ e)

  -- 2: a committed command is a no-op, or its instance's owner was asked for it there
  abbrev pub Requested : Type 0
  Requested = (x₀ x : State) → Start n s x₀ → Run n s x₀ x → (a o j : ℕ) (k : Command) (d : List ℕ)
      → Committed x a o j k d → (is_noop k ≡ true) ⊎ Memᴰ (requested o j k) x.history

  -- 3: of two committed commands that interfere, at least one instance covers the other
  abbrev pub Covering : Type 0
  Covering = (x₀ x y : State) → Start n s x₀ → Run n s x₀ x → Run n s x y → (a b o j p i : ℕ) (k l : Command) (d e : List ℕ)
      → ((o ≡ p) × (j ≡ i) → ⊥) → Committed x a o j k d → Committed y b p i l e → interfere k l ≡ true
      → (covers o j d p i ≡ true) ⊎ (covers p i e o j ≡ true)

  -- 4: two committed instances that interfere, marked at a and at b, are marked in the same order at both
  abbrev pub Order : Type 0
  Order = (x₀ x y : State) → Start n s x₀ → Run n s x₀ x → Run n s x y → (a b c e o j p i : ℕ) (k l : Command) (d f : List ℕ)
      → Committed y c o j k d → Committed y e p i l f → interfere k l ≡ true
      → Before (o, j) (p, i) (x.marks a) → Memᴰ (o, j) (y.marks b) → Memᴰ (p, i) (y.marks b)
      → Before (o, j) (p, i) (y.marks b)

  -- 5: a commit stays as it is, marks only grow at the end, and no Commit is refused for differing (refusal 10)
  pub record Lasting : Type 0 where
    pub commit : (x₀ x y : State) → Start n s x₀ → Run n s x₀ x → Run n s x y → (a o j : ℕ) (k : Command) (d : List ℕ)
        → Committed x a o j k d → Committed y a o j k d
    pub marks : (x₀ x y : State) → Start n s x₀ → Run n s x₀ x → Run n s x y → (a : ℕ) → (l : List Instance) × (y.marks a ≡ x.marks a ++ l)
    pub unrefused : (x₀ x : State) → Start n s x₀ → Run n s x₀ x → (c : ℕ) (m : Message) → Memᴰ m x.sent → valid n s c m ≡ true
        → refused10 (x.tables c m.owner m.number) m ≡ false

  -- what a copy has listed as handed out is what its table marks, and nothing is listed twice
  pub record Marking : Type 0 where
    pub once : (x₀ x : State) → Start n s x₀ → Run n s x₀ x → (a : ℕ) (i : Instance) → Before i i (x.marks a) → ⊥
    pub listed : (x₀ x : State) → Start n s x₀ → Run n s x₀ x → (a o j : ℕ) → Memᴰ (o, j) (x.marks a)
        → (instance_ok n s o j ≡ true) × (is_marked (x.tables a o j) ≡ true)
    pub marked : (x₀ x : State) → Start n s x₀ → Run n s x₀ x → (a o j : ℕ) → instance_ok n s o j ≡ true → is_marked (x.tables a o j) ≡ true
        → Memᴰ (o, j) (x.marks a)

  -- demand 3
  pub record Demand : Type 0 where
    pub agreement : Agreement
    pub requested : Requested
    pub covering : Covering
    pub order : Order
    pub lasting : Lasting
    pub marking : Marking
