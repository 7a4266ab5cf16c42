-- Demand 3: what holds of every run over bytes, wherever it may start, at any two moments x and then y, however its hosts save.
-- Assumes nothing.
use Rattle.std.specs.Prelude.{ℕ, ◌<◌, ◌≡◌, ◌⊎◌, true, Result}
use mathlib.Core.List.{List, [], ◌++◌, Memᴰ}
use Rattle.paper.specs.declared.Refusal.{Refusal}
use Rattle.paper.specs.Instance.{instance_ok}
use Rattle.paper.specs.Command.{is_noop, Interference, interfere}
use Rattle.paper.specs.Deps.{covers}
use Rattle.paper.specs.declared.Command.{Command}
use Rattle.rules.specs.Step.{is_committed}
use Rattle.rules.specs.Order.{is_marked}
use Rattle.table.specs.Table.{record_in}
use Rattle.gate.specs.Events.{answer_number}
use Rattle.gate.specs.Events as log
use Rattle.order.specs.Calls.{settled, handed, settling_number, handing_number}
use Rattle.safety.specs.Run.{Instance, Happening, requested}
use Rattle.safety.specs.Demand.{Before}
use Rattle.order.specs.declared.Settling.{Settling}
use Rattle.demand.specs.Run.{saved_table, Call, receive, outcome}
use Rattle.demand.specs.Run as run

-- what the demand looks at in a run
pub record View : Type 1 where
  pub State : Type 0
  pub Start : State → Type 0
  pub Run : State → State → Type 0
  -- of a copy: its saved table, the order of its saved marks, the table that it lends, and when nothing is left to be saved
  pub saved : State → ℕ → List ℕ
  pub marks : State → ℕ → List Instance
  pub lent : State → ℕ → List ℕ
  pub Ready : State → ℕ → Type 0
  -- all that was sent, and all that happened
  pub sent : State → List (List ℕ)
  pub history : State → List (Happening (Result Settling Refusal))

-- hosts that put each saved part in its place on disk: specs/Run
abbrev pub in_place : ℕ → ℕ → View
in_place n s =
    record {
      State = run.State;
      Start = run.Start n s;
      Run = run.Run n s;
      saved = λ x c. saved_table (x.copies c);
      marks = λ x c. (x.copies c).marks;
      lent = λ x c. (x.copies c).lent;
      Ready = λ x c. (x.copies c).listed ≡ [];
      sent = λ x. x.sent;
      history = λ x. x.history;
    }

module _ (n s : ℕ) where
  -- no call of copy c on the table t, whatever its arguments, is refused r
  pub record Unrefused (c : ℕ) (t : List ℕ) (r : ℕ) : Type 0 where
    pub request : (out : List ℕ) (op key second edit : ℕ) → answer_number (log.requested n s c t out op key second edit).answer ≡ r → ⊥
    pub event : (out : List ℕ) (call : Call) → answer_number (outcome n s c t out call).answer ≡ r → ⊥
    pub question : (o j : ℕ) → settling_number (settled n s c t o j) ≡ r → ⊥
    pub hand_out : (list : List ℕ) → handing_number (handed n s c t list).answer ≡ r → ⊥

module _ (n s : ℕ) (v : View) where
  -- copy c has saved o.j as committed, with this command and these dependencies
  pub record Committed (x : v.State) (c o j : ℕ) (k : Command) (d : List ℕ) : Type 0 where
    pub copy : c < n
    pub range : instance_ok n s o j ≡ true
    pub status : is_committed (record_in s (v.saved x c) o j) ≡ true
    pub command : (record_in s (v.saved x c) o j).vote.command ≡ k
    pub deps : (record_in s (v.saved x c) o j).vote.deps ≡ d

  -- 1: an instance committed at two copies, at whatever moments, has one command and one list of dependencies
  abbrev pub Agreement : Type 0
  Agreement = (x₀ x y : v.State) → v.Start x₀ → v.Run x₀ x → v.Run x y → (a b o j : ℕ) (k l : Command) (d e : List ℕ)
      → Committed x a o j k d → Committed y b o j l e → (k ≡ l) × (d ≡ e)

  -- 2: a committed command is a no-op, or its instance's owner was asked for it there
  abbrev pub Requested : Type 0
  Requested = (x₀ x : v.State) → v.Start x₀ → v.Run x₀ x → (a o j : ℕ) (k : Command) (d : List ℕ)
      → Committed x a o j k d → (is_noop k ≡ true) ⊎ Memᴰ (requested o j k) (v.history x)

  -- 3: of two committed commands that interfere, at least one instance covers the other
  abbrev pub Covering : Type 0
  Covering = (x₀ x y : v.State) → v.Start x₀ → v.Run x₀ x → v.Run x y → (a b o j p i : ℕ) (k l : Command) (d e : List ℕ)
      → ((o ≡ p) × (j ≡ i) → ⊥) → Committed x a o j k d → Committed y b p i l e → interfere k l ≡ true
      → (covers o j d p i ≡ true) ⊎ (covers p i e o j ≡ true)

  -- 4: two committed instances that interfere, with marks saved at a and at b, have them saved in the same order at both
  abbrev pub Order : Type 0
  Order = (x₀ x y : v.State) → v.Start x₀ → v.Run x₀ x → v.Run x y → (a b c e o j p i : ℕ) (k l : Command) (d f : List ℕ)
      → Committed y c o j k d → Committed y e p i l f → interfere k l ≡ true → Before (o, j) (p, i) (v.marks x a)
      → Memᴰ (o, j) (v.marks y b) → Memᴰ (p, i) (v.marks y b) → Before (o, j) (p, i) (v.marks y b)

  -- 5: a commit stays as it is, and marks only grow at the end; nothing that was sent is refused 10, and no call 1 or 11
  pub record Lasting : Type 0 where
    pub commit : (x₀ x y : v.State) → v.Start x₀ → v.Run x₀ x → v.Run x y → (a o j : ℕ) (k : Command) (d : List ℕ)
        → Committed x a o j k d → Committed y a o j k d
    pub marks : (x₀ x y : v.State) → v.Start x₀ → v.Run x₀ x → v.Run x y → (a : ℕ)
        → (l : List Instance) × (v.marks y a ≡ v.marks x a ++ l)
    pub never-10 : (x₀ x : v.State) → v.Start x₀ → v.Run x₀ x → (c : ℕ) → c < n → v.Ready x c
        → (w : Interference) (out b : List ℕ) → Memᴰ b (v.sent x)
        → answer_number (outcome n s c (v.lent x c) out (receive w b)).answer ≡ 10 → ⊥
    pub never-1 : (x₀ x : v.State) → v.Start x₀ → v.Run x₀ x → (c : ℕ) → c < n → Unrefused n s c (v.lent x c) 1
    pub never-11 : (x₀ x : v.State) → v.Start x₀ → v.Run x₀ x → (c : ℕ) → c < n → Unrefused n s c (v.lent x c) 11

  -- the marks that a copy has saved are the mark bytes of its saved table, and none was saved twice
  pub record Marking : Type 0 where
    pub once : (x₀ x : v.State) → v.Start x₀ → v.Run x₀ x → (a : ℕ) (i : Instance) → Before i i (v.marks x a) → ⊥
    pub listed : (x₀ x : v.State) → v.Start x₀ → v.Run x₀ x → (a o j : ℕ) → Memᴰ (o, j) (v.marks x a)
        → (instance_ok n s o j ≡ true) × (is_marked (record_in s (v.saved x a) o j) ≡ true)
    pub marked : (x₀ x : v.State) → v.Start x₀ → v.Run x₀ x → (a o j : ℕ) → instance_ok n s o j ≡ true
        → is_marked (record_in s (v.saved x a) o j) ≡ true → Memᴰ (o, j) (v.marks x a)

  -- demand 3
  pub record Demand : Type 0 where
    pub agreement : Agreement
    pub requested : Requested
    pub covering : Covering
    pub order : Order
    pub lasting : Lasting
    pub marking : Marking
