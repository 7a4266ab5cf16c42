-- What copies vote for: a command with its dependencies. Assumes nothing.
use Prim.Native.Nat.{ℕ, ◌≤◌, ◌<◌}
use mathlib.Core.Path.{◌≡◌, refl, sym, ap, ◌∙◌}
use mathlib.Core.List.{List}
use lib.ListN.{get_or}
use native.Mathlib.Omega.{arith}
use Rattle.paper.specs.declared.Command.{Command}
use Rattle.paper.specs.Command.{noop, same_command, interfere}
use mathlib.Core.Bool.{Bool, true, false}
use Rattle.paper.proofs.Laws.{same_command-eq, same_command-refl}
use Rattle.paper.specs.Deps.{no_deps}
use Rattle.paper.specs.Ballot.{lead}
use Rattle.paper.proofs.Interference.{symmetric}

pub record Value : Type 0 where
  pub command : Command
  pub deps : List ℕ

abbrev pub cmd : Value → Command
cmd v = v.command

abbrev pub start : Value
start = record { command = noop; deps = no_deps }

-- w covers all that v covers
abbrev pub Sub : Value → Value → Type 0
Sub v w = (i : ℕ) → i < 7 → get_or v.deps i 0 ≤ get_or w.deps i 0

pub sub_refl : (v : Value) → Sub v v
sub_refl v i l = omega arith

-- ballot 0 is the owner's
pub lead-0 : (o : ℕ) → lead o 0 ≡ o
unfolding lead
lead-0 o = refl

-- two commands interfere
abbrev pub Interf : Command → Command → Type 0
Interf a b = interfere a b ≡ true

pub interf-sym : (a b : Command) → Interf a b → Interf b a
interf-sym a b h = sym (symmetric a b) ∙ h

-- equality of commands is decided
pub command? : (a b : Command) → Dec (a ≡ b)
command? a b = go (same_command a b) refl
  where
    go : (t : Bool) → same_command a b ≡ t → Dec (a ≡ b)
    go true e = yes (same_command-eq a b e)
    go false e = no (λ h. let z : true ≡ false = sym (same_command-refl a) ∙ ap (same_command a) h ∙ e in let w : ◌≡◌ {A = ℕ} 0 1 = cc in omega arith)
