-- "Sizes and names": commands. Assumes nothing.
use Rattle.std.specs.Prelude.{ℕ, ◌≡◌, Bool, true, ◌&&◌, ◌||◌, not, cond, leb, ltb, eqb}
use Rattle.paper.specs.Logic.{implies}
use Rattle.paper.specs.declared.Op.{Op}
use Rattle.paper.specs.declared.Op.TheVariants.{Noop, Read, Write, Rewire}
use Rattle.paper.specs.declared.Command.{Command}

-- 0 no-op, 1 read, 2 write, 3 rewire
abbrev pub op_number : Op → ℕ
op_number Noop = 0
op_number Read = 1
op_number Write = 2
op_number Rewire = 3

abbrev pub is_noop : Command → Bool
is_noop c = eqb (op_number c.op) 0

abbrev pub is_write : Command → Bool
is_write c = leb 2 (op_number c.op)

-- 5/12: a write on two objects
abbrev pub is_rewire : Command → Bool
is_rewire c = eqb (op_number c.op) 3

-- the command of a blank record, and what a lost edit is replaced by
abbrev pub noop : Command
noop = record { op = Noop; key = 0; second = 0; edit = 0 }

-- a command on one object; a rewire of two
abbrev pub on_one : Op → ℕ → ℕ → Command
on_one op k e = record { op = op; key = k; second = 0; edit = e }

abbrev pub on_two : ℕ → ℕ → ℕ → Command
on_two k l e = record { op = Rewire; key = k; second = l; edit = e }

unfoldable pub same_command : Command → Command → Bool
same_command a b =
    eqb (op_number a.op) (op_number b.op) && eqb a.key b.key && eqb a.second b.second && eqb a.edit b.edit

-- a no-op has zero key and edit
abbrev pub key_ok : Command → Bool
key_ok c = implies (is_noop c) (eqb c.key 0)

-- 5/12: a rewire names two objects, the smaller first; nothing else has a second
abbrev pub second_ok : Command → Bool
second_ok c = cond (is_rewire c) (ltb c.key c.second) (eqb c.second 0)

abbrev pub edit_ok : Command → Bool
edit_ok c = implies (is_noop c) (eqb c.edit 0)

unfoldable pub command_ok : Command → Bool
command_ok c = key_ok c && second_ok c && edit_ok c

-- which commands a copy keeps in order
abbrev pub Interference : Type 0
Interference = Command → Command → Bool

-- it is on the object k
unfoldable pub touches : Command → ℕ → Bool
touches c k = eqb c.key k || (is_rewire c && eqb c.second k)

-- both ask for one object; by this wider test of document 01 the copies work that are not brought up to date yet
unfoldable pub same_object : Interference
same_object a b = not (is_noop a) && not (is_noop b) && (touches b a.key || (is_rewire a && touches b a.second))

-- and one of them at least changes it: what two reads find does not depend on their order (4/12)
unfoldable pub interfere : Interference
interfere a b = same_object a b && (is_write a || is_write b)

-- what interferes is among w
abbrev pub Wide : Interference → Type 0
Wide w = (a b : Command) → interfere a b ≡ true → w a b ≡ true
