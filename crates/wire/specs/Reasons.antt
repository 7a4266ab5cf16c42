-- 1/12, in bytes: what copy 2 of five, with four numbers each, says of bytes that break each clause. Assumes nothing.
use Rattle.std.specs.Prelude.{ℕ, ◌*◌, List, [], ◌∷◌, ◌++◌, replicate, set, Result, Err}
use Rattle.paper.specs.declared.Message.{Message}
use Rattle.paper.specs.declared.Refusal.{Refusal}
use Rattle.paper.specs.declared.Refusal.TheVariants as why
use Rattle.wire.specs.Calls.{read_message}

abbrev pub head : ℕ → ℕ → ℕ → ℕ → ℕ → ℕ → List ℕ
head k q c o j b = k ∷ q ∷ c ∷ o ∷ j ∷ 0 ∷ b ∷ 0 ∷ 0 ∷ 0 ∷ []

abbrev pub command : ℕ → ℕ → ℕ → List ℕ
command op key edit = op ∷ key ∷ 0 ∷ 0 ∷ 0 ∷ edit ∷ 0 ∷ 0 ∷ 0 ∷ 0 ∷ 0 ∷ 0 ∷ 0 ∷ []

abbrev pub write : List ℕ
write = command 2 7 100

-- op, two keys and an edit
abbrev pub long : ℕ → ℕ → ℕ → ℕ → List ℕ
long op key second edit = op ∷ key ∷ 0 ∷ 0 ∷ 0 ∷ second ∷ 0 ∷ 0 ∷ 0 ∷ edit ∷ 0 ∷ 0 ∷ 0 ∷ 0 ∷ 0 ∷ 0 ∷ 0 ∷ []

abbrev pub rewire : List ℕ
rewire = long 3 7 9 100

abbrev pub noop : List ℕ
noop = command 0 0 0

abbrev pub none : List ℕ
none = replicate 14 0

abbrev pub entry : ℕ → ℕ → List ℕ
entry i x = set none (2 * i) x

abbrev pub commit : ℕ → ℕ → ℕ → ℕ → ℕ → List ℕ
commit q c o j b = head 5 q c o j b ++ write ++ none

-- a PrepareOK for ballot 18, led by copy 2
abbrev pub tells : ℕ → ℕ → List ℕ → List ℕ → List ℕ
tells v t k d = head 7 0 2 1 3 18 ++ v ∷ 0 ∷ 0 ∷ 0 ∷ t ∷ [] ++ k ++ d

-- and of a rewire
abbrev pub tells_long : ℕ → ℕ → List ℕ → List ℕ → List ℕ
tells_long v t k d = head 12 0 2 1 3 18 ++ v ∷ 0 ∷ 0 ∷ 0 ∷ t ∷ [] ++ k ++ d

pub record Reason : Type 0 where
  pub answer : Result Message Refusal
  pub is : Result Message Refusal

abbrev pub refuses : Refusal → List ℕ → Reason
refuses r b = record { answer = read_message 5 4 2 b; is = Err r }

unfoldable pub reasons : List Reason
reasons =
    -- nothing at all, a kind that is none, and that before the length
    refuses why.UnknownKind ([])
    ∷ refuses why.UnknownKind (head 0 0 2 1 3 0)
    ∷ refuses why.UnknownKind (13 ∷ [])
    -- a byte too few or too many
    ∷ refuses why.WrongLength (4 ∷ [])
    ∷ refuses why.WrongLength (head 6 1 2 1 3 9 ++ 0 ∷ [])
    ∷ refuses why.WrongLength (head 5 0 2 1 3 0 ++ write)
    ∷ refuses why.WrongLength (head 5 0 2 1 3 0 ++ rewire ++ none)
    ∷ refuses why.WrongLength (head 11 0 2 1 3 0 ++ write ++ none)
    -- the head, field by field
    ∷ refuses (why.WrongField 1) (commit 5 2 1 3 0)
    ∷ refuses (why.WrongField 2) (commit 0 5 1 3 0)
    ∷ refuses (why.WrongField 3) (commit 0 2 5 3 0)
    ∷ refuses (why.WrongField 4) (commit 0 2 1 0 0)
    ∷ refuses (why.WrongField 4) (commit 0 2 1 5 0)
    ∷ refuses (why.WrongField 6) (commit 0 2 1 3 13)
    ∷ refuses (why.WrongField 6) (head 6 1 2 1 3 0)
    -- the way, and the lead
    ∷ refuses why.WrongWay (commit 0 3 1 3 0)
    ∷ refuses why.WrongWay (commit 2 2 1 3 0)
    ∷ refuses why.WrongLead (head 1 3 2 1 3 0 ++ write ++ none)
    ∷ refuses why.WrongLead (head 4 0 2 1 3 9)
    -- what is told, field by field; between two the later
    ∷ refuses (why.WrongField 10) (tells 13 3 write none)
    ∷ refuses (why.WrongField 10) (tells 18 3 write none)
    ∷ refuses (why.WrongField 14) (tells 9 4 write none)
    ∷ refuses (why.WrongField 14) (tells 9 0 noop none)
    ∷ refuses (why.WrongField 15) (tells 9 3 (command 3 7 100) none)
    ∷ refuses (why.WrongField 15) (tells 0 0 write none)
    ∷ refuses (why.WrongField 16) (tells 9 3 (command 0 7 0) none)
    ∷ refuses (why.WrongField 20) (tells 9 3 (command 0 0 100) none)
    ∷ refuses (why.WrongField 34) (tells 9 3 write (entry 3 5))
    ∷ refuses (why.WrongField 38) (tells 9 3 write (entry 5 1))
    ∷ refuses (why.WrongField 34) (tells 0 0 noop (entry 3 4))
    -- the other kinds' fields
    ∷ refuses (why.WrongField 10) (head 1 1 2 1 3 0 ++ noop ++ none)
    ∷ refuses (why.WrongField 10) (head 5 0 2 1 3 0 ++ command 255 7 100 ++ none)
    ∷ refuses (why.WrongField 11) (head 5 0 2 1 3 0 ++ command 0 7 0 ++ none)
    ∷ refuses (why.WrongField 15) (head 5 0 2 1 3 0 ++ command 0 0 100 ++ none)
    ∷ refuses (why.WrongField 23) (head 5 0 2 1 3 0 ++ write ++ entry 0 5)
    ∷ refuses (why.WrongField 35) (head 5 0 2 1 3 0 ++ write ++ entry 6 1)
    ∷ refuses (why.WrongField 16) (head 2 0 2 1 3 10 ++ entry 3 5)
    ∷ refuses (why.WrongField 10) (head 8 0 2 1 3 10 ++ 13 ∷ 0 ∷ 0 ∷ 0 ∷ [])
    ∷ refuses (why.WrongField 10) (head 8 0 2 1 3 10 ++ 10 ∷ 0 ∷ 0 ∷ 0 ∷ [])
    -- a rewire: its kind, its op, its keys, and what stands behind them
    ∷ refuses why.WrongLead (head 9 3 2 1 3 0 ++ rewire ++ none)
    ∷ refuses why.WrongLead (head 10 3 2 1 3 9 ++ rewire ++ none)
    ∷ refuses (why.WrongField 6) (head 12 0 2 2 3 0 ++ 0 ∷ 0 ∷ 0 ∷ 0 ∷ 1 ∷ [] ++ rewire ++ none)
    ∷ refuses (why.WrongField 10) (head 5 0 2 1 3 0 ++ command 3 7 100 ++ none)
    ∷ refuses (why.WrongField 10) (head 11 0 2 1 3 0 ++ long 2 7 9 100 ++ none)
    ∷ refuses (why.WrongField 10) (head 11 0 2 1 3 0 ++ long 0 0 0 0 ++ none)
    ∷ refuses (why.WrongField 10) (head 11 0 2 1 3 0 ++ long 4 7 9 100 ++ none)
    ∷ refuses (why.WrongField 15) (head 11 0 2 1 3 0 ++ long 3 7 7 100 ++ none)
    ∷ refuses (why.WrongField 15) (head 11 0 2 1 3 0 ++ long 3 9 7 100 ++ none)
    ∷ refuses (why.WrongField 27) (head 11 0 2 1 3 0 ++ rewire ++ entry 0 5)
    ∷ refuses (why.WrongField 39) (head 11 0 2 1 3 0 ++ rewire ++ entry 6 1)
    ∷ refuses (why.WrongField 15) (tells_long 0 0 rewire none)
    ∷ refuses (why.WrongField 15) (tells_long 9 3 (long 1 7 9 100) none)
    ∷ refuses (why.WrongField 20) (tells_long 9 3 (long 3 7 7 100) none)
    ∷ refuses (why.WrongField 42) (tells_long 9 3 rewire (entry 5 1))
    -- of several the first: the ranges of the head, the way, the lead, the body
    ∷ refuses (why.WrongField 3) (head 1 3 3 5 3 0 ++ noop ++ entry 0 5)
    ∷ refuses why.WrongWay (head 1 3 3 1 3 0 ++ noop ++ entry 0 5)
    ∷ refuses why.WrongLead (head 1 3 2 1 3 0 ++ noop ++ entry 0 5)
    ∷ refuses (why.WrongField 10) (head 1 1 2 1 3 0 ++ noop ++ entry 0 5)
    ∷ []

unfoldable pub answers_of : List Reason → List (Result Message Refusal)
answers_of [] = []
answers_of (x ∷ xs) = x.answer ∷ answers_of xs

unfoldable pub refusals_of : List Reason → List (Result Message Refusal)
refusals_of [] = []
refusals_of (x ∷ xs) = x.is ∷ refusals_of xs
