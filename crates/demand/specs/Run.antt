-- A run of N copies over bytes: what the public calls answer, what their hosts save and send, and every cut. Assumes nothing.
-- In all of this n, s is the setup, c a copy and o.j an instance.
use Rattle.std.specs.Prelude.{ℕ, zero, suc, ◌<◌, ◌≡◌, true, false, take, drop, Result, Ok}
use mathlib.Core.List.{List, [], ◌∷◌, ◌++◌, Memᴰ}
use Rattle.paper.specs.declared.Refusal.{Refusal}
use Rattle.paper.specs.Command.{is_noop, command_ok, Interference, interfere, Wide}
use Rattle.paper.specs.Fits.{CommandFits}
use Rattle.paper.specs.declared.Command.{Command}
use Rattle.rules.specs.Order.{instance_of}
use Rattle.wire.specs.Wire.{length_of, kind_at}
use Rattle.table.specs.Table.{blank_table}
use Rattle.table.specs.Calls.{part_of, put_part}
use Rattle.gate.specs.Events.{event_of, Outcome, gated, command_of, asked, receive_open, recovered, nudged}
use Rattle.gate.specs.Events as log
use Rattle.order.specs.declared.Settling.{Settling}
use Rattle.order.specs.Calls.{settled, Handed, handed}
use Rattle.safety.specs.Run.{Instance, Happening, requested, answered, replaced}

-- a copy, as its host has it
pub record Copy : Type 0 where
  -- what its host has saved
  pub disk : List ℕ
  -- the table in its memory, which it lends to the calls
  pub lent : List ℕ
  -- messages of saved events, which may leave: any of them, in any order, any number of times
  pub leaving : List (List ℕ)
  -- what the last hand-out listed and is not saved yet
  pub listed : List ℕ
  -- the order of saved marks
  pub marks : List Instance

-- its saved table: the disk is the table
abbrev pub saved_table : Copy → List ℕ
saved_table k = k.disk

pub record State : Type 0 where
  pub copies : ℕ → Copy
  -- all that ever left a copy: a lost message is never received, a repeated or late one is received at any time
  pub sent : List (List ℕ)
  -- every request with the instance that it got, and every answer to a question, in their order
  pub history : List (Happening (Result Settling Refusal))

-- each copy has its table of these, saved and in memory; this counts as past, and nothing is sent
abbrev pub begun : (ℕ → List ℕ) → List (Happening (Result Settling Refusal)) → State
begun tables past =
    record {
      copies = λ c. record { disk = tables c; lent = tables c; leaving = []; listed = []; marks = [] };
      sent = [];
      history = past;
    }

-- where a run may start: every copy has what the blank-table call writes, and nothing is requested
pub data Start (n s : ℕ) : State → Type 0 where
  blanks : Start n s (begun (blank_table n s) [])

-- a call for an event. Hosts are not brought up to date all at once: w is what interferes by the call that this copy makes
-- at this moment, 4/12's `interfere` or document 01's `same_object`.
pub data Call : Type 0 where
  request : (w : Interference) (k : Command) → Call
  receive : (w : Interference) (b : List ℕ) → Call
  recover nudge : (o j : ℕ) → Call

-- what it answers on the table t with the room out, and both after it: what the calls' contracts cite. A request is taken
-- behind the test of its op and keys (refusal 4), whatever ops the call takes.
abbrev pub outcome : ℕ → ℕ → ℕ → List ℕ → List ℕ → Call → Outcome
outcome n s c t out (request w k) = gated n s c t out (asked w n s c t out k)
outcome n s c t out (receive w b) = gated n s c t out (receive_open w n s c t out b)
outcome n s c t out (recover o j) = recovered n s c t out o j
outcome n s c t out (nudge o j) = nudged n s c t out o j

-- wherever the public request answers an event, it is that outcome, of a command that is no no-op and has its keys; proofs/Steps:
-- public-request
abbrev pub PublicRequest : Type 0
PublicRequest = (n s c : ℕ) (t out : List ℕ) (op key second edit o j w : ℕ)
    → (log.requested n s c t out op key second edit).answer ≡ event_of o j w
    → (is_noop (command_of op key second edit) ≡ false) × (command_ok (command_of op key second edit) ≡ true)
    × (log.requested n s c t out op key second edit ≡ outcome n s c t out (request interfere (command_of op key second edit)))

-- and so is the public call for a message; proofs/Steps: public-message
abbrev pub PublicMessage : Type 0
PublicMessage = (n s c : ℕ) (t out b : List ℕ) → log.received n s c t out b ≡ outcome n s c t out (receive interfere b)

-- every copy keeps in order at least what interferes; a requested command is no no-op, has the keys that its op takes, each a u32, and
-- its edit is a u64; messages are never invented
abbrev pub Possible : List (List ℕ) → Call → Type 0
Possible sent (request w k) = Wide w × (is_noop k ≡ false) × (command_ok k ≡ true) × CommandFits k
Possible sent (receive w b) = Wide w × Memᴰ b sent
Possible sent (recover o j) = Unit {0}
Possible sent (nudge o j) = Unit {0}

-- the history after an answered call: a request adds the instance that it answered and its command
abbrev pub recorded : {A : Type 0} → List (Happening A) → ℕ → ℕ → Call → List (Happening A)
recorded l o j (request w k) = l ++ requested o j k ∷ []
recorded l o j (receive w b) = l
recorded l o j (recover p i) = l
recorded l o j (nudge p i) = l

-- at most k messages that stand one after the other, each as long as its kind says
abbrev pub messages_in : ℕ → List ℕ → List (List ℕ)
messages_in zero b = []
messages_in (suc k) [] = []
messages_in (suc k) (x ∷ b) = take (length_of (kind_at (x ∷ b))) (x ∷ b) ∷ messages_in k (drop (length_of (kind_at (x ∷ b))) (x ∷ b))

-- the messages among the first w bytes of a room
abbrev pub written : ℕ → List ℕ → List (List ℕ)
written w out = messages_in w (take w out)

-- what is saved at a time: the part of an instance's record
pub data Save : Type 0 where
  entry : (o j : ℕ) (part : List ℕ) → Save

-- the part of o.j as it stands in the table t
abbrev pub save_of : ℕ → ℕ → ℕ → List ℕ → ℕ → ℕ → Save
save_of n s c t o j = entry o j (part_of n s c t o j)

-- the disk after a save
abbrev pub stored : ℕ → List ℕ → Save → List ℕ
stored s disk (entry o j part) = put_part s disk o j part

-- an event answered o.j and w bytes: its record is saved, and then its messages may leave
abbrev pub acted : ℕ → ℕ → ℕ → Copy → Outcome → ℕ → ℕ → ℕ → Copy
acted n s c k y o j w =
    record {
      disk = stored s k.disk (save_of n s c y.table o j);
      lent = y.table;
      leaving = k.leaving ++ written w y.out;
      listed = [];
      marks = k.marks;
    }

-- a hand-out answered i codes: none is saved yet
abbrev pub handing : Copy → Handed → ℕ → Copy
handing k y i = record { disk = k.disk; lent = y.table; leaving = k.leaving; listed = take i y.list; marks = k.marks }

-- the mark that a code stands for is saved; the others are still to come
abbrev pub marking : ℕ → ℕ → ℕ → Copy → ℕ → List ℕ → Copy
marking n s c k code rest =
    record {
      disk = stored s k.disk (save_of n s c k.lent (instance_of code).0 (instance_of code).1);
      lent = k.lent;
      leaving = k.leaving;
      listed = rest;
      marks = k.marks ++ instance_of code ∷ [];
    }

-- cut off: only what is saved stays, and the copy restarts from it
abbrev pub restarted : Copy → Copy
restarted k = record { disk = k.disk; lent = saved_table k; leaving = []; listed = []; marks = k.marks }

-- what copy c is from now on
abbrev pub changed : State → ℕ → Copy → State
changed x c k = record { copies = replaced x.copies c k; sent = x.sent; history = x.history }

-- what happened by now
abbrev pub remembered : State → List (Happening (Result Settling Refusal)) → State
remembered x l = record { copies = x.copies; sent = x.sent; history = l }

-- A refused call changes nothing. A call whose record is not saved when the cut comes is a cut alone.
pub data Move (n s : ℕ) (x : State) : State → Type 0 where
  -- a call that answers an event, with any room; marks that were listed are all saved before it
  event : (c : ℕ) (call : Call) (out : List ℕ) (o j w : ℕ) → c < n → Possible x.sent call → (x.copies c).listed ≡ []
      → (outcome n s c (x.copies c).lent out call).answer ≡ event_of o j w
      → Move n s x (remembered (changed x c (acted n s c (x.copies c) (outcome n s c (x.copies c).lent out call) o j w)) (recorded x.history o j call))
  -- a message of a saved event leaves
  leave : (c : ℕ) (b : List ℕ) → c < n → Memᴰ b (x.copies c).leaving
      → Move n s x (record { copies = x.copies; sent = x.sent ++ b ∷ []; history = x.history })
  -- a hand-out into any list; marks that were listed before are all saved before it
  hand_out : (c : ℕ) (list : List ℕ) (i : ℕ) → c < n → (x.copies c).listed ≡ []
      → (handed n s c (x.copies c).lent list).answer ≡ Ok i
      → Move n s x (changed x c (handing (x.copies c) (handed n s c (x.copies c).lent list) i))
  -- the first mark of those listed is saved
  mark : (c code : ℕ) (rest : List ℕ) → c < n → (x.copies c).listed ≡ code ∷ rest
      → Move n s x (changed x c (marking n s c (x.copies c) code rest))
  -- the settled question, at any moment and with any arguments: only its answer is remembered
  question : (c o j : ℕ) → c < n
      → Move n s x (remembered x (x.history ++ answered c o j (settled n s c (x.copies c).lent o j) ∷ []))
  -- a cut, at any moment: between a save and each message leaving, between two saves of marks
  cut : (c : ℕ) → c < n → Move n s x (changed x c (restarted (x.copies c)))

-- moves in a row: Run n s x y says that the moment y comes after x
pub data Run (n s : ℕ) (x : State) : State → Type 0 where
  stay : Run n s x x
  further : {y z : State} → Run n s x y → Move n s y z → Run n s x z
