-- Each event on a whole table: its instance, and what it does there; w is what interferes. Assumes nothing.
use Rattle.std.specs.Prelude.{ℕ, zero, suc, ◌+◌, ◌&&◌, cond, List, [], ◌∷◌, eqb}
use Rattle.paper.specs.Command.{Interference}
use Rattle.paper.specs.Vote.{member}
use Rattle.paper.specs.declared.Command.{Command}
use Rattle.paper.specs.declared.Record.{Record}
use Rattle.paper.specs.declared.Message.{Message}
use Rattle.rules.specs.declared.Step.{Step}
use Rattle.rules.specs.Seen.{Records, seen}
use Rattle.rules.specs.Request.{lowest_blank, request}
use Rattle.rules.specs.Received.{receive}
use Rattle.rules.specs.Recover.{recover}
use Rattle.rules.specs.Nudge.{nudge}

-- the table with another record at o.j
unfoldable pub put : Records → ℕ → ℕ → Record → Records
put t o j r p i = cond (eqb p o && eqb i j) r (t p i)

-- the number that a request at copy c takes; above S where none is blank
unfoldable pub request_number : ℕ → ℕ → Records → ℕ
request_number s c t = lowest_blank s 1 (t c)

unfoldable pub on_request : Interference → ℕ → ℕ → ℕ → Records → Command → Step
on_request w n s c t k = request n c (request_number s c t) k (seen w n s t c (request_number s c t) k)

unfoldable pub on_message : Interference → ℕ → ℕ → ℕ → Records → Message → Step
on_message w n s c t m = receive n c (seen w n s t m.owner m.number) (t m.owner m.number) m

unfoldable pub on_recover : ℕ → ℕ → Records → ℕ → ℕ → Step
on_recover n c t o j = recover n c o j (t o j)

unfoldable pub on_nudge : ℕ → ℕ → Records → ℕ → ℕ → Step
on_nudge n c t o j = nudge n c o j (t o j)

-- a message with its destination filled in
abbrev pub addressed : Message → ℕ → Message
addressed m q =
    record { from = m.from; to = q; owner = m.owner; number = m.number; ballot = m.ballot; body = m.body; deps = m.deps }

-- the messages to the members of a set from copy q on, among k, by rising destination
unfoldable pub messages_from : ℕ → ℕ → ℕ → Message → List Message
messages_from zero q to m = []
messages_from (suc k) q to m = cond (member q to) (addressed m q ∷ messages_from k (q + 1) to m) (messages_from k (q + 1) to m)

abbrev pub messages : Step → List Message
messages x = messages_from 7 0 x.to x.message
