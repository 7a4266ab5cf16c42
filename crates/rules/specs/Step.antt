-- "What each event does": what every event's result is made of. Assumes nothing.
-- In all rules n, s is the setup, c this copy, o.j the instance and r its record.
use Rattle.std.specs.Prelude.{ℕ, Bool, ◌&&◌, not, List, eqb, replicate, set}
use Rattle.paper.specs.Vote.{no_vote, member}
use Rattle.paper.specs.Deps.{no_deps}
use Rattle.paper.specs.Message.{no_message}
use Rattle.paper.specs.declared.Vote.{Vote}
use Rattle.paper.specs.declared.Record.{Record}
use Rattle.paper.specs.declared.Body.{Body}
use Rattle.paper.specs.declared.Body.TheVariants.{Commit, Nack}
use Rattle.paper.specs.declared.Message.{Message}
use Rattle.rules.specs.declared.Step.{Step}
use Rattle.rules.specs.Sets.{only, with}

abbrev pub is_committed : Record → Bool
is_committed r = eqb r.vote.status 4

abbrev pub no_replies : List Vote
no_replies = replicate 7 no_vote

-- a record in phase 0 with nothing collected
abbrev pub idle : ℕ → Vote → ℕ → Record
idle b v k = record { joined = b; vote = v; mark = k; phase = 0; set = 0; replies = no_replies }

-- a record of a lead that begins phase p with nothing collected
abbrev pub begun : ℕ → Vote → ℕ → ℕ → Record
begun b v k p = record { joined = b; vote = v; mark = k; phase = p; set = 0; replies = no_replies }

-- a reply from copy q, collected
unfoldable pub collect : Record → ℕ → Vote → Record
collect r q v =
    record { joined = r.joined; vote = r.vote; mark = r.mark; phase = r.phase; set = with r.set q; replies = set r.replies q v }

-- a reply is looked at in its phase, at its ballot, once from each copy
unfoldable pub awaited : ℕ → Record → Message → Bool
awaited p r m = eqb r.phase p && eqb r.joined m.ballot && not (member m.from r.set)

-- what this copy says of o.j at ballot b; the destination is filled in where it goes out
abbrev pub say : ℕ → ℕ → ℕ → ℕ → Body → List ℕ → Message
say c o j b body d = record { from = c; to = 0; owner = o; number = j; ballot = b; body = body; deps = d }

-- nothing is sent; where the record is the one before, that is the paper's "nothing"
abbrev pub silent : Record → Step
silent r = record { entry = r; to = 0; message = no_message }

-- a message goes to all in the set
abbrev pub sending : Record → ℕ → Message → Step
sending r to m = record { entry = r; to = to; message = m }

-- committed: send Commit back, at the joined ballot
unfoldable pub commit_back : ℕ → ℕ → ℕ → Record → ℕ → Step
commit_back c o j r q = sending r (only q) (say c o j r.joined (Commit r.vote.command) r.vote.deps)

-- a lower ballot than the joined one is answered Nack, at the ballot answered
unfoldable pub nack_back : ℕ → ℕ → ℕ → Record → Message → Step
nack_back c o j r m = sending r (only m.from) (say c o j m.ballot (Nack r.joined) no_deps)
