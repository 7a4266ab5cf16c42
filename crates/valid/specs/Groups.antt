-- The clauses of "valid" in the groups in which the code tries them. Assumes nothing.
-- n, s: the setup; c: the copy that receives; m: the message; w: the row of its kind; v: the vote that it carries; o: the op's
-- number as it stands in the bytes; j: the joined ballot that it carries.
use Rattle.std.specs.Prelude.{ℕ, zero, suc, ◌+◌, Bool, ◌&&◌, cond, List, eqb, ltb, Result, Ok, Err}
use Rattle.paper.specs.Logic.{implies}
use Rattle.paper.specs.Command.{key_ok, second_ok, edit_ok}
use Rattle.paper.specs.Deps.{entry_ok}
use Rattle.paper.specs.Vote.{voted_ok, status_ok, voted_below, none_voted, none_op}
use Rattle.paper.specs.Message.{vote_in}
use Rattle.paper.specs.Valid.{from_range, to_range, owner_range, number_range, ballot_range, recovery_ballot, to_here, from_another, from_lead, to_lead, op_range, fresh_op, joined_range, deps_carried, second_carried}
use Rattle.paper.specs.declared.Vote.{Vote}
use Rattle.paper.specs.declared.Row.{Row}
use Rattle.paper.specs.declared.Message.{Message}
use Rattle.paper.specs.declared.Field.TheVariants as field
use Rattle.paper.specs.declared.Blame.{Blame}
use Rattle.paper.specs.declared.Blame.TheVariants as blame

-- the blame, unless the test holds
abbrev pub unless : Bool → Blame → Result Unit Blame → Result Unit Blame
unless b x rest = cond b rest (Err x)

-- the first of two verdicts that blames
abbrev pub and_then : Result Unit Blame → Result Unit Blame → Result Unit Blame
and_then (Ok u) y = y
and_then (Err x) y = Err x

-- nothing stands beside a kind that has no place for it
abbrev pub all_carried : Row → Message → Bool
all_carried w m = deps_carried w m && second_carried w (vote_in m)

unfoldable pub head_verdict : ℕ → ℕ → Row → Message → Result Unit Blame
head_verdict n s w m =
    unless (all_carried w m) blame.Length
    (unless (from_range n m) (blame.Of field.From)
    (unless (to_range n m) (blame.Of field.To)
    (unless (owner_range n m) (blame.Of field.Owner)
    (unless (number_range s m) (blame.Of field.Number) (unless (ballot_range n m && recovery_ballot w m) (blame.Of field.Ballot) (Ok tt))))))

unfoldable pub way_verdict : ℕ → Row → Message → Result Unit Blame
way_verdict c w m =
    unless (to_here c m && from_another c m) blame.Way (unless (from_lead w m && to_lead w m) blame.Lead (Ok tt))

-- each group of the body where the kind has that part
unfoldable pub told_verdict : ℕ → Row → Message → Vote → Result Unit Blame
told_verdict n w m v =
    cond w.parts.told
    (unless (voted_ok n v && voted_below m.ballot v) (blame.Of field.Voted) (unless (status_ok 3 v && none_voted v) (blame.Of field.Status) (Ok tt)))
    (Ok tt)

unfoldable pub command_verdict : Row → Message → Vote → Result Unit Blame
command_verdict w m v =
    cond w.parts.command
    (unless (fresh_op w m v && implies w.parts.told (none_op v)) (blame.Of field.Op)
    (unless (key_ok v.command) (blame.Of field.Key)
    (unless (second_ok v.command) (blame.Of field.Second) (unless (edit_ok v.command) (blame.Of field.Edit) (Ok tt)))))
    (Ok tt)

-- the highest entry: told without a status there are no dependencies
abbrev pub highest : ℕ → Row → Vote → ℕ
highest s w v = cond (w.parts.told && eqb v.status 0) 0 s

-- k entries, from i on
unfoldable pub entries_verdict : ℕ → ℕ → List ℕ → ℕ → ℕ → Result Unit Blame
entries_verdict n s d zero i = Ok tt
entries_verdict n s d (suc k) i = unless (entry_ok n s d i) (blame.Of (field.Entry i)) (entries_verdict n s d k (i + 1))

unfoldable pub deps_verdict : ℕ → ℕ → Row → Vote → Result Unit Blame
deps_verdict n s w v = cond w.parts.deps (entries_verdict n (highest s w v) v.deps 7 0) (Ok tt)

unfoldable pub joined_verdict : ℕ → Row → Message → ℕ → Result Unit Blame
joined_verdict n w m j =
    cond w.parts.joined (unless (joined_range n j && ltb m.ballot j) (blame.Of field.Joined) (Ok tt)) (Ok tt)

unfoldable pub body_verdict : ℕ → ℕ → Row → ℕ → Message → Vote → ℕ → Result Unit Blame
body_verdict n s w o m v j =
    and_then (told_verdict n w m v)
    (unless (op_range w.parts.second o) (blame.Of field.Op) (and_then (command_verdict w m v) (and_then (deps_verdict n s w v) (joined_verdict n w m j))))
