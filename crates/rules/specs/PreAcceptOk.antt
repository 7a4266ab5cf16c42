-- "PreAcceptOK b". Assumes nothing.
use Rattle.std.specs.Prelude.{ℕ, ◌*◌, ◌-◌, Bool, ◌&&◌, ◌||◌, not, cond, List, leb, eqb, get_or}
use Rattle.paper.specs.Logic.{all_below}
use Rattle.paper.specs.Setup.{faults}
use Rattle.paper.specs.Command.{noop}
use Rattle.paper.specs.Deps.{same_deps}
use Rattle.paper.specs.Vote.{no_vote, member, count}
use Rattle.paper.specs.declared.Vote.{Vote}
use Rattle.paper.specs.declared.Record.{Record}
use Rattle.paper.specs.declared.Message.{Message}
use Rattle.rules.specs.declared.Step.{Step}
use Rattle.rules.specs.Sets.{those}
use Rattle.rules.specs.Step.{collect, awaited, silent}
use Rattle.rules.specs.Accepting.{accepting_join}
use Rattle.rules.specs.Committing.{committing}

-- the dependencies that copy q replied
abbrev pub added : Record → ℕ → List ℕ
added r q = (get_or r.replies q no_vote).deps

-- the replies equal to what was sent
unfoldable pub matching : Record → ℕ
matching r = those (λ q. member q r.set && same_deps (added r q) r.vote.deps)

-- two replies are different
unfoldable pub different : Record → Bool
different r =
    not (all_below 7 (λ p. all_below 7 (λ q. not (member p r.set && member q r.set) || same_deps (added r p) (added r q))))

-- what a reply's dependencies are kept as
abbrev pub added_vote : List ℕ → Vote
added_vote d = record { voted = 0; status = 0; command = noop; deps = d }

-- at 2F-1 replies equal to what was sent
unfoldable pub fast_enough : ℕ → Record → Bool
fast_enough n r = leb (2 * faults n - 1) (count (matching r))

-- the fast path is lost: F copies answered and two of them disagree, or all did
unfoldable pub slow_enough : ℕ → Record → Bool
slow_enough n r = (leb (faults n) (count r.set) && different r) || leb (2 * faults n) (count r.set)

-- at F replies
unfoldable pub some_enough : ℕ → Record → Bool
some_enough n r = leb (faults n) (count r.set)

-- with the reply collected
unfoldable pub pre_accepted_by : ℕ → ℕ → ℕ → ℕ → Record → Step
pre_accepted_by n c o j r =
    cond (eqb r.joined 0) (cond (fast_enough n r) (committing n c o j r) (cond (slow_enough n r) (accepting_join n c o j r) (silent r)))
    (cond (some_enough n r) (accepting_join n c o j r) (silent r))

unfoldable pub on_pre_accept_ok : ℕ → ℕ → ℕ → ℕ → Record → Message → Step
on_pre_accept_ok n c o j r m = cond (awaited 2 r m) (pre_accepted_by n c o j (collect r m.from (added_vote m.deps))) (silent r)
