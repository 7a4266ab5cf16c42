-- "Request". Assumes nothing.
use Rattle.std.specs.Prelude.{ℕ, zero, suc, ◌+◌, Bool, ◌&&◌, cond, List, eqb, get_or}
use Rattle.paper.specs.Logic.{all_below}
use Rattle.paper.specs.Vote.{blank, no_vote, same_vote}
use Rattle.paper.specs.declared.Command.{Command}
use Rattle.paper.specs.declared.Record.{Record}
use Rattle.rules.specs.declared.Step.{Step}
use Rattle.rules.specs.Afresh.{afresh}

-- all zero
unfoldable pub is_blank : Record → Bool
is_blank r =
    eqb r.joined 0 && same_vote r.vote no_vote && eqb r.mark 0 && eqb r.phase 0 && eqb r.set 0
    && all_below 7 (λ q. same_vote (get_or r.replies q no_vote) no_vote)

-- the lowest blank own number, from j on among k; past them all where there is none
unfoldable pub lowest_blank : ℕ → ℕ → (ℕ → Record) → ℕ
lowest_blank zero j row = j
lowest_blank (suc k) j row = cond (is_blank (row j)) j (lowest_blank k (j + 1) row)

-- a blank own record is pre-accepted afresh at ballot 0
unfoldable pub request : ℕ → ℕ → ℕ → Command → List ℕ → Step
request n c j k d = afresh n c c j blank k d
