-- Each kind is written as its bytes say, and each clause that is broken is named with its offset, by computation. Assumes nothing.
use mathlib.Core.Path.{◌≡◌, refl}
use Rattle.codec.specs.Parts.{sent_bytes, deps_bytes, sent_at, deps_at}
use Rattle.paper.specs.Logic.{all_below}
use Rattle.paper.specs.Ballot.{ballot_ok, lead}
use Rattle.paper.specs.Deps.{same_deps}
use Rattle.paper.specs.Setup.{setup_ok}
use Rattle.paper.specs.Message.{row_of, body_of, kept}
use Rattle.paper.specs.Valid.{holds_of, entry_clauses, first_of, first_failing, blame_of, verdict_on}
use Rattle.wire.specs.Wire.{past, length_of, head_bytes, rest_bytes, message_bytes, carried_at, beside_at, message_at, op_at, verdict_at}
use Rattle.wire.specs.Calls.{read_message}
use Rattle.wire.specs.Examples.{Examples}
use Rattle.wire.specs.Reasons.{reasons, answers_of, refusals_of}

pub examples : Examples
unfolding sent_bytes deps_bytes row_of head_bytes rest_bytes message_bytes
examples =
    record {
      pre_accept = refl;
      pre_accept_ok = refl;
      accept = refl;
      accept_ok = refl;
      commit = refl;
      prepare = refl;
      prepare_ok = refl;
      nack = refl;
      long_pre_accept = refl;
      long_accept = refl;
      long_commit = refl;
      long_prepare_ok = refl;
    }

pub each-reason : answers_of reasons ≡ refusals_of reasons
unfolding reasons answers_of refusals_of read_message setup_ok verdict_at past length_of row_of op_at message_at carried_at beside_at sent_at deps_at kept body_of verdict_on first_failing entry_clauses first_of holds_of ballot_ok lead same_deps all_below blame_of
each-reason = refl
