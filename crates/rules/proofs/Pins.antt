-- Each rule does what its lines say, by computation. Assumes nothing.
use mathlib.Core.Path.{refl}
use lib.Count.{ones}
use Rattle.paper.specs.Logic.{all_below}
use Rattle.paper.specs.Instance.{instance_ok}
use Rattle.paper.specs.Command.{same_command, touches, same_object, interfere}
use Rattle.paper.specs.Deps.{same_deps, covers, join_from}
use Rattle.paper.specs.Vote.{member, same_vote}
use Rattle.rules.specs.Sets.{bits_below, others, absent, lowest_from, largest_below, highest}
use Rattle.rules.specs.Step.{collect, awaited, commit_back, nack_back}
use Rattle.rules.specs.Seen.{met, seen_entry, seen_from}
use Rattle.rules.specs.Accepting.{join_all, accepting, accepting_join}
use Rattle.rules.specs.Afresh.{afresh}
use Rattle.rules.specs.Committing.{committing}
use Rattle.rules.specs.Request.{is_blank, lowest_blank, request}
use Rattle.rules.specs.PreAccept.{pre_accept}
use Rattle.rules.specs.PreAcceptOk.{matching, different, fast_enough, slow_enough, some_enough, pre_accepted_by, on_pre_accept_ok}
use Rattle.rules.specs.Accept.{accept}
use Rattle.rules.specs.AcceptOk.{accepted_by, on_accept_ok}
use Rattle.rules.specs.Commit.{commit, differs}
use Rattle.rules.specs.Prepare.{prepare}
use Rattle.rules.specs.PrepareOk.{top_voted, maybe_fast, afresh_command, accepted_from, decide, quorum, prepared_by, on_prepare_ok}
use Rattle.rules.specs.Nack.{nack}
use Rattle.rules.specs.Recover.{recover}
use Rattle.rules.specs.Nudge.{again, nudge}
use Rattle.rules.specs.Received.{by_kind, conflict}
use Rattle.rules.specs.Events.{put, request_number, on_request, on_message}
use Rattle.rules.specs.Order.{everywhere, somewhere, first_owner, first_number, covers_in, reaches_in, reaches, waits_for, first_open, is_settled, candidate, next_out, hand_out}
use Rattle.rules.specs.Pins.{Followers, Leads, Recoveries, Nudges, Sights, Orders}

pub followers : Followers
unfolding all_below same_command same_deps join_from commit_back nack_back pre_accept accept commit differs prepare by_kind conflict
followers =
    record {
      pre_accept-low = refl;
      accept-low = refl;
      prepare-low = refl;
      pre_accept-done = refl;
      accept-done = refl;
      prepare-done = refl;
      pre_accept-added-again = refl;
      pre_accept-again = refl;
      pre_accept-accepted = refl;
      pre_accept-received = refl;
      pre_accept-added = refl;
      accept-votes = refl;
      accept-again = refl;
      prepare-tells = refl;
      prepare-again = refl;
      prepare-voted = refl;
      commit-new = refl;
      commit-again = refl;
      commit-other-command = refl;
      commit-other-deps = refl;
      commit-equal = refl;
      accept-differs = refl;
      commit-open = refl;
    }

pub leads : Leads
unfolding ones all_below same_deps join_from member bits_below others collect awaited join_all accepting accepting_join afresh committing request matching different fast_enough slow_enough some_enough pre_accepted_by on_pre_accept_ok accepted_by on_accept_ok nack recover by_kind
leads =
    record {
      fast = refl;
      fast-not-yet = refl;
      third-differs = refl;
      slow = refl;
      agreeing = refl;
      all-replied = refl;
      recovery-few = refl;
      recovery-slow = refl;
      fast-of-seven = refl;
      not-yet-of-seven = refl;
      slow-of-seven = refl;
      too-few-of-seven = refl;
      accept_ok-few = refl;
      accept_ok = refl;
      accept_ok-few-of-seven = refl;
      accept_ok-of-seven = refl;
      reply-twice = refl;
      reply-other-phase = refl;
      reply-other-ballot = refl;
      nack-idle = refl;
      nack-preparing = refl;
      nack-pre_accepting = refl;
      nack-accepting = refl;
      nack-late = refl;
      nack-done = refl;
      requests = refl;
      recovers = refl;
    }

pub recoveries : Recoveries
unfolding ones member bits_below others lowest_from largest_below collect awaited accepting afresh top_voted maybe_fast afresh_command accepted_from decide quorum prepared_by on_prepare_ok by_kind
recoveries =
    record {
      few = refl;
      few-of-seven = refl;
      none-voted = refl;
      highest-accepted = refl;
      lowest-accepted = refl;
      accepted-below = refl;
      perhaps-fast = refl;
      perhaps-fast-of-seven = refl;
      too-few-received = refl;
      too-few-of-seven = refl;
      owner-replied = refl;
      received-later = refl;
    }

pub nudges : Nudges
unfolding ones join_from member bits_below others absent join_all accepting accepting_join some_enough again nudge
nudges =
    record {
      committed-all = refl;
      preparing-absent = refl;
      pre_accepting-absent = refl;
      accepting-absent = refl;
      goes_on = refl;
      recovery-asks = refl;
      idle-refused = refl;
      busy-taken = refl;
      committed-taken = refl;
    }

pub sights : Sights
unfolding all_below same_deps join_from touches same_object interfere highest met seen_entry seen_from put afresh is_blank lowest_blank request_number request pre_accept by_kind on_request on_message
    same_vote same_command bits_below others
sights =
    record {
      last-of-row = refl;
      of-its-key = refl;
      not_itself = refl;
      committed-too = refl;
      past-reads = refl;
      past-reads-before = refl;
      asked = refl;
      asked-before = refl;
      heard = refl;
      heard-before = refl;
    }

pub orders : Orders
unfolding all_below instance_ok covers put everywhere somewhere first_owner first_number covers_in reaches_in reaches waits_for first_open is_settled candidate next_out hand_out
orders =
    record {
      through-open = refl;
      number-first = refl;
      lists-number-first = refl;
      waits-itself = refl;
      waits-no-other = refl;
      own-number = refl;
      whole_row = refl;
      settled-cycle = refl;
      room-ends = refl;
      waiting-left = refl;
    }
