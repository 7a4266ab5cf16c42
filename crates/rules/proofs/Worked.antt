-- W1 to W10 hold of the rules, by computation. Assumes nothing.
use mathlib.Core.Path.{refl}
use lib.Count.{ones}
use Rattle.paper.specs.Logic.{all_below}
use Rattle.paper.specs.Instance.{instance_ok}
use Rattle.paper.specs.Command.{touches, same_object, interfere, same_command}
use Rattle.paper.specs.Deps.{same_deps, covers, join_from}
use Rattle.paper.specs.Vote.{same_vote, member}
use Rattle.rules.specs.Sets.{bits_below, others, absent, lowest_from, largest_below, highest}
use Rattle.rules.specs.Step.{collect, awaited, commit_back, nack_back}
use Rattle.rules.specs.Seen.{met, seen_entry, seen_from}
use Rattle.rules.specs.Accepting.{join_all, accepting, accepting_join}
use Rattle.rules.specs.Afresh.{afresh}
use Rattle.rules.specs.Committing.{committing}
use Rattle.rules.specs.Request.{is_blank, lowest_blank, request}
use Rattle.rules.specs.PreAccept.{pre_accept}
use Rattle.rules.specs.PreAcceptOk.{matching, different, fast_enough, slow_enough, some_enough, pre_accepted_by, on_pre_accept_ok}
use Rattle.rules.specs.PrepareOk.{top_voted, maybe_fast, afresh_command, accepted_from, decide}
use Rattle.rules.specs.Received.{by_kind}
use Rattle.rules.specs.Recover.{recover}
use Rattle.rules.specs.Events.{put, request_number, on_request, on_message, on_recover, messages_from}
use Rattle.rules.specs.Order.{everywhere, somewhere, first_owner, first_number, covers_in, reaches_in, reaches, waits_for, first_open, is_settled, candidate, next_out, hand_out}
use Rattle.rules.specs.Prepare.{prepare}
use Rattle.rules.specs.Examples.{Worked, Reads, Rewires}

pub worked : Worked
unfolding ones all_below instance_ok touches same_object interfere same_command same_deps covers join_from same_vote member bits_below others absent lowest_from largest_below highest collect awaited commit_back nack_back met seen_entry seen_from join_all accepting accepting_join afresh committing is_blank lowest_blank request pre_accept matching different fast_enough slow_enough some_enough pre_accepted_by on_pre_accept_ok top_voted maybe_fast afresh_command accepted_from decide by_kind recover put request_number on_request on_message on_recover messages_from everywhere somewhere first_owner first_number covers_in reaches_in reaches waits_for first_open is_settled candidate next_out hand_out prepare
worked =
    record {
      W1 = refl;
      W2 = refl;
      W3-answers = refl;
      W3-waits = refl;
      W3-commits = refl;
      W4 = refl;
      W5-first = refl;
      W5-later = refl;
      W5-last = refl;
      W6-accept = refl;
      W6-afresh = refl;
      W6-owner = refl;
      W7 = refl;
      W8 = refl;
      W9 = refl;
      W10 = refl;
      told-voted = refl;
      repeated = refl;
      agreeing = refl;
    }

pub reads : Reads
unfolding ones all_below instance_ok touches same_object interfere same_deps covers join_from same_vote same_command member bits_below others highest collect awaited met seen_entry seen_from afresh committing is_blank lowest_blank request pre_accept matching fast_enough pre_accepted_by on_pre_accept_ok by_kind put request_number on_request on_message everywhere somewhere first_owner first_number covers_in reaches_in reaches waits_for first_open is_settled candidate next_out hand_out
reads = record { first = refl; second = refl; open-there = (refl, refl); settled = (refl, refl); handed = (refl, refl); write-waits = refl }

pub rewires : Rewires
unfolding ones all_below instance_ok touches same_object interfere same_deps covers join_from same_vote same_command member bits_below others highest collect awaited met seen_entry seen_from afresh committing is_blank lowest_blank request pre_accept matching fast_enough pre_accepted_by on_pre_accept_ok by_kind put request_number on_request on_message everywhere somewhere first_owner first_number covers_in reaches_in reaches waits_for first_open is_settled candidate next_out hand_out
rewires =
    record { waits = refl; others = refl; either = (refl, refl); after = (refl, refl); first-net = refl; second-net = refl; both-nets = refl }
