-- W1 to W10 hold of the public calls: each table is what the call before it left, and the rules compute the rest. Assumes nothing.
use Rattle.std.specs.Prelude.{Some, None, Ok}
use Prim.Native.Nat.{ℕ, ◌≤◌}
use mathlib.Core.Path.{◌≡◌, refl, ap, ◌∙◌}
use mathlib.Core.List.{List, [], ◌∷◌}
use native.Mathlib.Omega.{arith}
use lib.ListN.{length, replicate}
use Rattle.numbers.specs.Num.{splice}
use Rattle.codec.specs.Parts.{sent_bytes, deps_bytes}
use Rattle.wire.specs.Wire.{head_bytes, rest_bytes, message_bytes}
use lib.Count.{ones}
use Rattle.paper.specs.Vote.{same_vote, member, vote_ok, told_ok, none_is_blank}
use Rattle.paper.specs.Command.{same_command, command_ok, touches, same_object, interfere}
use Rattle.paper.specs.Deps.{same_deps, deps_ok, join_from, covers}
use Rattle.paper.specs.Logic.{all_below}
use Rattle.paper.specs.Valid.{valid, first_failing, first_of, holds_of, entry_clauses}
use Rattle.paper.specs.Message.{row_of}
use Rattle.paper.specs.Ballot.{ballot_ok, lead}
use Rattle.paper.specs.Instance.{instance_ok}
use Rattle.rules.specs.Events.{put, request_number, on_request, messages_from, on_message, on_recover}
use Rattle.rules.specs.Request.{lowest_blank, is_blank, request}
use Rattle.rules.specs.Afresh.{afresh}
use Rattle.rules.specs.Sets.{others, bits_below, highest, lowest_from, largest_below}
use Rattle.rules.specs.Received.{conflict, by_kind}
use Rattle.rules.specs.Commit.{differs, commit}
use Rattle.rules.specs.PreAccept.{pre_accept}
use Rattle.rules.specs.Seen.{seen_from, seen_entry, met}
use Rattle.rules.specs.PreAcceptOk.{on_pre_accept_ok, pre_accepted_by, fast_enough, slow_enough, some_enough, matching, different}
use Rattle.rules.specs.Step.{awaited, collect}
use Rattle.rules.specs.Committing.{committing}
use Rattle.rules.specs.Accepting.{accepting_join, accepting, join_all}
use Rattle.rules.specs.Prepare.{prepare}
use Rattle.rules.specs.PrepareOk.{on_prepare_ok, prepared_by, quorum, decide, accepted_from, afresh_command, top_voted, maybe_fast}
use Rattle.rules.specs.Order.{instance, next_out, first_number, first_owner, first_open, candidate, is_settled, waits_for, reaches, reaches_in, covers_in, everywhere, somewhere}
use Rattle.rules.specs.Recover.{recover}
use Rattle.paper.specs.Deps.{no_deps}
use Rattle.paper.specs.declared.Message.{Message}
use Rattle.paper.specs.declared.Body.TheVariants.{PreAccept, PreAcceptOk, Commit, Prepare, PrepareOk}
use Rattle.rules.specs.Examples.{write, deps3}
use Rattle.rules.specs.Seen.{Records}
use Rattle.rules.specs.Order.{instance, code_of, marked, mark, hand_out}
use Rattle.table.specs.Table.{blank_table, put_record}
use Rattle.gate.specs.Out.{all_bytes}
use Rattle.gate.specs.Events.{acted}
use Rattle.order.specs.Calls.{handed_codes, handed_table, handed_open, handed}
use Rattle.safety.specs.Run.{Setup}
use Rattle.demand.specs.Examples as paper
use Rattle.demand.proofs.Answers.{Holds, blank-holds, request-does, message-does, recover-does, recover-used-up, request-full, room-short, settled-does, handed-does, hands, hands_none}

-- a commit of o.1, as copy 1 tells copy 0
abbrev commit_of : ℕ → List ℕ → Message
commit_of o d = record { from = 1; to = 0; owner = o; number = 1; ballot = 0; body = Commit (write 1); deps = d }

-- a hand-out of three places that finds two
two_out : (t : List ℕ) (u : Records) → Holds 3 4 0 t u → (o j p i : ℕ) → next_out 3 4 u ≡ Some (instance o j) → next_out 3 4 (mark u o j) ≡ Some (instance p i) → next_out 3 4 (mark (mark u o j) p i) ≡ None
    → handed 3 4 0 t (9 ∷ 9 ∷ 9 ∷ [])
    ≡ record {
      answer = Ok 2;
      table = put_record 4 (put_record 4 t o j (marked (u o j))) p i (marked (mark u o j p i));
      list = code_of o j ∷ code_of p i ∷ 9 ∷ [];
    }
unfolding handed_open splice
two_out t u h o j p i e f g =
    let a = hands 3 4 0 t u h 2 o j e in
    let b = hands 3 4 0 _ _ a.holds 1 p i f in
    let c = hands_none 3 4 0 _ _ b.holds 0 g in
    let codes : handed_codes 3 3 4 t ≡ code_of o j ∷ code_of p i ∷ [] =
    a.codes ∙ ap (λ (l : List ℕ). code_of o j ∷ l) b.codes ∙ ap (λ (l : List ℕ). code_of o j ∷ code_of p i ∷ l) c.1 in
    let table = a.table ∙ b.table ∙ c.0 in
    handed-does 3 4 0 t u h (9 ∷ 9 ∷ 9 ∷ []) ∙ (λ k. record { answer = Ok (length (codes k)); table = table k; list = splice (9 ∷ 9 ∷ 9 ∷ []) 0 (codes k) })

pub examples : (out : List ℕ) → 256 ≤ length out → paper.Examples out
unfolding put request_number lowest_blank is_blank same_vote same_command same_deps all_below on_request request afresh others bits_below messages_from member valid first_failing first_of holds_of entry_clauses row_of ballot_ok lead command_ok deps_ok vote_ok told_ok none_is_blank instance_ok conflict differs on_message by_kind pre_accept seen_from seen_entry highest met touches same_object interfere join_from on_pre_accept_ok awaited collect pre_accepted_by fast_enough slow_enough some_enough matching different committing accepting_join accepting join_all prepare on_prepare_ok prepared_by quorum decide accepted_from afresh_command top_voted maybe_fast lowest_from largest_below on_recover recover ones next_out first_number first_owner first_open candidate is_settled waits_for reaches reaches_in covers_in covers everywhere somewhere commit sent_bytes deps_bytes head_bytes rest_bytes message_bytes all_bytes acted splice handed_open
examples out room =
    let three : Setup 3 4 = record { copies = refl; numbers = refl } in
    let five : Setup 5 4 = record { copies = refl; numbers = refl } in
    let seven : Setup 7 4 = record { copies = refl; numbers = refl } in
    let zero-blank = blank-holds 3 4 three 0 (omega arith) in
    let asks = request-does 3 4 0 (blank_table 3 4 0) _ zero-blank out room 2 7 0 100 refl (record { key = omega arith; second = omega arith; edit = omega arith }) (omega arith) refl in
    let waits = message-does 3 4 0 paper.asked_table _ asks.holds out room (paper.about 1 0 0 PreAcceptOk (deps3 0 1 0)) refl refl refl in
    let own = request-does 3 4 1 (blank_table 3 4 1) _ (blank-holds 3 4 three 1 (omega arith)) out room 2 7 0 5 refl (record { key = omega arith; second = omega arith; edit = omega arith }) (omega arith) refl in
    let two-of-seven = blank-holds 7 4 seven 2 (omega arith) in
    let low = message-does 7 4 2 (blank_table 7 4 2) _ two-of-seven out room (paper.about 5 2 13 Prepare no_deps) refl refl refl in
    let last = message-does 7 4 2 (blank_table 7 4 2) _ two-of-seven out room (paper.about 0 2 4_294_967_288 Prepare no_deps) refl refl refl in
    let two-of-five = blank-holds 5 4 five 2 (omega arith) in
    let prepares = recover-does 5 4 2 (blank_table 5 4 2) _ two-of-five out room 0 1 refl refl refl in
    let one = message-does 5 4 2 paper.recovering_table _ prepares.holds out room (paper.about 1 2 10 (PrepareOk 0 2 (write 1)) no_deps) refl refl refl in
    let owner = message-does 5 4 2 paper.recovering_table _ prepares.holds out room (paper.about 0 2 10 (PrepareOk 0 2 (write 1)) no_deps) refl refl refl in
    let joins = message-does 5 4 2 (blank_table 5 4 2) _ two-of-five out room (paper.about 1 2 17 Prepare no_deps) refl refl refl in
    let past = recover-does 5 4 2 (put_record 4 (blank_table 5 4 2) 0 1 _) _ joins.holds out room 0 1 refl refl refl in
    let lower = message-does 5 4 2 paper.past_table _ past.holds out room (paper.about 1 2 26 (PrepareOk 10 3 (write 1)) no_deps) refl refl refl in
    let first = message-does 3 4 0 (blank_table 3 4 0) _ zero-blank out room (commit_of 0 (deps3 0 1 0)) refl refl refl in
    let second = message-does 3 4 0 (put_record 4 (blank_table 3 4 0) 0 1 _) _ first.holds out room (commit_of 1 (deps3 1 0 0)) refl refl refl in
    let third = message-does 3 4 0 paper.cycle_table _ second.holds out room (commit_of 2 (deps3 2 1 0)) refl refl refl in
    let alone = message-does 3 4 0 (blank_table 3 4 0) _ zero-blank out room (commit_of 0 (deps3 0 0 1)) refl refl refl in
    let covered = message-does 3 4 0 (put_record 4 (blank_table 3 4 0) 0 1 _) _ alone.holds out room (commit_of 2 no_deps) refl refl refl in
    record {
      W1 = asks.is;
      W2 = (message-does 3 4 0 paper.asked_table _ asks.holds out room (paper.about 1 0 0 PreAcceptOk no_deps) refl refl refl).is;
      W3-answers = (message-does 3 4 1 paper.own_table _ own.holds out room (paper.about 0 1 0 (PreAccept (write 100)) no_deps) refl refl refl).is;
      W3-waits = waits.is;
      W3-commits = (message-does 3 4 0 paper.waiting_table _ waits.holds out room (paper.about 2 0 0 PreAcceptOk no_deps) refl refl refl).is;
      W4 = (message-does 3 4 0 paper.waiting_table _ waits.holds out room (paper.about 2 0 0 PreAcceptOk (deps3 0 0 1)) refl refl refl).is;
      W5-first = (recover-does 7 4 2 (blank_table 7 4 2) _ two-of-seven out room 0 1 refl refl refl).is;
      W5-later = (recover-does 7 4 2 (paper.joined_table 13) _ low.holds out room 0 1 refl refl refl).is;
      W5-last = recover-used-up 7 4 2 (paper.joined_table 4_294_967_288) _ last.holds out room 0 1 refl refl refl;
      W6-accept = (message-does 5 4 2 paper.one_told _ one.holds out room (paper.about 3 2 10 (PrepareOk 0 2 (write 1)) no_deps) refl refl refl).is;
      W6-afresh = (message-does 5 4 2 paper.one_told _ one.holds out room (paper.about 3 2 10 (PrepareOk 0 1 (write 1)) no_deps) refl refl refl).is;
      W6-owner = (message-does 5 4 2 paper.owner_told _ owner.holds out room (paper.about 3 2 10 (PrepareOk 0 2 (write 1)) no_deps) refl refl refl).is;
      W7 = (message-does 5 4 2 paper.lower_told _ lower.holds out room (paper.about 3 2 26 (PrepareOk 17 3 (write 2)) no_deps) refl refl refl).is;
      W8 = two_out paper.cycle_table _ second.holds 0 1 1 1 refl refl refl;
      W9 = two_out paper.chain_table _ covered.holds 2 1 0 1 refl refl refl;
      W10 = settled-does 3 4 0 _ _ third.holds 2 1 0 2 refl refl;
    }

pub limits : (out : List ℕ) → paper.Limits out
unfolding put request_number lowest_blank is_blank same_vote same_command same_deps all_below on_request request afresh others bits_below messages_from member valid first_failing first_of holds_of entry_clauses row_of ballot_ok lead command_ok deps_ok vote_ok told_ok none_is_blank instance_ok conflict differs on_message by_kind pre_accept seen_from seen_entry highest met touches same_object interfere join_from on_pre_accept_ok awaited collect pre_accepted_by fast_enough slow_enough some_enough matching different committing accepting_join accepting join_all prepare on_prepare_ok prepared_by quorum decide accepted_from afresh_command top_voted maybe_fast lowest_from largest_below on_recover recover ones next_out first_number first_owner first_open candidate is_settled waits_for reaches reaches_in covers_in covers everywhere somewhere commit sent_bytes deps_bytes head_bytes rest_bytes message_bytes all_bytes acted splice handed_open handed_table handed_codes hand_out
limits out =
    let three : Setup 3 4 = record { copies = refl; numbers = refl } in
    let blanks = blank-holds 3 4 three 0 (omega arith) in
    let room : List ℕ = replicate 256 0 in
    let first = message-does 3 4 0 (blank_table 3 4 0) _ blanks room (omega arith) (commit_of 0 (deps3 0 1 0)) refl refl refl in
    let second = message-does 3 4 0 (put_record 4 (blank_table 3 4 0) 0 1 _) _ first.holds room (omega arith) (commit_of 1 (deps3 1 0 0)) refl refl refl in
    record {
      full = λ long.
          let asks = request-does 3 1 0 (blank_table 3 1 0) _ (blank-holds 3 1 (record { copies = refl; numbers = refl }) 0 (omega arith)) out long 2 7 0 100 refl (record { key = omega arith; second = omega arith; edit = omega arith }) (omega arith) refl in
          request-full 3 1 0 paper.used_table _ asks.holds out long 2 7 0 100 refl (omega arith) refl;
      no_place = handed-does 3 4 0 paper.cycle_table _ second.holds [];
      short = λ e. room-short 3 4 0 (blank_table 3 4 0) _ blanks out _ (omega (arith, e));
    }
