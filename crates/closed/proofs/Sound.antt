-- A sound record, clause by clause: what the test says of a record, and the test from those facts. Assumes nothing.
use Prim.Native.Nat.{ℕ, ◌^◌, ◌≤◌, ◌<◌}
use mathlib.Core.Path.{◌≡◌}
use mathlib.Core.Bool.{true, false, ◌||◌}
use lib.Dec.{eqb}
use borrow.Author.Tests.{leb-true, ltb-true, eqb-true, not-true, le-leb, lt-ltb, eq-eqb}
use Rattle.paper.specs.Setup.{faults}
use Rattle.paper.specs.Command.{is_noop}
use Rattle.paper.specs.Ballot.{ballot_ok, lead}
use Rattle.paper.specs.Vote.{none_is_blank, vote_ok, member, count}
use Rattle.paper.specs.Sound.{ranges_ok, votes_ok, preparing_ok, proposing_ok, busy_ok, phases_ok, replies_ok, sound_record}
use Rattle.paper.specs.declared.Record.{Record}
use Rattle.closed.proofs.Laws.{three, four, five, both, imp-in, imp-at, not_in}

pub record Sound (n s c o : ℕ) (r : Record) : Type 0 where
  pub joined : ballot_ok n r.joined ≡ true
  pub own : vote_ok n s 4 r.vote ≡ true
  pub mark : r.mark ≤ 1
  pub phase : r.phase ≤ 3
  pub set : r.set < 2 ^ n
  pub below : r.vote.voted ≤ r.joined
  pub none : none_is_blank r.vote ≡ true
  pub marked : r.mark ≡ 1 → r.vote.status ≡ 4
  pub empty : r.phase ≡ 0 → r.set ≡ 0
  pub live : 1 ≤ r.phase → r.vote.status < 4
  pub leads : 1 ≤ r.phase → lead o r.joined ≡ c
  pub late : r.phase ≡ 1 → 8 ≤ r.joined
  pub fresh : r.phase ≡ 1 → r.vote.voted < r.joined
  pub self : r.phase ≡ 1 → member c r.set ≡ true
  pub few : r.phase ≡ 1 → count r.set ≤ faults n
  pub preaccepting : r.phase ≡ 2 → (eqb r.vote.status 1 || eqb r.vote.status 2) ≡ true
  pub op : r.phase ≡ 2 → r.joined ≡ 0 → is_noop r.vote.command ≡ false
  pub accepting : r.phase ≡ 3 → r.vote.status ≡ 3
  pub same : 2 ≤ r.phase → r.vote.voted ≡ r.joined
  pub alone : 2 ≤ r.phase → member c r.set ≡ false
  pub replies : replies_ok n s c r ≡ true

pub sound-is : (n s c o : ℕ) (r : Record) → sound_record n s c o r ≡ true → Sound n s c o r
unfolding sound_record ranges_ok votes_ok phases_ok busy_ok preparing_ok proposing_ok
sound-is n s c o r h =
    let (ranges, votes, phases, reps) = four _ _ _ _ h in
    let (a1, a2, a3, a4, a5) = five _ _ _ _ _ ranges in
    let (b1, b2, b3) = three _ _ _ votes in
    let (busy, prep, prop) = three _ _ _ phases in
    let (c1, c2, c3) = three _ _ _ busy in
    let (d1, d2, d3, d4) = four _ _ _ _ prep in
    let (e1, e2, e3, e4, e5) = five _ _ _ _ _ prop in
    record {
      joined = a1;
      own = a2;
      mark = leb-true _ _ a3;
      phase = leb-true _ _ a4;
      set = ltb-true _ _ a5;
      below = leb-true _ _ b1;
      none = b2;
      marked = λ e. eqb-true _ _ (imp-at _ _ b3 (eq-eqb _ _ e));
      empty = λ e. eqb-true _ _ (imp-at _ _ c1 (eq-eqb _ _ e));
      live = λ e. ltb-true _ _ (imp-at _ _ c2 (le-leb _ _ e));
      leads = λ e. eqb-true _ _ (imp-at _ _ c3 (le-leb _ _ e));
      late = λ e. leb-true _ _ (imp-at _ _ d1 (eq-eqb _ _ e));
      fresh = λ e. ltb-true _ _ (imp-at _ _ d2 (eq-eqb _ _ e));
      self = λ e. imp-at _ _ d3 (eq-eqb _ _ e);
      few = λ e. leb-true _ _ (imp-at _ _ d4 (eq-eqb _ _ e));
      preaccepting = λ e. imp-at _ _ e1 (eq-eqb _ _ e);
      op = λ e f. not-true _ (imp-at _ _ (imp-at _ _ e2 (eq-eqb _ _ e)) (eq-eqb _ _ f));
      accepting = λ e. eqb-true _ _ (imp-at _ _ e3 (eq-eqb _ _ e));
      same = λ e. eqb-true _ _ (imp-at _ _ e4 (le-leb _ _ e));
      alone = λ e. not-true _ (imp-at _ _ e5 (le-leb _ _ e));
      replies = reps;
    }

pub sound-in : (n s c o : ℕ) (r : Record) → Sound n s c o r → sound_record n s c o r ≡ true
unfolding sound_record ranges_ok votes_ok phases_ok busy_ok preparing_ok proposing_ok
sound-in n s c o r f = both _ _ (both _ _ (both _ _ ranges votes) (both _ _ (both _ _ busy prep) prop)) f.replies
  where
    ranges : ranges_ok n s r ≡ true
    ranges = both _ _ (both _ _ (both _ _ (both _ _ f.joined f.own) (le-leb _ _ f.mark)) (le-leb _ _ f.phase)) (lt-ltb _ _ f.set)

    votes : votes_ok r ≡ true
    votes = both _ _ (both _ _ (le-leb _ _ f.below) f.none) (imp-in _ _ (λ e. eq-eqb _ _ (f.marked (eqb-true _ _ e))))

    busy : busy_ok c o r ≡ true
    busy =
        both _ _ (both _ _ (imp-in _ _ (λ e. eq-eqb _ _ (f.empty (eqb-true _ _ e)))) (imp-in _ _ (λ e. lt-ltb _ _ (f.live (leb-true _ _ e)))))
        (imp-in _ _ (λ e. eq-eqb _ _ (f.leads (leb-true _ _ e))))

    prep : preparing_ok n c r ≡ true
    prep =
        both _ _
        (both _ _
        (both _ _ (imp-in _ _ (λ e. le-leb _ _ (f.late (eqb-true _ _ e)))) (imp-in _ _ (λ e. lt-ltb _ _ (f.fresh (eqb-true _ _ e)))))
        (imp-in _ _ (λ e. f.self (eqb-true _ _ e))))
        (imp-in _ _ (λ e. le-leb _ _ (f.few (eqb-true _ _ e))))

    prop : proposing_ok c r ≡ true
    prop =
        both _ _
        (both _ _
        (both _ _
        (both _ _ (imp-in _ _ (λ e. f.preaccepting (eqb-true _ _ e)))
        (imp-in _ _ (λ e. imp-in _ _ (λ g. not_in _ (f.op (eqb-true _ _ e) (eqb-true _ _ g))))))
        (imp-in _ _ (λ e. eq-eqb _ _ (f.accepting (eqb-true _ _ e)))))
        (imp-in _ _ (λ e. eq-eqb _ _ (f.same (leb-true _ _ e)))))
        (imp-in _ _ (λ e. not_in _ (f.alone (leb-true _ _ e))))
