-- "Recover I". Assumes nothing.
use Prim.Native.Nat.{ℕ, ◌%◌, ◌^◌, ◌≤◌, ◌<◌}
use mathlib.Core.Path.{◌≡◌, ◌∙◌}
use mathlib.Core.Bool.{true, false}
use native.Mathlib.Omega.{arith}
use native.Mathlib.Decide.{ℕ_discrete}
use lib.Dec.{eqb}
use lib.ListN.{length-set, get_or-replicate}
use lib.Seq.{get_or-set_same, get_or-set_other}
use lib.Pow.{pow_mono}
use borrow.Author.Tests.{leb-false, eqb-false, le-leb, lt-ltb, ne_eqb}
use Rattle.paper.specs.Ballot.{ballot_ok, lead}
use Rattle.paper.specs.Vote.{no_vote}
use Rattle.paper.specs.Sound.{collected_ok, reply_ok, replies_ok}
use Rattle.paper.specs.declared.Record.{Record}
use Rattle.rules.specs.Sets.{others}
use Rattle.rules.specs.Step.{is_committed, no_replies}
use Rattle.rules.specs.Recover.{out_of_ballots, next_ballot, preparing, recover}
use Rattle.closed.specs.Held.{Held, Closed}
use Rattle.closed.proofs.Laws.{eqb-self, both, or_r, all_in}
use Rattle.closed.proofs.Sets.{member-only, count-only, only-small}
use Rattle.closed.proofs.Sound.{sound-is, sound-in}
use Rattle.closed.proofs.Votes.{same-vote-refl, votes-set, no-votes-fit, vote-is}
use Rattle.closed.proofs.Shapes.{Spot, unmarked}
use Rattle.closed.proofs.Says.{to-others, prepare-sent}

-- the next ballot is this copy's, above the one before, and of four bytes
module _ (n c b : ℕ) (small : n ≤ 7) (copy : c < n) where
  next-mod : next_ballot c b % 8 ≡ c
  next-mod = omega arith

  next-ok : ballot_ok n (next_ballot c b) ≡ true
  unfolding ballot_ok
  next-ok = or_r (eqb (next_ballot c b) 0) _ (both _ _ (le-leb 8 (next_ballot c b) (omega arith)) (lt-ltb (next_ballot c b % 8) n (omega (arith, next-mod))))

  next-lead : (o : ℕ) → lead o (next_ballot c b) ≡ c
  unfolding lead
  next-lead o = rw (ne_eqb (next_ballot c b) 0 (λ e. omega arith)) next-mod

  next-above : b < next_ballot c b
  next-above = omega arith

  next_fits : b < 4_294_967_288 → next_ballot c b < 256 ^ 4
  next_fits l = omega arith

module _ (n s c o j : ℕ) (p : Spot n s c o j) (r : Record) (h : Held n s c o r) where
  own-collected : replies_ok n s c (preparing c r) ≡ true
  unfolding replies_ok reply_ok collected_ok
  own-collected = all_in 7 (reply_ok n s c (preparing c r)) (λ q l. go q l (ℕ_discrete q c))
    where
      lc : c < 7
      lc = omega (arith, p.small, p.copy)

      go : (q : ℕ) → q < 7 → Dec (q ≡ c) → reply_ok n s c (preparing c r) q ≡ true
      go q l (yes e) = rw (e, member-only c c lc lc, eqb-self c, get_or-set_same no_replies c r.vote no_vote lc) (same-vote-refl r.vote)
      go q l (no k) =
          rw (member-only c q lc l, ne_eqb q c k, get_or-set_other no_replies c q r.vote no_vote k, get_or-replicate 7 q no_vote no_vote l) (same-vote-refl no_vote)

  preparing-held : is_committed r ≡ false → r.joined < 4_294_967_288 → Held n s c o (preparing c r)
  preparing-held e l =
      let f = sound-is n s c o r h.sound in
      let v = vote-is n s 4 r.vote f.own in
      let g = h.fits in
      let live = eqb-false r.vote.status 4 e in
      let z = unmarked n s c o r f live in
      let up = next-above n c r.joined p.small p.copy in
      let lc : c < 7 = omega (arith, p.small, p.copy) in
      let one = only-small n c p.copy in
      record {
        sound =
            sound-in n s c o (preparing c r)
            (record {
              joined = next-ok n c r.joined p.small p.copy;
              own = f.own;
              mark = f.mark;
              phase = omega arith;
              set = one;
              below = omega (arith, f.below);
              none = f.none;
              marked = λ a. absurd (omega arith);
              empty = λ a. absurd (omega arith);
              live = λ a. omega (arith, v.status, live);
              leads = λ a. next-lead n c r.joined p.small p.copy o;
              late = λ a. omega arith;
              fresh = λ a. omega (arith, f.below);
              self = λ a. member-only c c lc lc ∙ eqb-self c;
              few = λ a. omega (arith, count-only c lc, p.some);
              preaccepting = λ a. absurd (omega arith);
              op = λ a. absurd (omega arith);
              accepting = λ a. absurd (omega arith);
              same = λ a. absurd (omega arith);
              alone = λ a. absurd (omega arith);
              replies = own-collected;
            });
        fits =
            record {
              joined = next_fits n c r.joined p.small p.copy l;
              vote = g.vote;
              mark = g.mark;
              phase = omega arith;
              set = omega (arith, pow_mono p.small);
              seven = length-set no_replies c r.vote;
              replies = votes-set no_replies no-votes-fit c r.vote g.vote;
            };
      }

  pub recover-closed : is_committed r ≡ false → out_of_ballots r ≡ false → Closed n s c o (recover n c o j r)
  unfolding recover
  recover-closed e b =
      let l = leb-false 4_294_967_288 r.joined b in
      let x = preparing-held e l in
      record {
        held = x;
        sent =
            prepare-sent n s c o j p (preparing c r) (others n c) (next_ballot c r.joined) (next-ok n c r.joined p.small p.copy) x.fits.joined (to-others n s c o j p)
            (next-lead n c r.joined p.small p.copy o) (omega arith);
      }
