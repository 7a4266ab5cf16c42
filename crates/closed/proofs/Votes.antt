-- Votes and lists of them: ranges, widths, and what a collected reply holds. Assumes nothing.
use Prim.Native.Nat.{ℕ, zero, suc, ◌≤◌, ◌<◌}
use mathlib.Core.Path.{◌≡◌, refl}
use mathlib.Core.Bool.{Bool, true, false, cond}
use mathlib.Core.List.{List, [], ◌∷◌}
use native.Mathlib.Omega.{arith}
use native.Mathlib.Decide.{dec_lt}
use lib.Dec.{ltb, eqb}
use lib.ListN.{length, get_or, set, get_or-eq_default}
use borrow.Author.Tests.{leb-true, le-leb, ne_eqb}
use Rattle.paper.specs.Logic.{all_below}
use Rattle.paper.specs.Command.{noop, command_ok}
use Rattle.paper.specs.Deps.{deps_ok, same_deps}
use Rattle.paper.specs.Ballot.{ballot_ok}
use Rattle.paper.specs.Vote.{no_vote, same_vote, none_is_blank, vote_ok, told_ok, added_ok, member}
use Rattle.paper.specs.Sound.{collected_ok, reply_ok, replies_ok}
use Rattle.paper.specs.declared.Vote.{Vote}
use Rattle.paper.specs.declared.Record.{Record}
use Rattle.paper.proofs.Laws.{all_below-at, same_command-eq, same_command-refl}
use Rattle.rules.specs.Step.{no_replies}
use Rattle.paper.proofs.Deps.{none-fits}
use Rattle.paper.specs.Fits.{CommandFits, VoteFits, VotesFit}
use Rattle.closed.proofs.Laws.{eqb-self, three, four, both, all_in}
use Rattle.closed.proofs.Deps.{no-deps, same_ok}

pub ballot-0 : (n : ℕ) → ballot_ok n 0 ≡ true
unfolding ballot_ok
ballot-0 n = refl

pub noop-ok : command_ok noop ≡ true
unfolding command_ok
noop-ok = refl

pub noop-fits : CommandFits noop
noop-fits = omega arith

pub no-vote-fits : VoteFits no_vote
no-vote-fits = record { voted = omega arith; status = omega arith; command = noop-fits; deps = none-fits }

-- equal votes are the same
pub same-deps-refl : (d : List ℕ) → same_deps d d ≡ true
unfolding same_deps
same-deps-refl d = all_in 7 (λ i. eqb (get_or d i 0) (get_or d i 0)) (λ i l. eqb-self (get_or d i 0))

pub same-vote-refl : (v : Vote) → same_vote v v ≡ true
unfolding same_vote
same-vote-refl v = both _ _ (both _ _ (both _ _ (eqb-self v.voted) (eqb-self v.status)) (same_command-refl v.command)) (same-deps-refl v.deps)

-- a vote that is not none
pub none_in : (v : Vote) → 1 ≤ v.status → none_is_blank v ≡ true
unfolding none_is_blank all_below
none_in v l = rw (ne_eqb v.status 0 (λ e. omega arith))

pub no-vote-none : none_is_blank no_vote ≡ true
unfolding none_is_blank same_deps all_below
no-vote-none = refl

pub vote-in : (n s k : ℕ) (v : Vote) → ballot_ok n v.voted ≡ true → v.status ≤ k → command_ok v.command ≡ true → deps_ok n s v.deps ≡ true
    → vote_ok n s k v ≡ true
unfolding vote_ok
vote-in n s k v a l b c = both _ _ (both _ _ (both _ _ a (le-leb _ _ l)) b) c

pub record VoteIs (n s k : ℕ) (v : Vote) : Type 0 where
  pub voted : ballot_ok n v.voted ≡ true
  pub status : v.status ≤ k
  pub command : command_ok v.command ≡ true
  pub deps : deps_ok n s v.deps ≡ true

pub vote-is : (n s k : ℕ) (v : Vote) → vote_ok n s k v ≡ true → VoteIs n s k v
unfolding vote_ok
vote-is n s k v h = let (a, b, c, d) = four _ _ _ _ h in record { voted = a; status = leb-true _ _ b; command = c; deps = d }

-- lists of votes
pub votes-at : (vs : List Vote) → VotesFit vs → (q : ℕ) → VoteFits (get_or vs q no_vote)
votes-at [] f q = no-vote-fits
votes-at (v ∷ vs) f zero = f.0
votes-at (v ∷ vs) f (suc q) = votes-at vs f.1 q

pub votes-set : (vs : List Vote) → VotesFit vs → (q : ℕ) (v : Vote) → VoteFits v → VotesFit (set vs q v)
votes-set [] f q v g = tt
votes-set (w ∷ vs) f zero v g = (g, f.1)
votes-set (w ∷ vs) f (suc q) v g = (f.0, votes-set vs f.1 q v g)

pub no-votes-fit : VotesFit no_replies
no-votes-fit =
    let f = no-vote-fits in (f, (f, (f, (f, (f, (f, (f, tt)))))))

-- the command and dependencies of a reply are in range, whatever the phase
module _ (n s c : ℕ) where
  pub record ReplyIs (v : Vote) : Type 0 where
    pub command : command_ok v.command ≡ true
    pub deps : deps_ok n s v.deps ≡ true

  like : (v w : Vote) → same_vote v w ≡ true → command_ok w.command ≡ true → deps_ok n s w.deps ≡ true → ReplyIs v
  unfolding same_vote
  like v w h a b =
      let (x, y, k, d) = four (eqb v.voted w.voted) (eqb v.status w.status) _ _ h in
      record { command = rw (same_command-eq v.command w.command k) a; deps = same_ok n s _ _ d b }

  no-reply : (v : Vote) → same_vote v no_vote ≡ true → ReplyIs v
  no-reply v h = like v no_vote h noop-ok (no-deps n s)

  collected : (p b q : ℕ) (own v : Vote) → vote_ok n s 4 own ≡ true → collected_ok n s c p b own q v ≡ true → ReplyIs v
  unfolding collected_ok told_ok added_ok
  collected p b q own v w h = go (eqb p 1) (eqb q c) (eqb p 2) h
    where
      go : (x y z : Bool) → cond x (cond y (same_vote v own) (told_ok n s b v)) (cond z (added_ok n s v) (same_vote v no_vote)) ≡ true → ReplyIs v
      go true true z h = let f = vote-is n s 4 own w in like v own h f.command f.deps
      go true false z h = let (a, d, e) = three _ (ltb v.voted b) (none_is_blank v) h in let f = vote-is n s 3 v a in record { command = f.command; deps = f.deps }
      go false y true h = let (a, d, e, g) = four (eqb v.voted 0) (eqb v.status 0) _ _ h in record { command = rw (same_command-eq v.command noop e) noop-ok; deps = g }
      go false y false h = no-reply v h

  pub reply-is : (r : Record) → vote_ok n s 4 r.vote ≡ true → replies_ok n s c r ≡ true → length r.replies ≡ 7 → (q : ℕ) → ReplyIs (get_or r.replies q no_vote)
  unfolding replies_ok reply_ok
  reply-is r w h l q = go (dec_lt q 7)
    where
      by : (b : Bool)
          → cond b (collected_ok n s c r.phase r.joined r.vote q (get_or r.replies q no_vote)) (same_vote (get_or r.replies q no_vote) no_vote) ≡ true
          → ReplyIs (get_or r.replies q no_vote)
      by true e = collected r.phase r.joined q r.vote _ w e
      by false e = no-reply _ e

      go : Dec (q < 7) → ReplyIs (get_or r.replies q no_vote)
      go (yes k) = by (member q r.set) (all_below-at 7 (reply_ok n s c r) h q k)
      go (no k) =
          let z : get_or r.replies q no_vote ≡ no_vote = get_or-eq_default r.replies no_vote (omega arith) in
          rw z (record { command = noop-ok; deps = no-deps n s })
