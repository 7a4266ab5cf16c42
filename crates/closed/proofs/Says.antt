-- What this copy says of an instance in range: each kind is valid at those it goes to, and fits. Assumes nothing.
use Prim.Native.Nat.{ℕ, zero, suc, ◌+◌, ◌-◌, ◌^◌, ◌≤◌, ◌<◌}
use mathlib.Core.Path.{◌≡◌, refl, sym, ◌∙◌}
use mathlib.Core.Bool.{Bool, true, false, ◌&&◌, ◌||◌, not, cond}
use mathlib.Core.List.{List, ◌∷◌}
use native.Mathlib.Omega.{arith}
use native.Mathlib.Decide.{ℕ_discrete}
use lib.Dec.{leb, ltb, eqb}
use lib.ListN.{length}
use borrow.Author.Tests.{leb-true, eqb-true, le-leb, lt-ltb, eq-eqb, ne_eqb}
use Rattle.paper.specs.Logic.{implies, all_below}
use Rattle.paper.specs.Command.{is_noop, command_ok}
use Rattle.paper.specs.Deps.{no_deps, deps_ok, same_deps}
use Rattle.paper.specs.Ballot.{ballot_ok, lead}
use Rattle.paper.specs.Vote.{member, voted_below, none_is_blank, vote_ok, told_ok}
use Rattle.paper.specs.Message.{row_of, said_in, command_carried, none_carried, carried_in, command_in, voted_in, status_in, joined_in, is_word, is_reply, is_fresh, is_recovery}
use Rattle.paper.proofs.Bodies.{said-role, said-ballots, said-told, said-deps, said-joined}
use Rattle.paper.proofs.Valid.{valid-of, carried-whole}
use Rattle.paper.specs.declared.Command.{Command}
use Rattle.paper.specs.declared.Vote.{Vote}
use Rattle.paper.specs.declared.Record.{Record}
use Rattle.paper.specs.declared.Body.{Body}
use Rattle.paper.specs.declared.Body.TheVariants.{PreAccept, PreAcceptOk, Accept, AcceptOk, Commit, Prepare, PrepareOk, Nack}
use Rattle.paper.specs.declared.Message.{Message}
use Rattle.rules.specs.Sets.{only, others, absent}
use Rattle.rules.specs.Step.{say, silent, sending}
use Rattle.rules.specs.Events.{addressed, messages_from}
use Rattle.paper.specs.Fits.{CommandFits, DepsFit, VoteFits, CarriedFits, MessageFits}
use Rattle.closed.specs.Held.{Taken, Sent}
use Rattle.closed.proofs.Votes.{vote-is}
use Rattle.closed.proofs.Laws.{eqb-self, two, three, imp-in, not_in, is_false, tf}
use Rattle.closed.proofs.Sets.{member-none, member-only-is, member-others, member-absent}
use Rattle.paper.proofs.Deps.{none-fits}
use Rattle.closed.proofs.Deps.{no-deps}
use Rattle.closed.proofs.Shapes.{Spot}

-- how many messages go out, by who is in the set
none_from : (k i to : ℕ) (m : Message) → ((q : ℕ) → i ≤ q → member q to ≡ false) → length (messages_from k i to m) ≡ 0
unfolding messages_from
none_from zero i to m h = refl
none_from (suc k) i to m h = rw (h i (omega arith)) (none_from k (i + 1) to m (λ q l. h q (omega arith)))

one_from : (k i to p : ℕ) (m : Message) → ((q : ℕ) → member q to ≡ true → q ≡ p) → length (messages_from k i to m) ≤ 1
unfolding messages_from
one_from zero i to p m h = omega arith
one_from (suc k) i to p m h = go (member i to) refl (one_from k (i + 1) to p m h)
  where
    go : (b : Bool) → member i to ≡ b → length (messages_from k (i + 1) to m) ≤ 1
        → length (cond b (addressed m i ∷ messages_from k (i + 1) to m) (messages_from k (i + 1) to m)) ≤ 1
    go true e ih =
        let z : length (messages_from k (i + 1) to m) ≡ 0 =
        none_from k (i + 1) to m (λ q l. is_false _ (λ f. absurd (let x = h q f in let y = h i e in omega arith))) in
        omega arith
    go false e ih = ih

module _ (n c to : ℕ) (m : Message) (h : (q : ℕ) → member q to ≡ true → (q < n) × (q ≡ c → ⊥)) (lc : c < n) where
  all_from : (k i : ℕ) → length (messages_from k i to m) ≤ n - i
  unfolding messages_from
  all_from zero i = omega arith
  all_from (suc k) i = go (member i to) refl (all_from k (i + 1))
    where
      go : (b : Bool) → member i to ≡ b → length (messages_from k (i + 1) to m) ≤ n - (i + 1)
          → length (cond b (addressed m i ∷ messages_from k (i + 1) to m) (messages_from k (i + 1) to m)) ≤ n - i
      go true e ih = omega (arith, (h i e).0)
      go false e ih = omega arith

  but-from : (k i : ℕ) → i ≤ c → suc (length (messages_from k i to m)) ≤ n - i
  unfolding messages_from
  but-from zero i l = omega arith
  but-from (suc k) i l = go (member i to) refl (ℕ_discrete i c) (but-from k (i + 1)) (all_from k (i + 1))
    where
      go : (b : Bool) → member i to ≡ b → Dec (i ≡ c) → (i + 1 ≤ c → suc (length (messages_from k (i + 1) to m)) ≤ n - (i + 1))
          → length (messages_from k (i + 1) to m) ≤ n - (i + 1)
          → suc (length (cond b (addressed m i ∷ messages_from k (i + 1) to m) (messages_from k (i + 1) to m))) ≤ n - i
      go true e (yes f) ih a = absurd ((h i e).1 f)
      go false e (yes f) ih a = omega arith
      go true e (no f) ih a = let z = ih (omega (arith, f)) in omega arith
      go false e (no f) ih a = let z = ih (omega (arith, f)) in omega arith

  -- at most N-1 messages
  pub few-messages : length (messages_from 7 0 to m) ≤ n - 1
  few-messages = let z = but-from 7 0 (omega arith) in omega arith

module _ (n s c o j : ℕ) (p : Spot n s c o j) where
  -- whom a message may go to, and whom a reply
  abbrev pub Away : ℕ → Type 0
  Away to = (q : ℕ) → member q to ≡ true → (q < n) × (q ≡ c → ⊥)

  abbrev pub Back : ℕ → ℕ → Type 0
  Back b to = (q : ℕ) → member q to ≡ true → (q < n) × (q ≡ c → ⊥) × (q ≡ lead o b)

  pub to-others : Away (others n c)
  to-others q e = member-others n c q e

  pub to-absent : (m : ℕ) → Away (absent n c m)
  to-absent m q e = member-absent n c m q e

  pub to_one : (q : ℕ) → q < n → (q ≡ c → ⊥) → Away (only q)
  to_one q l k x e = let z = member-only-is q x (omega (arith, p.small)) e in (omega arith, λ f. k (sym z ∙ f))

  pub back_to : (q b : ℕ) → q < n → (q ≡ c → ⊥) → q ≡ lead o b → Back b (only q)
  back_to q b l k f x e = let z = member-only-is q x (omega (arith, p.small)) e in (omega arith, λ f. k (sym z ∙ f), z ∙ f)

  -- a body x at ballot b, with d beside it, as validity asks it of any receiver
  record Saying (b : ℕ) (x : Body) (d : List ℕ) : Type 0 where
    vote : vote_ok n s 3 (record { voted = voted_in x; status = status_in x; command = command_in x; deps = d }) ≡ true
    below : implies (said_in x).parts.told (ltb (voted_in x) b) ≡ true
    blank : implies (said_in x).parts.told (none_is_blank (record { voted = voted_in x; status = status_in x; command = command_in x; deps = d })) ≡ true
    fresh : implies (is_fresh (said_in x).ballots && eqb b 0) (not (is_noop (command_in x))) ≡ true
    joined : ballot_ok n (joined_in x) ≡ true
    above : implies (said_in x).parts.joined (ltb b (joined_in x)) ≡ true
    carried : ((said_in x).parts.deps || same_deps d no_deps) ≡ true

  taken : (q b : ℕ) (x : Body) (d : List ℕ) → q < n → (q ≡ c → ⊥) → ballot_ok n b ≡ true → implies (is_recovery (said_in x).ballots) (leb 8 b) ≡ true
      → implies (is_word (said_in x).role) (eqb c (lead o b)) ≡ true → implies (is_reply (said_in x).role) (eqb q (lead o b)) ≡ true
      → Saying b x d → Taken n s c q (say c o j b x d)
  taken q b x d lq other hb recovery word reply says =
      record {
        copy = lq;
        other = other;
        valid = valid-of n s q (addressed (say c o j b x d) q) (record {
          from = lt-ltb c n p.copy;
          to = lt-ltb q n lq;
          owner = lt-ltb o n p.owner;
          number = p.number;
          ballot = hb;
          recovery = rw (said-ballots x) recovery;
          here = eqb-self q;
          another = not_in _ (ne_eqb c q (λ e. other (sym e)));
          lead = rw (said-role x) word;
          reply = rw (said-role x) reply;
          vote = says.vote;
          below = rw (said-told x) says.below;
          blank = rw (said-told x) says.blank;
          fresh = rw (said-ballots x) says.fresh;
          joined = says.joined;
          above = rw (said-joined x) says.above;
          carried = rw (said-deps x) says.carried;
          short = carried-whole x (record { voted = voted_in x; status = status_in x; command = command_in x; deps = d }) refl (vote-is n s 3 _ says.vote).command;
        });
      }

  fits : (b : ℕ) (x : Body) (d : List ℕ) → b < 256 ^ 4 → CarriedFits (carried_in x) → DepsFit d → MessageFits (say c o j b x d)
  fits b x d lb fx fd =
      let (a, z) = two (leb 1 j) (leb j s) p.number in
      record {
        from = omega (arith, p.small, p.copy);
        to = omega arith;
        owner = omega (arith, p.small, p.owner);
        number = omega (arith, leb-true j s z, p.numbers);
        ballot = lb;
        body = fx;
        deps = fd;
      }

  -- a command, or none, in what a body carries
  command-fits : {k : Command} → CommandFits k → CarriedFits (command_carried k)
  command-fits f = record { voted = omega arith; status = omega arith; command = f; joined = omega arith }

  none-carried-fits : CarriedFits none_carried
  none-carried-fits = command-fits (record { key = omega arith; second = omega arith; edit = omega arith })

  module _ (r : Record) (to b : ℕ) (hb : ballot_ok n b ≡ true) (lb : b < 256 ^ 4) where
    -- PreAccept, Accept and Commit to others
    module _ (k : Command) (hk : command_ok k ≡ true) (fk : CommandFits k) (d : List ℕ) (hd : deps_ok n s d ≡ true) (fd : DepsFit d) (away : Away to) where
      pub preaccept-sent : lead o b ≡ c → (b ≡ 0 → is_noop k ≡ false) → Sent n s c (sending r to (say c o j b (PreAccept k) d))
      unfolding row_of vote_ok ballot_ok
      preaccept-sent leads op =
          record {
            each = λ q e. let (l, f) = away q e in
                taken q b (PreAccept k) d l f hb refl (eq-eqb c (lead o b) (sym leads)) refl
                (record { vote = rw (hk, hd) refl; below = refl; blank = refl; fresh = imp-in (eqb b 0) (not (is_noop k)) (λ e. not_in _ (op (eqb-true b 0 e))); joined = refl; above = refl; carried = refl });
            single = λ e. tf _ e refl;
            fits = fits b (PreAccept k) d lb (command-fits fk) fd;
          }

      pub accept-sent : lead o b ≡ c → Sent n s c (sending r to (say c o j b (Accept k) d))
      unfolding row_of vote_ok ballot_ok
      accept-sent leads =
          record {
            each = λ q e. let (l, f) = away q e in
                taken q b (Accept k) d l f hb refl (eq-eqb c (lead o b) (sym leads)) refl
                (record { vote = rw (hk, hd) refl; below = refl; blank = refl; fresh = refl; joined = refl; above = refl; carried = refl });
            single = λ e. tf _ e refl;
            fits = fits b (Accept k) d lb (command-fits fk) fd;
          }

      pub commit-sent : Sent n s c (sending r to (say c o j b (Commit k) d))
      unfolding row_of vote_ok ballot_ok
      commit-sent =
          record {
            each = λ q e. let (l, f) = away q e in
                taken q b (Commit k) d l f hb refl refl refl (record { vote = rw (hk, hd) refl; below = refl; blank = refl; fresh = refl; joined = refl; above = refl; carried = refl });
            single = λ e. tf _ e refl;
            fits = fits b (Commit k) d lb (command-fits fk) fd;
          }

    pub prepare-sent : Away to → lead o b ≡ c → 8 ≤ b → Sent n s c (sending r to (say c o j b Prepare no_deps))
    unfolding row_of vote_ok ballot_ok same_deps all_below command_ok
    prepare-sent away leads l8 =
        record {
          each = λ q e. let (l, f) = away q e in
              taken q b Prepare no_deps l f hb (le-leb 8 b l8) (eq-eqb c (lead o b) (sym leads)) refl
              (record { vote = rw (no-deps n s) refl; below = refl; blank = refl; fresh = refl; joined = refl; above = refl; carried = refl });
          single = λ e. tf _ e refl;
          fits = fits b Prepare no_deps lb none-carried-fits none-fits;
        }

    -- replies, back to the lead
    module _ (back : Back b to) where
      pub preacceptok-sent : (d : List ℕ) → deps_ok n s d ≡ true → DepsFit d → Sent n s c (sending r to (say c o j b PreAcceptOk d))
      unfolding row_of vote_ok ballot_ok command_ok
      preacceptok-sent d hd fd =
          record {
            each = λ q e. let (l, f, g) = back q e in
                taken q b PreAcceptOk d l f hb refl refl (eq-eqb q (lead o b) g)
                (record { vote = rw hd refl; below = refl; blank = refl; fresh = refl; joined = refl; above = refl; carried = refl });
            single = λ e. tf _ e refl;
            fits = fits b PreAcceptOk d lb none-carried-fits fd;
          }

      pub acceptok-sent : Sent n s c (sending r to (say c o j b AcceptOk no_deps))
      unfolding row_of vote_ok ballot_ok same_deps all_below command_ok
      acceptok-sent =
          record {
            each = λ q e. let (l, f, g) = back q e in
                taken q b AcceptOk no_deps l f hb refl refl (eq-eqb q (lead o b) g)
                (record { vote = rw (no-deps n s) refl; below = refl; blank = refl; fresh = refl; joined = refl; above = refl; carried = refl });
            single = λ e. tf _ e refl;
            fits = fits b AcceptOk no_deps lb none-carried-fits none-fits;
          }

      pub nack-sent : (x : ℕ) → ballot_ok n x ≡ true → x < 256 ^ 4 → b < x → Sent n s c (sending r to (say c o j b (Nack x) no_deps))
      unfolding row_of vote_ok ballot_ok same_deps all_below command_ok
      nack-sent x hx lx above =
          record {
            each = λ q e. let (l, f, g) = back q e in
                taken q b (Nack x) no_deps l f hb refl refl (eq-eqb q (lead o b) g)
                (record { vote = rw (no-deps n s) refl; below = refl; blank = refl; fresh = refl; joined = hx; above = lt-ltb b x above; carried = refl });
            single = λ e. tf _ e refl;
            fits = fits b (Nack x) no_deps lb (record { voted = omega arith; status = omega arith; command = record { key = omega arith; second = omega arith; edit = omega arith }; joined = lx }) none-fits;
          }

  -- a PrepareOK goes to one copy
  pub prepareok-sent : (r : Record) (q b : ℕ) (v : Vote) → ballot_ok n b ≡ true → b < 256 ^ 4 → Back b (only q) → q < n → 8 ≤ b → told_ok n s b v ≡ true
      → VoteFits v → Sent n s c (sending r (only q) (say c o j b (PrepareOk v.voted v.status v.command) v.deps))
  unfolding row_of ballot_ok told_ok
  prepareok-sent r q b v hb lb back lq l8 told fv =
      let (vote, below, blank) = three (vote_ok n s 3 v) (voted_below b v) (none_is_blank v) told in
      record {
        each = λ x e. let (l, f, g) = back x e in
            taken x b (PrepareOk v.voted v.status v.command) v.deps l f hb (le-leb 8 b l8) refl (eq-eqb x (lead o b) g)
            (record { vote = vote; below = below; blank = blank; fresh = refl; joined = refl; above = refl; carried = refl });
        single = λ e. one_from 7 0 (only q) q _ (λ x f. member-only-is q x (omega (arith, p.small)) f);
        fits =
            fits b (PrepareOk v.voted v.status v.command) v.deps lb
            (record { voted = fv.voted; status = fv.status; command = fv.command; joined = omega arith }) fv.deps;
      }

-- nothing is sent
pub silent-sent : (n s c : ℕ) (r : Record) → Sent n s c (silent r)
unfolding row_of
silent-sent n s c r =
    record {
      each = λ q e. absurd (tf _ e (member-none q));
      single = λ e. tf _ e refl;
      fits = record {
        from = omega arith;
        to = omega arith;
        owner = omega arith;
        number = omega arith;
        ballot = omega arith;
        body = record { voted = omega arith; status = omega arith; command = record { key = omega arith; second = omega arith; edit = omega arith }; joined = omega arith };
        deps = none-fits;
      };
    }
