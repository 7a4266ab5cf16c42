-- The records that the rules make: each is sound and fits. Assumes nothing.
use Prim.Native.Nat.{ℕ, ◌^◌, ◌≤◌, ◌<◌}
use mathlib.Core.Path.{◌≡◌, refl, sym, ap, ◌∙◌}
use mathlib.Core.Logic.{◌⊎◌, inl, inr}
use mathlib.Core.Bool.{Bool, true, false, ◌||◌}
use native.Mathlib.Omega.{arith}
use native.Mathlib.Nat.{one-le-pow}
use native.Mathlib.Decide.{ℕ_discrete}
use lib.Dec.{leb, ltb, eqb}
use lib.ListN.{length, length-set, get_or-replicate}
use lib.Seq.{get_or-set_same, get_or-set_other}
use lib.Pow.{pow_mono}
use borrow.Author.Tests.{leb-true, ltb-true, eqb-true, ne_eqb}
use Rattle.paper.specs.Setup.{copies_ok, setup_ok, faults}
use Rattle.paper.specs.Instance.{number_ok, instance_ok}
use Rattle.paper.specs.Command.{is_noop}
use Rattle.paper.specs.Ballot.{ballot_ok, lead}
use Rattle.paper.specs.Vote.{no_vote, blank, none_is_blank, vote_ok, member, count}
use Rattle.paper.specs.Sound.{collected_ok, reply_ok, replies_ok, sound_record}
use Rattle.paper.specs.declared.Vote.{Vote}
use Rattle.paper.specs.declared.Record.{Record}
use Rattle.paper.proofs.Laws.{all_below-at}
use Rattle.rules.specs.Sets.{with}
use Rattle.rules.specs.Step.{idle, begun, collect}
use Rattle.paper.specs.Fits.{VoteFits}
use Rattle.closed.specs.Held.{Held}
use Rattle.closed.proofs.Laws.{eqb-self, two, three, or_cases, all_in}
use Rattle.closed.proofs.Sound.{Sound, sound-is, sound-in}
use Rattle.closed.proofs.Sets.{member-with, member-none, with-small}
use Rattle.closed.proofs.Votes.{no-votes-fit, votes-set, no-vote-fits, same-vote-refl, ballot-0, none_in, no-vote-none, vote-in, noop-ok}
use Rattle.closed.proofs.Deps.{no-deps}

-- the setup and an instance in range: all that is used of N is that F >= 1 and that there are seven places
pub record Spot (n s c o j : ℕ) : Type 0 where
  pub small : n ≤ 7
  pub some : 1 ≤ faults n
  pub numbers : s ≤ 64
  pub copy : c < n
  pub owner : o < n
  pub number : number_ok s j ≡ true

copies : (n : ℕ) → copies_ok n ≡ true → (3 ≤ n) × (n ≤ 7)
copies n h = go (or_cases _ _ h)
  where
    low : (eqb n 3 ≡ true) ⊎ (eqb n 5 ≡ true) → (3 ≤ n) × (n ≤ 7)
    low (inl e) = let z = eqb-true n 3 e in omega arith
    low (inr e) = let z = eqb-true n 5 e in omega arith

    go : ((eqb n 3 || eqb n 5) ≡ true) ⊎ (eqb n 7 ≡ true) → (3 ≤ n) × (n ≤ 7)
    go (inl e) = low (or_cases _ _ e)
    go (inr e) = let z = eqb-true n 7 e in omega arith

pub setup-is : (n s c : ℕ) → setup_ok n s c ≡ true → (3 ≤ n) × (n ≤ 7) × (s ≤ 64) × (c < n)
unfolding setup_ok
setup-is n s c h =
    let (a, b, d) = three (copies_ok n) _ _ h in
    let (l, m) = copies n a in
    let (e, f) = two (leb 1 s) (leb s 64) b in
    (l, m, leb-true s 64 f, ltb-true c n d)

pub spot : (n s c o j : ℕ) → setup_ok n s c ≡ true → instance_ok n s o j ≡ true → Spot n s c o j
unfolding instance_ok
spot n s c o j h k =
    let (l, m, f, d) = setup-is n s c h in
    let (g, i) = two (ltb o n) _ k in
    record { small = m; some = omega arith; numbers = f; copy = d; owner = ltb-true o n g; number = i }

module _ (n s c o : ℕ) where
  -- nothing collected
  none-collected : (b k p : ℕ) (v : Vote) → replies_ok n s c (begun b v k p) ≡ true
  unfolding replies_ok reply_ok
  none-collected b k p v =
      all_in 7 (reply_ok n s c (begun b v k p)) (λ q l. rw (member-none q, get_or-replicate 7 q no_vote no_vote l) (same-vote-refl no_vote))

  -- a record that begins phase p with nothing collected; p is not 1
  begun-held : (b : ℕ) (v : Vote) (k p : ℕ) → ballot_ok n b ≡ true → b < 256 ^ 4 → vote_ok n s 4 v ≡ true → VoteFits v → v.voted ≤ b → none_is_blank v ≡ true
      → k ≤ 1 → (k ≡ 1 → v.status ≡ 4) → p ≤ 3 → (p ≡ 1 → ⊥) → (1 ≤ p → v.status < 4) → (1 ≤ p → lead o b ≡ c)
      → (p ≡ 2 → (eqb v.status 1 || eqb v.status 2) ≡ true) → (p ≡ 2 → b ≡ 0 → is_noop v.command ≡ false)
      → (p ≡ 3 → v.status ≡ 3) → (2 ≤ p → v.voted ≡ b) → Held n s c o (begun b v k p)
  begun-held b v k p hb lb hv fv below none lk marked lp p1 live leads pre op acc same =
      record {
        sound =
            sound-in n s c o (begun b v k p)
            (record {
              joined = hb;
              own = hv;
              mark = lk;
              phase = lp;
              set = one-le-pow n 2 (omega arith);
              below = below;
              none = none;
              marked = marked;
              empty = λ e. refl;
              live = live;
              leads = leads;
              late = λ e. absurd (p1 e);
              fresh = λ e. absurd (p1 e);
              self = λ e. absurd (p1 e);
              few = λ e. absurd (p1 e);
              preaccepting = pre;
              op = op;
              accepting = acc;
              same = same;
              alone = λ e. member-none c;
              replies = none-collected b k p v;
            });
        fits = record { joined = lb; vote = fv; mark = omega arith; phase = omega arith; set = omega arith; seven = refl; replies = no-votes-fit };
      }

  pub idle-held : (b : ℕ) (v : Vote) (k : ℕ) → ballot_ok n b ≡ true → b < 256 ^ 4 → vote_ok n s 4 v ≡ true → VoteFits v → v.voted ≤ b → none_is_blank v ≡ true
      → k ≤ 1 → (k ≡ 1 → v.status ≡ 4) → Held n s c o (idle b v k)
  idle-held b v k hb lb hv fv below none lk marked =
      begun-held b v k 0 hb lb hv fv below none lk marked (omega arith) (λ e. omega arith) (λ e. absurd (omega arith)) (λ e. absurd (omega arith))
      (λ e. absurd (omega arith)) (λ e. absurd (omega arith)) (λ e. absurd (omega arith)) (λ e. absurd (omega arith))

  -- a lead that begins to pre-accept, or to accept, votes at its ballot
  pub preaccepting-held : (b : ℕ) (v : Vote) (k : ℕ) → ballot_ok n b ≡ true → b < 256 ^ 4 → vote_ok n s 4 v ≡ true → VoteFits v → v.voted ≡ b
      → v.status ≡ 2 → k ≡ 0 → lead o b ≡ c → (b ≡ 0 → is_noop v.command ≡ false) → Held n s c o (begun b v k 2)
  preaccepting-held b v k hb lb hv fv same t lk leads op =
      begun-held b v k 2 hb lb hv fv (omega arith) (none_in v (omega arith)) (omega arith) (λ e. omega arith) (omega arith) (λ e. omega arith) (λ e. omega arith)
      (λ e. leads) (λ e. rw t) (λ e. op) (λ e. absurd (omega arith)) (λ e. same)

  pub accepting-held : (b : ℕ) (v : Vote) (k : ℕ) → ballot_ok n b ≡ true → b < 256 ^ 4 → vote_ok n s 4 v ≡ true → VoteFits v → v.voted ≡ b
      → v.status ≡ 3 → k ≡ 0 → lead o b ≡ c → Held n s c o (begun b v k 3)
  accepting-held b v k hb lb hv fv same t lk leads =
      begun-held b v k 3 hb lb hv fv (omega arith) (none_in v (omega arith)) (omega arith) (λ e. omega arith) (omega arith) (λ e. omega arith) (λ e. omega arith)
      (λ e. leads) (λ e. absurd (omega arith)) (λ e. absurd (omega arith)) (λ e. t) (λ e. same)

  pub blank-held : Held n s c o blank
  blank-held =
      idle-held 0 no_vote 0 (ballot-0 n) (omega arith) (vote-in n s 4 no_vote (ballot-0 n) (omega arith) noop-ok (no-deps n s)) no-vote-fits (omega arith)
      no-vote-none (omega arith) (λ e. absurd (omega arith))

  pub blank-sound : sound_record n s c o blank ≡ true
  blank-sound = blank-held.sound

  -- a reply is collected, from a copy that had not replied
  module _ (r : Record) (q : ℕ) (v : Vote) (ln : n ≤ 7) (lq : q < n) (new : member q r.set ≡ false) (lm : r.set < 2 ^ n) (len : length r.replies ≡ 7) where
    small : r.set < 128
    small = omega (arith, pow_mono ln)

    others : (p : ℕ) → p < 7 → (p ≡ q → ⊥) → member p (with r.set q) ≡ member p r.set
    others p l k = member-with q r.set p (omega arith) small l new ∙ ap (λ (b : Bool). b || member p r.set) (ne_eqb p q k)

    pub collect-replies : collected_ok n s c r.phase r.joined r.vote q v ≡ true → replies_ok n s c r ≡ true → replies_ok n s c (collect r q v) ≡ true
    unfolding replies_ok reply_ok collect
    collect-replies hv h = all_in 7 (reply_ok n s c (collect r q v)) (λ p l. go p l (ℕ_discrete p q))
      where
        go : (p : ℕ) → p < 7 → Dec (p ≡ q) → reply_ok n s c (collect r q v) p ≡ true
        go p l (yes e) = rw (e, member-with q r.set q (omega arith) small (omega arith) new, eqb-self q, get_or-set_same r.replies q v no_vote (omega arith)) hv
        go p l (no k) = rw (others p l k, get_or-set_other r.replies q p v no_vote k) (all_below-at 7 (reply_ok n s c r) h p l)

    pub collect-held : Held n s c o r → (q ≡ c → ⊥) → c < n → 1 ≤ r.phase → VoteFits v → collected_ok n s c r.phase r.joined r.vote q v ≡ true
        → (r.phase ≡ 1 → count (with r.set q) ≤ faults n) → Held n s c o (collect r q v)
    unfolding collect
    collect-held h other lc busy fv hv few =
        let f = sound-is n s c o r h.sound in
        let g = h.fits in
        let fresh : c ≡ q → ⊥ = λ e. other (sym e) in
        let lw : with r.set q < 2 ^ n = with-small n q r.set ln lq lm new in
        record {
          sound =
              sound-in n s c o (collect r q v)
              (record {
                joined = f.joined;
                own = f.own;
                mark = f.mark;
                phase = f.phase;
                set = lw;
                below = f.below;
                none = f.none;
                marked = f.marked;
                empty = λ e. absurd (let z : r.phase ≡ 0 = e in omega arith);
                live = f.live;
                leads = f.leads;
                late = f.late;
                fresh = f.fresh;
                self = λ e. others c (omega arith) fresh ∙ f.self e;
                few = few;
                preaccepting = f.preaccepting;
                op = f.op;
                accepting = f.accepting;
                same = f.same;
                alone = λ e. others c (omega arith) fresh ∙ f.alone e;
                replies = collect-replies hv f.replies;
              });
          fits =
              record {
                joined = g.joined;
                vote = g.vote;
                mark = g.mark;
                phase = g.phase;
                set = omega (arith, pow_mono ln);
                seven = length-set r.replies q v ∙ len;
                replies = votes-set r.replies g.replies q v fv;
              };
        }

-- a record that is not committed has no mark
pub unmarked : (n s c o : ℕ) (r : Record) → Sound n s c o r → (r.vote.status ≡ 4 → ⊥) → r.mark ≡ 0
unmarked n s c o r f k = go (ℕ_discrete r.mark 1)
  where
    go : Dec (r.mark ≡ 1) → r.mark ≡ 0
    go (yes e) = absurd (k (f.marked e))
    go (no e) = let l = f.mark in omega (arith, e)
