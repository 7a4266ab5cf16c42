-- What each part of demand 3 rests on, one law for each: a wrong rule breaks the law that its part needs. Assumes nothing.
use Prim.Native.Nat.{ℕ, zero, suc, ◌+◌, ◌≤◌, ◌<◌}
use mathlib.Core.Path.{◌≡◌, refl, ap}
use mathlib.Core.Bool.{Bool, true, false, ◌&&◌, ◌||◌, not, cond}
use mathlib.Core.Logic.{⊎_elim}
use mathlib.Core.List.{List}
use native.Mathlib.Omega.{arith}
use native.Mathlib.Nat.{eq-or-lt_of_le}
use lib.Dec.{leb, ltb, eqb}
use lib.ListN.{get_or}
use borrow.Author.Tests.{lt-ltb}
use Rattle.paper.specs.Logic.{implies, all_below}
use Rattle.paper.specs.Command.{Interference, interfere, Wide}
use Rattle.paper.specs.Message.{vote_in}
use Rattle.paper.proofs.Laws.{and-true, all_below-at}
use Rattle.paper.proofs.Deps.{join-entry}
use Rattle.paper.specs.declared.Command.{Command}
use Rattle.paper.specs.declared.Record.{Record}
use Rattle.paper.specs.declared.Body.{Body}
use Rattle.paper.specs.declared.Body.TheVariants.{PreAccept, PreAcceptOk, Accept, AcceptOk, Commit, Prepare, PrepareOk, Nack}
use Rattle.paper.specs.declared.Message.{Message}
use Rattle.rules.specs.declared.Step.{Step}
use Rattle.rules.specs.Sets.{highest}
use Rattle.rules.specs.Step.{is_committed, awaited, commit_back, nack_back}
use Rattle.rules.specs.Seen.{Records, met, seen_entry}
use Rattle.rules.specs.Request.{is_blank, lowest_blank}
use Rattle.rules.specs.PreAccept.{voted_at, pre_accept}
use Rattle.rules.specs.PreAcceptOk.{on_pre_accept_ok}
use Rattle.rules.specs.Accept.{accept}
use Rattle.rules.specs.AcceptOk.{on_accept_ok}
use Rattle.rules.specs.Commit.{commit}
use Rattle.rules.specs.Prepare.{prepare}
use Rattle.rules.specs.PrepareOk.{on_prepare_ok}
use Rattle.rules.specs.Nack.{nack}
use Rattle.rules.specs.Nudge.{nudge}
use Rattle.rules.specs.Received.{by_kind}
use Rattle.rules.specs.Events.{request_number}
use Rattle.rules.specs.Order.{everywhere, reaches, waits_for, is_settled, is_marked, candidate}

-- what holds of both branches of a test, each where it is taken, holds of the whole
by_cond : {A : Type 0} (P : A → Type 0) (b : Bool) {x y : A} → (b ≡ true → P x) → (b ≡ false → P y) → P (cond b x y)
by_cond P true f g = f refl
by_cond P false f g = g refl

both : (a b : Bool) → a ≡ true → b ≡ true → (a && b) ≡ true
both a b e f = rw (e, f)

-- a contradiction of two constructors
tf : {A : Type 0} (b : Bool) → b ≡ true → b ≡ false → A
tf b p q = let z : ◌≡◌ {A = ℕ} 0 1 = cc in absurd (omega arith)

-- 1: no instance is committed with two commands or two dependency lists
module _ (c o j : ℕ) (r : Record) (m : Message) where
  -- the record is left as it is
  abbrev Same : Step → Type 0
  Same x = x.entry ≡ r

  -- what is sent tells the record's vote
  abbrev Tells : Step → Type 0
  Tells x = vote_in x.message ≡ r.vote

  -- a PrepareOK tells the vote that is held
  pub told-vote : is_committed r ≡ false → ltb m.ballot r.joined ≡ false → eqb r.vote.voted m.ballot ≡ false → vote_in (prepare c o j r m).message ≡ r.vote
  unfolding prepare
  told-vote p q e =
      by_cond Tells (is_committed r) (λ f. tf _ f p)
      (λ f. by_cond Tells (ltb m.ballot r.joined) (λ g. tf _ g q) (λ g. by_cond Tells (eqb r.vote.voted m.ballot) (λ h. tf _ h e) (λ h. refl)))

  -- no ballot below the joined one gets a vote or a promise
  pub no-vote-below : ltb m.ballot r.joined ≡ true → (k : Command) (d : List ℕ) → Same (pre_accept c o j r m k d) × (Same (accept c o j r m k) × Same (prepare c o j r m))
  unfolding pre_accept accept prepare commit_back nack_back
  no-vote-below h k d = rw h (by_cond Same (is_committed r) (λ e. refl) (λ e. refl), (by_cond Same (is_committed r) (λ e. refl) (λ e. refl), by_cond Same (is_committed r) (λ e. refl) (λ e. refl)))

  -- a vote is given once for a ballot: repeated, it is answered by what is stored
  pub votes-once : is_committed r ≡ false → ltb m.ballot r.joined ≡ false → voted_at r m.ballot ≡ true → leb r.vote.status 2 ≡ true → (k : Command) (d : List ℕ)
      → Same (pre_accept c o j r m k d) × ((pre_accept c o j r m k d).message.deps ≡ r.vote.deps)
  unfolding pre_accept
  votes-once p q v l k d = rw (p, q, v, l) (refl, refl)

-- 2: a committed command was requested or is a no-op
pub blank-above : (k j : ℕ) (row : ℕ → Record) → j ≤ lowest_blank k j row
unfolding lowest_blank
blank-above zero j row = omega arith
blank-above (suc k) j row = by_cond (λ (x : ℕ). j ≤ x) (is_blank (row j)) (λ e. omega arith) (λ e. omega (arith, blank-above k (j + 1) row))

pub blank-found : (k j : ℕ) (row : ℕ → Record) → lowest_blank k j row < j + k → is_blank (row (lowest_blank k j row)) ≡ true
unfolding lowest_blank
blank-found zero j row h = absurd (omega arith)
blank-found (suc k) j row h = go (is_blank (row j)) refl h (λ l. blank-found k (j + 1) row l)
  where
    go : (b : Bool) → is_blank (row j) ≡ b → cond b j (lowest_blank k (j + 1) row) < j + suc k
        → (lowest_blank k (j + 1) row < j + 1 + k → is_blank (row (lowest_blank k (j + 1) row)) ≡ true) → is_blank (row (cond b j (lowest_blank k (j + 1) row))) ≡ true
    go true e l more = e
    go false e l more = more (omega arith)

-- a request takes a blank number, so that no instance is asked for twice
pub request-blank : (s c : ℕ) (t : Records) → request_number s c t ≤ s → is_blank (t c (request_number s c t)) ≡ true
unfolding request_number
request-blank s c t l = blank-found s 1 (t c) (omega arith)

-- 3: of two interfering committed commands at least one covers the other
pub highest-above : (k : ℕ) (f : ℕ → Bool) (i : ℕ) → 1 ≤ i → i ≤ k → f i ≡ true → i ≤ highest k f
unfolding highest
highest-above zero f i a b h = absurd (omega arith)
highest-above (suc k) f i a b h = go (f (suc k)) refl (λ l. highest-above k f i a l h)
  where
    go : (x : Bool) → f (suc k) ≡ x → (i ≤ k → i ≤ highest k f) → i ≤ cond x (suc k) (highest k f)
    go true e more = b
    go false e more = ⊎_elim (λ (z : i ≡ suc k). tf (f i) h (rw z e)) (λ (z : i < suc k). more (omega arith)) (eq-or-lt_of_le b)

-- Seen covers every record with a vote for a command that interferes
pub seen_covers : (w : Interference) → Wide w → (n s : ℕ) (t : Records) (o j : ℕ) (k : Command) (p i : ℕ) → p < n → 1 ≤ i → i ≤ s → (eqb p o && eqb i j) ≡ false
    → leb 1 (t p i).vote.status ≡ true → interfere k (t p i).vote.command ≡ true → i ≤ seen_entry w n s t o j k p
unfolding seen_entry met
seen_covers w wide n s t o j k p i lp a b ne st it = rw (lt-ltb p n lp) (highest-above s (met w t o j k p) i a b (both _ _ (both _ _ (ap not ne) st) (wide _ _ it)))

-- a first vote for a PreAccept holds its dependencies and Seen
pub vote-covers : (c o j : ℕ) (r : Record) (m : Message) (k : Command) (seen : List ℕ) → is_committed r ≡ false → ltb m.ballot r.joined ≡ false → voted_at r m.ballot ≡ false
    → (q : ℕ) → q < 7 → (get_or m.deps q 0 ≤ get_or (pre_accept c o j r m k seen).entry.vote.deps q 0) × (get_or seen q 0 ≤ get_or (pre_accept c o j r m k seen).entry.vote.deps q 0)
unfolding pre_accept
vote-covers c o j r m k seen p b v q l = let w = join-entry m.deps seen q l in rw (p, b, v) (w.left, w.right)

-- 4: copies that have saved two interfering committed commands as handed out saved them in the same order
module _ (n s : ℕ) (t : Records) (p k : ℕ) (h : candidate n s t p k ≡ true) (o i : ℕ) (lo : o < n) (li : i < s) where
  parts : (is_settled n s t p k ≡ true) × (everywhere n s (λ o j. implies (reaches n s t p k o j && not (reaches n s t o j p k)) (is_marked (t o j))) ≡ true)
  unfolding candidate
  parts =
      let a = and-true (is_settled n s t p k && not (is_marked (t p k))) _ h in
      ((and-true (is_settled n s t p k) (not (is_marked (t p k))) a.0).0, a.1)

  everywhere-at : (f : ℕ → ℕ → Bool) → everywhere n s f ≡ true → f o (i + 1) ≡ true
  unfolding everywhere
  everywhere-at f e = all_below-at s (λ i. f o (i + 1)) (all_below-at n (λ o. all_below s (λ i. f o (i + 1))) e o lo) i li

  -- all that a handed-out instance reaches is committed
  pub reached-committed : reaches n s t p k o (i + 1) ≡ true → is_committed (t o (i + 1)) ≡ true
  unfolding is_settled waits_for
  reached-committed e = go (is_committed (t o (i + 1))) (eqb o p && eqb (i + 1) k) (rw e at (everywhere-at (λ o j. not (waits_for n s t p k o j)) parts.0))
    where
      go : (b x : Bool) → not ((x || true) && not b) ≡ true → b ≡ true
      go true x e = refl
      go false true e = e
      go false false e = e

  -- and marked before it, but for what reaches back
  pub reached-marked : reaches n s t p k o (i + 1) ≡ true → reaches n s t o (i + 1) p k ≡ false → is_marked (t o (i + 1)) ≡ true
  reached-marked e f = rw (e, f) at (everywhere-at (λ o j. implies (reaches n s t p k o j && not (reaches n s t o j p k)) (is_marked (t o j))) parts.1)

-- 5: no later message, commit or restart changes a commit
module _ (n c o j : ℕ) (r : Record) (h : is_committed r ≡ true) where
  -- whatever comes; a committed record of a sound table is in phase 0
  pub commit-final : (seen : Command → List ℕ) (m : Message) → r.phase ≡ 0 → (b : Body) → (by_kind n c o j seen r m b).entry ≡ r
  unfolding by_kind pre_accept on_pre_accept_ok accept on_accept_ok commit prepare on_prepare_ok nack awaited commit_back
  commit-final seen m p (PreAccept k) = rw h
  commit-final seen m p PreAcceptOk = rw p
  commit-final seen m p (Accept k) = rw h
  commit-final seen m p AcceptOk = rw p
  commit-final seen m p (Commit k) = rw h
  commit-final seen m p Prepare = rw h
  commit-final seen m p (PrepareOk v t k) = rw p
  commit-final seen m p (Nack x) = rw h

  pub nudge-final : (nudge n c o j r).entry ≡ r
  unfolding nudge
  nudge-final = rw h
