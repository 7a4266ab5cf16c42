-- The demand over bytes is not empty: runs from blank tables that commit fast, slowly and by recovery, and hand out.
-- Assumes nothing.
use Prim.Native.Nat.{ℕ, ◌<◌, ◌^◌}
use mathlib.Core.Path.{◌≡◌, refl, sym, ◌∙◌}
use mathlib.Core.Logic.{⊎_elim}
use mathlib.Core.Bool.{true, ◌&&◌}
use mathlib.Core.List.Memᴰ
use mathlib.Core.List.{List, [], ◌∷◌, map, Memᴰ}
use native.Mathlib.Omega.{arith}
use lib.Dec.{ltb}
use borrow.Author.Tests.{ltb-true}
use Rattle.paper.specs.Instance.{instance_ok}
use Rattle.paper.specs.Command.{noop, command_ok}
use Rattle.paper.specs.Fits.{CommandFits}
use Rattle.paper.specs.declared.Command.{Command}
use Rattle.paper.specs.declared.Record.{Record}
use Rattle.table.specs.Table.{record_in}
use Rattle.closed.proofs.Laws.{three, clash}
use Rattle.safety.specs.Run.{Happening, requested, answered, Setup}
use Rattle.safety.specs.Run as rules
use Rattle.safety.specs.Demand as rules-demand
use Rattle.safety.proofs.Witness.{fitting, write, read, other, rewire, deps, shown}
use Rattle.safety.proofs.Witness as scripts
use Rattle.demand.specs.Run.{State, saved_table, Start, Run}
use Rattle.demand.specs.Demand.{in_place, Committed}
use Rattle.demand.proofs.History.{heard}
use Rattle.demand.proofs.Bridge.{Tie}
use Rattle.demand.proofs.Demand.{record_is, of-rules}
use Rattle.demand.proofs.Back.{Fitting, back}

-- a state of a run in which P holds
pub record Reached (n s : ℕ) (P : State → Type 0) : Type 0 where
  pub first : State
  pub start : Start n s first
  pub state : State
  pub run : Run n s first state
  pub holds : P state

pub three-one : Setup 3 1
three-one = record { copies = refl; numbers = refl }

pub five-one : Setup 5 1
five-one = record { copies = refl; numbers = refl }

pub seven-one : Setup 7 1
seven-one = record { copies = refl; numbers = refl }

module _ (n s : ℕ) (setup : Setup n s) where
  fit : (l : List (Happening rules.Settling)) → fitting l ≡ true → Fitting n s setup l
  fit [] h o j k i = absurd (Memᴰ.not-nil i)
  fit (requested p q b ∷ l) h o j k i =
      let (ok, numbers, rest) = three (command_ok b) (ltb b.key (256 ^ 4) && ltb b.second (256 ^ 4) && ltb b.edit (256 ^ 8)) (fitting l) h in
      let (key, second, edit) = three (ltb b.key (256 ^ 4)) (ltb b.second (256 ^ 4)) (ltb b.edit (256 ^ 8)) numbers in
      let fits : CommandFits b = record { key = ltb-true b.key (256 ^ 4) key; second = ltb-true b.second (256 ^ 4) second; edit = ltb-true b.edit (256 ^ 8) edit } in
      ⊎_elim (λ (e : requested o j k ≡ requested p q b). rw (same e) (ok, fits))
      (λ (m : Memᴰ (requested o j k) l). fit l rest o j k m) (Memᴰ.cases_cons i)
    where
      same : ◌≡◌ {A = Happening rules.Settling} (requested o j k) (requested p q b) → k ≡ b
      same e = cc
  fit (answered c p q a ∷ l) h o j k i =
      ⊎_elim (λ (e : requested o j k ≡ answered c p q a). clash (cc)) (λ (m : Memᴰ (requested o j k) l). fit l h o j k m) (Memᴰ.cases_cons i)

  -- a script of the rules, over bytes
  lifted : (Q : rules.State → Type 0) (P : State → Type 0) → ((x : State) (y : rules.State) → Tie n s setup x y → Q y → P x) → scripts.Reached n s Q → Reached n s P
  lifted Q P h r =
      let b = back n s setup r.start r.run (fit r.state.history r.fits) in
      record { first = b.first; start = b.start; state = b.later; run = b.run; holds = h b.later r.state b.full.tie r.holds }

  -- a commit of 0.1 there is one here
  commits : (c : ℕ) (k : Command) (d : List ℕ) → c < n → instance_ok n s 0 1 ≡ true → scripts.Reached n s (λ y. rules-demand.Committed y c 0 1 k d) → Reached n s (λ x. Committed n s (in_place n s) x c 0 1 k d)
  commits c k d l i r = lifted _ _ (λ x y t h. of-rules n s setup x y t c 0 1 k d l i h) r

  -- and so is what is held of it
  holds-there : (c : ℕ) (P : Record → Type 0) → instance_ok n s 0 1 ≡ true → scripts.Reached n s (λ y. P (y.tables c 0 1)) → Reached n s (λ x. P (record_in s (saved_table (x.copies c)) 0 1))
  holds-there c P i r = lifted _ _ (λ x y t h. rw (← record_is n s setup x y t c 0 1 i) h) r

pub record Shown : Type 0 where
  -- a fast commit
  pub fast : Reached 3 1 (λ x. Committed 3 1 (in_place 3 1) x 0 0 1 (write 1) (deps 0 0 0))
  -- a commit through Accept
  pub slow : Reached 3 1 (λ x. Committed 3 1 (in_place 3 1) x 0 0 1 (write 1) (deps 0 1 0))
  -- a no-op by recovery
  pub lost : Reached 3 1 (λ x. Committed 3 1 (in_place 3 1) x 1 0 1 noop (deps 0 0 0))
  -- a command by recovery
  pub saved : Reached 3 1 (λ x. Committed 3 1 (in_place 3 1) x 2 0 1 (write 1) (deps 0 0 0))
  -- two that interfere, handed out at two copies
  pub out : Reached 3 1 (λ x. Committed 3 1 (in_place 3 1) x 0 0 1 (write 1) (deps 0 1 0) × Committed 3 1 (in_place 3 1) x 1 1 1 (write 2) (deps 0 0 0)
      × ((x.copies 0).marks ≡ (1, 1) ∷ (0, 1) ∷ []) × ((x.copies 1).marks ≡ (1, 1) ∷ (0, 1) ∷ []))
  -- a question before a commit, one after it and one of no instance, beside the request
  pub told : Reached 3 1 (λ x. map heard x.history
      ≡ requested 0 1 (write 1) ∷ answered 0 0 1 (rules.waits 0 1) ∷ answered 0 0 1 (rules.settled (write 1)) ∷ answered 0 0 2 rules.unknown ∷ [])
  -- two reads of one object, settled and handed out where each was asked for, while the other is open there
  pub reads : Reached 3 1 (λ x. Committed 3 1 (in_place 3 1) x 0 0 1 (read 1) (deps 0 0 0) × Committed 3 1 (in_place 3 1) x 1 1 1 (read 2) (deps 0 0 0)
      × ((record_in 1 (saved_table (x.copies 0)) 1 1).vote.status ≡ 2) × ((record_in 1 (saved_table (x.copies 1)) 0 1).vote.status ≡ 2)
      × ((x.copies 0).marks ≡ (0, 1) ∷ []) × ((x.copies 1).marks ≡ (1, 1) ∷ [])
      × (map heard x.history ≡ requested 0 1 (read 1) ∷ requested 1 1 (read 2) ∷ answered 0 0 1 (rules.settled (read 1)) ∷ answered 1 1 1 (rules.settled (read 2)) ∷ []))
  -- a copy that works by document 01 and then by 4/12, beside others that work by 4/12: one read covers the other
  pub mixed : Reached 3 1 (λ x. Committed 3 1 (in_place 3 1) x 0 0 1 (read 1) (deps 0 1 0) × Committed 3 1 (in_place 3 1) x 1 1 1 (read 2) (deps 0 0 0)
      × ((x.copies 0).marks ≡ (1, 1) ∷ (0, 1) ∷ []) × ((x.copies 1).marks ≡ (1, 1) ∷ (0, 1) ∷ []))
  -- a rewire of two objects, settled and handed out after the write of each
  pub rewires : Reached 3 1 (λ x. Committed 3 1 (in_place 3 1) x 2 2 1 (rewire 3) (deps 1 1 0) × Committed 3 1 (in_place 3 1) x 0 0 1 (write 1) (deps 0 0 0)
      × Committed 3 1 (in_place 3 1) x 1 1 1 (other 2) (deps 0 0 0) × ((x.copies 2).marks ≡ (0, 1) ∷ (1, 1) ∷ (2, 1) ∷ [])
      × (map heard x.history ≡ requested 0 1 (write 1) ∷ requested 1 1 (other 2) ∷ requested 2 1 (rewire 3) ∷ answered 2 2 1 (rules.waits 0 1)
      ∷ answered 2 2 1 (rules.waits 1 1) ∷ answered 2 2 1 (rules.settled (rewire 3)) ∷ []))

-- of five and of seven copies, each beside the moment before, when it is not yet so
pub record Larger : Type 0 where
  pub five-waits : Reached 5 1 (λ x. (record_in 1 (saved_table (x.copies 0)) 0 1).vote.status ≡ 2)
  pub five-fast : Reached 5 1 (λ x. Committed 5 1 (in_place 5 1) x 0 0 1 (write 1) (deps 0 0 0))
  pub five-slow : Reached 5 1 (λ x. Committed 5 1 (in_place 5 1) x 0 0 1 (write 1) (deps 0 1 0))
  pub five-perhaps : Reached 5 1 (λ x. Committed 5 1 (in_place 5 1) x 3 0 1 (write 1) (deps 0 0 0))
  pub five-asks : Reached 5 1 (λ x. (record_in 1 (saved_table (x.copies 3)) 0 1).phase ≡ 2)
  pub five-afresh : Reached 5 1 (λ x. Committed 5 1 (in_place 5 1) x 3 0 1 (write 1) (deps 0 0 0))
  pub seven-waits : Reached 7 1 (λ x. (record_in 1 (saved_table (x.copies 0)) 0 1).vote.status ≡ 2)
  pub seven-fast : Reached 7 1 (λ x. Committed 7 1 (in_place 7 1) x 0 0 1 (write 1) (deps 0 0 0))
  pub seven-two : Reached 7 1 (λ x. (record_in 1 (saved_table (x.copies 0)) 0 1).vote.status ≡ 2)
  pub seven-slow : Reached 7 1 (λ x. Committed 7 1 (in_place 7 1) x 0 0 1 (write 1) (deps 0 1 0))
  pub seven-perhaps : Reached 7 1 (λ x. Committed 7 1 (in_place 7 1) x 4 0 1 (write 1) (deps 0 0 0))
  pub seven-asks : Reached 7 1 (λ x. (record_in 1 (saved_table (x.copies 4)) 0 1).phase ≡ 2)
  pub seven-afresh : Reached 7 1 (λ x. Committed 7 1 (in_place 7 1) x 4 0 1 (write 1) (deps 0 0 0))

pub shown-bytes : Shown
unfolding instance_ok
shown-bytes = let r = shown.0 in record {
  fast = commits 3 1 three-one 0 (write 1) (deps 0 0 0) (omega arith) refl r.fast;
  slow = commits 3 1 three-one 0 (write 1) (deps 0 1 0) (omega arith) refl r.slow;
  lost = commits 3 1 three-one 1 noop (deps 0 0 0) (omega arith) refl r.lost;
  saved = commits 3 1 three-one 2 (write 1) (deps 0 0 0) (omega arith) refl r.saved;
  out = lifted 3 1 three-one _ _ (λ x y t h. (
    of-rules 3 1 three-one x y t 0 0 1 (write 1) (deps 0 1 0) (omega arith) refl h.0,
    of-rules 3 1 three-one x y t 1 1 1 (write 2) (deps 0 0 0) (omega arith) refl h.1,
    sym (t.copies 0).marks ∙ h.2,
    sym (t.copies 1).marks ∙ h.3,
  )) r.out;
  told = lifted 3 1 three-one _ _ (λ x y t h. sym t.history ∙ h) r.told;
  reads = lifted 3 1 three-one _ _ (λ x y t h. (
    of-rules 3 1 three-one x y t 0 0 1 (read 1) (deps 0 0 0) (omega arith) refl h.0,
    of-rules 3 1 three-one x y t 1 1 1 (read 2) (deps 0 0 0) (omega arith) refl h.1,
    rw (← record_is 3 1 three-one x y t 0 1 1 refl) h.2,
    rw (← record_is 3 1 three-one x y t 1 0 1 refl) h.3,
    sym (t.copies 0).marks ∙ h.4,
    sym (t.copies 1).marks ∙ h.5,
    sym t.history ∙ h.6,
  )) r.reads;
  mixed = lifted 3 1 three-one _ _ (λ x y t h. (
    of-rules 3 1 three-one x y t 0 0 1 (read 1) (deps 0 1 0) (omega arith) refl h.0,
    of-rules 3 1 three-one x y t 1 1 1 (read 2) (deps 0 0 0) (omega arith) refl h.1,
    sym (t.copies 0).marks ∙ h.2,
    sym (t.copies 1).marks ∙ h.3,
  )) r.mixed;
  rewires = lifted 3 1 three-one _ _ (λ x y t h. (
    of-rules 3 1 three-one x y t 2 2 1 (rewire 3) (deps 1 1 0) (omega arith) refl h.0,
    of-rules 3 1 three-one x y t 0 0 1 (write 1) (deps 0 0 0) (omega arith) refl h.1,
    of-rules 3 1 three-one x y t 1 1 1 (other 2) (deps 0 0 0) (omega arith) refl h.2,
    sym (t.copies 2).marks ∙ h.3,
    sym t.history ∙ h.4,
  )) r.rewires;
}

pub larger-bytes : Larger
unfolding instance_ok
larger-bytes = let r = shown.1 in record {
  five-waits = holds-there 5 1 five-one 0 (λ r. r.vote.status ≡ 2) refl r.five-waits;
  five-fast = commits 5 1 five-one 0 (write 1) (deps 0 0 0) (omega arith) refl r.five-fast;
  five-slow = commits 5 1 five-one 0 (write 1) (deps 0 1 0) (omega arith) refl r.five-slow;
  five-perhaps = commits 5 1 five-one 3 (write 1) (deps 0 0 0) (omega arith) refl r.five-perhaps;
  five-asks = holds-there 5 1 five-one 3 (λ r. r.phase ≡ 2) refl r.five-asks;
  five-afresh = commits 5 1 five-one 3 (write 1) (deps 0 0 0) (omega arith) refl r.five-afresh;
  seven-waits = holds-there 7 1 seven-one 0 (λ r. r.vote.status ≡ 2) refl r.seven-waits;
  seven-fast = commits 7 1 seven-one 0 (write 1) (deps 0 0 0) (omega arith) refl r.seven-fast;
  seven-two = holds-there 7 1 seven-one 0 (λ r. r.vote.status ≡ 2) refl r.seven-two;
  seven-slow = commits 7 1 seven-one 0 (write 1) (deps 0 1 0) (omega arith) refl r.seven-slow;
  seven-perhaps = commits 7 1 seven-one 4 (write 1) (deps 0 0 0) (omega arith) refl r.seven-perhaps;
  seven-asks = holds-there 7 1 seven-one 4 (λ r. r.phase ≡ 2) refl r.seven-asks;
  seven-afresh = commits 7 1 seven-one 4 (write 1) (deps 0 0 0) (omega arith) refl r.seven-afresh;
}
