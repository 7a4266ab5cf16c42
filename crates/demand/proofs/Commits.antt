-- A log that never commits is not the one that the contracts describe. Assumes nothing.
use Prim.Native.Nat.{ℕ, ◌<◌}
use mathlib.Core.Path.{◌≡◌, refl, sym, ap, ◌∙◌}
use mathlib.Core.Bool.{Bool, true, false, cond}
use mathlib.Core.List.{List}
use lib.Dec.{eqb}
use borrow.Author.Tests.{eqb-true}
use Rattle.paper.specs.Instance.{instance_ok}
use Rattle.paper.specs.declared.Vote.{Vote}
use Rattle.paper.specs.declared.Record.{Record}
use Rattle.rules.specs.Seen.{Records}
use Rattle.rules.specs.Step.{is_committed}
use Rattle.table.specs.Table.{blank_table, record_in}
use Rattle.closed.proofs.Laws.{tf, is_false}
use Rattle.safety.specs.Run.{Setup, replaced}
use Rattle.safety.specs.Run as rules
use Rattle.demand.specs.Run.{Copy, saved_table, State, Start, blanks, Call, outcome, Move, event, leave, hand_out, question, cut, Run, stay, further}
use Rattle.demand.specs.Run.{mark as mv-mark}
use Rattle.demand.proofs.Records.{at-range, blank-records}
use Rattle.demand.proofs.Handing.{hand-vote}
use Rattle.demand.proofs.Bridge.{Tie, begin, move-next, bridge}
use Rattle.demand.proofs.Witness.{three-one, shown-bytes}

module _ (n s : ℕ) (setup : Setup n s) where
  -- no call commits what was not committed
  abbrev pub Idle : Type 0
  Idle = (c : ℕ) (t out : List ℕ) (call : Call) (o j : ℕ) → is_committed (record_in s (outcome n s c t out call).table o j) ≡ true → is_committed (record_in s t o j) ≡ true

  -- nothing is committed in the saved tables, or in those in memory
  abbrev On : (Copy → List ℕ) → State → Type 0
  On which x = (c o j : ℕ) → c < n → instance_ok n s o j ≡ true → is_committed (record_in s (which (x.copies c)) o j) ≡ false

  abbrev disk : Copy → List ℕ
  disk k = saved_table k

  abbrev memory : Copy → List ℕ
  memory k = k.lent

  -- both hold the same votes
  same-vote : (x : State) (y : rules.State) → Tie n s setup x y → (c o j : ℕ) → c < n → instance_ok n s o j ≡ true
      → (record_in s (x.copies c).lent o j).vote ≡ (record_in s (saved_table (x.copies c)) o j).vote
  same-vote x y t c o j l i =
      let b = t.copies c in
      ap (λ (v : List ℕ). (record_in s v o j).vote) b.pending.table ∙ hand-vote n s b.pending.room c (saved_table (x.copies c)) (b.kept l) o j i

  to-memory : (x : State) (y : rules.State) → Tie n s setup x y → On disk x → On memory x
  to-memory x y t h c o j l i = ap (λ (v : Vote). eqb v.status 4) (same-vote x y t c o j l i) ∙ h c o j l i

  to-disk : (x : State) (y : rules.State) → Tie n s setup x y → On memory x → On disk x
  to-disk x y t h c o j l i = ap (λ (v : Vote). eqb v.status 4) (sym (same-vote x y t c o j l i)) ∙ h c o j l i

  -- one copy changes
  one : (which : Copy → List ℕ) (x : State) (c : ℕ) (k : Copy) → On which x
      → ((o j : ℕ) → c < n → instance_ok n s o j ≡ true → is_committed (record_in s (which k) o j) ≡ false)
      → (q o j : ℕ) → q < n → instance_ok n s o j ≡ true → is_committed (record_in s (which (replaced x.copies c k q)) o j) ≡ false
  one which x c k h here q o j l i = go (eqb q c) refl
    where
      go : (b : Bool) → eqb q c ≡ b → is_committed (record_in s (which (cond b k (x.copies q))) o j) ≡ false
      go true e = here o j (rw (← eqb-true q c e) l) i
      go false e = h q o j l i

  module _ (idle : Idle) where
    move-idle : {x z : State} (y : rules.State) → Tie n s setup x y → (m : Move n s x z) → On disk x → On disk z
    move-idle {x = x} {z = z} y t (event c call out o j w copy possible none answer-is) h =
        let a = move-next n s setup y t (event c call out o j w copy possible none answer-is) in
        let g = to-memory x y t h in
        to-disk z a.later a.tie
        (one memory x c _ g (λ p i l r. is_false _ (λ e. tf _ (idle c (x.copies c).lent out call p i e) (g c p i l r))))
    move-idle y t (leave c b copy i) h = h
    move-idle {x = x} y t (hand_out c list i copy none answer-is) h = one disk x c _ h (λ p i l r. h c p i l r)
    move-idle {x = x} {z = z} y t (mv-mark c code rest copy e) h =
        let a = move-next n s setup y t (mv-mark c code rest copy e) in
        let g = to-memory x y t h in
        to-disk z a.later a.tie (one memory x c _ g (λ p i l r. g c p i l r))
    move-idle y t (question c o j copy) h = h
    move-idle {x = x} y t (cut c copy) h = one disk x c _ h (λ p i l r. h c p i l r)

    none : {x₀ x : State} → Start n s x₀ → Run n s x₀ x → On disk x
    none blanks stay = λ c o j l i.
        ap (λ (r : Record). is_committed r) (sym (at-range n s (blank_table n s c) o j i) ∙ ap (λ (u : Records). u o j) (blank-records n s setup c))
    none st (further r m) =
        let z = begin n s setup st in
        let a = bridge n s setup z.first z.tie r in
        move-idle a.later a.tie m (none st r)

-- some call commits
pub commits : Idle 3 1 three-one → ⊥
commits idle = let h = shown-bytes.fast in tf _ h.holds.status (none 3 1 three-one idle h.start h.run 0 0 1 h.holds.copy h.holds.range)
