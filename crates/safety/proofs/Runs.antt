-- A whole run beside a run of the model. Assumes nothing.
use Prim.Native.Nat.{ℕ}
use mathlib.Core.Path.{◌≡◌, refl, sym}
use mathlib.Core.List.Memᴰ
use mathlib.Core.List.{List, [], ◌∷◌, ◌++◌, append_assoc, append-nil, Memᴰ}
use native.Mathlib.Omega.{arith}
use native.Mathlib.Decide.{ℕ_discrete}
use Rattle.paper.specs.Vote.{no_vote}
use Rattle.safety.specs.Run.{Instance, Happening, Settling, State, Start, blanks, replaced, Move, request, receive, recover, nudge, hand_out, question, Run, stay, further}
use Rattle.reach.proofs.Tests.{clash, eqb_same, eqb-false}
use Rattle.safety.proofs.Sys.{blank_rec, blank_sys}
use Rattle.safety.proofs.Older.{le_refl, le_trans}
use Rattle.safety.proofs.Inv.Multi.{g_init}
use Rattle.safety.proofs.Inv.HandOut.{m-init}
use Rattle.safety.proofs.Rel.{rel-begun}
use Rattle.safety.proofs.Case.{Case, copies}
use Rattle.safety.proofs.Sim.{Tie, Next}
use Rattle.safety.proofs.Moves.{receive-next, recover-next, nudge-next, request-next, question-next}
use Rattle.safety.proofs.Marks.{mark-next}

-- what happened is never forgotten
pub history-more : {n s : ℕ} {x y : State} → Run n s x y → (a : Happening Settling) → Memᴰ a x.history → Memᴰ a y.history
history-more stay a h = h
history-more (further r (request c w k out lc wide nk ls am)) a h = Memᴰ.append_left _ (history-more r a h)
history-more (further r (receive c w m out lc wide sent v rf am)) a h = history-more r a h
history-more (further r (recover c o j out lc ok e ob am)) a h = history-more r a h
history-more (further r (nudge c o j out lc ok e am)) a h = history-more r a h
history-more (further r (hand_out c o j lc e)) a h = history-more r a h
history-more (further r (question c o j lc)) a h = Memᴰ.append_left _ (history-more r a h)

-- marks are only added at the end
pub marks-more : {n s : ℕ} {x y : State} → Run n s x y → (a : ℕ) → (l : List Instance) × (y.marks a ≡ x.marks a ++ l)
marks-more {x = x} stay a = ([], sym (append-nil (x.marks a)))
marks-more (further r (request c w k out lc wide nk ls am)) a = marks-more r a
marks-more (further r (receive c w m out lc wide sent v rf am)) a = marks-more r a
marks-more (further r (recover c o j out lc ok e ob am)) a = marks-more r a
marks-more (further r (nudge c o j out lc ok e am)) a = marks-more r a
marks-more (further r (question c o j lc)) a = marks-more r a
marks-more {x = x} (further {y = y} r (hand_out c o j lc e)) a = go (marks-more r a) (ℕ_discrete a c)
  where
    go : (l : List Instance) × (y.marks a ≡ x.marks a ++ l) → Dec (a ≡ c) → (l : List Instance) × (replaced y.marks c (y.marks c ++ (o, j) ∷ []) a ≡ x.marks a ++ l)
    go (l, q) (no z) = (l, rw (eqb-false a c z) q)
    go (l, q) (yes z) = (l ++ (o, j) ∷ [], rw (eqb_same a c z) (rw (← z) (rw q (append_assoc (x.marks a) l ((o, j) ∷ [])))))

module _ (C : Case) where
  open C use {s, fit}

  abbrev n : ℕ
  n = copies C

  -- all that happened by y is known
  abbrev Known : State → Type 0
  Known y = (a : Happening Settling) → Memᴰ a y.history → Memᴰ a C.past

  pub begin : {x₀ : State} → Start n s x₀ → Tie C x₀
  begin blanks = record {
    G = λ I. blank_sys;
    M = λ c. [];
    reach = m-init g_init;
    rels = λ c J lc. rel-begun C.F c (omega arith) 0 no_vote 0 0 blank_rec refl refl refl refl refl refl (λ e. clash (cc)) refl;
    msgs = λ m h. absurd (Memᴰ.not-nil h);
    none = λ c o j h. refl;
    mark-in = λ c J h. clash (cc);
    in-mark = λ c J h. absurd (Memᴰ.not-nil h);
    listed = λ c. refl;
  }

  move-next : {x y : State} (t : Tie C x) → Move n s x y → Known y → Next t y
  move-next {x = x} t (request c w k out lc wide nk ls am) kn = request-next t c w k out lc wide ls am (kn _ (Memᴰ.append_right x.history (Memᴰ.head refl)))
  move-next t (receive c w m out lc wide sent v rf am) kn = receive-next t c w m out lc wide sent v am
  move-next t (recover c o j out lc ok e ob am) kn = recover-next t c o j out lc ok e am
  move-next t (nudge c o j out lc ok e am) kn = nudge-next t c o j out lc ok e am
  move-next t (hand_out c o j lc e) kn = mark-next t c lc o j e
  move-next t (question c o j lc) kn = question-next t c o j

  pub run-next : {x y : State} (t : Tie C x) → Run n s x y → Known y → Next t y
  run-next t stay kn = record { tie = t; grow = λ J q. le_refl ((t.G J).now q) }
  run-next t (further r m) kn =
      let a = run-next t r (λ e h. kn e (history-more (further stay m) e h)) in
      let b = move-next a.tie m kn in
      record { tie = b.tie; grow = λ J q. le_trans (a.grow J q) (b.grow J q) }
