-- A hand-out is a run of mark moves: the list that it fills is the order of the marks, and the table has them. Assumes nothing.
-- A cut between two saves leaves what a hand-out into a shorter list would.
use Rattle.std.specs.Prelude.{Option, Some, None}
use Prim.Native.Nat.{ℕ, zero, suc, ◌≤◌, ◌<◌}
use mathlib.Core.Path.{◌≡◌, refl, sym, ap, ◌∙◌}
use mathlib.Core.List.{List, [], ◌∷◌, ◌++◌, append_assoc, append-nil}
use native.Mathlib.Omega.{arith}
use lib.ListN.{take}
use Rattle.rules.specs.declared.Instance as rules
use Rattle.rules.specs.Seen.{Records}
use Rattle.rules.specs.Order.{instance, next_out, code_of, found, hand_out, handed_out, mark}
use Rattle.safety.specs.Run.{Instance, State, replaced, marked, Run, stay, further}
use Rattle.safety.specs.Run.{hand_out as mv-hand_out}
use Rattle.reach.proofs.Tests.{eqb_same}

run_on : {n s : ℕ} {x y z : State} → Run n s x y → Run n s y z → Run n s x z
run_on r stay = r
run_on r (further q m) = further (run_on r q) m

replaced-here : {A : Type 0} (f : ℕ → A) (c : ℕ) (a : A) → replaced f c a c ≡ a
replaced-here f c a = rw (eqb_same c c refl) refl

-- marks as the codes of the list
abbrev pub codes_of : List Instance → List ℕ
codes_of [] = []
codes_of (e ∷ l) = code_of e.0 e.1 ∷ codes_of l

-- what copy c has after a hand-out into a list of this room
pub record Handed (n s c room : ℕ) (x : State) : Type 0 where
  pub later : State
  pub run : Run n s x later
  pub table : later.tables c ≡ handed_out room n s (x.tables c)
  pub added : List Instance
  pub marks : later.marks c ≡ x.marks c ++ added
  pub codes : codes_of added ≡ hand_out room n s (x.tables c)

pub hands_out : (n s c : ℕ) → c < n → (room : ℕ) (x : State) → Handed n s c room x
unfolding hand_out handed_out
hands_out n s c lc zero x = record { later = x; run = stay; table = refl; added = []; marks = sym (append-nil (x.marks c)); codes = refl }
hands_out n s c lc (suc room) x = go (next_out n s (x.tables c)) refl (hands_out n s c lc room)
  where
    go : (f : Option rules.Instance) → next_out n s (x.tables c) ≡ f → ((y : State) → Handed n s c room y) → Handed n s c (suc room) x
    go None e ih = record {
      later = x;
      run = stay;
      table = rw e refl;
      added = [];
      marks = sym (append-nil (x.marks c));
      codes = rw e refl;
    }
    go (Some i) e ih =
        let h = ih (marked x c i.owner i.number) in
        let t : (marked x c i.owner i.number).tables c ≡ mark (x.tables c) i.owner i.number = replaced-here x.tables c (mark (x.tables c) i.owner i.number) in
        record {
          later = h.later;
          run = run_on (further stay (mv-hand_out c i.owner i.number lc e)) h.run;
          table = rw e (h.table ∙ ap (handed_out room n s) t);
          added = (i.owner, i.number) ∷ h.added;
          marks = h.marks ∙ ap (λ (l : List Instance). l ++ h.added) (replaced-here x.marks c (x.marks c ++ (i.owner, i.number) ∷ [])) ∙ append_assoc (x.marks c) ((i.owner, i.number) ∷ []) h.added;
          codes = rw e (ap (λ (l : List ℕ). code_of i.owner i.number ∷ l) (h.codes ∙ ap (hand_out room n s) t));
        }

-- the first k codes are those of a list with room for k
pub shorter : (k room n s : ℕ) (t : Records) → k ≤ room → take k (hand_out room n s t) ≡ hand_out k n s t
unfolding hand_out
shorter zero room n s t l = refl
shorter (suc k) zero n s t l = absurd (omega arith)
shorter (suc k) (suc room) n s t l = go (next_out n s t) (λ u. shorter k room n s u (omega arith))
  where
    go : (f : Option rules.Instance) → ((u : Records) → take k (hand_out room n s u) ≡ hand_out k n s u)
        → take (suc k) (found f [] (λ o j. code_of o j ∷ hand_out room n s (mark t o j))) ≡ found f [] (λ o j. code_of o j ∷ hand_out k n s (mark t o j))
    go None ih = refl
    go (Some i) ih = ap (λ (l : List ℕ). code_of i.owner i.number ∷ l) (ih (mark t i.owner i.number))
