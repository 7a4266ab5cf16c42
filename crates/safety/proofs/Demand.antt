-- Demand 3 holds of every run, for every setup. Assumes nothing.
use Prim.Native.Nat.{ℕ, suc, ◌*◌, ◌≤◌, ◌<◌}
use mathlib.Core.Path.{◌≡◌, ap}
use mathlib.Core.Logic.{⊎_elim}
use mathlib.Core.Bool.{true, ◌||◌}
use mathlib.Core.List.{List}
use native.Mathlib.Omega.{arith}
use lib.Dec.{eqb}
use Rattle.paper.specs.Instance.{instance_ok}
use Rattle.paper.specs.declared.Command.{Command}
use Rattle.safety.specs.Run.{State, Setup, Start, Run, stay}
use Rattle.safety.specs.Demand.{Committed, Agreement, Requested, Covering, Order, Lasting, Marking, Demand}
use Rattle.reach.proofs.Tests.{or_cases, eqb-eq}
use Rattle.safety.proofs.Value.{Value, cmd}
use Rattle.safety.proofs.Case.{Case, code, range}
use Rattle.safety.proofs.Rel.{val}
use Rattle.safety.proofs.Sim.{Next}
use Rattle.safety.proofs.Runs.{history-more, marks-more, begin, run-next}
use Rattle.safety.proofs.Commits.{Com, com-in, in-com, com-stays, evidence, one_value, asked-for, one_covers, never-differs}
use Rattle.safety.proofs.Ordered.{front, in_order}
use Rattle.safety.proofs.Listed.{listed-range, once, listed-marked, marked-listed}

-- N = 2F+1
module _ (F s : ℕ) (fit : F ≤ 3) (pos : 0 < F) where
  abbrev n : ℕ
  n = suc (2 * F)

  -- the model at a moment x and at a later one y
  module _ (x₀ x y : State) (st : Start n s x₀) (rx : Run n s x₀ x) (ry : Run n s x y) where
    abbrev C : Case
    C = record { F = F; s = s; fit = fit; pos = pos; past = y.history }

    at_x : Next (begin C st) x
    at_x = run-next C (begin C st) rx (λ a h. history-more ry a h)

    at_y : Next at_x.tie y
    at_y = run-next C at_x.tie ry (λ a h. h)

    in-x : (a o j : ℕ) (k : Command) (d : List ℕ) → Committed x a o j k d → Com C at_y.tie.G a o j (val k d)
    in-x a o j k d h = com-stays at_x.tie at_y a o j (val k d) (com-in at_x.tie a o j k d h)

    in-y : (a o j : ℕ) (k : Command) (d : List ℕ) → Committed y a o j k d → Com C at_y.tie.G a o j (val k d)
    in-y a o j k d h = com-in at_y.tie a o j k d h

    agreed : (a b o j : ℕ) (k l : Command) (d e : List ℕ) → Committed x a o j k d → Committed y b o j l e → (k ≡ l) × (d ≡ e)
    agreed a b o j k l d e h g =
        let t = at_y.tie in
        let q : val k d ≡ val l e = one_value t (code o j) (val k d) (val l e) (evidence t a o j (val k d) (in-x a o j k d h)) (evidence t b o j (val l e) (in-y b o j l e g)) in
        (ap cmd q, ap (λ (v : Value). v.deps) q)

  -- an owner is less than eight
  small : (o j : ℕ) → instance_ok n s o j ≡ true → o < 8
  small o j i = let (l, a, b) = range n s o j i in omega (arith, l, fit)

  demand : Demand n s
  demand = record {
    agreement = λ x₀ x y st rx ry. agreed x₀ x y st rx ry;
    requested = λ x₀ x st rx a o j k d h. asked-for (at_y x₀ x x st rx stay).tie a o j k d (in-y x₀ x x st rx stay a o j k d h);
    covering = λ x₀ x y st rx ry a b o j p i k l d e ne h g it. one_covers (at_y x₀ x y st rx ry).tie a b o j p i k l d e ne (in-x x₀ x y st rx ry a o j k d h) (in-y x₀ x y st rx ry b p i l e g) it;
    order = λ x₀ x y st rx ry a b c e o j p i k l d f h g it bf. let (m, q) = marks-more ry a in
        in_order (at_y x₀ x y st rx ry).tie a b c e o j p i k l d f (in-y x₀ x y st rx ry c o j k d h) (in-y x₀ x y st rx ry e p i l f g) it (rw q (front m bf));
    lasting = record {
      commit = λ x₀ x y st rx ry a o j k d h. in-com (at_y x₀ x y st rx ry).tie a o j k d (in-x x₀ x y st rx ry a o j k d h);
      marks = λ x₀ x y st rx ry a. marks-more ry a;
      unrefused = λ x₀ x st rx c m h v. never-differs (at_y x₀ x x st rx stay).tie c m h v;
    };
    marking = record {
      once = λ x₀ x st rx a i b. once (at_y x₀ x x st rx stay).tie a i b;
      listed = λ x₀ x st rx a o j h.
          let i = listed-range n s (omega (arith, fit)) st rx a (o, j) h in
          (i, listed-marked (at_y x₀ x x st rx stay).tie a o j (small o j i) h);
      marked = λ x₀ x st rx a o j i m.
          marked-listed (at_y x₀ x x st rx stay).tie a o j (small o j i) (λ (p, k) h. small p k (listed-range n s (omega (arith, fit)) st rx a (p, k) h)) m;
    };
  }

-- 3, 5 and 7 are 2F+1
pub demand-3 : (n s : ℕ) → Setup n s → Demand n s
demand-3 n s h = ⊎_elim (λ e. ⊎_elim (λ f. by 1 (eqb-eq n 3 f) (omega arith) (omega arith)) (λ f. by 2 (eqb-eq n 5 f) (omega arith) (omega arith)) (or_cases (eqb n 3) (eqb n 5) e))
    (λ e. by 3 (eqb-eq n 7 e) (omega arith) (omega arith)) (or_cases (eqb n 3 || eqb n 5) (eqb n 7) h.copies)
  where
    by : (F : ℕ) → n ≡ suc (2 * F) → F ≤ 3 → 0 < F → Demand n s
    by F e fit pos = rw e (demand F s fit pos)

pub agreement : (n s : ℕ) → Setup n s → Agreement n s
agreement n s h = (demand-3 n s h).agreement

pub requested : (n s : ℕ) → Setup n s → Requested n s
requested n s h = (demand-3 n s h).requested

pub covering : (n s : ℕ) → Setup n s → Covering n s
covering n s h = (demand-3 n s h).covering

pub order : (n s : ℕ) → Setup n s → Order n s
order n s h = (demand-3 n s h).order

pub lasting : (n s : ℕ) → Setup n s → Lasting n s
lasting n s h = (demand-3 n s h).lasting

pub marking : (n s : ℕ) → Setup n s → Marking n s
marking n s h = (demand-3 n s h).marking
