-- The order in which marks were saved. Assumes nothing.
use Prim.Native.Nat.{ℕ}
use mathlib.Core.Path.{◌≡◌, refl, sym, ap, subst, ◌∙◌}
use mathlib.Core.Logic.{◌⊎◌, inl, inr, ⊎_elim}
use mathlib.Core.Bool.{true}
use mathlib.Core.List.Memᴰ
use mathlib.Core.List.{List, [], ◌∷◌, ◌++◌, Memᴰ}
use Rattle.paper.specs.Command.{interfere}
use Rattle.paper.specs.declared.Command.{Command}
use Rattle.safety.specs.Run.{Instance, State}
use Rattle.safety.specs.Demand.{Before, now, later}
use Rattle.safety.proofs.Case.{Case, code}
use Rattle.safety.proofs.Inv.HandOut.{never-twice, same-order, top, below}
use Rattle.safety.proofs.Inv.HandOut.{Before as Earlier}
use Rattle.safety.proofs.Rel.{val}
use Rattle.safety.proofs.Sim.{newest, Tie}
use Rattle.safety.proofs.Commits.{Com, evidence}

-- what stands before another does so in a longer list
pub front : {a b : Instance} {l : List Instance} (m : List Instance) → Before a b l → Before a b (l ++ m)
front m (now h) = now (Memᴰ.append_left m h)
front m (later h) = later (front m h)

-- of two in a list one stands before the other
either_way : {a b : Instance} {l : List Instance} → (a ≡ b → ⊥) → Memᴰ a l → Memᴰ b l → Before a b l ⊎ Before b a l
either_way n (Memᴰ.head e) (Memᴰ.head f) = absurd (n (e ∙ sym f))
either_way {a} {b} n (Memᴰ.head {xs = l} e) (Memᴰ.tail k) = inl (subst (λ (z : Instance). Before a b (z ∷ l)) e (now k))
either_way {a} {b} n (Memᴰ.tail {xs = l} h) (Memᴰ.head f) = inr (subst (λ (z : Instance). Before b a (z ∷ l)) f (now h))
either_way n (Memᴰ.tail h) (Memᴰ.tail k) = ⊎_elim (λ z. inl (later z)) (λ z. inr (later z)) (either_way n h k)

module _ (C : Case) where
  -- the saved order, as the model's
  early-keep : {I J : ℕ} (l : List Instance) {m : List ℕ} → Earlier C I J m → Earlier C I J (newest m l)
  early-keep [] h = h
  early-keep (e ∷ l) h = early-keep l (below h)

  early-add : {I : ℕ} {b : Instance} {l : List Instance} (m : List ℕ) → Memᴰ I m → Memᴰ b l → Earlier C I (code b.0 b.1) (newest m l)
  early-add {I} {b} m h (Memᴰ.head {x = e} {xs = l} q) = early-keep l (subst (λ (z : Instance). Earlier C I (code b.0 b.1) (code z.0 z.1 ∷ m)) q (top h))
  early-add m h (Memᴰ.tail {x = e} k) = early-add (code e.0 e.1 ∷ m) (Memᴰ.tail h) k

  early-of : {a b : Instance} {l : List Instance} (m : List ℕ) → Before a b l → Earlier C (code a.0 a.1) (code b.0 b.1) (newest m l)
  early-of {a} m (now h) = early-add (code a.0 a.1 ∷ m) (Memᴰ.head refl) h
  early-of m (later {e = e} h) = early-of (code e.0 e.1 ∷ m) h

module _ {C : Case} {z : State} (t : Tie C z) where
  open t use {G, M, reach, listed}

  pub early : (c : ℕ) (a b : Instance) → Before a b (z.marks c) → Earlier C (code a.0 a.1) (code b.0 b.1) (M c)
  early c a b h = rw (listed c) (early-of C [] h)

  pub in_order : (a b c e o j p i : ℕ) (k l : Command) (d f : List ℕ) → Com C G c o j (val k d) → Com C G e p i (val l f) → interfere k l ≡ true
      → Before (o, j) (p, i) (z.marks a) → Memᴰ (o, j) (z.marks b) → Memᴰ (p, i) (z.marks b) → Before (o, j) (p, i) (z.marks b)
  in_order a b c e o j p i k l d f h g it bf mo mp =
      ⊎_elim (λ q. q)
      (λ q. absurd (same-order C reach a b (code o j) (code p i) apart (val k d) (val l f) (evidence t c o j (val k d) h) (evidence t e p i (val l f) g) it
      (early a (o, j) (p, i) bf) (early b (p, i) (o, j) q)))
      (either_way (λ q. apart (ap (λ (z : Instance). code z.0 z.1) q)) mo mp)
    where
      -- an instance is not before itself
      apart : code o j ≡ code p i → ⊥
      apart q = never-twice C reach a (code o j) (subst (λ (J : ℕ). Earlier C (code o j) J (M a)) (sym q) (early a (o, j) (p, i) bf))
