-- What is reached, settled and handed out goes by the records of the setup's instances alone; what is reached and settled, by
-- their votes. Assumes nothing.
use Rattle.std.specs.Prelude.{Option, Some, None}
use Prim.Native.Nat.{ℕ, zero, suc, ◌*◌}
use mathlib.Core.Path.{◌≡◌, refl, ap, ap₂}
use mathlib.Core.Bool.{Bool, true, false, ◌&&◌, ◌||◌, not, cond}
use mathlib.Core.List.{List, [], ◌∷◌}
use native.Mathlib.Omega.{arith}
use lib.Dec.{eqb}
use Rattle.paper.specs.Logic.{implies}
use Rattle.paper.specs.declared.Record.{Record}
use Rattle.rules.specs.declared.Instance.{Instance}
use Rattle.rules.specs.Seen.{Records}
use Rattle.rules.specs.Events.{put}
use Rattle.rules.specs.Order.{instance, somewhere, covers_in, reaches_in, reaches, waits_for, is_settled, is_marked, candidate, marked, mark, next_out, code_of, found, hand_out}
use Rattle.reach.specs.High.{Inst}
use Rattle.reach.proofs.Tests.{and_l, and_r, eqb-eq}
use Rattle.reach.proofs.First.{first-same, every-same}

module _ (n s : ℕ) (t u : Records) (votes : (o j : ℕ) → Inst n s o j → (t o j).vote ≡ (u o j).vote) where
  covers-same : (p k o j : ℕ) → Inst n s p k → covers_in n s t p k o j ≡ covers_in n s u p k o j
  unfolding covers_in
  covers-same p k o j i = rw (votes p k i)

  some_same : (f g : ℕ → ℕ → Bool) → ((o j : ℕ) → Inst n s o j → f o j ≡ g o j) → somewhere n s f ≡ somewhere n s g
  unfolding somewhere
  some_same f g e = ap not (every-same n s (λ o j. not (f o j)) (λ o j. not (g o j)) (λ o j i. ap not (e o j i)))

  reaches_in-same : (f p k o j : ℕ) → Inst n s p k → reaches_in f n s t p k o j ≡ reaches_in f n s u p k o j
  unfolding reaches_in
  reaches_in-same zero p k o j i = covers-same p k o j i
  reaches_in-same (suc f) p k o j i =
      ap₂ ◌||◌ (covers-same p k o j i)
      (some_same (λ q x. cond (covers_in n s t p k q x) (reaches_in f n s t q x o j) false) (λ q x. cond (covers_in n s u p k q x) (reaches_in f n s u q x o j) false)
      (λ q x iq. rw (covers-same p k q x i, reaches_in-same f q x o j iq)))

  pub reaches_same : (p k o j : ℕ) → Inst n s p k → reaches n s t p k o j ≡ reaches n s u p k o j
  unfolding reaches
  reaches_same p k o j i = reaches_in-same (n * s) p k o j i

  waits-same : (p k o j : ℕ) → Inst n s p k → Inst n s o j → waits_for n s t p k o j ≡ waits_for n s u p k o j
  unfolding waits_for
  waits-same p k o j i io = rw (reaches_same p k o j i, votes o j io)

  pub settled_same : (p k : ℕ) → Inst n s p k → is_settled n s t p k ≡ is_settled n s u p k
  unfolding is_settled
  settled_same p k i =
      every-same n s (λ o j. not (waits_for n s t p k o j)) (λ o j. not (waits_for n s u p k o j)) (λ o j io. ap not (waits-same p k o j i io))

abbrev Alike : ℕ → ℕ → Records → Records → Type 0
Alike n s t u = (o j : ℕ) → Inst n s o j → t o j ≡ u o j

module _ (n s : ℕ) (t u : Records) (same : Alike n s t u) where
  votes : (o j : ℕ) → Inst n s o j → (t o j).vote ≡ (u o j).vote
  votes o j i = ap (λ (r : Record). r.vote) (same o j i)

  candidate-same : (p k : ℕ) → Inst n s p k → candidate n s t p k ≡ candidate n s u p k
  unfolding candidate
  candidate-same p k i =
      ap₂ ◌&&◌ (ap₂ ◌&&◌ (settled_same n s t u votes p k i) (ap (λ (r : Record). not (is_marked r)) (same p k i)))
      (every-same n s
      (λ o j. implies (reaches n s t p k o j && not (reaches n s t o j p k)) (is_marked (t o j)))
      (λ o j. implies (reaches n s u p k o j && not (reaches n s u o j p k)) (is_marked (u o j)))
      (λ o j io. rw (reaches_same n s t u votes p k o j i, reaches_same n s t u votes o j p k io, same o j io)))

  pub next-same : next_out n s t ≡ next_out n s u
  unfolding next_out
  next-same = first-same n s (candidate n s t) (candidate n s u) candidate-same s 1 (omega arith) (omega arith)

  mark-same : (o j : ℕ) → Alike n s (mark t o j) (mark u o j)
  unfolding put
  mark-same o j p k i = go (eqb p o && eqb k j) refl
    where
      go : (b : Bool) → (eqb p o && eqb k j) ≡ b → cond b (marked (t o j)) (t p k) ≡ cond b (marked (u o j)) (u p k)
      go false e = same p k i
      go true e =
          let ep = eqb-eq p o (and_l (eqb p o) (eqb k j) e) in
          let ek = eqb-eq k j (and_r (eqb p o) (eqb k j) e) in
          ap marked (same o j (rw (ep, ek) at i))

pub hand_out-same : (room n s : ℕ) (t u : Records) → Alike n s t u → hand_out room n s t ≡ hand_out room n s u
unfolding hand_out
hand_out-same zero n s t u same = refl
hand_out-same (suc room) n s t u same =
    rw (next-same n s t u same) (go (next_out n s u) (λ o j. hand_out-same room n s (mark t o j) (mark u o j) (mark-same n s t u same o j)))
  where
    go : (x : Option Instance) → ((o j : ℕ) → hand_out room n s (mark t o j) ≡ hand_out room n s (mark u o j))
        → found x [] (λ o j. code_of o j ∷ hand_out room n s (mark t o j)) ≡ found x [] (λ o j. code_of o j ∷ hand_out room n s (mark u o j))
    go None more = refl
    go (Some i) more = ap (λ (l : List ℕ). code_of i.owner i.number ∷ l) (more i.owner i.number)
