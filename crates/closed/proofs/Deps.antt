-- Lists of dependencies: what is in range stays in range, and Seen always is. Assumes nothing.
use Prim.Native.Nat.{ℕ, zero, suc, ◌^◌, ◌≤◌, ◌<◌}
use mathlib.Core.Path.{◌≡◌}
use mathlib.Core.Bool.{Bool, true, false, cond}
use mathlib.Core.Logic.{⊎_elim}
use mathlib.Core.List.{List, [], ◌∷◌}
use native.Mathlib.Omega.{arith}
use native.Mathlib.Decide.{dec_lt}
use lib.Dec.{ltb, eqb}
use lib.ListN.{length, get_or, get_or-replicate, get_or-eq_default}
use borrow.Author.Tests.{leb-true, eqb-true, le-leb}
use Rattle.paper.specs.Deps.{no_deps, entry_limit, entry_ok, deps_ok, same_deps, join}
use Rattle.paper.specs.Vote.{no_vote}
use Rattle.paper.specs.Command.{Interference}
use Rattle.paper.specs.declared.Command.{Command}
use Rattle.paper.specs.declared.Vote.{Vote}
use Rattle.paper.proofs.Laws.{all_below-at}
use Rattle.paper.proofs.Deps.{join-entry}
use Rattle.rules.specs.Sets.{highest}
use Rattle.rules.specs.Accepting.{join_all}
use Rattle.rules.proofs.Seen.{seen_at}
use Rattle.rules.specs.Seen.{Records, met, seen_entry, seen}
use Rattle.paper.specs.Fits.{DepsFit}
use Rattle.closed.proofs.Laws.{by_cond, all_in}

module _ (n s : ℕ) where
  pub deps-at : (d : List ℕ) → deps_ok n s d ≡ true → (i : ℕ) → i < 7 → get_or d i 0 ≤ entry_limit n s i
  unfolding deps_ok
  deps-at d h i l = leb-true _ _ (all_below-at 7 (entry_ok n s d) h i l)

  pub deps-in : (d : List ℕ) → ((i : ℕ) → i < 7 → get_or d i 0 ≤ entry_limit n s i) → deps_ok n s d ≡ true
  unfolding deps_ok
  deps-in d h = all_in 7 (entry_ok n s d) (λ i l. le-leb _ _ (h i l))

  pub no-deps : deps_ok n s no_deps ≡ true
  no-deps = deps-in no_deps (λ i l. let z : get_or no_deps i 0 ≡ 0 = get_or-replicate 7 i 0 0 l in omega arith)

  -- what is in range is a number of two bytes
  pub deps-fit : (d : List ℕ) → s ≤ 64 → length d ≡ 7 → deps_ok n s d ≡ true → DepsFit d
  deps-fit d ls e h = record { seven = e; each = λ i. go i (dec_lt i 7) }
    where
      limit : (i : ℕ) → entry_limit n s i ≤ s
      limit i = by_cond (λ (x : ℕ). x ≤ s) (ltb i n) (λ e. omega arith) (λ e. omega arith)

      go : (i : ℕ) → Dec (i < 7) → get_or d i 0 < 256 ^ 2
      go i (yes l) = omega (arith, deps-at d h i l, limit i)
      go i (no l) = let z : get_or d i 0 ≡ 0 = get_or-eq_default d 0 (omega arith) in omega arith

  -- dependencies that are the same are in range together
  pub same_ok : (d e : List ℕ) → same_deps d e ≡ true → deps_ok n s e ≡ true → deps_ok n s d ≡ true
  unfolding same_deps
  same_ok d e h k =
      deps-in d (λ i l. let z = eqb-true (get_or d i 0) (get_or e i 0) (all_below-at 7 (λ i. eqb (get_or d i 0) (get_or e i 0)) h i l) in omega (arith, deps-at e k i l))

  pub join-ok : (d e : List ℕ) → deps_ok n s d ≡ true → deps_ok n s e ≡ true → deps_ok n s (join d e) ≡ true
  join-ok d e p q =
      deps-in (join d e)
      (λ i l. ⊎_elim (λ (x : get_or (join d e) i 0 ≡ get_or d i 0). rw x (deps-at d p i l)) (λ (x : get_or (join d e) i 0 ≡ get_or e i 0). rw x (deps-at e q i l)) (join-entry d e i l).one)

  pub joins-ok : (d : List ℕ) (vs : List Vote) → deps_ok n s d ≡ true → ((q : ℕ) → deps_ok n s (get_or vs q no_vote).deps ≡ true)
      → deps_ok n s (join_all d vs) ≡ true
  unfolding join_all
  joins-ok d [] h k = h
  joins-ok d (v ∷ vs) h k = joins-ok (join d v.deps) vs (join-ok d v.deps h (k 0)) (λ q. k (suc q))

  -- Seen
  highest-le : (k : ℕ) (f : ℕ → Bool) → highest k f ≤ k
  unfolding highest
  highest-le zero f = omega arith
  highest-le (suc k) f = by_cond (λ (x : ℕ). x ≤ suc k) (f (suc k)) (λ e. omega arith) (λ e. omega (arith, highest-le k f))

  module _ (w : Interference) (t : Records) (o j : ℕ) (k : Command) where
    entry-le : (p : ℕ) → seen_entry w n s t o j k p ≤ entry_limit n s p
    unfolding seen_entry
    entry-le p = go (ltb p n)
      where
        go : (b : Bool) → cond b (highest s (met w t o j k p)) 0 ≤ cond b s 0
        go true = highest-le s (met w t o j k p)
        go false = omega arith

    pub seen-ok : deps_ok n s (seen w n s t o j k) ≡ true
    seen-ok = deps-in (seen w n s t o j k) (λ i l. rw (seen_at w n s t o j k i l) (entry-le i))
