-- Lists of dependencies: the join is above both, and Seen counts each command that is met. Assumes nothing.
use Prim.Native.Nat.{ℕ, zero, suc, ◌≤◌, ◌<◌}
use mathlib.Core.Path.{◌≡◌, refl}
use mathlib.Core.Bool.{true}
use mathlib.Core.List.{List, [], ◌∷◌}
use native.Mathlib.Omega.{arith}
use lib.Dec.{eqb}
use lib.ListN.{get_or}
use Rattle.paper.specs.Logic.{all_below}
use Rattle.paper.specs.Deps.{no_deps, same_deps, join}
use Rattle.paper.specs.Vote.{no_vote}
use Rattle.paper.specs.Command.{Interference}
use Rattle.paper.specs.declared.Command.{Command}
use Rattle.paper.specs.declared.Vote.{Vote}
use Rattle.rules.specs.Accepting.{join_all}
use Rattle.rules.specs.Seen.{Records, met, seen_entry, seen}
use Rattle.paper.proofs.Deps.{join-entry}
use Rattle.rules.proofs.Rests.{highest-above}
use Rattle.rules.proofs.Seen.{seen_at}
use Rattle.reach.proofs.Tests.{eqb-eq, eqb_same, ltb-in}
use Rattle.safety.proofs.Sets.{all-at}
use Rattle.reach.proofs.Instances.{all_in}

-- entry by entry at most
abbrev pub Under : List ℕ → List ℕ → Type 0
Under d e = (i : ℕ) → i < 7 → get_or d i 0 ≤ get_or e i 0

pub under-refl : (d : List ℕ) → Under d d
under-refl d i l = omega arith

pub under-trans : (d e f : List ℕ) → Under d e → Under e f → Under d f
under-trans d e f p q i l = omega (arith, p i l, q i l)

pub same-deps-refl : (d e : List ℕ) → d ≡ e → same_deps d e ≡ true
unfolding same_deps
same-deps-refl d e q = rw q (all_in 7 (λ i. eqb (get_or e i 0) (get_or e i 0)) (λ i l. eqb_same (get_or e i 0) (get_or e i 0) refl))

pub join-l : (d e : List ℕ) → Under d (join d e)
join-l d e i l = (join-entry d e i l).left

pub join-r : (d e : List ℕ) → Under e (join d e)
join-r d e i l = (join-entry d e i l).right

pub joins-own : (d : List ℕ) (vs : List Vote) → Under d (join_all d vs)
unfolding join_all
joins-own d [] = under-refl d
joins-own d (v ∷ vs) = under-trans d (join d v.deps) (join_all (join d v.deps) vs) (join-l d v.deps) (joins-own (join d v.deps) vs)

nothing-under : (e : List ℕ) → Under no_deps e
unfolding all_below
nothing-under e i l = let z : get_or no_deps i 0 ≡ 0 = eqb-eq (get_or no_deps i 0) 0 (all-at 7 (λ i. eqb (get_or no_deps i 0) 0) zeros i l) in omega arith
  where
    zeros : all_below 7 (λ i. eqb (get_or no_deps i 0) 0) ≡ true
    zeros = refl

pub joins-each : (d : List ℕ) (vs : List Vote) (q : ℕ) → Under (get_or vs q no_vote).deps (join_all d vs)
unfolding join_all
joins-each d [] q = nothing-under d
joins-each d (v ∷ vs) zero = under-trans v.deps (join d v.deps) (join_all (join d v.deps) vs) (join-r d v.deps) (joins-own (join d v.deps) vs)
joins-each d (v ∷ vs) (suc q) = joins-each (join d v.deps) vs q

-- a command that is met at p.i is counted
pub seen-counts : (w : Interference) (n s : ℕ) (t : Records) (o j : ℕ) (c : Command) (p i : ℕ) → p < n → p < 7 → 1 ≤ i → i ≤ s → met w t o j c p i ≡ true
    → i ≤ get_or (seen w n s t o j c) p 0
unfolding seen_entry
seen-counts w n s t o j c p i ln l7 l1 ls m =
    rw (seen_at w n s t o j c p l7) (rw (ltb-in p n ln) (highest-above s (met w t o j c p) i l1 ls m))
