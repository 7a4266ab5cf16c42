-- The search over a table's bytes: what it reads, and what each call rests on. Assumes nothing.
use Prim.Native.Nat.{ℕ, ◌+◌, ◌≤◌, ◌<◌}
use mathlib.Core.Path.{◌≡◌, ◌∙◌}
use mathlib.Core.Bool.{Bool, ◌&&◌, ◌||◌, not}
use mathlib.Core.List.{List}
use native.Mathlib.Omega.{arith}
use lib.Dec.{leb}
use lib.ListN.{length, get_or, set, length-set}
use Rattle.table.specs.Sizes.{Names}
use Rattle.rules.specs.Step.{is_committed}
use Rattle.rules.specs.Order.{waits_for}
use Rattle.seen.specs.Records.{records_in}
use Rattle.reach.specs.High.{Inst, entry_of, Explored, itself}
use Rattle.reach.proofs.High.{unvisited, unvisited-kept, unvisited-raised, raised-few, explore-more}
use Rattle.search.specs.Searching.{Searching, Asked}

-- the mark of q against the entry of q, as they were compared
module _ (s : ℕ) (t : List ℕ) (p k q : ℕ) (r : List ℕ) {d : List ℕ} (ed : d ≡ (records_in s t p k).vote.deps)
    {a : ℕ} (ra : a ≡ get_or r q 0) where
  entry_read : get_or d q 0 ≡ entry_of (records_in s t) p k q
  entry_read = rw ed

  pub above : a < get_or d q 0 → get_or r q 0 + 1 ≤ entry_of (records_in s t) p k q
  above l = omega (arith, entry_read)

  pub reached : get_or d q 0 ≤ a → entry_of (records_in s t) p k q ≤ get_or r q 0
  reached l = omega (arith, entry_read)

pub inst : (n s o j : ℕ) → Names n s o j → Inst n s o j
inst n s o j a = record { owner = a.owner; first = a.first; last = a.last }

module _ (n s : ℕ) (t : List ℕ) (p k : ℕ) (m : List ℕ) (h : Searching n s t p k m) (q : ℕ) (r : List ℕ) (e : Explored n s (records_in s t) p k q m r) (lq : q < n) where
  pub marks-long : q < length r
  marks-long = omega (arith, e.long, h.seven, h.names.copies)

  -- an entry above its mark: the mark goes up by one
  module _ (x : ℕ) (ex : x ≡ get_or r q 0 + 1) (lx : x ≤ entry_of (records_in s t) p k q) where
    last : x ≤ s
    last = omega (arith, h.fit p k (inst n s p k h.names) q lq)

    pub fewer : unvisited n s (set r q x) < unvisited n s m
    fewer = omega (arith, unvisited-raised r q x marks-long ex n s lq last, unvisited-kept n s m r e.kept)

    -- the number that is passed on is the mark's
    pub onward : (y : ℕ) → y ≡ x → Searching n s t q y (set r q x)
    onward y ey = record {
      names = record { copies = h.names.copies; numbers = h.names.numbers; owner = lq; first = omega arith; last = omega (arith, last) };
      long = h.long;
      fit = h.fit;
      seven = length-set r q x ∙ e.long ∙ h.seven;
      few = raised-few r q x marks-long ex n s e.few last;
    }

    pub more : (y : ℕ) (u : List ℕ) → y ≡ x → Explored n s (records_in s t) q y n (set r q x) u → Explored n s (records_in s t) p k q m u
    more y u ey v = explore-more n s (records_in s t) p k q x m r u (inst n s p k h.names) h.fit e lq marks-long ex lx (rw ey at v)

    -- the loop's measure falls
    pub shrinks : (y : ℕ) (u : List ℕ) → Explored n s (records_in s t) q y n (set r q x) u → unvisited n s u < unvisited n s r
    shrinks y u v = omega (arith, unvisited-raised r q x marks-long ex n s lq last, unvisited-kept n s (set r q x) u v.kept)
