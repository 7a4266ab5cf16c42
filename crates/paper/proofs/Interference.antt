-- Which commands interfere, by cases that tell the rule from its neighbours; it does not matter which is named first, and document
-- 01's wider test has all of them. Assumes nothing.
use Prim.Native.Nat.{ℕ}
use mathlib.Core.Path.{◌≡◌, refl, sym, ◌∙◌}
use mathlib.Core.Bool.{Bool, true, false, ◌&&◌, ◌||◌, not, cond}
use native.Mathlib.Decide.{ℕ_discrete}
use lib.Dec.{eqb}
use borrow.Author.Tests.{ne_eqb}
use Rattle.paper.specs.Command.{noop, on_one, on_two, is_noop, is_write, is_rewire, touches, same_object, interfere, Wide}
use Rattle.paper.specs.declared.Op.TheVariants.{Noop, Read, Write}
use Rattle.paper.specs.declared.Command.{Command}
use Rattle.paper.proofs.Laws.{and-true}

abbrev read : ℕ → ℕ → Command
read k e = on_one Read k e

abbrev write : ℕ → ℕ → Command
write k e = on_one Write k e

pub record Interfering : Type 0 where
  -- one key, and at least one writes
  pub writes : interfere (write 7 1) (write 7 2) ≡ true
  pub read-write : interfere (read 7 1) (write 7 2) ≡ true
  pub write_read : interfere (write 7 1) (read 7 2) ≡ true
  -- two reads of it do not; document 01's copies hold that they do
  pub reads : interfere (read 7 1) (read 7 2) ≡ false
  pub reads_before : same_object (read 7 1) (read 7 2) ≡ true
  -- another key, though the edit is the same
  pub other_key : interfere (write 7 1) (write 8 1) ≡ false
  pub read-other : interfere (read 7 1) (write 8 1) ≡ false
  pub other-read : interfere (write 7 1) (read 8 1) ≡ false
  pub reads_other : interfere (read 7 1) (read 8 1) ≡ false
  pub other-key-before : same_object (write 7 1) (write 8 1) ≡ false
  -- a no-op on either side or on both, though its key is the other's
  pub noop-first : interfere (on_one Noop 7 1) (write 7 2) ≡ false
  pub noop-second : interfere (write 7 1) (on_one Noop 7 2) ≡ false
  pub noop-rewire : interfere (on_one Noop 7 1) (on_two 7 9 2) ≡ false
  pub noops : interfere noop noop ≡ false
  pub noops-before : same_object noop noop ≡ false
  -- not transitive: two reads that interfere with one write
  pub through-write : (interfere (read 7 1) (write 7 2) ≡ true) × (interfere (write 7 2) (read 7 3) ≡ true)
      × (interfere (read 7 1) (read 7 3) ≡ false)

-- 5/12: a rewire of 7 and 9 beside each op, by its first object, by its second, and by neither, whichever is named first
pub record Rewiring : Type 0 where
  pub reads : (interfere (on_two 7 9 1) (read 7 2) ≡ true) × (interfere (on_two 7 9 1) (read 9 2) ≡ true) × (interfere (on_two 7 9 1) (read 8 2) ≡ false)
  pub read_first : (interfere (read 7 1) (on_two 7 9 2) ≡ true) × (interfere (read 9 1) (on_two 7 9 2) ≡ true) × (interfere (read 8 1) (on_two 7 9 2) ≡ false)
  pub writes : (interfere (on_two 7 9 1) (write 7 2) ≡ true) × (interfere (on_two 7 9 1) (write 9 2) ≡ true) × (interfere (on_two 7 9 1) (write 8 1) ≡ false)
  pub write-first : (interfere (write 7 1) (on_two 7 9 2) ≡ true) × (interfere (write 9 1) (on_two 7 9 2) ≡ true) × (interfere (write 8 1) (on_two 7 9 1) ≡ false)
  pub rewires : (interfere (on_two 7 9 1) (on_two 7 8 2) ≡ true) × (interfere (on_two 7 9 1) (on_two 8 9 2) ≡ true) × (interfere (on_two 7 9 1) (on_two 6 8 1) ≡ false)
  -- the second of one is the first of the other
  pub crossed : (interfere (on_two 7 9 1) (on_two 9 11 2) ≡ true) × (interfere (on_two 7 9 1) (on_two 5 7 2) ≡ true)
  -- the zero of a command without a second key is no object of it
  pub none-second : (interfere (write 0 1) (write 7 2) ≡ false) × (interfere (write 7 1) (write 0 2) ≡ false) × (interfere (on_two 0 9 1) (write 7 2) ≡ false)
  -- not transitive: two writes apart that one rewire stands between
  pub through-rewire : (interfere (write 7 1) (on_two 7 9 2) ≡ true) × (interfere (on_two 7 9 2) (write 9 3) ≡ true) × (interfere (write 7 1) (write 9 3) ≡ false)

pub interfering : Interfering
unfolding touches same_object interfere
interfering =
    record {
      writes = refl;
      read-write = refl;
      write_read = refl;
      reads = refl;
      reads_before = refl;
      other_key = refl;
      read-other = refl;
      other-read = refl;
      reads_other = refl;
      other-key-before = refl;
      noop-first = refl;
      noop-second = refl;
      noop-rewire = refl;
      noops = refl;
      noops-before = refl;
      through-write = (refl, refl, refl);
    }

pub rewiring : Rewiring
unfolding touches same_object interfere
rewiring =
    record {
      reads = (refl, refl, refl);
      read_first = (refl, refl, refl);
      writes = (refl, refl, refl);
      write-first = (refl, refl, refl);
      rewires = (refl, refl, refl);
      crossed = (refl, refl);
      none-second = (refl, refl, refl);
      through-rewire = (refl, refl, refl);
    }

eqb-sym : (m n : ℕ) → eqb m n ≡ eqb n m
eqb-sym m n = go (ℕ_discrete m n)
  where
    go : Dec (m ≡ n) → eqb m n ≡ eqb n m
    go (yes e) = rw e refl
    go (no k) = ne_eqb m n k ∙ sym (ne_eqb n m (λ e. k (sym e)))

or_comm : (x y : Bool) → (x || y) ≡ (y || x)
or_comm true true = refl
or_comm true false = refl
or_comm false true = refl
or_comm false false = refl

swapped : (a b k l x y : Bool) → k ≡ l → (a && b && k && (x || y)) ≡ (b && a && l && (y || x))
swapped true true k l x y e = rw (e, or_comm x y)
swapped true false k l x y e = refl
swapped false true k l x y e = refl
swapped false false k l x y e = refl

-- a has a second object if ra, b if rb; p, q, r, s: which of a's is which of b's
crossing : (ra rb p q r s : Bool) → (p || (rb && q) || (ra && (r || (rb && s)))) ≡ (p || (ra && r) || (rb && (q || (ra && s))))
crossing true true true q r s = refl
crossing true true false true r s = or_comm true r
crossing true true false false true s = refl
crossing true true false false false s = refl
crossing true false true q r s = refl
crossing true false false q true s = refl
crossing true false false q false s = refl
crossing false true true q r s = refl
crossing false true false true r s = refl
crossing false true false false r s = refl
crossing false false true q r s = refl
crossing false false false q r s = refl

shared : (a b : Command) → (touches b a.key || (is_rewire a && touches b a.second)) ≡ (touches a b.key || (is_rewire b && touches a b.second))
unfolding touches
shared a b =
    rw (eqb-sym b.key a.key, eqb-sym b.second a.key, eqb-sym b.key a.second, eqb-sym b.second a.second)
    (crossing (is_rewire a) (is_rewire b) (eqb a.key b.key) (eqb a.key b.second) (eqb a.second b.key) (eqb a.second b.second))

pub symmetric : (a b : Command) → interfere a b ≡ interfere b a
unfolding same_object interfere
symmetric a b = swapped (not (is_noop a)) (not (is_noop b)) _ _ (is_write a) (is_write b) (shared a b)

-- what a search asks: of the objects and of the ops apart. A command on one object has it twice
pub by-objects : (a b : Command) → interfere a b
    ≡ ((touches b a.key || touches b (cond (is_rewire a) a.second a.key)) && (not (is_noop a) && not (is_noop b) && (is_write a || is_write b)))
unfolding same_object interfere
by-objects a b = go (not (is_noop a)) (not (is_noop b)) (is_rewire a) (is_write a || is_write b)
  where
    -- the objects first, then the ops
    turned : (x y u z : Bool) → (x && y && u && z) ≡ (u && (x && y && z))
    turned true true u z = refl
    turned true false true z = refl
    turned true false false z = refl
    turned false y true z = refl
    turned false y false z = refl

    twice : (u : Bool) → (u || false) ≡ (u || u)
    twice true = refl
    twice false = refl

    go : (x y r z : Bool) → (x && y && (touches b a.key || (r && touches b a.second)) && z)
        ≡ ((touches b a.key || touches b (cond r a.second a.key)) && (x && y && z))
    go x y true z = turned x y (touches b a.key || touches b a.second) z
    go x y false z = rw (twice (touches b a.key)) (turned x y (touches b a.key || touches b a.key) z)

-- which of two objects a command is on, asked in the order in which its fields stand
pub by-fields : (c : Command) (k l : ℕ)
    → (touches c k || touches c l) ≡ (eqb c.key k || (eqb c.key l || (is_rewire c && (eqb c.second k || eqb c.second l))))
unfolding touches
by-fields c k l = go (eqb c.key k) (eqb c.key l) (is_rewire c) (eqb c.second k) (eqb c.second l)
  where
    go : (x y w u v : Bool) → (x || (w && u) || (y || (w && v))) ≡ (x || (y || (w && (u || v))))
    go true y w u v = refl
    go false true true true v = refl
    go false true true false v = refl
    go false true false u v = refl
    go false false true true v = refl
    go false false true false v = refl
    go false false false u v = refl

-- two that do not write never interfere
pub reads-apart : (a b : Command) → is_write a ≡ false → is_write b ≡ false → interfere a b ≡ false
unfolding interfere
reads-apart a b p q = rw (p, q) (nothing (same_object a b))
  where
    nothing : (x : Bool) → (x && false) ≡ false
    nothing true = refl
    nothing false = refl

pub interfere-wide : Wide interfere
interfere-wide a b h = h

pub same_object-wide : Wide same_object
unfolding interfere
same_object-wide a b h = (and-true (same_object a b) (is_write a || is_write b) h).0
