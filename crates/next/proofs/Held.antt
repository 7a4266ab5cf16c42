-- Who holds an instance back, and what is known of it. Assumes nothing.
use Rattle.std.specs.Prelude.{Option, Some, None}
use Prim.Native.Nat.{ℕ, ◌+◌, ◌*◌, ◌-◌, ◌/◌, ◌≤◌, ◌<◌, max}
use mathlib.Core.Path.{◌≡◌, refl, sym, ap, ◌∙◌}
use mathlib.Core.Logic.{◌⊎◌, inl, inr, ⊎_elim}
use mathlib.Core.Bool.{Bool, true, false, ◌&&◌, ◌||◌, not}
use mathlib.Core.List.{List, []}
use native.Mathlib.Omega.{arith}
use native.Mathlib.Nat.{eq-or-lt_of_le}
use native.Mathlib.Decide.{dec_lt, ℕ_discrete}
use lib.Dec.{leb, eqb}
use lib.ListN.{length, get_or, set, length-set}
use lib.Seq.{get_or-set_same, get_or-set_other}
use Rattle.rules.specs.Order.{everywhere}
use Rattle.reach.specs.High.{Inst}
use Rattle.reach.proofs.Tests.{tf, and_l, and_r, or_cases, not-true, not-not, eqb-eq, eqb_same, eqb-ne, eqb-false, leb-le, leb-in}
use Rattle.reach.proofs.Instances.{every-at, every_in}
use Rattle.rows.specs.Rows.{slot_of, mark_at}
use Rattle.next.specs.Slots.{lets, ready_in, passes_at, Lists, Ahead, Below, Known, Going, Seeking, Span, Stops, Sought, Held, Waiting, Freed}

leb-not : (a b : ℕ) → b < a → leb a b ≡ false
leb-not a b l = not-true (leb a b) (λ e. absurd (omega (arith, leb-le a b e)))

-- what is not reached lets out
lets-out : (h st : List ℕ) (p k o j : ℕ) → mark_at h (slot_of p k) o < j → lets h st p k o j ≡ true
unfolding lets
lets-out h st p k o j l = rw (leb-not j (mark_at h (slot_of p k) o) l)

-- what is reached lets out where it passes
lets-in : (h st : List ℕ) (p k o j : ℕ) → j ≤ mark_at h (slot_of p k) o → lets h st p k o j ≡ passes_at h st p k (slot_of o j)
unfolding lets passes_at
lets-in h st p k o j l = rw (leb-in j (mark_at h (slot_of p k) o) l) (turn (leb k (mark_at h (slot_of o j) p)) (eqb (get_or st (slot_of o j) 0) 2))
  where
    turn : (a b : Bool) → (not (not a) || b) ≡ (b || a)
    turn true true = refl
    turn true false = refl
    turn false true = refl
    turn false false = refl

passes-two : (h st : List ℕ) (p k y : ℕ) → get_or st y 0 ≡ 2 → passes_at h st p k y ≡ true
unfolding passes_at
passes-two h st p k y e = rw (eqb_same (get_or st y 0) 2 e)

passes-back : (h st : List ℕ) (p k y : ℕ) → k ≤ mark_at h y p → passes_at h st p k y ≡ true
unfolding passes_at
passes-back h st p k y e = rw (leb-in k (mark_at h y p) e) (last (eqb (get_or st y 0) 2))
  where
    last : (a : Bool) → (a || true) ≡ true
    last true = refl
    last false = refl

passes-or : (h st : List ℕ) (p k y : ℕ) → passes_at h st p k y ≡ true → (get_or st y 0 ≡ 2 → ⊥) → k ≤ mark_at h y p
unfolding passes_at
passes-or h st p k y e d = ⊎_elim
    (λ a. absurd (d (eqb-eq (get_or st y 0) 2 a)))
    (λ b. leb-le k (mark_at h y p) b)
    (or_cases (eqb (get_or st y 0) 2) (leb k (mark_at h y p)) e)

-- what does not pass was not handed out, and does not reach back
passes-not : (h st : List ℕ) (p k y : ℕ) → (get_or st y 0 ≡ 2 → ⊥) → mark_at h y p < k → passes_at h st p k y ≡ false
unfolding passes_at
passes-not h st p k y d l = rw (eqb-false (get_or st y 0) 2 d, leb-not k (mark_at h y p) l)

not-passes : (h st : List ℕ) (p k y : ℕ) → passes_at h st p k y ≡ false → mark_at h y p < k
not-passes h st p k y e = go (dec_lt (mark_at h y p) k)
  where
    go : Dec (mark_at h y p < k) → mark_at h y p < k
    go (yes l) = l
    go (no l) = tf (passes_at h st p k y) (passes-back h st p k y (omega arith)) e

clash : {A : Type 0} {y : ℕ} → Some y ≡ None → A
clash e = cc

-- part of a row
abbrev Pass : List ℕ → List ℕ → ℕ → ℕ → ℕ → ℕ → ℕ → Type 0
Pass h st p k q from i = (j : ℕ) → from < j → j ≤ i → passes_at h st p k (slot_of q j) ≡ true

module _ (h st : List ℕ) (p k q from : ℕ) where
  pub pass-more : (i y : ℕ) → Pass h st p k q from i → y ≡ 64 * q + i → passes_at h st p k y ≡ true → Pass h st p k q from (i + 1)
  pass-more i y c e t j a b = ⊎_elim
      (λ (z : j ≡ i + 1). let w : slot_of q j ≡ y = omega arith in rw w t)
      (λ (z : j < i + 1). c j a (omega arith))
      (eq-or-lt_of_le b)

  pub sought-some : (top i y : ℕ) → from ≤ i → i < top → Pass h st p k q from i → y ≡ 64 * q + i
      → passes_at h st p k y ≡ false → Sought h st p k q from top (Some y)
  sought-some top i y a b c e t = record {
    none = λ l. clash l;
    some = λ z l.
        let same : y ≡ z = cc in
        rw (← same) (record {
          number = i + 1;
          after = omega arith;
          last = omega arith;
          place = omega arith;
          here = t;
          earlier = λ j x z. c j x (omega arith);
        });
  }

  pub sought-none : (top i : ℕ) → Pass h st p k q from i → top ≤ i → Sought h st p k q from top None
  sought-none top i c l = record { none = λ u j a b. c j a (omega arith); some = λ y u. clash (sym u) }

-- the mark that is asked, as it is read
module _ (h st past : List ℕ) (p k q : ℕ) {x top : ℕ} (ex : x ≡ slot_of p k) (et : top ≡ mark_at h x q) where
  pub top-is : mark_at h (slot_of p k) q ≡ top
  top-is = sym (et ∙ ap (λ (z : ℕ). mark_at h z q) ex)

  pub freed-at : {from : ℕ} {know know₁ : List ℕ} → from ≡ get_or past q 0 → Freed st q from top know know₁
      → Freed st q (get_or past q 0) (mark_at h (slot_of p k) q) know know₁
  freed-at ef w = rw (← ef, top-is) w

pub row-span : (n s : ℕ) (h st : List ℕ) (p k : ℕ) → Lists n s h st → Inst n s p k → (q : ℕ) → q < n → {x top : ℕ}
    → x ≡ slot_of p k
    → top ≡ mark_at h x q → Span h st p q top
row-span n s h st p k g i q l ex et = record {
  marks = g.marks;
  states = g.states;
  owner = omega (arith, i.owner, g.copies);
  other = omega (arith, g.copies);
  last = omega (arith, g.few p k i q l, g.numbers, top-is h st [] p k q ex et);
}

-- all rows
abbrev Lets : ℕ → ℕ → List ℕ → List ℕ → ℕ → ℕ → ℕ → Type 0
Lets n s h st p k q = (o j : ℕ) → Inst n s o j → o < q → lets h st p k o j ≡ true

module _ (n s : ℕ) (h st past : List ℕ) (p k from : ℕ) (g : Seeking n s h st past p k from) where
  pub lets-start : Lets n s h st p k (from / 64)
  lets-start o j i l = g.below o j i (omega (arith, i.first, i.last, g.lists.numbers))

  module _ (q x start top z : ℕ) (found : Option ℕ) (lq : q < n) (ex : x ≡ slot_of p k) (et : top ≡ mark_at h x q) (ez : z ≡ get_or past q 0)
      (es : start ≡ max z (from - 64 * q)) (w : Sought h st p k q start top found) where
    -- what is before the start lets out
    early : (j : ℕ) → Inst n s q j → j ≤ start → lets h st p k q j ≡ true
    early j i l = go (dec_lt z j) (dec_lt (mark_at h (slot_of p k) q) j)
      where
        go : Dec (z < j) → Dec (mark_at h (slot_of p k) q < j) → lets h st p k q j ≡ true
        go (yes a) b = g.below q j i (omega (arith, i.first))
        go (no a) (yes b) = lets-out h st p k q j b
        go (no a) (no b) =
            lets-in h st p k q j (omega arith)
            ∙ passes-two h st p k (slot_of q j) ((g.passed.rows q lq).each j i.first (omega (arith, ez)))

    reached : (j : ℕ) → j ≤ top → passes_at h st p k (slot_of q j) ≡ true → lets h st p k q j ≡ true
    reached j l t = lets-in h st p k q j (omega (arith, top-is h st past p k q ex et)) ∙ t

    pub lets-more : found ≡ None → Lets n s h st p k q → Lets n s h st p k (q + 1)
    lets-more l c o j i m = ⊎_elim
        (λ (e : o ≡ q). rw e (row (rw e at i) (dec_lt start j) (dec_lt top j)))
        (λ (e : o < q). c o j i e)
        (eq-or-lt_of_le {n = o} {m = q} (omega arith))
      where
        row : Inst n s q j → Dec (start < j) → Dec (top < j) → lets h st p k q j ≡ true
        row i (no a) b = early j i (omega arith)
        row i (yes a) (yes b) = lets-out h st p k q j (omega (arith, top-is h st past p k q ex et))
        row i (yes a) (no b) = reached j (omega arith) (w.none l j a (omega arith))

    module _ (c : Lets n s h st p k q) (y : ℕ) (v : Stops h st p k q start top y) where
      there : Inst n s q v.number
      there = record {
        owner = lq;
        first = omega (arith, v.after);
        last = omega (arith, v.last, g.lists.few p k g.inst q lq, top-is h st past p k q ex et);
      }

      mark : v.number ≤ mark_at h (slot_of p k) q
      mark = omega (arith, v.last, top-is h st past p k q ex et)

      ahead : Ahead n s h p k y
      ahead = record { owner = q; number = v.number; inst = there; place = v.place; reached = mark; apart = not-passes h st p k y v.here }

      below : Below n s h st p k y
      below o j i l = ⊎_elim
          (λ (e : o ≡ q). rw e (row (rw e at i) (omega (arith, v.place, i.first, v.after)) (dec_lt start j)))
          (λ (e : o < q). c o j i e)
          (eq-or-lt_of_le {n = o} {m = q} (omega (arith, v.place, i.first, i.last, there.last, g.lists.numbers)))
        where
          row : Inst n s q j → j < v.number → Dec (start < j) → lets h st p k q j ≡ true
          row i m (no a) = early j i (omega arith)
          row i m (yes a) = reached j (omega (arith, v.last)) (v.earlier j a m)

      not-all : everywhere n s (lets h st p k) ≡ false
      not-all = not-true (everywhere n s (lets h st p k))
          (λ a. tf (lets h st p k q v.number) (every-at n s (lets h st p k) a q v.number there.owner there.first there.last)
          (lets-in h st p k q v.number mark ∙ rw (← v.place) v.here))

    pub held-some : Lets n s h st p k q → (y : ℕ) → found ≡ Some y → Held n s h st p k (Some y)
    held-some c y e =
        let v = w.some y e in
        record {
          none = λ m. clash m;
          some = λ z m. let same : y ≡ z = cc in rw (← same) (ahead c y v, below c y v, not-all c y v);
        }

  pub held_none : (q : ℕ) → Lets n s h st p k q → n ≤ q → Held n s h st p k None
  held_none q c l = record {
    none = λ m. every_in n s (lets h st p k) (λ o j a b d. c o j (record { owner = a; first = b; last = d }) (omega arith));
    some = λ y m. clash (sym m);
  }

-- what is known, step by step
module _ (st : List ℕ) (q from top : ℕ) (know : List ℕ) where
  pub freed-start : Freed st q from top know know
  freed-start = record { long = refl; each = λ x. inl refl }

  pub freed-more : (know₁ : List ℕ) (i y : ℕ) → Freed st q from top know know₁ → from ≤ i → i < top → y ≡ 64 * q + i
      → (get_or st y 0 ≡ 2 → ⊥) → y < length know
      → Freed st q from top know (set know₁ y 1)
  freed-more know₁ i y f a b e d l = record { long = length-set know₁ y 1 ∙ f.long; each = each }
    where
      each : (x : ℕ) → (get_or (set know₁ y 1) x 0 ≡ get_or know x 0) ⊎ ((get_or (set know₁ y 1) x 0 ≡ 1) × Waiting st q from top x)
      each x = go (ℕ_discrete x y)
        where
          go : Dec (x ≡ y)
              → (get_or (set know₁ y 1) x 0 ≡ get_or know x 0) ⊎ ((get_or (set know₁ y 1) x 0 ≡ 1) × Waiting st q from top x)
          go (no z) = rw (get_or-set_other know₁ y x 1 0 z) (f.each x)
          go (yes z) = inr (
            rw z (get_or-set_same know₁ y 1 0 (omega (arith, f.long))),
            record { number = i + 1; after = omega arith; last = omega arith; place = omega arith; not-out = λ v. d (rw z at v) },
          )

slot_same : (n s p k o j : ℕ) → s ≤ 64 → Inst n s p k → Inst n s o j → slot_of o j ≡ slot_of p k → (o ≡ p) × (j ≡ k)
slot_same n s p k o j l i w e = (omega (arith, i.first, i.last, w.first, w.last), omega (arith, i.first, i.last, w.first, w.last))

module _ (n s : ℕ) (h st know past : List ℕ) (g : Going n s h st know past) where
  pub slot-in : (p k : ℕ) → Inst n s p k → {x : ℕ} → x ≡ slot_of p k → x < length know
  slot-in p k i e = omega (arith, i.owner, i.first, i.last, g.long, g.lists.copies, g.lists.numbers)

  pub known_at : (p k : ℕ) → Inst n s p k → {x z : ℕ} → x ≡ slot_of p k → z ≡ get_or know x 0 → Known n s h st p k z
  known_at p k i ex ez = rw (ez, ex) (g.known p k i)

  -- of one instance more is known
  pub known_more : (p k x z : ℕ) → Inst n s p k → x ≡ slot_of p k → Known n s h st p k z → Going n s h st (set know x z) past
  known_more p k x z ip ex u = record { lists = g.lists; long = length-set know x z ∙ g.long; known = each; passed = g.passed }
    where
      each : (o j : ℕ) → Inst n s o j → Known n s h st o j (get_or (set know x z) (slot_of o j) 0)
      each o j i = go (ℕ_discrete (slot_of o j) x)
        where
          go : Dec (slot_of o j ≡ x) → Known n s h st o j (get_or (set know x z) (slot_of o j) 0)
          go (no d) = rw (get_or-set_other know x (slot_of o j) z 0 d) (g.known o j i)
          go (yes d) =
              let w = slot_same n s p k o j g.lists.numbers ip i (d ∙ ex) in
              let same : get_or (set know x z) (slot_of o j) 0 ≡ z = rw d (get_or-set_same know x z 0 (slot-in p k ip ex)) in
              rw (same, w.0, w.1) u

  module _ (p k : ℕ) (ip : Inst n s p k) where
    pub known-ahead : (y : ℕ) → Ahead n s h p k y → Below n s h st p k y → Known n s h st p k (y + 2)
    known-ahead y a b =
        let e : y + 2 - 2 ≡ y = omega arith in
        record { ready = λ e. absurd (omega arith); held = λ l. rw e a; below = λ o j i l. b o j i (omega arith) }

    pub known-ready : everywhere n s (lets h st p k) ≡ true → Known n s h st p k 1
    known-ready r = record { ready = λ e. r; held = λ l. absurd (omega arith); below = λ o j i l. absurd (omega arith) }

    -- what names a place names one
    pub known_small : (x : ℕ) → Known n s h st p k x → x < 450
    known_small x u = go (dec_lt x 2)
      where
        go : Dec (x < 2) → x < 450
        go (yes l) = omega arith
        go (no l) = let a = u.held (omega arith) in omega (arith, a.place, a.inst.owner, a.inst.first, a.inst.last, g.lists.copies, g.lists.numbers)

    -- one ahead that was not handed out holds it back
    pub known-held : (x : ℕ) → Known n s h st p k x → (leb 2 x && not (eqb (get_or st (x - 2) 0) 2)) ≡ true
        → everywhere n s (lets h st p k) ≡ false
    known-held x u t =
        let a = u.held (leb-le 2 x (and_l (leb 2 x) _ t)) in
        let d = not-not (eqb (get_or st (x - 2) 0) 2) (and_r (leb 2 x) _ t) in
        not-true (everywhere n s (lets h st p k))
        (λ v. tf (lets h st p k a.owner a.number)
        (every-at n s (lets h st p k) v a.owner a.number a.inst.owner a.inst.first a.inst.last)
        (lets-in h st p k a.owner a.number a.reached ∙ rw (← a.place) (passes-not h st p k (x - 2) (eqb-ne (get_or st (x - 2) 0) 2 d) a.apart)))

    module _ (r : everywhere n s (lets h st p k) ≡ true) where
      -- what is reached and was not handed out reaches back: so whoever it waits for, p.k waits for
      ready-too : (q i : ℕ) → Inst n s q i → i ≤ mark_at h (slot_of p k) q → (get_or st (slot_of q i) 0 ≡ 2 → ⊥)
          → everywhere n s (lets h st q i) ≡ true
      ready-too q i iq m d = every_in n s (lets h st q i) (λ o j a b c. one o j (record { owner = a; first = b; last = c }))
        where
          let_by : (o j : ℕ) → Inst n s o j → lets h st p k o j ≡ true
          let_by o j io = every-at n s (lets h st p k) r o j io.owner io.first io.last

          back : k ≤ mark_at h (slot_of q i) p
          back = passes-or h st p k (slot_of q i) (sym (lets-in h st p k q i m) ∙ let_by q i iq) d

          one : (o j : ℕ) → Inst n s o j → lets h st q i o j ≡ true
          one o j io = go (dec_lt (mark_at h (slot_of q i) o) j) (dec_lt (mark_at h (slot_of o j) p) k) (ℕ_discrete (get_or st (slot_of o j) 0) 2)
            where
              go : Dec (mark_at h (slot_of q i) o < j) → Dec (mark_at h (slot_of o j) p < k) → Dec (get_or st (slot_of o j) 0 ≡ 2)
                  → lets h st q i o j ≡ true
              go (yes a) b e = lets-out h st q i o j a
              go (no a) b (yes e) = lets-in h st q i o j (omega arith) ∙ passes-two h st q i (slot_of o j) e
              go (no a) (no b) (no e) =
                  lets-in h st q i o j (omega arith)
                  ∙ passes-back h st q i (slot_of o j) (omega (arith, g.lists.closed o j io p k ip (omega arith) q iq.owner))
              go (no a) (yes b) (no e) =
                  let l : j ≤ mark_at h (slot_of p k) o = omega (arith, g.lists.closed p k ip q i iq m o io.owner) in
                  absurd (omega (arith, passes-or h st p k (slot_of o j) (sym (lets-in h st p k o j l) ∙ let_by o j io) e))

      pub known-freed : (q : ℕ) (know₁ : List ℕ) → q < n → Freed st q (get_or past q 0) (mark_at h (slot_of p k) q) know know₁
          → Going n s h st know₁ past
      known-freed q know₁ lq f = record { lists = g.lists; long = f.long ∙ g.long; known = each; passed = g.passed }
        where
          each : (o j : ℕ) → Inst n s o j → Known n s h st o j (get_or know₁ (slot_of o j) 0)
          each o j i = ⊎_elim
              (λ (e : get_or know₁ (slot_of o j) 0 ≡ get_or know (slot_of o j) 0). rw e (g.known o j i))
              (λ (e : (get_or know₁ (slot_of o j) 0 ≡ 1) × Waiting st q (get_or past q 0) (mark_at h (slot_of p k) q) (slot_of o j)).
              let w = e.1 in
              let iq : Inst n s q w.number = record { owner = lq; first = omega (arith, w.after); last = omega (arith, w.last, g.lists.few p k ip q lq) } in
              let z = slot_same n s q w.number o j g.lists.numbers iq i w.place in
              rw e.0 (record {
                ready = λ v. ready-too o j i (rw (z.0, z.1) w.last) w.not-out;
                held = λ l. absurd (omega arith);
                below = λ o j i l. absurd (omega arith);
              }))
              (f.each (slot_of o j))

pub ready-not : (n s : ℕ) (h st : List ℕ) (p k x : ℕ) → x ≡ slot_of p k → (get_or st x 0 ≡ 1 → ⊥) → false ≡ ready_in n s h st p k
unfolding ready_in
ready-not n s h st p k x e d = rw (← e, eqb-false (get_or st x 0) 1 d)

pub ready-is : (n s : ℕ) (h st : List ℕ) (p k x : ℕ) → x ≡ slot_of p k → get_or st x 0 ≡ 1 → {b : Bool}
    → b ≡ everywhere n s (lets h st p k) → b ≡ ready_in n s h st p k
unfolding ready_in
ready-is n s h st p k x e d eb = eb ∙ rw (← e, eqb_same (get_or st x 0) 1 d)
