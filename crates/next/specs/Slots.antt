-- Which instance is handed out next, and what is kept of it from one call to the next. Assumes nothing.
-- h: a row of seven marks for each instance; st: 0 waits, 1 settled, 2 handed out.
use Rattle.std.specs.Prelude.{ℕ, ◌-◌, ◌≤◌, ◌<◌, ◌≡◌, ◌⊎◌, Bool, true, false, ◌&&◌, ◌||◌, not, List, leb, eqb, length, get_or, Option, Some, None}
use Rattle.paper.specs.Logic.{implies, all_below}
use Rattle.rules.specs.declared.Instance.{Instance}
use Rattle.rules.specs.Order.{everywhere, first}
use Rattle.reach.specs.High.{Inst}
use Rattle.rows.specs.Rows.{slot_of, mark_at}

-- o.j lets p.k out: where p.k reaches it and it does not reach back, it was handed out
unfoldable pub lets : List ℕ → List ℕ → ℕ → ℕ → ℕ → ℕ → Bool
lets h st p k o j =
    implies (leb j (mark_at h (slot_of p k) o) && not (leb k (mark_at h (slot_of o j) p))) (eqb (get_or st (slot_of o j) 0) 2)

unfoldable pub ready_in : ℕ → ℕ → List ℕ → List ℕ → ℕ → ℕ → Bool
ready_in n s h st p k = eqb (get_or st (slot_of p k) 0) 1 && everywhere n s (lets h st p k)

-- the lowest that is ready
unfoldable pub next_in : ℕ → ℕ → List ℕ → List ℕ → Option Instance
next_in n s h st = first n s (ready_in n s h st)

pub record Lists (n s : ℕ) (h st : List ℕ) : Type 0 where
  pub copies : n ≤ 7
  pub numbers : s ≤ 64
  pub marks : length h ≡ 6272
  pub states : length st ≡ 448
  pub few : (p k : ℕ) → Inst n s p k → (q : ℕ) → q < n → mark_at h (slot_of p k) q ≤ s
  -- whoever is marked at p.k brings its own marks
  pub closed : (p k : ℕ) → Inst n s p k → (q i : ℕ) → Inst n s q i → i ≤ mark_at h (slot_of p k) q → (o : ℕ) → o < n
      → mark_at h (slot_of q i) o ≤ mark_at h (slot_of p k) o

-- the first z of owner q's row were handed out
pub record Out (s : ℕ) (st : List ℕ) (q z : ℕ) : Type 0 where
  pub few : z ≤ s
  pub each : (i : ℕ) → 1 ≤ i → i ≤ z → get_or st (slot_of q i) 0 ≡ 2

-- none of number j is settled and was not handed out
unfoldable pub none_at : ℕ → List ℕ → ℕ → Bool
none_at n st j = all_below n (λ o. not (eqb (get_or st (slot_of o j) 0) 1))

-- nor of the first z numbers
pub record Low (n s : ℕ) (st : List ℕ) (z : ℕ) : Type 0 where
  pub few : z ≤ s
  pub each : (j : ℕ) → 1 ≤ j → j ≤ z → none_at n st j ≡ true

-- past: so much of each owner's row, and at 7 of the numbers, need not be looked at again
pub record Past (n s : ℕ) (st past : List ℕ) : Type 0 where
  pub copies : n ≤ 7
  pub numbers : s ≤ 64
  pub states : length st ≡ 448
  pub long : length past ≡ 8
  pub rows : (q : ℕ) → q < n → Out s st q (get_or past q 0)
  pub low : Low n s st (get_or past 7 0)

-- y: the place of one that p.k reaches and that does not reach back, so that p.k waits for it
pub record Ahead (n s : ℕ) (h : List ℕ) (p k y : ℕ) : Type 0 where
  pub owner : ℕ
  pub number : ℕ
  pub inst : Inst n s owner number
  pub place : y ≡ slot_of owner number
  pub reached : number ≤ mark_at h (slot_of p k) owner
  pub apart : mark_at h y p < k

-- all at the places below y let p.k out
abbrev pub Below : ℕ → ℕ → List ℕ → List ℕ → ℕ → ℕ → ℕ → Type 0
Below n s h st p k y = (o j : ℕ) → Inst n s o j → slot_of o j < y → lets h st p k o j ≡ true

-- x: what is known of p.k. 0 nothing, 1 all let it out, from 2 on the place of one ahead, and all below let it out
pub record Known (n s : ℕ) (h st : List ℕ) (p k x : ℕ) : Type 0 where
  pub ready : x ≡ 1 → everywhere n s (lets h st p k) ≡ true
  pub held : 2 ≤ x → Ahead n s h p k (x - 2)
  pub below : Below n s h st p k (x - 2)

pub record Going (n s : ℕ) (h st know past : List ℕ) : Type 0 where
  pub lists : Lists n s h st
  pub long : length know ≡ 448
  pub known : (p k : ℕ) → Inst n s p k → Known n s h st p k (get_or know (slot_of p k) 0)
  pub passed : Past n s st past

pub record Asking (n s : ℕ) (h st know past : List ℕ) (p k : ℕ) : Type 0 where
  pub going : Going n s h st know past
  pub inst : Inst n s p k

-- p.k is asked for, from a place on
pub record Seeking (n s : ℕ) (h st past : List ℕ) (p k from : ℕ) : Type 0 where
  pub lists : Lists n s h st
  pub passed : Past n s st past
  pub inst : Inst n s p k
  pub below : Below n s h st p k from

-- the one at y was handed out, or reaches p.k
unfoldable pub passes_at : List ℕ → List ℕ → ℕ → ℕ → ℕ → Bool
passes_at h st p k y = eqb (get_or st y 0) 2 || leb k (mark_at h y p)

-- part of owner q's row
pub record Span (h st : List ℕ) (p q top : ℕ) : Type 0 where
  pub marks : length h ≡ 6272
  pub states : length st ≡ 448
  pub owner : p < 7
  pub other : q < 7
  pub last : top ≤ 64

-- y: the first in owner q's row past `from`, up to `top`, that does not pass
pub record Stops (h st : List ℕ) (p k q from top y : ℕ) : Type 0 where
  pub number : ℕ
  pub after : from < number
  pub last : number ≤ top
  pub place : y ≡ slot_of q number
  pub here : passes_at h st p k y ≡ false
  pub earlier : (j : ℕ) → from < j → j < number → passes_at h st p k (slot_of q j) ≡ true

-- that, if there is one
pub record Sought (h st : List ℕ) (p k q from top : ℕ) (found : Option ℕ) : Type 0 where
  pub none : found ≡ None → (j : ℕ) → from < j → j ≤ top → passes_at h st p k (slot_of q j) ≡ true
  pub some : (y : ℕ) → found ≡ Some y → Stops h st p k q from top y

-- the place of the first that holds p.k back, if there is one
pub record Held (n s : ℕ) (h st : List ℕ) (p k : ℕ) (found : Option ℕ) : Type 0 where
  pub none : found ≡ None → everywhere n s (lets h st p k) ≡ true
  pub some : (y : ℕ) → found ≡ Some y → Ahead n s h p k y × Below n s h st p k y × (everywhere n s (lets h st p k) ≡ false)

-- x is in owner q's row past `from`, up to `top`, and was not handed out
pub record Waiting (st : List ℕ) (q from top x : ℕ) : Type 0 where
  pub number : ℕ
  pub after : from < number
  pub last : number ≤ top
  pub place : x ≡ slot_of q number
  pub not-out : get_or st x 0 ≡ 2 → ⊥

-- what is known after: 1 at such places alone, else what it was
pub record Freed (st : List ℕ) (q from top : ℕ) (know know' : List ℕ) : Type 0 where
  pub long : length know' ≡ length know
  pub each : (x : ℕ) → (get_or know' x 0 ≡ get_or know x 0) ⊎ ((get_or know' x 0 ≡ 1) × Waiting st q from top x)

-- all below a place let p.k out
pub record Resuming (n s : ℕ) (h st know past : List ℕ) (p k from : ℕ) : Type 0 where
  pub asking : Asking n s h st know past p k
  pub below : Below n s h st p k from

-- all let p.k out
pub record Freeing (n s : ℕ) (h st know past : List ℕ) (p k : ℕ) : Type 0 where
  pub asking : Asking n s h st know past p k
  pub ready : everywhere n s (lets h st p k) ≡ true
