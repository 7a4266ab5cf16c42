-- The rules look at a table's instances in range alone: two tables that are alike there do alike. Assumes nothing.
use Rattle.std.specs.Prelude.{Option, Some, None}
use Prim.Native.Nat.{ℕ, zero, suc, ◌+◌, ◌*◌, ◌≤◌, ◌<◌}
use mathlib.Core.Path.{◌≡◌, refl, ap, fun_ext}
use mathlib.Core.Bool.{Bool, true, false, ◌&&◌, not, cond}
use mathlib.Core.List.{List, [], ◌∷◌}
use native.Mathlib.Omega.{arith}
use lib.Dec.{ltb}
use borrow.Author.Tests.{ltb-true, lt-ltb, le-leb}
use Rattle.paper.specs.Logic.{implies, all_below}
use Rattle.paper.specs.Instance.{instance_ok}
use Rattle.paper.specs.Command.{Interference}
use Rattle.paper.specs.declared.Command.{Command}
use Rattle.paper.specs.declared.Record.{Record}
use Rattle.paper.specs.declared.Message.{Message}
use Rattle.rules.specs.declared.Instance.{Instance}
use Rattle.rules.specs.Sets.{highest}
use Rattle.rules.specs.Seen.{Records, met, seen_entry, seen_from, seen}
use Rattle.rules.specs.Request.{lowest_blank}
use Rattle.rules.specs.Events.{put, request_number, on_request, on_message, on_recover, on_nudge}
use Rattle.rules.specs.Order.{everywhere, somewhere, first_owner, first_number, covers_in, reaches_in, reaches, waits_for, first_open, is_settled, is_marked, candidate, marked, mark, next_out, code_of, found, hand_out}
use Rattle.closed.proofs.Laws.{both}
use Rattle.closed.proofs.Mark.{Found, next_out-found}

-- an instance in range
pub in-range : (n s o j : ℕ) → o < n → 1 ≤ j → j ≤ s → instance_ok n s o j ≡ true
unfolding instance_ok
in-range n s o j a b c = both _ _ (lt-ltb o n a) (both _ _ (le-leb 1 j b) (le-leb j s c))

-- searches over tests that are alike
all_alike : (k : ℕ) (f g : ℕ → Bool) → ((i : ℕ) → i < k → f i ≡ g i) → all_below k f ≡ all_below k g
unfolding all_below
all_alike zero f g h = refl
all_alike (suc k) f g h = rw (h k (omega arith), all_alike k f g (λ i l. h i (omega arith)))

highest-alike : (k : ℕ) (f g : ℕ → Bool) → ((i : ℕ) → 1 ≤ i → i ≤ k → f i ≡ g i) → highest k f ≡ highest k g
unfolding highest
highest-alike zero f g h = refl
highest-alike (suc k) f g h = rw (h (suc k) (omega arith) (omega arith), highest-alike k f g (λ i l m. h i l (omega arith)))

blank-alike : (k j : ℕ) (f g : ℕ → Record) → ((i : ℕ) → j ≤ i → i < j + k → f i ≡ g i) → lowest_blank k j f ≡ lowest_blank k j g
unfolding lowest_blank
blank-alike zero j f g h = refl
blank-alike (suc k) j f g h = rw (h j (omega arith) (omega arith), blank-alike k (j + 1) f g (λ i l m. h i (omega arith) (omega arith)))

module _ (n s : ℕ) where
  -- tests of instances
  abbrev Same : (ℕ → ℕ → Bool) → (ℕ → ℕ → Bool) → Type 0
  Same f g = (o j : ℕ) → instance_ok n s o j ≡ true → f o j ≡ g o j

  every-alike : (f g : ℕ → ℕ → Bool) → Same f g → everywhere n s f ≡ everywhere n s g
  unfolding everywhere
  every-alike f g h =
      all_alike n (λ o. all_below s (λ i. f o (i + 1))) (λ o. all_below s (λ i. g o (i + 1)))
      (λ o l. all_alike s (λ i. f o (i + 1)) (λ i. g o (i + 1)) (λ i m. h o (i + 1) (in-range n s o (i + 1) l (omega arith) (omega arith))))

  some_alike : (f g : ℕ → ℕ → Bool) → Same f g → somewhere n s f ≡ somewhere n s g
  unfolding somewhere
  some_alike f g h = ap not (every-alike (λ o j. not (f o j)) (λ o j. not (g o j)) (λ o j i. ap not (h o j i)))

  owner-alike : (f g : ℕ → ℕ → Bool) → Same f g → (k o j : ℕ) (a b : Option Instance) → o + k ≤ n → 1 ≤ j → j ≤ s → a ≡ b → first_owner k o j f a ≡ first_owner k o j g b
  unfolding first_owner
  owner-alike f g h zero o j a b l x y e = e
  owner-alike f g h (suc k) o j a b l x y e =
      rw (h o j (in-range n s o j (omega arith) x y), owner-alike f g h k (o + 1) j a b (omega arith) x y e)

  first_alike : (f g : ℕ → ℕ → Bool) → Same f g → (k j : ℕ) → 1 ≤ j → j + k ≤ s + 1 → first_number k n j f ≡ first_number k n j g
  unfolding first_number
  first_alike f g h zero j x l = refl
  first_alike f g h (suc k) j x l =
      owner-alike f g h n 0 j _ _ (omega arith) x (omega arith) (first_alike f g h k (j + 1) (omega arith) (omega arith))

  -- tables
  abbrev pub Alike : Records → Records → Type 0
  Alike t u = (o j : ℕ) → instance_ok n s o j ≡ true → t o j ≡ u o j

  -- votes alone
  abbrev pub SameVotes : Records → Records → Type 0
  SameVotes t u = (o j : ℕ) → instance_ok n s o j ≡ true → (t o j).vote ≡ (u o j).vote

  -- what is reached, and what a question is answered
  module _ (t u : Records) (h : SameVotes t u) where
    covers-alike : (p k o j : ℕ) → instance_ok n s p k ≡ true → covers_in n s t p k o j ≡ covers_in n s u p k o j
    unfolding covers_in
    covers-alike p k o j i = rw (h p k i)

    reach-alike : (f p k o j : ℕ) → instance_ok n s p k ≡ true → reaches_in f n s t p k o j ≡ reaches_in f n s u p k o j
    unfolding reaches_in
    reach-alike zero p k o j i = covers-alike p k o j i
    reach-alike (suc f) p k o j i =
        rw (
          covers-alike p k o j i,
          some_alike (λ q e. cond (covers_in n s t p k q e) (reaches_in f n s t q e o j) false) (λ q e. cond (covers_in n s u p k q e) (reaches_in f n s u q e o j) false)
              (λ q e z. rw (covers-alike p k q e i, reach-alike f q e o j z)),
        )

    reaches-alike : (p k o j : ℕ) → instance_ok n s p k ≡ true → reaches n s t p k o j ≡ reaches n s u p k o j
    unfolding reaches
    reaches-alike p k o j i = reach-alike (n * s) p k o j i

    waits-alike : (p k o j : ℕ) → instance_ok n s p k ≡ true → instance_ok n s o j ≡ true → waits_for n s t p k o j ≡ waits_for n s u p k o j
    unfolding waits_for
    waits-alike p k o j i z = rw (reaches-alike p k o j i, h o j z)

    pub open-alike : (p k : ℕ) → instance_ok n s p k ≡ true → first_open n s t p k ≡ first_open n s u p k
    unfolding first_open
    open-alike p k i = first_alike (waits_for n s t p k) (waits_for n s u p k) (λ o j z. waits-alike p k o j i z) s 1 (omega arith) (omega arith)

  module _ (t u : Records) (h : Alike t u) where
    abbrev votes : SameVotes t u
    votes o j i = ap (λ (r : Record). r.vote) (h o j i)

    -- Seen
    entry-alike : (w : Interference) (o j : ℕ) (k : Command) (p : ℕ) → seen_entry w n s t o j k p ≡ seen_entry w n s u o j k p
    unfolding seen_entry met
    entry-alike w o j k p = go (ltb p n) refl
      where
        go : (b : Bool) → ltb p n ≡ b → cond b (highest s (met w t o j k p)) 0 ≡ cond b (highest s (met w u o j k p)) 0
        go false e = refl
        go true e = highest-alike s (met w t o j k p) (met w u o j k p) (λ i x y. rw (h p i (in-range n s p i (ltb-true p n e) x y)))

    from-alike : (w : Interference) (i p o j : ℕ) (k : Command) → seen_from w i p n s t o j k ≡ seen_from w i p n s u o j k
    unfolding seen_from
    from-alike w zero p o j k = refl
    from-alike w (suc i) p o j k = rw (entry-alike w o j k p, from-alike w i (p + 1) o j k)

    seen_alike : (w : Interference) (o j : ℕ) → seen w n s t o j ≡ seen w n s u o j
    seen_alike w o j = fun_ext (λ k. from-alike w 7 0 o j k)

    -- the events
    pub number-alike : (c : ℕ) → c < n → request_number s c t ≡ request_number s c u
    unfolding request_number
    number-alike c l = blank-alike s 1 (t c) (u c) (λ i x y. h c i (in-range n s c i l x (omega arith)))

    pub request-alike : (w : Interference) (c : ℕ) → c < n → (k : Command) → on_request w n s c t k ≡ on_request w n s c u k
    unfolding on_request
    request-alike w c l k = rw (number-alike c l, from-alike w 7 0 c (request_number s c u) k)

    pub message-alike : (w : Interference) (c : ℕ) (m : Message) → instance_ok n s m.owner m.number ≡ true → on_message w n s c t m ≡ on_message w n s c u m
    unfolding on_message
    message-alike w c m i = rw (h m.owner m.number i, seen_alike w m.owner m.number)

    pub recover-alike : (c o j : ℕ) → instance_ok n s o j ≡ true → on_recover n c t o j ≡ on_recover n c u o j
    unfolding on_recover
    recover-alike c o j i = rw (h o j i)

    pub nudge-alike : (c o j : ℕ) → instance_ok n s o j ≡ true → on_nudge n c t o j ≡ on_nudge n c u o j
    unfolding on_nudge
    nudge-alike c o j i = rw (h o j i)

    -- what is handed out
    candidate-alike : (p k : ℕ) → instance_ok n s p k ≡ true → candidate n s t p k ≡ candidate n s u p k
    unfolding candidate is_settled
    candidate-alike p k i =
        rw (
          every-alike (λ o j. not (waits_for n s t p k o j)) (λ o j. not (waits_for n s u p k o j)) (λ o j z. ap not (waits-alike t u votes p k o j i z)),
          h p k i,
          every-alike (λ o j. implies (reaches n s t p k o j && not (reaches n s t o j p k)) (is_marked (t o j)))
              (λ o j. implies (reaches n s u p k o j && not (reaches n s u o j p k)) (is_marked (u o j)))
              (λ o j z. rw (reaches-alike t u votes p k o j i, reaches-alike t u votes o j p k z, h o j z)),
        )

    pub next-alike : next_out n s t ≡ next_out n s u
    unfolding next_out
    next-alike = first_alike (candidate n s t) (candidate n s u) candidate-alike s 1 (omega arith) (omega arith)

  put-alike : (t u : Records) → Alike t u → (o j : ℕ) (r : Record) → Alike (put t o j r) (put u o j r)
  unfolding put
  put-alike t u h o j r p i z = rw (h p i z)

  mark-alike : (t u : Records) → Alike t u → (o j : ℕ) → instance_ok n s o j ≡ true → Alike (mark t o j) (mark u o j)
  mark-alike t u h o j z = rw (h o j z) (put-alike t u h o j (marked (u o j)))

  pub out-alike : (room : ℕ) (t u : Records) → Alike t u → hand_out room n s t ≡ hand_out room n s u
  unfolding hand_out
  out-alike zero t u h = refl
  out-alike (suc room) t u h = rw (next-alike t u h) (go (next_out n s u) (next_out-found n s u) (λ v w k. out-alike room v w k))
    where
      go : (f : Option Instance) → Found n s (candidate n s u) f → ((v w : Records) → Alike v w → hand_out room n s v ≡ hand_out room n s w)
          → found f [] (λ o j. code_of o j ∷ hand_out room n s (mark t o j)) ≡ found f [] (λ o j. code_of o j ∷ hand_out room n s (mark u o j))
      go None g more = refl
      go (Some i) g more = ap (λ (l : List ℕ). code_of i.owner i.number ∷ l) (more (mark t i.owner i.number) (mark u i.owner i.number) (mark-alike t u h i.owner i.number g.0))
