-- The list and the table of a hand-out, place by place. Assumes nothing.
use Rattle.std.specs.Prelude.{Some, None}
use Prim.Native.Nat.{ℕ, zero, suc, ◌+◌, ◌-◌, ◌≤◌, ◌<◌}
use mathlib.Core.Path.{◌≡◌, refl, sym, ap, ◌∙◌}
use mathlib.Core.Logic.{⊎_elim}
use mathlib.Core.Bool.{Bool, true, false, ◌&&◌, not}
use mathlib.Core.List.{List, [], ◌∷◌, ◌++◌, append-nil}
use native.Mathlib.Omega.{arith}
use native.Mathlib.Numerals.{add-one}
use lib.Dec.{leb, eqb}
use lib.ListN.{length, set, take, drop, length-set, take-append-drop}
use lib.Seq.{take-suc-set, drop-set-lt, length-take-le, drop-drop, append_snoc}
use Rattle.numbers.specs.Num.{splice}
use Rattle.paper.specs.Logic.{implies}
use Rattle.rules.specs.Seen.{Records}
use Rattle.rules.specs.Order.{instance, reaches, is_marked, candidate, mark, next_out, code_of, hand_out}
use Rattle.seen.specs.Records.{records_in}
use Rattle.reach.specs.High.{Inst, itself}
use Rattle.reach.proofs.Tests.{tf, bool, and_l, and_r, and_in, eqb-eq, eqb_same, not-true}
use Rattle.reach.proofs.First.{first-same, every-same, first_passes}
use Rattle.reach.proofs.Same.{hand_out-same}
use Rattle.rows.specs.Rows.{slot_of, mark_at}
use Rattle.sweep.specs.Sweeping.{Charted}
use Rattle.next.specs.Slots.{lets, ready_in, next_in, Going}
use Rattle.order.specs.Calls.{marked_in, handed_table, handed_codes}
use Rattle.order.specs.States.{Stated, Listing}
use Rattle.order.proofs.Marked.{alike, listing-on}

-- the lists' next one out is the rules'
module _ (n s : ℕ) (u : Records) (h st : List ℕ) (c : Charted n s u h) (d : Stated n s u st) where
  -- neither side asks where an instance meets itself
  unasked : (a b : Bool) → implies (a && not a) b ≡ true
  unasked true b = refl
  unasked false b = refl

  itself-is : (p k o j : ℕ) → itself p k o j ≡ true → (o ≡ p) × (j ≡ k)
  itself-is p k o j e = (eqb-eq o p (and_l (eqb o p) (eqb j k) e), eqb-eq j k (and_r (eqb o p) (eqb j k) e))

  back-apart : (p k o j : ℕ) → itself p k o j ≡ false → itself o j p k ≡ false
  back-apart p k o j e = not-true (itself o j p k)
      (λ w. let (a, b) = itself-is o j p k w in
      tf (itself p k o j) (and_in _ _ (eqb_same o p (sym a)) (eqb_same j k (sym b))) e)

  mark-is : (p k o j : ℕ) → Inst n s p k → Inst n s o j → itself p k o j ≡ false → reaches n s u p k o j ≡ leb j (mark_at h (slot_of p k) o)
  mark-is p k o j i io e = rw e at ((c.each p k i).highs o j io)

  lets-is : (p k o j : ℕ) → Inst n s p k → Inst n s o j → lets h st p k o j ≡ implies (reaches n s u p k o j && not (reaches n s u o j p k)) (is_marked (u o j))
  unfolding lets
  lets-is p k o j i io = ⊎_elim
      (λ (e : itself p k o j ≡ true).
      let (a, b) = itself-is p k o j e in
      rw (a, b) (unasked (leb k (mark_at h (slot_of p k) p)) _ ∙ sym (unasked (reaches n s u p k p k) _)))
      (λ (e : itself p k o j ≡ false).
      rw (mark-is p k o j i io e, mark-is o j p k io i (back-apart p k o j e), (d.each o j io).out))
      (bool (itself p k o j))

  ready-is : (p k : ℕ) → Inst n s p k → ready_in n s h st p k ≡ candidate n s u p k
  unfolding ready_in candidate
  ready-is p k i =
      rw (
        (d.each p k i).ready,
        every-same n s (lets h st p k) (λ o j. implies (reaches n s u p k o j && not (reaches n s u o j p k)) (is_marked (u o j))) (λ o j io. lets-is p k o j i io),
      )

  pub next-is : next_in n s h st ≡ next_out n s u
  unfolding next_in next_out
  next-is = first-same n s (ready_in n s h st) (candidate n s u) ready-is s 1 (omega arith) (omega arith)

-- the steps of the codes and of the table
pub codes-full : (room n s : ℕ) (t : List ℕ) → room ≡ 0 → handed_codes room n s t ≡ []
unfolding handed_codes hand_out
codes-full room n s t e = rw e

pub codes-none : (room n s : ℕ) (t : List ℕ) → next_out n s (records_in s t) ≡ None → handed_codes room n s t ≡ []
unfolding handed_codes hand_out
codes-none zero n s t e = refl
codes-none (suc room) n s t e = rw e

pub table-full : (room n s : ℕ) (t : List ℕ) → room ≡ 0 → handed_table room n s t ≡ t
unfolding handed_table
table-full room n s t e = rw e

pub table_none : (room n s : ℕ) (t : List ℕ) → next_out n s (records_in s t) ≡ None → handed_table room n s t ≡ t
unfolding handed_table
table_none zero n s t e = refl
table_none (suc room) n s t e = rw e

table-one : (room room' n s : ℕ) (t : List ℕ) (o j : ℕ) → room ≡ suc room' → next_out n s (records_in s t) ≡ Some (instance o j)
    → handed_table room n s t ≡ handed_table room' n s (marked_in s t o j)
unfolding handed_table
table-one room room' n s t o j e f = rw (e, f)

codes-one : (room room' n s : ℕ) (t h st know past : List ℕ) (o j : ℕ) → Listing n s t h st know past → Inst n s o j → room ≡ suc room' → next_out n s (records_in s t) ≡ Some (instance o j)
    → handed_codes room n s t ≡ code_of o j ∷ handed_codes room' n s (marked_in s t o j)
unfolding handed_codes hand_out
codes-one room room' n s t h st know past o j g i e f =
    rw (e, f, hand_out-same room' n s (mark (records_in s t) o j) (records_in s (marked_in s t o j)) (alike n s t h st know past g o j i))

-- `count` codes are listed, and their instances are marked in t
pub record Listed (n s : ℕ) (t₀ list₀ h t st know past list : List ℕ) (count : ℕ) : Type 0 where
  pub listing : Listing n s t h st know past
  pub long : length list ≡ length list₀
  pub within : count ≤ length list₀
  pub codes : handed_codes (length list₀) n s t₀ ≡ take count list ++ handed_codes (length list₀ - count) n s t
  pub table : handed_table (length list₀) n s t₀ ≡ handed_table (length list₀ - count) n s t
  pub rest : drop count list ≡ drop count list₀

-- what a hand-out leaves
abbrev Left : ℕ → ℕ → List ℕ → List ℕ → ℕ → List ℕ → List ℕ → Type 0
Left n s t₀ list₀ count t list =
    (count ≡ length (handed_codes (length list₀) n s t₀))
    × ((t ≡ handed_table (length list₀) n s t₀) × (list ≡ splice list₀ 0 (handed_codes (length list₀) n s t₀)))

pub listed_start : (n s : ℕ) (t h st know past list : List ℕ) → Listing n s t h st know past → Listed n s t list h t st know past list 0
listed_start n s t h st know past list g =
    let e : length list - 0 ≡ length list = omega arith in
    record { listing = g; long = refl; within = omega arith; codes = rw e; table = rw e; rest = refl }

module _ (n s : ℕ) (t₀ list₀ h t st know past list : List ℕ) (count : ℕ) (l : Listed n s t₀ list₀ h t st know past list count) where
  found-is : next_in n s h st ≡ next_out n s (records_in s t)
  found-is = next-is n s (records_in s t) h st l.listing.charted l.listing.stated

  -- the one that is found is an instance
  pub found-inst : (o j : ℕ) → Some (instance o j) ≡ next_in n s h st → Inst n s o j
  unfolding next_out
  found-inst o j e = (first_passes n s (candidate n s (records_in s t)) o j (sym (e ∙ found-is))).0

  pub listed-on : (o j x code : ℕ) (t₁ know₁ past₁ : List ℕ) → Some (instance o j) ≡ next_in n s h st → count < length list₀ → x ≡ slot_of o j → Going n s h st know₁ past₁ → t₁ ≡ marked_in s t o j
      → code ≡ code_of o j → Listed n s t₀ list₀ h t₁ (set st x 2) know₁ past₁ (set list count code) (count + 1)
  listed-on o j x code t₁ know₁ past₁ e r₀ ex f et ec =
      let i = found-inst o j e in
      let z : next_out n s (records_in s t) ≡ Some (instance o j) = sym (e ∙ found-is) in
      let r : count < length list = omega (arith, l.long) in
      let tk : take (count + 1) (set list count code) ≡ take count list ++ (code ∷ []) = rw add-one (take-suc-set list count code r) in
      let dr : drop (count + 1) (set list count code) ≡ drop (count + 1) list = drop-set-lt (count + 1) list count code (omega arith) in
      let dd : drop (count + 1) list ≡ drop (count + 1) list₀ = rw (← drop-drop 1 count list, l.rest, drop-drop 1 count list₀) in
      record {
        listing = rw et (listing-on n s t h st know past l.listing o j i x ex know₁ past₁ f);
        long = length-set list count code ∙ l.long;
        within = omega arith;
        codes = l.codes
            ∙ rw (
              codes-one (length list₀ - count) (length list₀ - (count + 1)) n s t h st know past o j l.listing i (omega arith) z,
              tk,
              et,
              ec,
              append_snoc (take count list) (code_of o j) (handed_codes (length list₀ - (count + 1)) n s (marked_in s t o j)),
            );
        table = l.table ∙ rw et (table-one (length list₀ - count) (length list₀ - (count + 1)) n s t o j (omega arith) z);
        rest = dr ∙ dd;
      }

  -- nothing is left to list
  ended : handed_codes (length list₀ - count) n s t ≡ [] → handed_table (length list₀ - count) n s t ≡ t → Left n s t₀ list₀ count t list
  unfolding splice
  ended e f =
      let a : handed_codes (length list₀) n s t₀ ≡ take count list = l.codes ∙ rw (e, append-nil (take count list)) in
      let b : length (take count list) ≡ count = length-take-le count list (omega (arith, l.long, l.within)) in
      let d : 0 + length (take count list) ≡ count = omega arith in
      (sym (ap length a ∙ b), (sym (l.table ∙ f), rw (a, d, ← l.rest) (sym (take-append-drop count list))))

  pub listed-none : None ≡ next_in n s h st → Left n s t₀ list₀ count t list
  listed-none e =
      let z : next_out n s (records_in s t) ≡ None = sym (e ∙ found-is) in
      ended (codes-none (length list₀ - count) n s t z) (table_none (length list₀ - count) n s t z)

  pub listed-full : length list₀ ≤ count → Left n s t₀ list₀ (length list) t list
  listed-full e =
      let z : length list₀ - count ≡ 0 = omega arith in
      let w : length list ≡ count = omega (arith, l.long, l.within) in
      rw w (ended (codes-full (length list₀ - count) n s t z) (table-full (length list₀ - count) n s t z))
