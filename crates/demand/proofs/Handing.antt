-- What a hand-out listed and is not saved yet: its marks, one after the other, are those of the saved table. Assumes nothing.
use Rattle.std.specs.Prelude.{Option, Some, None, Result, Ok, Err}
use Prim.Native.Nat.{ℕ, zero, suc, ◌≤◌, ◌<◌}
use mathlib.Core.Path.{◌≡◌, refl, sym, ap, ◌∙◌}
use mathlib.Core.Bool.{Bool, true, false, ◌&&◌, not, cond}
use mathlib.Core.List.{List, [], ◌∷◌}
use native.Mathlib.Omega.{arith}
use lib.ListN.{length, take, drop, get_or}
use lib.Dec.{eqb}
use borrow.Author.Tests.{eqb-true, not-true}
use Rattle.numbers.proofs.Laws.{splice-same}
use Rattle.paper.specs.declared.Refusal.{Refusal}
use Rattle.paper.specs.Instance.{instance_ok}
use Rattle.paper.specs.declared.Record.{Record}
use Rattle.rules.specs.declared.Instance.{Instance}
use Rattle.rules.specs.Seen.{Records}
use Rattle.rules.specs.Events.{put}
use Rattle.rules.specs.Order.{instance, is_settled, is_marked, candidate, marked, mark, next_out, code_of, found, hand_out, instance_of}
use Rattle.rules.proofs.Codes.{code-owner, code-number}
use Rattle.table.specs.Table.{record_in, put_record, Kept}
use Rattle.table.specs.Calls.{judged}
use Rattle.table.proofs.Laws.{names}
use Rattle.seen.specs.Records.{records_in}
use Rattle.closed.specs.Held.{Held}
use Rattle.closed.proofs.Laws.{two, three, tf}
use Rattle.closed.proofs.Mark.{marked-held, Found, candidate-committed, next_out-found}
use Rattle.order.specs.Calls.{marked_in, handed_table, handed_codes, handed_open, handed}
use Rattle.demand.specs.Run.{save_of, stored}
use Rattle.demand.proofs.Range.{Alike, out-alike}
use Rattle.demand.proofs.Records.{records, at-range, held, saved-record, put-held, put-here, put_other, put-records}

pub sound-judged : (n s c : ℕ) (t : List ℕ) → Kept n s c t → judged n s c t ≡ Ok tt
unfolding judged
sound-judged n s c t k = rw (k.setup, k.sound)

-- a mark of a sound table, on what it hands out next
module _ (n s c : ℕ) (t : List ℕ) (k : Kept n s c t) (o j : ℕ) (f : Found n s (candidate n s (records_in s t)) (Some (instance o j))) where
  mark-held : Held n s c o (marked (record_in s t o j))
  mark-held = marked-held n s c o (record_in s t o j) (held n s c t k o j f.0) (candidate-committed n s (records_in s t) o j f.0 f.1)

  pub mark-kept : Kept n s c (marked_in s t o j)
  unfolding marked_in
  mark-kept = put-held n s c t k o j f.0 (marked (record_in s t o j)) mark-held

  pub mark-records : records n s (marked_in s t o j) ≡ mark (records n s t) o j
  unfolding marked_in
  mark-records =
      put-records n s c t k o j f.0 (marked (record_in s t o j)) mark-held
      ∙ ap (λ (r : Record). put (records n s t) o j (marked r)) (sym (at-range n s t o j f.0))

  mark-alike : Alike n s (mark (records_in s t) o j) (records_in s (marked_in s t o j))
  unfolding put
  mark-alike p i z =
      let a : record_in s (marked_in s t o j) p i ≡ mark (records n s t) o j p i = sym (at-range n s (marked_in s t o j) p i z) ∙ ap (λ (u : Records). u p i) mark-records in
      sym (a ∙ rw (at-range n s t o j f.0, at-range n s t p i z))

  pub mark-here : record_in s (marked_in s t o j) o j ≡ marked (record_in s t o j)
  unfolding marked_in
  mark-here = put-here n s c t k o j f.0 (marked (record_in s t o j)) mark-held

  -- what was marked before is another instance, and its record stays
  mark-frame : (p i : ℕ) → instance_ok n s p i ≡ true → is_marked (record_in s t p i) ≡ true → record_in s (marked_in s t o j) p i ≡ record_in s t p i
  unfolding marked_in candidate
  mark-frame p i z m =
      put_other n s c t k o j f.0 (marked (record_in s t o j)) mark-held p i z
      (λ (x, y). let u : is_marked (record_in s t o j) ≡ true = rw (x, y) m in tf _ u (not-true _ (three (is_settled n s (records_in s t) o j) (not (is_marked (record_in s t o j))) _ f.1).1))

  -- the hand-out goes on from there
  pub next-table : (room : ℕ) → next_out n s (records_in s t) ≡ Some (instance o j) → handed_table (suc room) n s t ≡ handed_table room n s (marked_in s t o j)
  unfolding handed_table
  next-table room e = rw e

  pub next-codes : (room : ℕ) → next_out n s (records_in s t) ≡ Some (instance o j) → handed_codes (suc room) n s t ≡ code_of o j ∷ handed_codes room n s (marked_in s t o j)
  unfolding handed_codes hand_out
  next-codes room e =
      rw e (ap (λ (l : List ℕ). code_of o j ∷ l) (out-alike n s room (mark (records_in s t) o j) (records_in s (marked_in s t o j)) mark-alike))

-- it leaves a sound table, and the record of what is marked already
pub record Left (n s c : ℕ) (t u : List ℕ) : Type 0 where
  pub kept : Kept n s c u
  pub frame : (p i : ℕ) → instance_ok n s p i ≡ true → is_marked (record_in s t p i) ≡ true → record_in s u p i ≡ record_in s t p i

pub left : (room n s c : ℕ) (t : List ℕ) → Kept n s c t → Left n s c t (handed_table room n s t)
unfolding handed_table
left zero n s c t k = record { kept = k; frame = λ p i z m. refl }
left (suc room) n s c t k = go (next_out n s (records_in s t)) (next_out-found n s (records_in s t)) (λ u h. left room n s c u h)
  where
    go : (f : Option Instance) → Found n s (candidate n s (records_in s t)) f → ((u : List ℕ) → Kept n s c u → Left n s c u (handed_table room n s u))
        → Left n s c t (found f t (λ o j. handed_table room n s (marked_in s t o j)))
    go None f more = record { kept = k; frame = λ p i z m. refl }
    go (Some x) f more =
        let h = more (marked_in s t x.owner x.number) (mark-kept n s c t k x.owner x.number f) in
        record {
          kept = h.kept;
          frame = λ p i z m.
              let e = mark-frame n s c t k x.owner x.number f p i z m in
              let v : is_marked (record_in s (marked_in s t x.owner x.number) p i) ≡ true = rw e m in
              h.frame p i z v ∙ e;
        }

-- it leaves every vote
module _ (n s : ℕ) where
  mark-vote : (c : ℕ) (t : List ℕ) (k : Kept n s c t) (p q : ℕ) → Found n s (candidate n s (records_in s t)) (Some (instance p q)) → (o j : ℕ) → instance_ok n s o j ≡ true
      → (record_in s (marked_in s t p q) o j).vote ≡ (record_in s t o j).vote
  unfolding put
  mark-vote c t k p q f o j i =
      let u : Records = records n s t in
      let a : record_in s (marked_in s t p q) o j ≡ cond (eqb o p && eqb j q) (marked (u p q)) (u o j) =
      sym (at-range n s (marked_in s t p q) o j i) ∙ ap (λ (v : Records). v o j) (mark-records n s c t k p q f) in
      ap (λ (r : Record). r.vote) a ∙ go u (eqb o p && eqb j q) refl ∙ ap (λ (r : Record). r.vote) (at-range n s t o j i)
    where
      go : (u : Records) (b : Bool) → (eqb o p && eqb j q) ≡ b → (cond b (marked (u p q)) (u o j)).vote ≡ (u o j).vote
      go u true e = let (x, y) = two _ _ e in rw (eqb-true o p x, eqb-true j q y)
      go u false e = refl

  pub hand-vote : (room c : ℕ) (t : List ℕ) → Kept n s c t → (o j : ℕ) → instance_ok n s o j ≡ true → (record_in s (handed_table room n s t) o j).vote ≡ (record_in s t o j).vote
  unfolding handed_table
  hand-vote zero c t k o j i = refl
  hand-vote (suc room) c t k o j i = go (next_out n s (records_in s t)) (next_out-found n s (records_in s t)) (λ u h. hand-vote room c u h o j i)
    where
      go : (f : Option Instance) → Found n s (candidate n s (records_in s t)) f
          → ((u : List ℕ) → Kept n s c u → (record_in s (handed_table room n s u) o j).vote ≡ (record_in s u o j).vote)
          → (record_in s (found f t (λ p q. handed_table room n s (marked_in s t p q))) o j).vote ≡ (record_in s t o j).vote
      go None f more = refl
      go (Some x) f more = more (marked_in s t x.owner x.number) (mark-kept n s c t k x.owner x.number f) ∙ mark-vote c t k x.owner x.number f o j i

-- the first mark of a hand-out, saved, is one mark of the saved table
pub save-mark : (n s c : ℕ) (t : List ℕ) (k : Kept n s c t) (o j : ℕ) (f : Found n s (candidate n s (records_in s t)) (Some (instance o j))) (room : ℕ)
    → next_out n s (records_in s t) ≡ Some (instance o j) → stored s t (save_of n s c (handed_table (suc room) n s t) o j) ≡ marked_in s t o j
unfolding marked_in
save-mark n s c t k o j f room e =
    let u : List ℕ = marked_in s t o j in
    let l = left room n s c u (mark-kept n s c t k o j f) in
    let here : record_in s u o j ≡ marked (record_in s t o j) = mark-here n s c t k o j f in
    let r : record_in s (handed_table room n s u) o j ≡ marked (record_in s t o j) = l.frame o j f.0 (ap is_marked here) ∙ here in
    ap (λ (x : List ℕ). stored s t (save_of n s c x o j)) (next-table n s c t k o j f room e) ∙ saved-record n s c (handed_table room n s u) l.kept t o j f.0
    ∙ ap (put_record s t o j) r

-- what a copy's host has in memory beside what it saved: a hand-out of so many places, of which nothing is saved yet
pub record Pending (n s : ℕ) (saved lent listed : List ℕ) : Type 0 where
  pub room : ℕ
  pub table : lent ≡ handed_table room n s saved
  pub codes : listed ≡ handed_codes room n s saved

pub none-pending : (n s : ℕ) (t u : List ℕ) → u ≡ t → Pending n s t u []
unfolding handed_table handed_codes hand_out
none-pending n s t u e = record { room = 0; table = e; codes = refl }

empty : {x : ℕ} {l : List ℕ} {A : Type 0} → [] ≡ x ∷ l → A
empty {x} {l} e = let z : 0 ≡ suc (length l) = ap length e in absurd (omega arith)

-- once all that was listed is saved, memory and disk are the same
pub all_saved : (n s : ℕ) (t u l : List ℕ) → Pending n s t u l → l ≡ [] → u ≡ t
unfolding handed_table handed_codes hand_out
all_saved n s t u l p e = go p.room p.table (sym e ∙ p.codes)
  where
    by : (room : ℕ) (f : Option Instance) → [] ≡ found f [] (λ o j. code_of o j ∷ hand_out room n s (mark (records_in s t) o j))
        → found f t (λ o j. handed_table room n s (marked_in s t o j)) ≡ t
    by room None z = refl
    by room (Some i) z = empty z

    go : (room : ℕ) → u ≡ handed_table room n s t → [] ≡ handed_codes room n s t → u ≡ t
    go zero x y = x
    go (suc room) x y = x ∙ by room (next_out n s (records_in s t)) y

-- what a hand-out lists
short : (room n s : ℕ) (t : Records) → length (hand_out room n s t) ≤ room
unfolding hand_out
short zero n s t = omega arith
short (suc room) n s t = go (next_out n s t) (λ u. short room n s u)
  where
    go : (f : Option Instance) → ((u : Records) → length (hand_out room n s u) ≤ room) → length (found f [] (λ o j. code_of o j ∷ hand_out room n s (mark t o j))) ≤ suc room
    go None h = omega arith
    go (Some i) h = omega (arith, h (mark t i.owner i.number))

codes_in : Result ℕ Refusal → ℕ
codes_in (Ok i) = i
codes_in (Err r) = 0

module _ (n s c : ℕ) (t list : List ℕ) (k : Kept n s c t) where
  pub hand-answers : (handed n s c t list).answer ≡ Ok (length (handed_codes (length list) n s t))
  unfolding handed handed_open
  hand-answers = rw (sound-judged n s c t k)

  pub listed-is : (i : ℕ) → (handed n s c t list).answer ≡ Ok i → take i (handed n s c t list).list ≡ handed_codes (length list) n s t
  unfolding handed handed_open handed_codes codes_in
  listed-is i e =
      let l : List ℕ = hand_out (length list) n s (records_in s t) in
      let z : length l ≡ i = ap codes_in (sym hand-answers ∙ e) in
      rw (sound-judged n s c t k) (splice-same list 0 l i z (omega (arith, short (length list) n s (records_in s t))))

  pub listed-pending : (i : ℕ) → (handed n s c t list).answer ≡ Ok i → Pending n s t (handed n s c t list).table (take i (handed n s c t list).list)
  unfolding handed handed_open
  listed-pending i e = record { room = length list; table = rw (sound-judged n s c t k); codes = listed-is i e }

-- one mark is saved: it was listed first, it is what the saved table hands out next, and the rest is still pending
pub record Marked (n s c : ℕ) (t u : List ℕ) (code : ℕ) (rest : List ℕ) : Type 0 where
  pub owner : ℕ
  pub number : ℕ
  pub found : Found n s (candidate n s (records_in s t)) (Some (instance owner number))
  pub next : next_out n s (records_in s t) ≡ Some (instance owner number)
  pub is-owner : (instance_of code).0 ≡ owner
  pub is_number : (instance_of code).1 ≡ number
  pub saved : stored s t (save_of n s c u owner number) ≡ marked_in s t owner number
  pub pending : Pending n s (marked_in s t owner number) u rest

pub marked_next : (n s c : ℕ) (t u : List ℕ) (code : ℕ) (rest l : List ℕ) → Kept n s c t → Pending n s t u l → l ≡ code ∷ rest → Marked n s c t u code rest
unfolding handed_codes hand_out
marked_next n s c t u code rest l k p e = by p.room p.table (sym e ∙ p.codes)
  where
    found_here : (room : ℕ) (f : Option Instance) → next_out n s (records_in s t) ≡ f → Found n s (candidate n s (records_in s t)) f → u ≡ handed_table (suc room) n s t
        → code ∷ rest ≡ handed_codes (suc room) n s t → Marked n s c t u code rest
    found_here room None g f x y = empty (sym (y ∙ rw g))
    found_here room (Some i) g f x y =
        let z : code ∷ rest ≡ code_of i.owner i.number ∷ handed_codes room n s (marked_in s t i.owner i.number) = y ∙ next-codes n s c t k i.owner i.number f room g in
        let q : code ≡ code_of i.owner i.number = ap (λ (l : List ℕ). get_or l 0 0) z in
        let small : i.number < 256 = let a = names n s c t i.owner i.number k.setup f.0 in omega (arith, a.last, a.numbers) in
        record {
          owner = i.owner;
          number = i.number;
          found = f;
          next = g;
          is-owner = ap (λ (m : ℕ). (instance_of m).0) q ∙ code-owner i.owner i.number small;
          is_number = ap (λ (m : ℕ). (instance_of m).1) q ∙ code-number i.owner i.number small;
          saved = rw x (save-mark n s c t k i.owner i.number f room g);
          pending = record { room = room; table = x ∙ next-table n s c t k i.owner i.number f room g; codes = ap (drop 1) z };
        }

    by : (room : ℕ) → u ≡ handed_table room n s t → code ∷ rest ≡ handed_codes room n s t → Marked n s c t u code rest
    by zero x y = empty (sym y)
    by (suc room) x y = found_here room (next_out n s (records_in s t)) refl (next_out-found n s (records_in s t)) x y
