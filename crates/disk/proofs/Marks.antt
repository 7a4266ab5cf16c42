-- The marks that a journal's entries have, in their order. Assumes nothing.
use Prim.Native.Nat.{ℕ, zero, suc, ◌+◌, ◌-◌, ◌≤◌, ◌<◌}
use mathlib.Core.Path.{◌≡◌, refl, sym, ap, ap₂, ◌∙◌, subst}
use mathlib.Core.Bool.{true, cond}
use mathlib.Core.List.{List, [], ◌∷◌, ◌++◌, append_assoc, append-nil, Memᴰ}
use native.Mathlib.Omega.{arith}
use lib.Dec.{eqb}
use lib.ListN.{length, length-append}
use Rattle.paper.specs.Instance.{instance_ok}
use borrow.Author.Tests.{eqb-true, eq-eqb}
use Rattle.paper.specs.declared.Record.{Record}
use Rattle.table.specs.Table.{record_in, put_record, Kept}
use Rattle.table.specs.Calls.{part_size}
use Rattle.table.proofs.Laws.{sizes, names}
use Rattle.table.proofs.Round.{record-sound, record-whole, put-get}
use Rattle.rules.specs.Step.{is_committed}
use Rattle.rules.specs.Order.{is_marked, marked}
use Rattle.closed.proofs.Sound.{sound-is}
use Rattle.order.specs.Calls.{marked_in}
use Rattle.entries.specs.Entry.{mark_kind, owner_in, number_in, record_entry, mark_entry}
use Rattle.entries.specs.Replay.{behind}
use Rattle.entries.specs.Journal.{Journal, none, record-then, mark-then}
use Rattle.entries.proofs.Framed.{mark-reads, record-reads}
use Rattle.entries.proofs.Journal.{count, count-few, bounds, joined}
use Rattle.safety.specs.Run.{Instance}
use Rattle.disk.specs.Run.{marks_in, mark_entries}

marks_of : {n s c : ℕ} {t b u : List ℕ} → Journal n s c t b u → List Instance
marks_of none = []
marks_of (record-then w o j part i l h) = marks_of w
marks_of (mark-then w o j i h) = marks_of w ++ (o, j) ∷ []

module _ (n s c : ℕ) (few : n ≤ 7) (low : s ≤ 64) where
  -- of one entry
  one-record : (o j : ℕ) → instance_ok n s o j ≡ true → (part : List ℕ) → length part ≡ part_size → (more : List ℕ) (k : ℕ) → marks_in (suc k) (record_entry o j part ++ more) ≡ marks_in k more
  unfolding marks_in
  one-record o j i part l more k =
      let z = bounds n s c few low o j i in
      let r = record-reads o j z.0 z.1 part l more in
      let e : List ℕ = record_entry o j part ++ more in
      ap (λ (x : ℕ). cond (eqb x mark_kind) ((owner_in e, number_in e) ∷ marks_in k (behind e)) (marks_in k (behind e))) r.kind ∙ ap (marks_in k) r.rest

  one-mark : (o j : ℕ) → instance_ok n s o j ≡ true → (more : List ℕ) (k : ℕ) → marks_in (suc k) (mark_entry o j ++ more) ≡ (o, j) ∷ marks_in k more
  unfolding marks_in
  one-mark o j i more k =
      let z = bounds n s c few low o j i in
      let r = mark-reads o j z.0 z.1 more in
      let e : List ℕ = mark_entry o j ++ more in
      ap (λ (x : ℕ). cond (eqb x mark_kind) ((owner_in e, number_in e) ∷ marks_in k (behind e)) (marks_in k (behind e))) r.kind
      ∙ ap₂ (λ (p q : ℕ). (p, q) ∷ marks_in k (behind e)) r.owner r.number ∙ ap (λ (l : List ℕ). (o, j) ∷ marks_in k l) r.rest

  marks-past : {t b u : List ℕ} (w : Journal n s c t b u) (k : ℕ) (more : List ℕ) → marks_in (count w + k) (b ++ more) ≡ marks_of w ++ marks_in k more
  unfolding count marks_of
  marks-past none k more = ap (λ (x : ℕ). marks_in x more) (omega arith)
  marks-past (record-then {b = b} w o j part i l h) k more =
      let e : List ℕ = record_entry o j part in
      ap₂ (λ (x : ℕ) (y : List ℕ). marks_in x y) (omega arith) (append_assoc b e more) ∙ marks-past w (suc k) (e ++ more) ∙ ap (λ (z : List Instance). marks_of w ++ z) (one-record o j i part l more k)
  marks-past (mark-then {b = b} w o j i h) k more =
      let e : List ℕ = mark_entry o j in
      ap₂ (λ (x : ℕ) (y : List ℕ). marks_in x y) (omega arith) (append_assoc b e more) ∙ marks-past w (suc k) (e ++ more) ∙ ap (λ (z : List Instance). marks_of w ++ z) (one-mark o j i more k)
      ∙ sym (append_assoc (marks_of w) ((o, j) ∷ []) (marks_in k more))

  no-marks : (k : ℕ) → marks_in k [] ≡ []
  unfolding marks_in
  no-marks zero = refl
  no-marks (suc k) = refl

  all-marks : {t b u : List ℕ} (w : Journal n s c t b u) (k : ℕ) → length b ≤ k → marks_in k b ≡ marks_of w
  all-marks {b = b} w k l =
      let f = count-few n s c few low w in
      ap₂ (λ (x : ℕ) (y : List ℕ). marks_in x y) (omega arith) (sym (append-nil b)) ∙ marks-past w (k - count w) [] ∙ ap (λ (z : List Instance). marks_of w ++ z) (no-marks (k - count w)) ∙ append-nil (marks_of w)

  -- of one journal after another
  pub marks-join : {t b u m v : List ℕ} → Journal n s c t b u → Journal n s c u m v → marks_in (length (b ++ m)) (b ++ m) ≡ marks_in (length b) b ++ marks_in (length m) m
  marks-join {b = b} {m = m} w z =
      let f = count-few n s c few low w in
      let y = length-append b m in
      ap (λ (x : ℕ). marks_in x (b ++ m)) (omega arith) ∙ marks-past w (length (b ++ m) - count w) m
      ∙ ap₂ (λ (p q : List Instance). p ++ q) (sym (all-marks w (length b) (omega arith))) (all-marks z (length (b ++ m) - count w) (omega arith) ∙ sym (all-marks z (length m) (omega arith)))

  -- of a journal and one entry more
  then-more : {t b u : List ℕ} (w : Journal n s c t b u) (e : List ℕ) (m : List Instance) → ((k : ℕ) → 0 < k → marks_in k e ≡ m) → 0 < length e
      → marks_in (length (b ++ e)) (b ++ e) ≡ marks_in (length b) b ++ m
  then-more {b = b} w e m one some =
      let f = count-few n s c few low w in
      let y = length-append b e in
      ap (λ (x : ℕ). marks_in x (b ++ e)) (omega arith) ∙ marks-past w (length (b ++ e) - count w) e
      ∙ ap₂ (λ (p q : List Instance). p ++ q) (sym (all-marks w (length b) (omega arith))) (one (length (b ++ e) - count w) (omega arith))

  pub marks-record : {t b u : List ℕ} → Journal n s c t b u → (o j : ℕ) → instance_ok n s o j ≡ true → (part : List ℕ) → length part ≡ part_size
      → marks_in (length (b ++ record_entry o j part)) (b ++ record_entry o j part) ≡ marks_in (length b) b
  marks-record {b = b} w o j i part l = then-more w (record_entry o j part) [] lone (rw (length-append (mark_entry o j) part) (omega arith)) ∙ append-nil (marks_in (length b) b)
    where
      lone : (k : ℕ) → 0 < k → marks_in k (record_entry o j part) ≡ []
      lone zero z = absurd (omega arith)
      lone (suc k) z = ap (marks_in (suc k)) (sym (append-nil (record_entry o j part))) ∙ one-record o j i part l [] k ∙ no-marks k

  pub marks-mark : {t b u : List ℕ} → Journal n s c t b u → (o j : ℕ) → instance_ok n s o j ≡ true
      → marks_in (length (b ++ mark_entry o j)) (b ++ mark_entry o j) ≡ marks_in (length b) b ++ (o, j) ∷ []
  marks-mark w o j i = then-more w (mark_entry o j) ((o, j) ∷ []) lone (omega arith)
    where
      lone : (k : ℕ) → 0 < k → marks_in k (mark_entry o j) ≡ (o, j) ∷ []
      lone zero z = absurd (omega arith)
      lone (suc k) z = ap (marks_in (suc k)) (sym (append-nil (mark_entry o j))) ∙ one-mark o j i [] k ∙ ap (λ (x : List Instance). (o, j) ∷ x) (no-marks k)

-- a mark that is there already changes nothing
same-marked : (n s c : ℕ) (t : List ℕ) → Kept n s c t → (o j : ℕ) → instance_ok n s o j ≡ true → is_marked (record_in s t o j) ≡ true → marked_in s t o j ≡ t
unfolding marked_in
same-marked n s c t k o j i m =
    let a = names n s c t o j k.setup i in
    let r : Record = record_in s t o j in
    let is : marked r ≡ r = ap (λ (x : ℕ). record { joined = r.joined; vote = r.vote; mark = x; phase = r.phase; set = r.set; replies = r.replies }) (sym (eqb-true r.mark 1 m)) in
    ap (put_record s t o j) is ∙ put-get n s t (sizes n s c t k.setup).long o j a (record-whole n s c t k o j a)

-- and is on what is committed
marked-done : (n s c : ℕ) (t : List ℕ) → Kept n s c t → (o j : ℕ) → instance_ok n s o j ≡ true → is_marked (record_in s t o j) ≡ true → is_committed (record_in s t o j) ≡ true
marked-done n s c t k o j i m =
    let r : Record = record_in s t o j in
    let h = sound-is n s c o r (record-sound n s c t k.sound o j (names n s c t o j k.setup i)) in
    eq-eqb r.vote.status 4 (h.marked (eqb-true r.mark 1 m))

-- the entries of marks that a table has: a journal that changes nothing and keeps their order
pub record Again (n s c : ℕ) (t : List ℕ) (l : List Instance) : Type 0 where
  pub journal : Journal n s c t (mark_entries l) t
  pub marks : marks_in (length (mark_entries l)) (mark_entries l) ≡ l

module _ (n s c : ℕ) (few : n ≤ 7) (low : s ≤ 64) (t : List ℕ) (k : Kept n s c t) where
  pub again : (l : List Instance) → ((i : Instance) → Memᴰ i l → (instance_ok n s i.0 i.1 ≡ true) × (is_marked (record_in s t i.0 i.1) ≡ true)) → Again n s c t l
  unfolding marks_in
  again [] h = record { journal = none; marks = refl }
  again (i ∷ l) h =
      let e : List ℕ = mark_entry i.0 i.1 in
      let (range, m) = h i (Memᴰ.head refl) in
      let z = again l (λ j x. h j (Memᴰ.tail x)) in
      let one : Journal n s c t e t = subst (Journal n s c t e) (same-marked n s c t k i.0 i.1 range m) (mark-then none i.0 i.1 range (marked-done n s c t k i.0 i.1 range m)) in
      let nothing : Journal n s c t [] t = none in
      let first : marks_in (length e) e ≡ i ∷ [] = marks-mark n s c few low nothing i.0 i.1 range in
      record {
        journal = joined one z.journal;
        marks = marks-join n s c few low one z.journal ∙ ap₂ (λ (p q : List Instance). p ++ q) first z.marks;
      }
