-- The bytes that a run is to write are those that the calls write: none of them refuses. Assumes nothing.
use Rattle.std.specs.Prelude.{Option, Some, None, Ok}
use Prim.Native.Nat.{ℕ, zero, suc, ◌≤◌, ◌<◌}
use mathlib.Core.Path.{◌≡◌, refl, sym, ap, ap₂, ◌∙◌, subst}
use mathlib.Core.Logic.{⊎_elim}
use mathlib.Core.Bool.{true}
use mathlib.Core.List.Memᴰ
use mathlib.Core.List.{List, [], Memᴰ}
use native.Mathlib.Omega.{arith}
use lib.ListN.{length}
use borrow.Author.Tests.{le-ltb}
use Rattle.paper.specs.Instance.{instance_ok}
use Rattle.table.specs.Table.{record_in, Kept}
use Rattle.table.specs.Calls.{part_of}
use Rattle.table.proofs.Laws.{names}
use Rattle.table.proofs.Saved.{part-of-sound}
use Rattle.rules.specs.declared.Instance.{Instance}
use Rattle.rules.specs.Step.{is_committed}
use Rattle.rules.specs.Order.{instance, is_marked, candidate, marked, code_of, instance_of, next_out, hand_out}
use Rattle.rules.proofs.Codes.{code-owner, code-number}
use Rattle.seen.specs.Records.{records_in}
use Rattle.closed.proofs.Mark.{Found, candidate-committed, next_out-found}
use Rattle.gate.specs.Events.{event_of}
use Rattle.order.specs.Calls.{marked_in, handed_table, handed_codes, handed}
use Rattle.entries.specs.Entry.{record_kind, mark_kind, entry_length, record_entry, mark_entry}
use Rattle.entries.specs.Writing.{gate_of, record_open, mark_open, record_entered, mark_entered}
use Rattle.safety.specs.Run.{Setup}
use Rattle.demand.specs.Run.{outcome}
use Rattle.demand.proofs.Handing.{mark-kept, mark-here, next-table, next-codes, left, listed-pending}
use Rattle.demand.proofs.Bridge.{here-is}
use Rattle.disk.specs.Run.{Copy, State, acted, event}
use Rattle.disk.specs.Demand.{wrote, EventWrites, MarksWrite}
use Rattle.disk.proofs.Chain.{ranged}
use Rattle.disk.proofs.Beside.{Beside, started, run-after, move-after, rules-of, end_known}

module _ (n s c : ℕ) (t : List ℕ) (k : Kept n s c t) (o j : ℕ) (i : instance_ok n s o j ≡ true) (room : List ℕ) where
  -- a sound table, an instance of it and room enough
  open-gate : (size : ℕ) → size ≤ length room → gate_of n s c t (length room) size o j ≡ Ok tt
  unfolding gate_of
  open-gate size le = rw (k.setup, le-ltb (length room) size le, i)

  record-writes : entry_length record_kind ≤ length room → record_entered n s c t room o j ≡ wrote room (record_entry o j (part_of n s c t o j))
  unfolding record_entered record_open
  record-writes le = rw (open-gate (entry_length record_kind) le, part-of-sound n s c t k o j i)

  mark-writes : is_committed (record_in s t o j) ≡ true → is_marked (record_in s t o j) ≡ true → entry_length mark_kind ≤ length room
      → mark_entered n s c t room o j ≡ wrote room (mark_entry o j)
  unfolding mark_entered mark_open
  mark-writes done marked le = rw (open-gate (entry_length mark_kind) le, done, marked)

-- an instance that a table has as handed out
pub record Out (n s : ℕ) (u : List ℕ) (code : ℕ) : Type 0 where
  pub range : instance_ok n s (instance_of code).0 (instance_of code).1 ≡ true
  pub done : is_committed (record_in s u (instance_of code).0 (instance_of code).1) ≡ true
  pub marked : is_marked (record_in s u (instance_of code).0 (instance_of code).1) ≡ true

none-listed : (room n s : ℕ) (t : List ℕ) → next_out n s (records_in s t) ≡ None → handed_codes (suc room) n s t ≡ []
unfolding handed_codes hand_out
none-listed room n s t e = rw e

none_at_all : (n s : ℕ) (t : List ℕ) → handed_codes zero n s t ≡ []
unfolding handed_codes hand_out
none_at_all n s t = refl

-- the first code of a hand-out
module _ (n s c : ℕ) (t : List ℕ) (k : Kept n s c t) (o j : ℕ) (f : Found n s (candidate n s (records_in s t)) (Some (instance o j))) where
  first_out : (room code : ℕ) → code ≡ code_of o j → Out n s (handed_table room n s (marked_in s t o j)) code
  first_out room code e =
      let u : List ℕ = marked_in s t o j in
      let small : j < 256 = let a = names n s c t o j k.setup f.0 in omega (arith, a.last, a.numbers) in
      let here : record_in s u o j ≡ marked (record_in s t o j) = mark-here n s c t k o j f in
      let l = left room n s c u (mark-kept n s c t k o j f) in
      let r : record_in s (handed_table room n s u) o j ≡ marked (record_in s t o j) = l.frame o j f.0 (ap is_marked here) ∙ here in
      let owner : (instance_of code).0 ≡ o = ap (λ (m : ℕ). (instance_of m).0) e ∙ code-owner o j small in
      let number : (instance_of code).1 ≡ j = ap (λ (m : ℕ). (instance_of m).1) e ∙ code-number o j small in
      record {
        range = ap₂ (instance_ok n s) owner number ∙ f.0;
        done = ap₂ (λ (p i : ℕ). is_committed (record_in s (handed_table room n s u) p i)) owner number ∙ ap is_committed r ∙ candidate-committed n s (records_in s t) o j f.0 f.1;
        marked = ap₂ (λ (p i : ℕ). is_marked (record_in s (handed_table room n s u) p i)) owner number ∙ ap is_marked r;
      }

-- what a hand-out lists is marked in its table
listed-out : (room n s c : ℕ) (t : List ℕ) → Kept n s c t → (code : ℕ) → Memᴰ code (handed_codes room n s t) → Out n s (handed_table room n s t) code
listed-out zero n s c t k code m = absurd (Memᴰ.not-nil (subst (Memᴰ code) (none_at_all n s t) m))
listed-out (suc room) n s c t k code m =
    go (next_out n s (records_in s t)) refl (next_out-found n s (records_in s t)) (λ u h x. listed-out room n s c u h code x)
  where
    go : (f : Option Instance) → next_out n s (records_in s t) ≡ f → Found n s (candidate n s (records_in s t)) f
        → ((u : List ℕ) → Kept n s c u → Memᴰ code (handed_codes room n s u) → Out n s (handed_table room n s u) code) → Out n s (handed_table (suc room) n s t) code
    go None e f more = absurd (Memᴰ.not-nil (subst (Memᴰ code) (none-listed room n s t e) m))
    go (Some i) e f more =
        subst (λ (u : List ℕ). Out n s u code) (sym (next-table n s c t k i.owner i.number f room e))
        (⊎_elim (λ (z : code ≡ code_of i.owner i.number). first_out n s c t k i.owner i.number f room code z)
        (λ (z : Memᴰ code (handed_codes room n s (marked_in s t i.owner i.number))). more (marked_in s t i.owner i.number) (mark-kept n s c t k i.owner i.number f) z)
        (Memᴰ.cases_cons (subst (Memᴰ code) (next-codes n s c t k i.owner i.number f room e) m)))

module _ (n s : ℕ) (setup : Setup n s) where
  -- the table in memory is sound
  lent-known : (x : State) (w : Beside n s setup x) (c : ℕ) (l : c < n) → Kept n s c (x.copies c).lent
  lent-known x w c l = subst (Kept n s c) (w.sides c l).lent (end_known n s setup x w c l).lent

  pub event-writes : EventWrites n s
  event-writes x₀ x st r c call out o j z l p e a room le =
      let w = (run-after n s setup (started n s setup st) r).beside in
      let d = w.sides c l in
      let y = rules-of n s setup w in
      let t : List ℕ = (outcome n s c (x.copies c).lent out call).table in
      let b : (outcome n s c d.end.lent out call).answer ≡ event_of o j z = ap (λ (u : List ℕ). (outcome n s c u out call).answer) d.lent ∙ a in
      let i = ranged n s setup c l x.history w.state y.rules y.tie refl w.sent d.chain call out o j z p d.none b in
      let m = (move-after n s setup w (event c call out o j z l p e a)).beside in
      let h : Kept n s c t = subst (λ (k : Copy). Kept n s c k.lent) (here-is n s setup x.copies c (acted n s c (x.copies c) (outcome n s c (x.copies c).lent out call) o j z)) (lent-known _ m c l) in
      record-writes n s c t h o j i room le

  pub marks-write : MarksWrite n s
  marks-write x₀ x st r c list i l e a code m room le =
      let w = (run-after n s setup (started n s setup st) r).beside in
      let h : Kept n s c (x.copies c).lent = lent-known x w c l in
      let u = listed-pending n s c (x.copies c).lent list h i a in
      let z : Out n s (handed n s c (x.copies c).lent list).table code = subst (λ (v : List ℕ). Out n s v code) (sym u.table) (listed-out u.room n s c (x.copies c).lent h code (subst (Memᴰ code) u.codes m)) in
      let k : Kept n s c (handed n s c (x.copies c).lent list).table = subst (Kept n s c) (sym u.table) (left u.room n s c (x.copies c).lent h).kept in
      mark-writes n s c (handed n s c (x.copies c).lent list).table k (instance_of code).0 (instance_of code).1 z.range room z.done z.marked le
