-- An entry that was written is read as it was, whatever follows it; and what a cut leaves of one is a rest. Assumes nothing.
use Prim.Native.Nat.{ℕ, zero, suc, ◌+◌, ◌*◌, ◌≤◌, ◌<◌}
use mathlib.Core.Path.{◌≡◌, refl, sym, ap, ap₂, ◌∙◌}
use mathlib.Core.Bool.{Bool, true, false, not, cond}
use mathlib.Core.List.{List, [], ◌∷◌, ◌++◌, append_assoc}
use native.Mathlib.Omega.{arith}
use lib.ListN.{length, get_or, take, drop, length-append}
use lib.Seq.{take_at, drop_at, length-take-le, get_or-take}
use borrow.Author.Tests.{lt-ltb, ne_eqb, le-ltb}
use Rattle.std.specs.Prelude.{Ok, Err}
use Rattle.numbers.proofs.Fields.{fields_at-fields_bytes}
use Rattle.paper.specs.Instance.{instance_ok}
use Rattle.table.specs.Calls.{part_size}
use Rattle.entries.specs.declared.Fault.{Fault}
use Rattle.entries.specs.declared.Fault.TheVariants as fault
use Rattle.entries.specs.declared.Front.TheVariants as front
use Rattle.entries.specs.Entry.{record_kind, mark_kind, head_widths, entry_head, entry_length, kind_in, owner_in, number_in, part_in, head_bytes, record_entry, mark_entry}
use Rattle.entries.specs.Replay.{entry_ok, front_of, behind}

-- what stands at the front of b is an entry of kind k of o.j, and `more` stands behind it
pub record Reads (b : List ℕ) (k o j : ℕ) (more : List ℕ) : Type 0 where
  pub kind : kind_in b ≡ k
  pub owner : owner_in b ≡ o
  pub number : number_in b ≡ j
  pub rest : behind b ≡ more
  pub long : entry_length k ≤ length b

heads : (k o j : ℕ) (q : List ℕ) → k < 256 → o < 256 → j < 65536 → (kind_in (head_bytes k o j ++ q) ≡ k) × (owner_in (head_bytes k o j ++ q) ≡ o) × (number_in (head_bytes k o j ++ q) ≡ j)
heads k o j q lk lo lj =
    let b : List ℕ = head_bytes k o j ++ q in
    let e : (kind_in b ∷ owner_in b ∷ number_in b ∷ []) ≡ (k ∷ o ∷ j ∷ []) = fields_at-fields_bytes head_widths (k ∷ o ∷ j ∷ []) [] q 0 refl (omega arith, (omega arith, (omega arith, tt))) in
    (ap (λ (l : List ℕ). get_or l 0 0) e, ap (λ (l : List ℕ). get_or l 1 0) e, ap (λ (l : List ℕ). get_or l 2 0) e)

module _ (o j : ℕ) (lo : o < 256) (lj : j < 65536) where
  pub mark-reads : (more : List ℕ) → Reads (mark_entry o j ++ more) mark_kind o j more
  mark-reads more =
      let h = heads mark_kind o j more (omega arith) lo lj in
      let b : List ℕ = mark_entry o j ++ more in
      record {
        kind = h.0;
        owner = h.1;
        number = h.2;
        rest = ap (λ (k : ℕ). drop (entry_length k) b) h.0 ∙ drop_at (mark_entry o j) more entry_head refl;
        long = simp length-append (omega arith);
      }

  module _ (part : List ℕ) (size : length part ≡ part_size) where
    pub record-long : length (record_entry o j part) ≡ entry_length record_kind
    record-long = simp length-append (omega arith)

    pub record-reads : (more : List ℕ) → Reads (record_entry o j part ++ more) record_kind o j more
    record-reads more =
        let b : List ℕ = record_entry o j part ++ more in
        let a : b ≡ head_bytes record_kind o j ++ (part ++ more) = append_assoc (head_bytes record_kind o j) part more in
        let h = heads record_kind o j (part ++ more) (omega arith) lo lj in
        record {
          kind = ap kind_in a ∙ h.0;
          owner = ap owner_in a ∙ h.1;
          number = ap number_in a ∙ h.2;
          rest = ap (λ (k : ℕ). drop (entry_length k) b) (ap kind_in a ∙ h.0) ∙ drop_at (record_entry o j part) more (entry_length record_kind) record-long;
          long = rw (length-append (record_entry o j part) more) (omega (arith, record-long));
        }

    pub record-part : (more : List ℕ) → part_in (record_entry o j part ++ more) ≡ part
    record-part more =
        let a : record_entry o j part ++ more ≡ head_bytes record_kind o j ++ (part ++ more) = append_assoc (head_bytes record_kind o j) part more in
        ap part_in a ∙ ap (take part_size) (drop_at (head_bytes record_kind o j) (part ++ more) entry_head refl) ∙ take_at part more part_size size

-- such an entry is whole, if its instance is in range and 43 is not refused
module _ (n s c : ℕ) (done : ℕ → ℕ → Bool) where
  taken : (z a l i e : Bool) → z ≡ false → a ≡ false → l ≡ false → i ≡ true → e ≡ true
      → cond z (Ok front.Rest) (cond a (Err fault.Kind) (cond l (Ok front.Rest) (cond (not i) (Err fault.Instance) (cond (not e) (Err fault.Unsound) (Ok front.Whole))))) ≡ Ok front.Whole
  taken z a l i e p q r g h = rw (p, q, r, g, h)

  pub whole-front : (b : List ℕ) (k o j : ℕ) (more : List ℕ) → Reads b k o j more → 0 < entry_length k → instance_ok n s o j ≡ true → entry_ok n s c done b ≡ true
      → front_of n s c done b ≡ Ok front.Whole
  unfolding front_of
  whole-front b k o j more r some range ok =
      let size : entry_length (kind_in b) ≡ entry_length k = ap entry_length r.kind in
      let long = r.long in
      taken _ _ _ _ _ (ne_eqb (length b) 0 (λ e. omega arith)) (ne_eqb (entry_length (kind_in b)) 0 (λ e. omega arith)) (le-ltb (length b) (entry_length (kind_in b)) (omega arith))
      (ap₂ (instance_ok n s) r.owner r.number ∙ range) ok

  rested : (z a l i e : Bool) → z ≡ false → a ≡ false → l ≡ true
      → cond z (Ok front.Rest) (cond a (Err fault.Kind) (cond l (Ok front.Rest) (cond (not i) (Err fault.Instance) (cond (not e) (Err fault.Unsound) (Ok front.Whole))))) ≡ Ok front.Rest
  rested z a l i e p q r = rw (p, q, r)

  -- a known kind that is cut short is a rest
  pub short-rest : (e : List ℕ) (p : ℕ) → length e ≡ entry_length (kind_in e) → p < length e → front_of n s c done (take p e) ≡ Ok front.Rest
  unfolding front_of
  short-rest e zero size lt = refl
  short-rest e (suc p) size lt =
      let long : length (take (suc p) e) ≡ suc p = length-take-le (suc p) e (omega arith) in
      let kind : kind_in (take (suc p) e) ≡ kind_in e = ap (λ (x : ℕ). x + 256 * 0) (get_or-take (suc p) e 0 0 (omega arith)) in
      let same : entry_length (kind_in (take (suc p) e)) ≡ entry_length (kind_in e) = ap entry_length kind in
      rested _ _ _ (instance_ok n s (owner_in (take (suc p) e)) (number_in (take (suc p) e))) (entry_ok n s c done (take (suc p) e)) (ne_eqb (length (take (suc p) e)) 0 (λ z. omega arith)) (ne_eqb (entry_length (kind_in (take (suc p) e))) 0 (λ z. omega arith)) (lt-ltb (length (take (suc p) e)) (entry_length (kind_in (take (suc p) e))) (omega arith))

  -- and so is nothing at all
  pub none_rest : front_of n s c done [] ≡ Ok front.Rest
  unfolding front_of
  none_rest = refl

  -- only of some bytes can an entry be bad
  pub bad-some : (b : List ℕ) (f : Fault) → front_of n s c done b ≡ Err f → 0 < length b
  bad-some [] f e = let q = sym none_rest ∙ e in let z : ◌≡◌ {A = ℕ} 0 1 = cc in absurd (omega arith)
  bad-some (x ∷ b) f e = omega arith
