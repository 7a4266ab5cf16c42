-- The demand over journals is not empty: runs from blank tables that are cut inside their entries, at any byte, and go on to commit fast,
-- slowly and by recovery, and to hand out. Assumes nothing.
use Prim.Native.Nat.{ℕ, suc, ◌<◌}
use mathlib.Core.Path.{◌≡◌, refl, sym, ap, ◌∙◌, subst}
use mathlib.Core.Logic.{◌⊎◌, inl, inr, ⊎_elim}
use mathlib.Core.Bool.{Bool, true, false, cond}
use mathlib.Core.List.Memᴰ
use mathlib.Core.List.{List, [], ◌∷◌, ◌++◌, Memᴰ}
use native.Mathlib.Omega.{arith}
use lib.Dec.{eqb}
use lib.ListN.{length, take}
use borrow.Author.Tests.{eqb-true}
use Rattle.paper.specs.Instance.{instance_ok}
use Rattle.paper.specs.Command.{noop}
use Rattle.paper.specs.Vote.{blank}
use Rattle.paper.specs.declared.Command.{Command}
use Rattle.paper.specs.declared.Record.{Record}
use Rattle.table.specs.Table.{blank_table, record_in}
use Rattle.rules.specs.Step.{is_committed}
use Rattle.rules.specs.Order.{instance_of}
use Rattle.closed.proofs.Laws.{tf}
use Rattle.order.specs.Calls.{handed}
use Rattle.safety.specs.Run.{Instance, Setup}
use Rattle.safety.specs.Run as rules
use Rattle.safety.proofs.Witness.{write, read, rewire, deps}
use Rattle.demand.specs.Run as place
use Rattle.demand.specs.Demand.{in_place, Committed}
use Rattle.demand.proofs.Bridge.{begin, bridge, blank-tie}
use Rattle.demand.proofs.Demand.{record_is}
use Rattle.demand.proofs.Witness.{three-one, five-one, seven-one, shown-bytes, larger-bytes}
use Rattle.demand.proofs.Witness as bytes
use Rattle.disk.specs.Run.{saved_table, saved_marks, State, Start, Run}
use Rattle.disk.specs.Demand.{journalled}
use Rattle.disk.proofs.Forth.{torn, Inside, first_mark, tears, mark-range, mark-done, Even, lifted}

-- a state of a run in which P holds; for each of these numbers a cut came in the run where so many bytes of an entry stood on disk, the
-- replay dropped them, and the run went on
pub record Reached (n s : ℕ) (cuts : List ℕ) (P : State → Type 0) : Type 0 where
  pub first : State
  pub start : Start n s first
  pub state : State
  pub run : Run n s first state
  pub inside : (b : ℕ) → Memᴰ b cuts → Memᴰ b (torn run)
  pub holds : P state

module _ (n s : ℕ) (setup : Setup n s) where
  -- a blank record stands everywhere in a blank table
  blank-there : (c o m : ℕ) → instance_ok n s o m ≡ true → record_in s (blank_table n s c) o m ≡ blank
  blank-there c o m i = sym (record_is n s setup (place.begun (blank_table n s) []) (rules.begun (λ c o j. blank) []) (blank-tie n s setup) c o m i)

  -- so nothing in it is committed
  none-committed : (c o m : ℕ) → instance_ok n s o m ≡ true → is_committed (record_in s (blank_table n s c) o m) ≡ true → ⊥
  none-committed c o m i h = tf (is_committed (record_in s (blank_table n s c) o m)) h (ap is_committed (blank-there c o m i))

  module _ (i j : ℕ) where
    -- a copy that changed is one of them
    one_of : (P : ℕ → place.Copy → Type 0) (y : place.State) (c : ℕ) (k : place.Copy) → P c k → ((p : ℕ) → P p (y.copies p)) → (p : ℕ) → P p ((place.changed y c k).copies p)
    one_of P y c k here others p = go (eqb p c) refl
      where
        go : (b : Bool) → eqb p c ≡ b → P p (cond b k (y.copies p))
        go true e = subst (λ (q : ℕ). P q k) (sym (eqb-true p c e)) here
        go false e = others p

    -- a run tears a record's entry, or nothing is saved in it
    abbrev Unsaved : ℕ → place.Copy → Type 0
    Unsaved c k = k.disk ≡ blank_table n s c

    first-record : {y₀ y : place.State} → place.Start n s y₀ → (r : place.Run n s y₀ y) → Memᴰ i (tears i j r) ⊎ ((c : ℕ) → Unsaved c (y.copies c))
    first-record place.blanks place.stay = inr (λ c. refl)
    first-record st (place.further r (place.event c call out o m w l p e a)) = inl (Memᴰ.head refl)
    first-record st (place.further r (place.leave c b l m)) = first-record st r
    first-record st (place.further {y = y} r (place.hand_out c list m l e a)) =
        let k : place.Copy = place.handing (y.copies c) (handed n s c (y.copies c).lent list) m in
        ⊎_elim (λ (h : Memᴰ i (tears i j r)). inl (Memᴰ.append_right (first_mark j (take m (handed n s c (y.copies c).lent list).list)) h))
        (λ (h : (p : ℕ) → Unsaved p (y.copies p)). inr (one_of Unsaved y c k (h c) h)) (first-record st r)
    first-record st (place.further {y = y} r (place.mark c code rest l e)) =
        let z = begin n s setup st in
        let b = bridge n s setup z.first z.tie r in
        ⊎_elim (λ (h : Memᴰ i (tears i j r)). inl h)
        (λ (h : (p : ℕ) → Unsaved p (y.copies p)).
        absurd (none-committed c (instance_of code).0 (instance_of code).1 (mark-range n s setup c l y b.later b.tie code rest e)
        (ap (λ (t : List ℕ). is_committed (record_in s t (instance_of code).0 (instance_of code).1)) (sym (h c)) ∙ mark-done n s setup c l y b.later b.tie code rest e))) (first-record st r)
    first-record st (place.further r (place.question c o m l)) = first-record st r
    first-record st (place.further {y = y} r (place.cut c l)) =
        ⊎_elim (λ (h : Memᴰ i (tears i j r)). inl h)
        (λ (h : (p : ℕ) → Unsaved p (y.copies p)). inr (one_of Unsaved y c (place.restarted (y.copies c)) (h c) h)) (first-record st r)

    -- a run tears a mark's entry, or nothing is listed or marked in it
    abbrev Unmarked : ℕ → place.Copy → Type 0
    Unmarked c k = (k.listed ≡ []) × (k.marks ≡ [])

    -- where the copy that changed has nothing new listed or marked
    still-none : (y : place.State) (c : ℕ) (k : place.Copy) (l m : List ℕ) → k.listed ≡ [] → k.marks ≡ (y.copies c).marks → Memᴰ j l ⊎ ((p : ℕ) → Unmarked p (y.copies p))
        → Memᴰ j (m ++ l) ⊎ ((p : ℕ) → Unmarked p ((place.changed y c k).copies p))
    still-none y c k l m e f =
        ⊎_elim (λ (h : Memᴰ j l). inl (Memᴰ.append_right m h)) (λ (h : (p : ℕ) → Unmarked p (y.copies p)). inr (one_of Unmarked y c k (e, f ∙ (h c).1) h))

    first-mark : {y₀ y : place.State} → place.Start n s y₀ → (r : place.Run n s y₀ y) → Memᴰ j (tears i j r) ⊎ ((c : ℕ) → Unmarked c (y.copies c))
    first-mark place.blanks place.stay = inr (λ c. (refl, refl))
    first-mark st (place.further {y = y} r (place.event c call out o m w l p e a)) =
        still-none y c (place.acted n s c (y.copies c) (place.outcome n s c (y.copies c).lent out call) o m w) (tears i j r) (i ∷ []) refl refl (first-mark st r)
    first-mark st (place.further r (place.leave c b l m)) = first-mark st r
    first-mark st (place.further {y = y} r (place.hand_out c list m l e a)) =
        listing y c (place.handing (y.copies c) (handed n s c (y.copies c).lent list) m) (tears i j r) (take m (handed n s c (y.copies c).lent list).list) refl refl (first-mark st r)
      where
        listing : (y : place.State) (c : ℕ) (k : place.Copy) (t l : List ℕ) → k.listed ≡ l → k.marks ≡ (y.copies c).marks → Memᴰ j t ⊎ ((p : ℕ) → Unmarked p (y.copies p))
            → Memᴰ j (first_mark j l ++ t) ⊎ ((p : ℕ) → Unmarked p ((place.changed y c k).copies p))
        listing y c k t [] e f h = still-none y c k t [] e f h
        listing y c k t (code ∷ rest) e f h = inl (Memᴰ.head refl)
    first-mark st (place.further {y = y} r (place.mark c code rest l e)) =
        ⊎_elim (λ (h : Memᴰ j (tears i j r)). inl h)
        (λ (h : (p : ℕ) → Unmarked p (y.copies p)). let z : ◌≡◌ {A = ℕ} 0 (suc (length rest)) = ap length (sym (h c).0 ∙ e) in absurd (omega arith)) (first-mark st r)
    first-mark st (place.further r (place.question c o m l)) = first-mark st r
    first-mark st (place.further {y = y} r (place.cut c l)) = still-none y c (place.restarted (y.copies c)) (tears i j r) [] refl refl (first-mark st r)

    -- a run of the other host, with journals
    module _ (a : Inside i j) where
      lift : (Q : place.State → Type 0) (cuts : List ℕ) (P : State → Type 0)
          → ((y₀ y : place.State) → place.Start n s y₀ → (r : place.Run n s y₀ y) → Q y → (b : ℕ) → Memᴰ b cuts → Memᴰ b (tears i j r))
          → ((x : State) (y : place.State) → ((c : ℕ) → c < n → Even n s setup c (x.copies c) (y.copies c)) → Q y → P x) → bytes.Reached n s Q → Reached n s cuts P
      lift Q cuts P cut holds r =
          let w = lifted n s setup i j a r.start r.run in
          record {
            first = w.first;
            start = w.start;
            state = w.state;
            run = w.run;
            inside = λ b h. subst (Memᴰ b) (sym w.tears) (cut r.first r.state r.start r.run r.holds b h);
            holds = holds w.state r.state w.evens r.holds;
          }

      -- a commit there is one here
      here : (x : State) (y : place.State) → ((c : ℕ) → c < n → Even n s setup c (x.copies c) (y.copies c)) → (c o m : ℕ) (k : Command) (d : List ℕ)
          → Committed n s (in_place n s) y c o m k d → Committed n s (journalled n s) x c o m k d
      here x y evens c o m k d h =
          let e = (evens c h.copy).saved in
          record { copy = h.copy; range = h.range; status = rw e h.status; command = rw e h.command; deps = rw e h.deps }

      -- where something else than a blank record is saved, a record's entry was cut inside
      cut_record : {y₀ y : place.State} → place.Start n s y₀ → (r : place.Run n s y₀ y) → (c o m : ℕ) (P : Record → Type 0) → instance_ok n s o m ≡ true → (P blank → ⊥)
          → P (record_in s (y.copies c).disk o m) → Memᴰ i (tears i j r)
      cut_record {y = y} st r c o m P range no-blank h =
          ⊎_elim (λ (g : Memᴰ i (tears i j r)). g)
          (λ (g : (p : ℕ) → Unsaved p (y.copies p)). absurd (no-blank (subst P (ap (λ (t : List ℕ). record_in s t o m) (g c) ∙ blank-there c o m range) h))) (first-record st r)

      cut-commit : {y₀ y : place.State} → place.Start n s y₀ → (r : place.Run n s y₀ y) → (c o m : ℕ) (k : Command) (d : List ℕ) → Committed n s (in_place n s) y c o m k d
          → Memᴰ i (tears i j r)
      cut-commit st r c o m k d h = cut_record st r c o m (λ v. is_committed v ≡ true) h.range (λ e. tf (is_committed blank) e refl) h.status

      -- where marks are saved, a mark's entry was
      cut-mark : {y₀ y : place.State} → place.Start n s y₀ → (r : place.Run n s y₀ y) → (c : ℕ) (e : Instance) (l : List Instance) → (y.copies c).marks ≡ e ∷ l → Memᴰ j (tears i j r)
      cut-mark {y = y} st r c e l h =
          ⊎_elim (λ (g : Memᴰ j (tears i j r)). g)
          (λ (g : (p : ℕ) → Unmarked p (y.copies p)). let z : ◌≡◌ {A = ℕ} 0 (suc (length l)) = ap length (sym (g c).1 ∙ h) in absurd (omega arith)) (first-mark st r)

      -- one number alone
      only : (e b : ℕ) (l : List ℕ) → Memᴰ e l → Memᴰ b (e ∷ []) → Memᴰ b l
      only e b l h m = subst (λ (c : ℕ). Memᴰ c l) (sym (Memᴰ.eq_of_singleton m)) h

      -- a commit, and what is held of an instance
      pub commits : (c o m : ℕ) (k : Command) (d : List ℕ) → bytes.Reached n s (λ y. Committed n s (in_place n s) y c o m k d) → Reached n s (i ∷ []) (λ x. Committed n s (journalled n s) x c o m k d)
      commits c o m k d r =
          lift _ (i ∷ []) _ (λ y₀ y st q h b g. only i b (tears i j q) (cut-commit st q c o m k d h) g) (λ x y evens h. here x y evens c o m k d h) r

      pub holds-there : (c o m : ℕ) (P : Record → Type 0) → c < n → instance_ok n s o m ≡ true → (P blank → ⊥) → bytes.Reached n s (λ y. P (record_in s (y.copies c).disk o m))
          → Reached n s (i ∷ []) (λ x. P (record_in s (saved_table n s c (x.copies c)) o m))
      holds-there c o m P l range no-blank r =
          lift _ (i ∷ []) _ (λ y₀ y st q h b g. only i b (tears i j q) (cut_record st q c o m P range no-blank h) g)
          (λ x y evens h. subst (λ (t : List ℕ). P (record_in s t o m)) (sym (evens c l).saved) h) r

-- cut where i bytes stand of a record's entry, and j of a mark's
pub record Shown (i j : ℕ) : Type 0 where
  -- a fast commit
  pub fast : Reached 3 1 (i ∷ []) (λ x. Committed 3 1 (journalled 3 1) x 0 0 1 (write 1) (deps 0 0 0))
  -- a commit through Accept
  pub slow : Reached 3 1 (i ∷ []) (λ x. Committed 3 1 (journalled 3 1) x 0 0 1 (write 1) (deps 0 1 0))
  -- a no-op by recovery
  pub lost : Reached 3 1 (i ∷ []) (λ x. Committed 3 1 (journalled 3 1) x 1 0 1 noop (deps 0 0 0))
  -- a command by recovery
  pub saved : Reached 3 1 (i ∷ []) (λ x. Committed 3 1 (journalled 3 1) x 2 0 1 (write 1) (deps 0 0 0))
  -- two that interfere, handed out at two copies
  pub out : Reached 3 1 (i ∷ j ∷ []) (λ x. Committed 3 1 (journalled 3 1) x 0 0 1 (write 1) (deps 0 1 0) × Committed 3 1 (journalled 3 1) x 1 1 1 (write 2) (deps 0 0 0)
      × (saved_marks (x.copies 0) ≡ (1, 1) ∷ (0, 1) ∷ []) × (saved_marks (x.copies 1) ≡ (1, 1) ∷ (0, 1) ∷ []))
  -- two reads of one object, each handed out where it was asked for: neither waits for the other
  pub reads : Reached 3 1 (i ∷ j ∷ []) (λ x. Committed 3 1 (journalled 3 1) x 0 0 1 (read 1) (deps 0 0 0) × Committed 3 1 (journalled 3 1) x 1 1 1 (read 2) (deps 0 0 0)
      × (saved_marks (x.copies 0) ≡ (0, 1) ∷ []) × (saved_marks (x.copies 1) ≡ (1, 1) ∷ []))
  -- a copy that works by document 01 and then by 4/12, beside others that work by 4/12: one read covers the other
  pub mixed : Reached 3 1 (i ∷ j ∷ []) (λ x. Committed 3 1 (journalled 3 1) x 0 0 1 (read 1) (deps 0 1 0) × Committed 3 1 (journalled 3 1) x 1 1 1 (read 2) (deps 0 0 0)
      × (saved_marks (x.copies 0) ≡ (1, 1) ∷ (0, 1) ∷ []) × (saved_marks (x.copies 1) ≡ (1, 1) ∷ (0, 1) ∷ []))
  -- a rewire, which covers the write of each of its objects
  pub rewires : Reached 3 1 (i ∷ j ∷ []) (λ x. Committed 3 1 (journalled 3 1) x 2 2 1 (rewire 3) (deps 1 1 0) × (saved_marks (x.copies 2) ≡ (0, 1) ∷ (1, 1) ∷ (2, 1) ∷ []))

-- a commit, and marks saved by that copy
one : (i j c o n : ℕ) → c < 3 → Inside i j → {Q : place.State → Type 0} {k : Command} {d : List ℕ} {m : Instance} {ms : List Instance}
    → ((y : place.State) → Q y → Committed 3 1 (in_place 3 1) y c o n k d × ((y.copies c).marks ≡ m ∷ ms)) → bytes.Reached 3 1 Q
    → Reached 3 1 (i ∷ j ∷ []) (λ x. Committed 3 1 (journalled 3 1) x c o n k d × (saved_marks (x.copies c) ≡ m ∷ ms))
one i j c o n l a {Q} {k} {d} {m} {ms} of r =
    lift 3 1 three-one i j a Q (i ∷ j ∷ []) _
    (λ y₀ y st q h b g.
    let z = of y h in
    ⊎_elim (λ (f : b ≡ i). subst (λ (p : ℕ). Memᴰ p (tears i j q)) (sym f) (cut-commit 3 1 three-one i j a st q c o n k d z.0))
    (λ (f : Memᴰ b (j ∷ [])). only 3 1 three-one i j a j b (tears i j q) (cut-mark 3 1 three-one i j a st q c m ms z.1) f) (Memᴰ.cases_cons g))
    (λ x y evens h. let z = of y h in (here 3 1 three-one i j a x y evens c o n k d z.0, (evens c l).marks ∙ z.1)) r

-- 0.1 and 1.1 committed by their owners, and marks saved there
pair : (i j : ℕ) → Inside i j → {Q : place.State → Type 0} {k l : Command} {d e : List ℕ} {m : Instance} {ms ns : List Instance}
    → ((y : place.State) → Q y → Committed 3 1 (in_place 3 1) y 0 0 1 k d × Committed 3 1 (in_place 3 1) y 1 1 1 l e × ((y.copies 0).marks ≡ m ∷ ms) × ((y.copies 1).marks ≡ ns))
    → bytes.Reached 3 1 Q
    → Reached 3 1 (i ∷ j ∷ []) (λ x. Committed 3 1 (journalled 3 1) x 0 0 1 k d × Committed 3 1 (journalled 3 1) x 1 1 1 l e × (saved_marks (x.copies 0) ≡ m ∷ ms) × (saved_marks (x.copies 1) ≡ ns))
pair i j a {Q} {k} {l} {d} {e} {m} {ms} {ns} of r =
    lift 3 1 three-one i j a Q (i ∷ j ∷ []) _
    (λ y₀ y st q h b g.
    let z = of y h in
    ⊎_elim (λ (f : b ≡ i). subst (λ (c : ℕ). Memᴰ c (tears i j q)) (sym f) (cut-commit 3 1 three-one i j a st q 0 0 1 k d z.0))
    (λ (f : Memᴰ b (j ∷ [])). only 3 1 three-one i j a j b (tears i j q) (cut-mark 3 1 three-one i j a st q 0 m ms z.2) f) (Memᴰ.cases_cons g))
    (λ x y evens h.
    let z = of y h in
    (here 3 1 three-one i j a x y evens 0 0 1 k d z.0, here 3 1 three-one i j a x y evens 1 1 1 l e z.1, (evens 0 (omega arith)).marks ∙ z.2, (evens 1 (omega arith)).marks ∙ z.3)) r

-- at any byte inside of them
pub shown-journals : (i j : ℕ) → Inside i j → Shown i j
shown-journals i j a = let r = shown-bytes in record {
  fast = commits 3 1 three-one i j a 0 0 1 (write 1) (deps 0 0 0) r.fast;
  slow = commits 3 1 three-one i j a 0 0 1 (write 1) (deps 0 1 0) r.slow;
  lost = commits 3 1 three-one i j a 1 0 1 noop (deps 0 0 0) r.lost;
  saved = commits 3 1 three-one i j a 2 0 1 (write 1) (deps 0 0 0) r.saved;
  out = pair i j a (λ y h. h) r.out;
  reads = pair i j a (λ y h. (h.0, h.1, h.4, h.5)) r.reads;
  mixed = pair i j a (λ y h. h) r.mixed;
  rewires = one i j 2 2 1 (omega arith) a (λ y h. (h.0, h.3)) r.rewires;
}

-- of five and of seven copies, each beside the moment before, when it is not yet so
pub record Larger (i : ℕ) : Type 0 where
  pub five-waits : Reached 5 1 (i ∷ []) (λ x. (record_in 1 (saved_table 5 1 0 (x.copies 0)) 0 1).vote.status ≡ 2)
  pub five-fast : Reached 5 1 (i ∷ []) (λ x. Committed 5 1 (journalled 5 1) x 0 0 1 (write 1) (deps 0 0 0))
  pub five-slow : Reached 5 1 (i ∷ []) (λ x. Committed 5 1 (journalled 5 1) x 0 0 1 (write 1) (deps 0 1 0))
  pub five-perhaps : Reached 5 1 (i ∷ []) (λ x. Committed 5 1 (journalled 5 1) x 3 0 1 (write 1) (deps 0 0 0))
  pub five-asks : Reached 5 1 (i ∷ []) (λ x. (record_in 1 (saved_table 5 1 3 (x.copies 3)) 0 1).phase ≡ 2)
  pub five-afresh : Reached 5 1 (i ∷ []) (λ x. Committed 5 1 (journalled 5 1) x 3 0 1 (write 1) (deps 0 0 0))
  pub seven-waits : Reached 7 1 (i ∷ []) (λ x. (record_in 1 (saved_table 7 1 0 (x.copies 0)) 0 1).vote.status ≡ 2)
  pub seven-fast : Reached 7 1 (i ∷ []) (λ x. Committed 7 1 (journalled 7 1) x 0 0 1 (write 1) (deps 0 0 0))
  pub seven-two : Reached 7 1 (i ∷ []) (λ x. (record_in 1 (saved_table 7 1 0 (x.copies 0)) 0 1).vote.status ≡ 2)
  pub seven-slow : Reached 7 1 (i ∷ []) (λ x. Committed 7 1 (journalled 7 1) x 0 0 1 (write 1) (deps 0 1 0))
  pub seven-perhaps : Reached 7 1 (i ∷ []) (λ x. Committed 7 1 (journalled 7 1) x 4 0 1 (write 1) (deps 0 0 0))
  pub seven-asks : Reached 7 1 (i ∷ []) (λ x. (record_in 1 (saved_table 7 1 4 (x.copies 4)) 0 1).phase ≡ 2)
  pub seven-afresh : Reached 7 1 (i ∷ []) (λ x. Committed 7 1 (journalled 7 1) x 4 0 1 (write 1) (deps 0 0 0))

-- a blank record has another status and phase
not-two : ◌≡◌ {A = ℕ} 0 2 → ⊥
not-two e = omega arith

pub larger-journals : (i j : ℕ) → Inside i j → Larger i
unfolding instance_ok
larger-journals i j a = let r = larger-bytes in record {
  five-waits = holds-there 5 1 five-one i j a 0 0 1 (λ v. v.vote.status ≡ 2) (omega arith) refl not-two r.five-waits;
  five-fast = commits 5 1 five-one i j a 0 0 1 (write 1) (deps 0 0 0) r.five-fast;
  five-slow = commits 5 1 five-one i j a 0 0 1 (write 1) (deps 0 1 0) r.five-slow;
  five-perhaps = commits 5 1 five-one i j a 3 0 1 (write 1) (deps 0 0 0) r.five-perhaps;
  five-asks = holds-there 5 1 five-one i j a 3 0 1 (λ v. v.phase ≡ 2) (omega arith) refl not-two r.five-asks;
  five-afresh = commits 5 1 five-one i j a 3 0 1 (write 1) (deps 0 0 0) r.five-afresh;
  seven-waits = holds-there 7 1 seven-one i j a 0 0 1 (λ v. v.vote.status ≡ 2) (omega arith) refl not-two r.seven-waits;
  seven-fast = commits 7 1 seven-one i j a 0 0 1 (write 1) (deps 0 0 0) r.seven-fast;
  seven-two = holds-there 7 1 seven-one i j a 0 0 1 (λ v. v.vote.status ≡ 2) (omega arith) refl not-two r.seven-two;
  seven-slow = commits 7 1 seven-one i j a 0 0 1 (write 1) (deps 0 1 0) r.seven-slow;
  seven-perhaps = commits 7 1 seven-one i j a 4 0 1 (write 1) (deps 0 0 0) r.seven-perhaps;
  seven-asks = holds-there 7 1 seven-one i j a 4 0 1 (λ v. v.phase ≡ 2) (omega arith) refl not-two r.seven-asks;
  seven-afresh = commits 7 1 seven-one i j a 4 0 1 (write 1) (deps 0 0 0) r.seven-afresh;
}
