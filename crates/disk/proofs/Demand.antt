-- Demand 3 over journals: what it says of saved tables, marks and history is said of the run of hosts that save in place beside it.
-- Assumes nothing.
use Prim.Native.Nat.{ℕ, ◌<◌}
use mathlib.Core.Path.{◌≡◌, refl, sym, ap, ◌∙◌, subst}
use mathlib.Core.Logic.{inl, inr, ⊎_elim}
use mathlib.Core.Bool.{Bool, true, false}
use mathlib.Core.List.{List, [], ◌++◌, Memᴰ}
use native.Mathlib.Omega.{arith}
use lib.Dec.{ltb}
use lib.ListN.{length}
use borrow.Author.Tests.{ltb-true, ltb-false}
use Rattle.std.specs.Prelude.{Result, Ok, Err}
use Rattle.paper.specs.declared.Refusal.{Refusal}
use Rattle.paper.specs.Command.{is_noop}
use Rattle.paper.specs.declared.Command.{Command}
use Rattle.rules.specs.Order.{is_marked}
use Rattle.table.specs.Table.{blank_table, record_in}
use Rattle.table.specs.Calls.{judged}
use Rattle.gate.specs.Events.{answer_number}
use Rattle.entries.specs.Replay.{Replayed, replayed, replayed_open, replayed_at, replayed_through, end_of, puts}
use Rattle.entries.proofs.Journal.{replays}
use Rattle.safety.specs.Run.{Instance, requested, Setup}
use Rattle.safety.specs.Demand.{Before}
use Rattle.demand.specs.Demand.{in_place, Committed, Unrefused, Lasting, Marking, Demand}
use Rattle.demand.specs.Run.{receive, outcome}
use Rattle.demand.specs.Run as place
use Rattle.demand.proofs.Demand.{demand-3}
use Rattle.disk.specs.Run.{Copy, safe_part, saved_table, marks_in, saved_marks, State, Start, Run}
use Rattle.disk.specs.Demand.{journalled, InMemory, Restarts}
use Rattle.disk.proofs.Chain.{Ran}
use Rattle.disk.proofs.Beside.{Beside, started, run-after, run_on, judged-base, up, memory, all-written, cut-replays, cut-safe}

-- nothing replayed is nothing changed, whatever the table
none-replayed : (n s c : ℕ) (t : List ℕ) → (replayed n s c t []).table ≡ t
unfolding replayed replayed_open end_of puts
none-replayed n s c t = go (judged n s c t)
  where
    go : (j : Result Unit Refusal) → (replayed_through j t (replayed_at (Ok 0) s t [])).table ≡ t
    go (Ok x) = refl
    go (Err r) = refl

none-marked : marks_in 0 [] ≡ []
unfolding marks_in
none-marked = refl

module _ (n s : ℕ) (setup : Setup n s) where
  module _ {x : State} (w : Beside n s setup x) where
    -- the saved table is the same at both
    saved-there : (c : ℕ) → saved_table n s c (x.copies c) ≡ (w.state.copies c).disk
    saved-there c = go (ltb c n) refl
      where
        go : (b : Bool) → ltb c n ≡ b → saved_table n s c (x.copies c) ≡ (w.state.copies c).disk
        go true e =
            let l = ltb-true c n e in
            ap (λ (r : Replayed). r.table) (replays n s c (x.copies c).base (safe_part (x.copies c)) (w.state.copies c).disk (judged-base n s setup x w c l) (w.sides c l).journal)
        go false e =
            let f = w.far c (λ l. omega (arith, ltb-false c n e)) in
            ap (λ (k : Copy). saved_table n s c k) f.here ∙ none-replayed n s c (blank_table n s c) ∙ sym (ap (λ (k : place.Copy). k.disk) f.there)

    -- and so are the saved marks
    marks-there : (c : ℕ) → saved_marks (x.copies c) ≡ (w.state.copies c).marks
    marks-there c = go (ltb c n) refl
      where
        go : (b : Bool) → ltb c n ≡ b → saved_marks (x.copies c) ≡ (w.state.copies c).marks
        go true e = (w.sides c (ltb-true c n e)).marks
        go false e =
            let f = w.far c (λ l. omega (arith, ltb-false c n e)) in
            ap saved_marks f.here ∙ none-marked ∙ sym (ap (λ (k : place.Copy). k.marks) f.there)

    -- a commit here is one there
    there : {c o j : ℕ} {k : Command} {d : List ℕ} → Committed n s (journalled n s) x c o j k d → Committed n s (in_place n s) w.state c o j k d
    there {c = c} h =
        let e = sym (saved-there c) in
        record { copy = h.copy; range = h.range; status = rw e h.status; command = rw e h.command; deps = rw e h.deps }

    here : {c o j : ℕ} {k : Command} {d : List ℕ} → Committed n s (in_place n s) w.state c o j k d → Committed n s (journalled n s) x c o j k d
    here {c = c} h =
        let e = saved-there c in
        record { copy = h.copy; range = h.range; status = rw e h.status; command = rw e h.command; deps = rw e h.deps }

  abbrev D : Demand n s (in_place n s)
  D = demand-3 n s setup

  -- both runs at a moment x, and at a later one
  abbrev at : {x₀ x : State} → Start n s x₀ → Run n s x₀ x → Beside n s setup x
  at st r = (run-after n s setup (started n s setup st) r).beside

  module _ {x : State} (w : Beside n s setup x) (c : ℕ) (copy : c < n) where
    abbrev ended : Ran n s c x.history w.state (w.sides c copy).end
    ended = up n s setup x w c copy

    abbrev ended-run : place.Run n s w.first (up n s setup x w c copy).later
    ended-run = run_on n s setup w.run (up n s setup x w c copy).run

    -- the table in memory is that of a host that saves in place
    lent-there : ((up n s setup x w c copy).later.copies c).lent ≡ (x.copies c).lent
    lent-there = ap (λ (k : place.Copy). k.lent) ended.here ∙ (w.sides c copy).lent

    never : (r : ℕ) → Unrefused n s c ((up n s setup x w c copy).later.copies c).lent r → Unrefused n s c (x.copies c).lent r
    never r h = subst (λ (t : List ℕ). Unrefused n s c t r) lent-there h

  lasting : Lasting n s (journalled n s)
  lasting = record {
    commit = λ x₀ x y st rx ry a o j k d h.
        let w = at st rx in
        let z = run-after n s setup w ry in
        here z.beside (D.lasting.commit w.first w.state z.beside.state w.start w.run z.later a o j k d (there w h));
    marks = λ x₀ x y st rx ry a.
        let w = at st rx in
        let z = run-after n s setup w ry in
        let (l, e) = D.lasting.marks w.first w.state z.beside.state w.start w.run z.later a in
        (l, marks-there z.beside a ∙ e ∙ ap (λ (m : List Instance). m ++ l) (sym (marks-there w a)));
    never-10 = λ x₀ x st r c l none h out b i e.
        let w = at st r in
        let u = ended w c l in
        D.lasting.never-10 w.first u.later w.start (ended-run w c l) c l (ap (λ (k : place.Copy). k.listed) u.here ∙ (w.sides c l).none) h out b
        (subst (Memᴰ b) (sym (u.sent ∙ w.sent)) i) (ap (λ (t : List ℕ). answer_number (outcome n s c t out (receive h b)).answer) (lent-there w c l) ∙ e);
    never-1 = λ x₀ x st r c l. let w = at st r in never w c l 1 (D.lasting.never-1 w.first (ended w c l).later w.start (ended-run w c l) c l);
    never-11 = λ x₀ x st r c l. let w = at st r in never w c l 11 (D.lasting.never-11 w.first (ended w c l).later w.start (ended-run w c l) c l);
  }

  marking : Marking n s (journalled n s)
  marking = record {
    once = λ x₀ x st r a i b. let w = at st r in D.marking.once w.first w.state w.start w.run a i (subst (Before i i) (marks-there w a) b);
    listed = λ x₀ x st r a o j m.
        let w = at st r in
        let (i, h) = D.marking.listed w.first w.state w.start w.run a o j (subst (Memᴰ (o, j)) (marks-there w a) m) in
        (i, ap (λ (t : List ℕ). is_marked (record_in s t o j)) (saved-there w a) ∙ h);
    marked = λ x₀ x st r a o j i m.
        let w = at st r in
        subst (Memᴰ (o, j)) (sym (marks-there w a))
        (D.marking.marked w.first w.state w.start w.run a o j i (ap (λ (t : List ℕ). is_marked (record_in s t o j)) (sym (saved-there w a)) ∙ m));
  }

  pub demand-3-journalled : Demand n s (journalled n s)
  demand-3-journalled = record {
    agreement = λ x₀ x y st rx ry a b o j k l d e h g.
        let w = at st rx in
        let z = run-after n s setup w ry in
        D.agreement w.first w.state z.beside.state w.start w.run z.later a b o j k l d e (there w h) (there z.beside g);
    requested = λ x₀ x st r a o j k d h.
        let w = at st r in
        ⊎_elim (λ (e : is_noop k ≡ true). inl e) (λ (m : Memᴰ (requested o j k) w.state.history). inr (w.past o j k m))
        (D.requested w.first w.state w.start w.run a o j k d (there w h));
    covering = λ x₀ x y st rx ry a b o j p i k l d e ne h g it.
        let w = at st rx in
        let z = run-after n s setup w ry in
        D.covering w.first w.state z.beside.state w.start w.run z.later a b o j p i k l d e ne (there w h) (there z.beside g) it;
    order = λ x₀ x y st rx ry a b c e o j p i k l d f h g it bf mo mp.
        let w = at st rx in
        let z = run-after n s setup w ry in
        let m = marks-there z.beside b in
        subst (Before (o, j) (p, i)) (sym m)
        (D.order w.first w.state z.beside.state w.start w.run z.later a b c e o j p i k l d f (there z.beside h) (there z.beside g) it
        (subst (Before (o, j) (p, i)) (marks-there w a) bf) (subst (Memᴰ (o, j)) m mo) (subst (Memᴰ (p, i)) m mp));
    lasting = lasting;
    marking = marking;
  }

  pub in_memory : InMemory n s
  in_memory x₀ x st r c l e =
      let w = at st r in
      replays n s c (x.copies c).base (x.copies c).disk (w.sides c l).end.disk (judged-base n s setup x w c l) (all-written n s setup x w c l e)
      ∙ ap (λ (t : List ℕ). record { answer = Ok (length (x.copies c).disk); table = t }) (sym (memory n s setup x w c l))

  pub restarts : Restarts n s
  restarts x₀ x st r c p l le lt =
      let w = at st r in
      record { upto = _; answer = ap (λ (z : Replayed). z.answer) (cut-replays n s setup x w c l p le lt); kept = cut-safe n s setup x w c l p le lt }
