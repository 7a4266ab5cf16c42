-- A run of hosts that keep journals, beside a run of hosts that save in place: at each copy the one has saved what is safe in the other's
-- journal, and what was done since is a chain that it can still do. Assumes nothing.
use Rattle.std.specs.Prelude.{Result, Ok}
use Prim.Native.Nat.{ℕ, ◌+◌, ◌-◌, ◌≤◌, ◌<◌}
use mathlib.Core.Path.{◌≡◌, refl, sym, ap, ap₂, ◌∙◌, subst}
use mathlib.Core.Logic.{⊎_elim}
use mathlib.Core.Bool.{Bool, true, false, cond}
use mathlib.Core.List.Memᴰ
use mathlib.Core.List.{List, [], ◌∷◌, ◌++◌, map, append_assoc, append-nil, Memᴰ}
use native.Mathlib.Omega.{arith}
use lib.Dec.{eqb}
use lib.ListN.{length, take, drop, length-append, length-drop, take-append-drop}
use lib.Seq.{take-length, drop-length, take-append-le, drop-append-le, take-append_seam, drop-append_seam, take-add, length-take-le}
use borrow.Author.Tests.{eqb-true, eqb-false}
use Rattle.paper.specs.declared.Refusal.{Refusal}
use Rattle.paper.specs.declared.Command.{Command}
use Rattle.paper.specs.Instance.{instance_ok}
use Rattle.table.specs.Table.{blank_table, record_in, Judged, Kept}
use Rattle.table.specs.Calls.{part_of}
use Rattle.table.proofs.Laws.{sizes}
use Rattle.rules.specs.Order.{is_marked, instance_of}
use Rattle.gate.specs.Events.{event_of, Outcome}
use Rattle.order.specs.declared.Settling.{Settling}
use Rattle.order.specs.Calls.{settled, handed}
use Rattle.entries.specs.Entry.{record_entry}
use Rattle.entries.specs.Replay.{Replayed, committed_in, replayed, replaying_offset}
use Rattle.entries.specs.Journal.{Journal, none}
use Rattle.entries.proofs.Journal.{joined, replays-rest}
use Rattle.safety.specs.Run.{Instance, Happening, requested, answered, Setup}
use Rattle.safety.specs.Run as rules
use Rattle.demand.specs.Run.{Call, request, receive, recover, nudge, outcome, Possible, recorded, written}
use Rattle.demand.specs.Run as place
use Rattle.demand.proofs.Records.{blank-table}
use Rattle.demand.proofs.Demand.{demand-3}
use Rattle.demand.proofs.Bridge.{Tie, begin, bridge, other-stays}
use Rattle.disk.specs.Run.{Copy, safe_part, marks_in, saved_marks, State, fresh, Start, blanks, mark_entries, acted, quiet, handing, wrote, waited, restarted, anew, changed, remembered, Move, Run, stay, further}
use Rattle.disk.specs.Run as move
use Rattle.disk.proofs.Chain.{Asked, Chain, still, chain_more, Ran, ran, Known, known, chain-journal, chain-marks, Left, cut_at, mark-all}
use Rattle.disk.proofs.Chain as chain
use Rattle.disk.proofs.Marks.{marks-join, again}

module _ (n s : ℕ) (setup : Setup n s) where
  -- copy c as one host has it, beside the same copy at the other
  pub record Side (c : ℕ) (sent : List (List ℕ)) (past : List (Happening (Result Settling Refusal))) (k : Copy) (q : place.Copy) : Type 0 where
    pub within : k.safe ≤ length k.disk
    pub base : Kept n s c k.base
    pub journal : Journal n s c k.base (safe_part k) q.disk
    pub marks : saved_marks k ≡ q.marks
    pub end : place.Copy
    pub chain : Chain n s c sent past q (drop k.safe k.disk ++ k.coming) end
    pub lent : end.lent ≡ k.lent
    pub none : end.listed ≡ []
    pub leaving : (b : List ℕ) → Memᴰ b k.leaving → Memᴰ b q.leaving
    pub held : (b : List ℕ) → Memᴰ b (k.leaving ++ k.held) → Memᴰ b end.leaving

  -- a copy that there is not
  pub record Far (c : ℕ) (k : Copy) (q : place.Copy) : Type 0 where
    pub here : k ≡ fresh (blank_table n s c)
    pub there : q ≡ (place.begun (blank_table n s) []).copies c

  pub record Beside (x : State) : Type 0 where
    pub first : place.State
    pub start : place.Start n s first
    pub state : place.State
    pub run : place.Run n s first state
    pub sent : state.sent ≡ x.sent
    pub past : (o j : ℕ) (k : Command) → Memᴰ (requested o j k) state.history → Memᴰ (requested o j k) x.history
    pub sides : (c : ℕ) → c < n → Side c x.sent x.history (x.copies c) (state.copies c)
    pub far : (c : ℕ) → (c < n → ⊥) → Far c (x.copies c) (state.copies c)

  -- and the moment y after it
  pub record After {x : State} (w : Beside x) (y : State) : Type 0 where
    pub beside : Beside y
    pub later : place.Run n s w.state beside.state

  -- what the rules' run beside both is
  pub record Rules (x : place.State) : Type 0 where
    pub rules : rules.State
    pub tie : Tie n s setup x rules

  pub rules-of : {x : State} (w : Beside x) → Rules w.state
  rules-of w =
      let z = begin n s setup w.start in
      let y = bridge n s setup z.first z.tie w.run in
      record { rules = y.later; tie = y.tie }

  -- where a run may start
  pub started : {x : State} → Start n s x → Beside x
  unfolding marks_in
  started blanks =
      record {
        first = place.begun (blank_table n s) [];
        start = place.blanks;
        state = place.begun (blank_table n s) [];
        run = place.stay;
        sent = refl;
        past = λ o j k m. m;
        sides = λ c l.
            record {
              within = omega arith;
              base = blank-table n s setup c l;
              journal = none;
              marks = refl;
              end = (place.begun (blank_table n s) []).copies c;
              chain = still;
              lent = refl;
              none = refl;
              leaving = λ b i. i;
              held = λ b i. i;
            };
        far = λ c l. record { here = refl; there = refl };
      }

  -- more may have been sent, and more have happened
  side-more : (sent more : List (List ℕ)) (past then : List (Happening (Result Settling Refusal))) → ((b : List ℕ) → Memᴰ b sent → Memᴰ b more)
      → ((h : Happening (Result Settling Refusal)) → Memᴰ h past → Memᴰ h then) → (c : ℕ) (k : Copy) (q : place.Copy) → Side c sent past k q → Side c more then k q
  side-more sent more past then grown later c k q d =
      record {
        within = d.within;
        base = d.base;
        journal = d.journal;
        marks = d.marks;
        end = d.end;
        chain = chain_more n s c sent more past then q grown later d.chain;
        lent = d.lent;
        none = d.none;
        leaving = d.leaving;
        held = d.held;
      }

  -- one run after another
  pub run_on : {x y z : place.State} → place.Run n s x y → place.Run n s y z → place.Run n s x z
  run_on r place.stay = r
  run_on r (place.further q m) = place.further (run_on r q) m

  -- one copy changes, the others are as they were
  module _ (x : State) (w : Beside x) (c : ℕ) (copy : c < n) (past : List (Happening (Result Settling Refusal))) (grown : (h : Happening (Result Settling Refusal)) → Memᴰ h x.history → Memᴰ h past) where
    update : (k : Copy) (state : place.State) → place.Run n s w.state state → state.sent ≡ w.state.sent
        → ((o j : ℕ) (v : Command) → Memᴰ (requested o j v) state.history → Memᴰ (requested o j v) past)
        → ((p : ℕ) → (p ≡ c → ⊥) → state.copies p ≡ w.state.copies p) → Side c x.sent past k (state.copies c)
        → After w (remembered (changed x c k) past)
    update k state run se heard others here =
        record {
          beside = record {
            first = w.first;
            start = w.start;
            state = state;
            run = run_on w.run run;
            sent = se ∙ w.sent;
            past = heard;
            sides = λ p l. side p l (eqb p c) refl;
            far = λ p l.
                let ne : p ≡ c → ⊥ = λ e. l (subst (λ (i : ℕ). i < n) (sym e) copy) in
                let f = w.far p l in
                record { here = other-stays n s setup x.copies c k p ne ∙ f.here; there = others p ne ∙ f.there };
          };
          later = run;
        }
      where
        side : (p : ℕ) → p < n → (z : Bool) → eqb p c ≡ z → Side p x.sent past (cond z k (x.copies p)) (state.copies p)
        side p l true e = subst (λ (i : ℕ). Side i x.sent past k (state.copies i)) (sym (eqb-true p c e)) here
        side p l false e =
            subst (Side p x.sent past (x.copies p)) (sym (others p (eqb-false p c e)))
            (side-more x.sent x.sent x.history past (λ b i. i) grown p (x.copies p) (w.state.copies p) (w.sides p l))

    -- a move that only this host knows of
    quietly : (k : Copy) → Side c x.sent past k (w.state.copies c) → After w (remembered (changed x c k) past)
    quietly k here = update k w.state place.stay refl (λ o j v m. grown (requested o j v) (w.past o j v m)) (λ p ne. refl) here

  -- what happened before is remembered, and so is a request
  kept-past : (l : List (Happening (Result Settling Refusal))) (o j : ℕ) (call : Call) (h : Happening (Result Settling Refusal)) → Memᴰ h l → Memᴰ h (recorded l o j call)
  kept-past l o j (request w v) h m = Memᴰ.append_left (requested o j v ∷ []) m
  kept-past l o j (receive w b) h m = m
  kept-past l o j (recover p i) h m = m
  kept-past l o j (nudge p i) h m = m

  now-asked : (l : List (Happening (Result Settling Refusal))) (o j : ℕ) (call : Call) → Asked (recorded l o j call) o j call
  now-asked l o j (request w v) = Memᴰ.append_right l (Memᴰ.head refl)
  now-asked l o j (receive w b) = tt
  now-asked l o j (recover p i) = tt
  now-asked l o j (nudge p i) = tt

  -- messages are held back, and would be leaving at the other host
  more-held : (l h m : List (List ℕ)) (e f : List (List ℕ)) → m ≡ f → ((b : List ℕ) → Memᴰ b (l ++ h) → Memᴰ b e) → (b : List ℕ) → Memᴰ b (l ++ (h ++ m)) → Memᴰ b (e ++ f)
  more-held l h m e f is old b i =
      ⊎_elim (λ (z : Memᴰ b (l ++ h)). Memᴰ.append_left f (old b z)) (λ (z : Memᴰ b m). Memᴰ.append_right e (subst (Memᴰ b) is z))
      (Memᴰ.append_cases (l ++ h) (subst (Memᴰ b) (sym (append_assoc l h m)) i))

  -- the moves
  module _ (x : State) (w : Beside x) (c : ℕ) (copy : c < n) where
    abbrev k : Copy
    k = x.copies c

    abbrev q : place.Copy
    q = w.state.copies c

    abbrev d : Side c x.sent x.history (x.copies c) (w.state.copies c)
    d = w.sides c copy

    -- where nothing is left to be written
    on-disk : k.coming ≡ [] → Chain n s c x.sent x.history q (drop k.safe k.disk) d.end
    on-disk e = subst (λ (l : List ℕ). Chain n s c x.sent x.history q l d.end) (ap (λ (l : List ℕ). drop k.safe k.disk ++ l) e ∙ append-nil (drop k.safe k.disk)) d.chain

    module _ (call : Call) (out : List ℕ) (o j z : ℕ) (p : Possible x.sent call) (e : k.coming ≡ []) (a : (outcome n s c k.lent out call).answer ≡ event_of o j z) where
      abbrev past : List (Happening (Result Settling Refusal))
      past = recorded x.history o j call

      abbrev y : Outcome
      y = outcome n s c d.end.lent out call

      ready : Chain n s c x.sent (recorded x.history o j call) q (drop k.safe k.disk) d.end
      ready = chain_more n s c x.sent x.sent x.history past q (λ b i. i) (kept-past x.history o j call) (on-disk e)

      answers : (outcome n s c d.end.lent out call).answer ≡ event_of o j z
      answers = ap (λ (t : List ℕ). (outcome n s c t out call).answer) d.lent ∙ a

      holds : (b : List ℕ) → Memᴰ b (k.leaving ++ (k.held ++ written z (outcome n s c k.lent out call).out)) → Memᴰ b (d.end.leaving ++ written z y.out)
      holds = more-held k.leaving k.held (written z (outcome n s c k.lent out call).out) d.end.leaving (written z y.out) (ap (λ (t : List ℕ). written z (outcome n s c t out call).out) (sym d.lent)) d.held

      event-after : After w (remembered (changed x c (acted n s c k (outcome n s c k.lent out call) o j z)) (recorded x.history o j call))
      event-after =
          quietly x w c copy past (kept-past x.history o j call) (acted n s c k (outcome n s c k.lent out call) o j z)
          (record {
            within = d.within;
            base = d.base;
            journal = d.journal;
            marks = d.marks;
            end = place.acted n s c d.end y o j z;
            chain = subst (λ (t : List ℕ). Chain n s c x.sent past q (drop k.safe k.disk ++ record_entry o j (part_of n s c (outcome n s c t out call).table o j)) (place.acted n s c d.end y o j z)) d.lent
                (chain.event ready call out o j z p (now-asked x.history o j call) d.none answers);
            lent = ap (λ (t : List ℕ). (outcome n s c t out call).table) d.lent;
            none = refl;
            leaving = d.leaving;
            held = holds;
          })

      same_after : (outcome n s c k.lent out call).table ≡ k.lent → After w (remembered (changed x c (quiet k (outcome n s c k.lent out call) z)) (recorded x.history o j call))
      same_after f =
          let g : (outcome n s c d.end.lent out call).table ≡ d.end.lent = ap (λ (t : List ℕ). (outcome n s c t out call).table) d.lent ∙ f ∙ sym d.lent in
          quietly x w c copy past (kept-past x.history o j call) (quiet k (outcome n s c k.lent out call) z)
          (record {
            within = d.within;
            base = d.base;
            journal = d.journal;
            marks = d.marks;
            end = place.acted n s c d.end y o j z;
            chain = subst (λ (l : List ℕ). Chain n s c x.sent past q l (place.acted n s c d.end y o j z)) (sym (ap (λ (l : List ℕ). drop k.safe k.disk ++ l) e ∙ append-nil (drop k.safe k.disk)))
                (chain.same ready call out o j z p (now-asked x.history o j call) d.none answers g);
            lent = g ∙ d.lent;
            none = refl;
            leaving = d.leaving;
            held = holds;
          })

    -- only this host knows of it
    known-here : (j : Copy) → Side c x.sent x.history j q → After w (changed x c j)
    known-here j z = quietly x w c copy x.history (λ h m. m) j z

    hand-after : (list : List ℕ) (i : ℕ) → k.coming ≡ [] → (handed n s c k.lent list).answer ≡ Ok i → After w (changed x c (handing k (handed n s c k.lent list) i))
    hand-after list i e a =
        let g : place.Copy = place.handing d.end (handed n s c d.end.lent list) i in
        let h = chain.hand_out (on-disk e) list i d.none (ap (λ (t : List ℕ). (handed n s c t list).answer) d.lent ∙ a) in
        let z = mark-all n s c x.sent x.history q (take i (handed n s c d.end.lent list).list) (drop k.safe k.disk) g h refl in
        known-here (handing k (handed n s c k.lent list) i)
        (record {
          within = d.within;
          base = d.base;
          journal = d.journal;
          marks = d.marks;
          end = z.end;
          chain = subst (λ (t : List ℕ). Chain n s c x.sent x.history q (drop k.safe k.disk ++ mark_entries (map instance_of (take i (handed n s c t list).list))) z.end) d.lent z.chain;
          lent = z.lent ∙ ap (λ (t : List ℕ). (handed n s c t list).table) d.lent;
          none = z.none;
          leaving = d.leaving;
          held = λ b m. subst (Memᴰ b) (sym z.leaving) (d.held b m);
        })

    write-after : (i : ℕ) → After w (changed x c (wrote k i))
    write-after i =
        let piece : List ℕ = take i k.coming in
        let front : take k.safe (k.disk ++ piece) ≡ safe_part k = take-append-le k.safe k.disk piece d.within in
        let same : drop k.safe (k.disk ++ piece) ++ drop i k.coming ≡ drop k.safe k.disk ++ k.coming =
        ap (λ (l : List ℕ). l ++ drop i k.coming) (drop-append-le k.safe k.disk piece d.within)
        ∙ append_assoc (drop k.safe k.disk) piece (drop i k.coming) ∙ ap (λ (l : List ℕ). drop k.safe k.disk ++ l) (take-append-drop i k.coming) in
        known-here (wrote k i)
        (record {
          within = rw (length-append k.disk piece) (omega (arith, d.within));
          base = d.base;
          journal = subst (λ (l : List ℕ). Journal n s c k.base l q.disk) (sym front) d.journal;
          marks = ap (λ (l : List ℕ). marks_in (length l) l) front ∙ d.marks;
          end = d.end;
          chain = subst (λ (l : List ℕ). Chain n s c x.sent x.history q l d.end) (sym same) d.chain;
          lent = d.lent;
          none = d.none;
          leaving = d.leaving;
          held = d.held;
        })

    -- the table that the journal was begun with is judged, and small
    pub judged-base : Judged n s c k.base
    judged-base = record { setup = d.base.setup; sound = d.base.sound }

    abbrev few : n ≤ 7
    few = (sizes n s c k.base d.base.setup).copies

    abbrev low : s ≤ 64
    low = (sizes n s c k.base d.base.setup).numbers

    abbrev beside : Rules w.state
    beside = rules-of w

    -- what the chain comes to
    pub end_known : Known n s setup c copy x.history w.state beside.rules beside.tie refl w.sent d.end
    end_known = known n s setup c copy x.history w.state beside.rules beside.tie refl w.sent d.chain

    pub memory : k.lent ≡ d.end.disk
    memory = sym d.lent ∙ end_known.memory d.none

    -- the other host can catch up
    pub up : Ran n s c x.history w.state d.end
    up = ran n s setup c copy x.history w.state refl w.sent d.chain

    -- its entries
    since : Journal n s c q.disk (drop k.safe k.disk ++ k.coming) d.end.disk
    since = chain-journal n s setup c copy x.history w.state beside.rules beside.tie refl w.sent d.chain

    -- all entries that were begun, written or not
    pub all-entries : Journal n s c k.base (k.disk ++ k.coming) d.end.disk
    all-entries =
        subst (λ (l : List ℕ). Journal n s c k.base l d.end.disk)
        (sym (append_assoc (safe_part k) (drop k.safe k.disk) k.coming) ∙ ap (λ (l : List ℕ). l ++ k.coming) (take-append-drop k.safe k.disk)) (joined d.journal since)

    -- where all of them are written
    module _ (e : k.coming ≡ []) where
      whole : k.disk ++ k.coming ≡ k.disk
      whole = ap (λ (l : List ℕ). k.disk ++ l) e ∙ append-nil k.disk

      pub all-written : Journal n s c k.base k.disk d.end.disk
      all-written = subst (λ (l : List ℕ). Journal n s c k.base l d.end.disk) whole all-entries

      all-marks : marks_in (length k.disk) k.disk ≡ d.end.marks
      all-marks =
          let b : List ℕ = drop k.safe k.disk ++ k.coming in
          let apart : k.disk ≡ safe_part k ++ b =
          sym (take-append-drop k.safe k.disk) ∙ ap (λ (l : List ℕ). safe_part k ++ l) (sym (ap (λ (l : List ℕ). drop k.safe k.disk ++ l) e ∙ append-nil (drop k.safe k.disk))) in
          ap (λ (l : List ℕ). marks_in (length l) l) apart ∙ marks-join n s c few low d.journal since ∙ ap (λ (l : List Instance). l ++ marks_in (length b) b) d.marks
          ∙ sym (chain-marks n s setup c copy x.history w.state beside.rules beside.tie refl w.sent few low d.chain)

      -- what is marked by then is marked in the table in memory
      marked-there : (i : Instance) → Memᴰ i d.end.marks → (instance_ok n s i.0 i.1 ≡ true) × (is_marked (record_in s k.lent i.0 i.1) ≡ true)
      marked-there i m =
          let g = (demand-3 n s setup).marking.listed w.first up.later w.start (run_on w.run up.run) c i.0 i.1
          (subst (λ (q : place.Copy). Memᴰ i q.marks) (sym up.here) m) in
          (g.0, ap (λ (t : List ℕ). is_marked (record_in s t i.0 i.1)) (memory ∙ sym (ap (λ (q : place.Copy). q.disk) up.here)) ∙ g.1)

      caught : (j : Copy) → Side c x.sent x.history j d.end → After w (changed x c j)
      caught j z =
          update x w c copy x.history (λ h m. m) j up.later up.run up.sent
          (λ o i v m. ⊎_elim (λ (h : Memᴰ (requested o i v) w.state.history). w.past o i v h) (λ (h : Memᴰ (requested o i v) x.history). h) (up.history o i v m))
          up.others (subst (Side c x.sent x.history j) (sym up.here) z)

      wait-after : After w (changed x c (waited k))
      wait-after =
          let all : take (length k.disk) k.disk ≡ k.disk = take-length k.disk in
          let left : drop (length k.disk) k.disk ++ k.coming ≡ [] = ap₂ (λ (a b : List ℕ). a ++ b) (drop-length k.disk) e in
          caught (waited k)
          (record {
            within = omega arith;
            base = d.base;
            journal = subst (λ (l : List ℕ). Journal n s c k.base l d.end.disk) (sym all) all-written;
            marks = ap (λ (l : List ℕ). marks_in (length l) l) all ∙ all-marks;
            end = d.end;
            chain = subst (λ (l : List ℕ). Chain n s c x.sent x.history d.end l d.end) (sym left) still;
            lent = d.lent;
            none = d.none;
            leaving = d.held;
            held = λ b m. d.held b (subst (Memᴰ b) (append-nil (k.leaving ++ k.held)) m);
          })

      begin-after : k.safe ≡ length k.disk → After w (changed x c (anew k))
      begin-after f =
          let all : safe_part k ≡ k.disk = ap (λ (i : ℕ). take i k.disk) f ∙ take-length k.disk in
          let l : List Instance = saved_marks k in
          let b : List ℕ = mark_entries l in
          let same : l ≡ d.end.marks = ap (λ (l : List ℕ). marks_in (length l) l) all ∙ all-marks in
          let h : Kept n s c k.lent = subst (Kept n s c) (sym memory) end_known.saved in
          let z = again n s c few low k.lent h l (λ i m. marked-there i (subst (Memᴰ i) same m)) in
          let front : take (length b) b ≡ b = take-length b in
          caught (anew k)
          (record {
            within = omega arith;
            base = h;
            journal = subst (λ (u : List ℕ). Journal n s c k.lent (take (length b) b) u) memory (subst (λ (u : List ℕ). Journal n s c k.lent u k.lent) (sym front) z.journal);
            marks = ap (λ (u : List ℕ). marks_in (length u) u) front ∙ z.marks ∙ same;
            end = d.end;
            chain = subst (λ (u : List ℕ). Chain n s c x.sent x.history d.end u d.end) (sym (append-nil (drop (length b) b) ∙ drop-length b)) still;
            lent = d.lent;
            none = d.none;
            leaving = λ a m. d.held a (Memᴰ.append_left k.held m);
            held = d.held;
          })

    -- a message leaves at both
    leave-after : (b : List ℕ) → Memᴰ b k.leaving → After w (record { copies = x.copies; sent = x.sent ++ b ∷ []; history = x.history })
    leave-after b i =
        record {
          beside = record {
            first = w.first;
            start = w.start;
            state = record { copies = w.state.copies; sent = w.state.sent ++ b ∷ []; history = w.state.history };
            run = place.further w.run (place.leave c b copy (d.leaving b i));
            sent = ap (λ (l : List (List ℕ)). l ++ b ∷ []) w.sent;
            past = w.past;
            sides = λ p l. side-more x.sent (x.sent ++ b ∷ []) x.history x.history (λ a m. Memᴰ.append_left (b ∷ []) m) (λ h m. m) p (x.copies p) (w.state.copies p) (w.sides p l);
            far = w.far;
          };
          later = place.further place.stay (place.leave c b copy (d.leaving b i));
        }

    -- what a cut leaves
    module _ (p : ℕ) (le : k.safe ≤ p) (lt : p ≤ length k.disk) where
      abbrev cut : Left n s c x.sent x.history q (drop k.safe k.disk ++ k.coming) (p - k.safe)
      cut = cut_at n s setup c copy x.history w.state beside.rules beside.tie refl w.sent few low d.chain (p - k.safe)

      cut_parts : take p k.disk ≡ (safe_part k ++ cut.kept) ++ cut.rest
      cut_parts =
          let m : p ≡ k.safe + (p - k.safe) = omega arith in
          let y = length-drop k.safe k.disk in
          ap (λ (i : ℕ). take i k.disk) m ∙ take-add k.safe (p - k.safe) k.disk
          ∙ ap (λ (l : List ℕ). safe_part k ++ l) (sym (take-append-le (p - k.safe) (drop k.safe k.disk) k.coming (omega arith)) ∙ cut.parts)
          ∙ sym (append_assoc (safe_part k) cut.kept cut.rest)

      cut-journal : Journal n s c k.base (safe_part k ++ cut.kept) cut.end.disk
      cut-journal = joined d.journal (chain-journal n s setup c copy x.history w.state beside.rules beside.tie refl w.sent cut.chain)

      pub cut-replays : replayed n s c k.base (take p k.disk) ≡ record { answer = Ok (length (safe_part k ++ cut.kept)); table = cut.end.disk }
      cut-replays =
          ap (replayed n s c k.base) cut_parts
          ∙ replays-rest n s c k.base (safe_part k ++ cut.kept) cut.end.disk cut.rest judged-base cut-journal (cut.less (committed_in s cut.end.disk))

      pub cut-safe : k.safe ≤ length (safe_part k ++ cut.kept)
      cut-safe = rw (length-append (safe_part k) cut.kept) (omega (arith, length-take-le k.safe k.disk d.within))

      cut-after : (e : ℕ) → (replayed n s c k.base (take p k.disk)).answer ≡ Ok e → After w (changed x c (restarted n s c k p e))
      cut-after e a =
          let long : length (safe_part k) ≡ k.safe = length-take-le k.safe k.disk d.within in
          let at : e ≡ length (safe_part k ++ cut.kept) = ap replaying_offset (sym a ∙ ap (λ (r : Replayed). r.answer) cut-replays) in
          let off : take e (take p k.disk) ≡ safe_part k ++ cut.kept = ap₂ (λ (i : ℕ) (l : List ℕ). take i l) at cut_parts ∙ take-append_seam (safe_part k ++ cut.kept) cut.rest in
          let front : take k.safe (take e (take p k.disk)) ≡ safe_part k =
          ap₂ (λ (i : ℕ) (l : List ℕ). take i l) (sym long) off ∙ take-append_seam (safe_part k) cut.kept in
          let left : drop k.safe (take e (take p k.disk)) ++ [] ≡ cut.kept =
          append-nil (drop k.safe (take e (take p k.disk))) ∙ ap₂ (λ (i : ℕ) (l : List ℕ). drop i l) (sym long) off ∙ drop-append_seam (safe_part k) cut.kept in
          known-here (restarted n s c k p e)
          (record {
            within = rw off cut-safe;
            base = d.base;
            journal = subst (λ (l : List ℕ). Journal n s c k.base l q.disk) (sym front) d.journal;
            marks = ap (λ (l : List ℕ). marks_in (length l) l) front ∙ d.marks;
            end = cut.end;
            chain = subst (λ (l : List ℕ). Chain n s c x.sent x.history q l cut.end) (sym left) cut.chain;
            lent = cut.memory ∙ sym (ap (λ (r : Replayed). r.table) cut-replays);
            none = cut.none;
            leaving = λ b i. absurd (Memᴰ.not-nil i);
            held = λ b i. absurd (Memᴰ.not-nil i);
          })

  -- only what happened grows
  pub heard-after : (x : State) (w : Beside x) (h : Happening (Result Settling Refusal)) → After w (remembered x (x.history ++ h ∷ []))
  heard-after x w h =
      record {
        beside = record {
          first = w.first;
          start = w.start;
          state = w.state;
          run = w.run;
          sent = w.sent;
          past = λ o j v m. Memᴰ.append_left (h ∷ []) (w.past o j v m);
          sides = λ p l. side-more x.sent x.sent x.history (x.history ++ h ∷ []) (λ a m. m) (λ g m. Memᴰ.append_left (h ∷ []) m) p (x.copies p) (w.state.copies p) (w.sides p l);
          far = w.far;
        };
        later = place.stay;
      }

  -- every move
  pub move-after : {x y : State} (w : Beside x) → Move n s x y → After w y
  move-after {x = x} w (move.event c call out o j z l p e a) = event-after x w c l call out o j z p e a
  move-after {x = x} w (move.same c call out o j z l p e a f) = same_after x w c l call out o j z p e a f
  move-after {x = x} w (move.hand_out c list i l e a) = hand-after x w c l list i e a
  move-after {x = x} w (move.write c i l) = write-after x w c l i
  move-after {x = x} w (move.wait c l e) = wait-after x w c l e
  move-after {x = x} w (move.leave c b l i) = leave-after x w c l b i
  move-after {x = x} w (move.question c o j l e) = heard-after x w (answered c o j (settled n s c (x.copies c).lent o j))
  move-after {x = x} w (move.cut c p e l le lt a) = cut-after x w c l p le lt e a
  move-after {x = x} w (move.begin c l e) = begin-after x w c l e.0 e.1

  pub run-after : {x y : State} (w : Beside x) → Run n s x y → After w y
  run-after w stay = record { beside = w; later = place.stay }
  run-after w (further r m) =
      let a = run-after w r in
      let b = move-after a.beside m in
      record { beside = b.beside; later = run_on a.later b.later }
