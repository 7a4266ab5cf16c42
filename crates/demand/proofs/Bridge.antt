-- A run over bytes beside a run of the rules: each saved table is sound and its records are the rules' table, and all that is
-- sent is the bytes of a valid message of the rules. Assumes nothing.
use Rattle.std.specs.Prelude.{Some, Ok}
use Prim.Native.Nat.{ℕ, ◌<◌}
use mathlib.Core.Path.{◌≡◌, refl, sym, ap, ap₂, ◌∙◌, subst}
use mathlib.Core.Bool.{Bool, true, false, cond}
use mathlib.Core.Logic.{⊎_elim}
use mathlib.Core.List.Memᴰ
use mathlib.Core.List.{List, [], ◌∷◌, ◌++◌, map, map-append, Memᴰ}
use lib.Dec.{eqb}
use lib.ListN.{length}
use borrow.Author.Tests.{eqb-true, eqb-false, eq-eqb, ne_eqb}
use Rattle.paper.specs.Setup.{setup_ok}
use Rattle.paper.specs.Instance.{instance_ok}
use Rattle.paper.specs.Vote.{blank}
use Rattle.paper.specs.declared.Record.{Record}
use Rattle.paper.specs.declared.Message.{Message}
use Rattle.rules.specs.declared.Step.{Step}
use Rattle.rules.specs.Seen.{Records}
use Rattle.rules.specs.Events.{put, messages}
use Rattle.rules.specs.Order.{instance, next_out, mark}
use Rattle.wire.specs.Wire.{message_bytes}
use Rattle.table.specs.Table.{blank_table, record_in, put_record, Kept}
use Rattle.seen.specs.Records.{records_in}
use Rattle.closed.specs.Held.{Closed}
use Rattle.gate.specs.Out.{out_bytes}
use Rattle.gate.specs.Events.{event_of, Outcome, answer_number, answer_owner, answer_instance, answer_written}
use Rattle.gate.specs.Events as log
use Rattle.gate.proofs.Calls.{setup-of}
use Rattle.gate.proofs.Held.{out-short}
use Rattle.order.specs.Calls.{settled, marked_in, handed}
use Rattle.safety.specs.Run.{Instance, Happening, answered, Setup, replaced}
use Rattle.safety.specs.Run as rules
use Rattle.demand.specs.Run.{Copy, saved_table, State, begun, Start, blanks, Call, request, receive, recover, nudge, outcome, Possible, recorded, written, save_of, stored, acted, handing, marking, restarted, changed, remembered, Move, event, leave, hand_out, question, cut, Run, stay, further}
use Rattle.demand.specs.Run.{mark as mv-mark}
use Rattle.demand.proofs.Range.{SameVotes, next-alike}
use Rattle.demand.proofs.Records.{records, at-range, alike, setup-at, blank-table, blank-records, saved-record, put-held, put-here, put-records}
use Rattle.demand.proofs.Written.{Carried, carried-more, sent-carried, written_is}
use Rattle.demand.proofs.Handing.{Pending, none-pending, all_saved, left, hand-vote, listed-pending, Marked, marked_next, mark-kept, mark-records}
use Rattle.demand.proofs.History.{heard, recorded-heard, settled-heard}
use Rattle.demand.proofs.Steps.{Brought, owner_in, number_in, step_in, moved, Stepped, stepped}

module _ (n s : ℕ) (setup : Setup n s) where
  -- copy q as its host has it, beside the same copy of the rules
  pub record Beside (y : rules.State) (q : ℕ) (k : Copy) : Type 0 where
    pub table : y.tables q ≡ records n s (saved_table k)
    pub kept : q < n → Kept n s q (saved_table k)
    pub pending : Pending n s (saved_table k) k.lent k.listed
    pub leaving : (b : List ℕ) → Memᴰ b k.leaving → Carried n s y.sent b
    pub marks : y.marks q ≡ k.marks

  pub record Tie (x : State) (y : rules.State) : Type 0 where
    pub copies : (q : ℕ) → Beside y q (x.copies q)
    pub sent : (b : List ℕ) → Memᴰ b x.sent → Carried n s y.sent b
    pub history : y.history ≡ map heard x.history

  -- what the rules' run is after a move over bytes
  pub record Next (y : rules.State) (x : State) : Type 0 where
    pub later : rules.State
    pub run : rules.Run n s y later
    pub tie : Tie x later

  -- one copy changes, the others are as they were
  pub one-copy : (y : rules.State) (f : ℕ → Copy) (c : ℕ) (k : Copy) → ((q : ℕ) → (q ≡ c → ⊥) → Beside y q (f q)) → Beside y c k → (q : ℕ) → Beside y q (replaced f c k q)
  one-copy y f c k others here q = go (eqb q c) refl
    where
      go : (b : Bool) → eqb q c ≡ b → Beside y q (cond b k (f q))
      go true e = rw (eqb-true q c e) here
      go false e = others q (eqb-false q c e)

  pub other-stays : {A : Type 0} (f : ℕ → A) (c : ℕ) (a : A) (q : ℕ) → (q ≡ c → ⊥) → replaced f c a q ≡ f q
  other-stays f c a q ne = rw (ne_eqb q c ne)

  pub here-is : {A : Type 0} (f : ℕ → A) (c : ℕ) (a : A) → replaced f c a c ≡ a
  here-is f c a = rw (eq-eqb c c refl)

  -- a copy that a step of another left alone
  beside-still : (y z : rules.State) (q : ℕ) (k : Copy) → z.tables q ≡ y.tables q → z.marks q ≡ y.marks q
      → ((m : Message) → Memᴰ m y.sent → Memᴰ m z.sent) → Beside y q k → Beside z q k
  beside-still y z q k t m more b =
      record {
        table = t ∙ b.table;
        kept = b.kept;
        pending = b.pending;
        leaving = λ e i. carried-more n s y.sent z.sent e more (b.leaving e i);
        marks = m ∙ b.marks;
      }

  -- where a run may start, a run of the rules may
  pub record Begun (x : State) : Type 0 where
    pub first : rules.State
    pub start : rules.Start n s first
    pub tie : Tie x first

  pub blank-tie : Tie (begun (blank_table n s) []) (rules.begun (λ c o j. blank) [])
  blank-tie =
      record {
        copies = λ q.
            record {
              table = sym (blank-records n s setup q);
              kept = λ l. blank-table n s setup q l;
              pending = none-pending n s (blank_table n s q) (blank_table n s q) refl;
              leaving = λ b i. absurd (Memᴰ.not-nil i);
              marks = refl;
            };
        sent = λ b i. absurd (Memᴰ.not-nil i);
        history = refl;
      }

  pub begin : {x : State} → Start n s x → Begun x
  begin blanks = record { first = rules.begun (λ c o j. blank) []; start = rules.blanks; tie = blank-tie }

  module _ (x : State) (y : rules.State) (tie : Tie x y) (c : ℕ) (copy : c < n) where
    abbrev k : Copy
    k = x.copies c

    abbrev side : Beside y c (x.copies c)
    side = tie.copies c

    -- only copy c's host knows of it
    quietly : (j : Copy) → Beside y c j → Tie (changed x c j) y
    quietly j b = record { copies = one-copy y x.copies c j (λ q ne. tie.copies q) b; sent = tie.sent; history = tie.history }

    -- an event
    brought : (call : Call) → Possible x.sent call → Brought n s y.sent call
    brought (request w v) p = p
    brought (receive w b) p = (p.0, tie.sent b p.1)
    brought (recover o j) p = tt
    brought (nudge o j) p = tt

    -- the part that is saved is all that the event changed
    part-saved : (t : List ℕ) (o j : ℕ) (e : Step) → Kept n s c t → instance_ok n s o j ≡ true → Closed n s c o e
        → stored s t (save_of n s c (put_record s t o j e.entry) o j) ≡ put_record s t o j e.entry
    part-saved t o j e h i d =
        saved-record n s c (put_record s t o j e.entry) (put-held n s c t h o j i e.entry d.held) t o j i
        ∙ ap (put_record s t o j) (put-here n s c t h o j i e.entry d.held)

    -- the instance and the step of a call here
    abbrev owner_of : Call → ℕ
    owner_of call = owner_in c call

    abbrev number_of : Call → ℕ
    number_of call = number_in s c (y.tables c) call

    abbrev step_of : Call → Step
    step_of call = step_in n s c (y.tables c) call

    -- the copy and the state after it
    abbrev host : (call : Call) (out : List ℕ) → Copy
    host call out = acted n s c k (outcome n s c k.lent out call) (owner_of call) (number_of call) (length (out_bytes (step_of call)))

    abbrev pub after : (call : Call) (out : List ℕ) → State
    after call out = remembered (changed x c (host call out)) (recorded x.history (owner_of call) (number_of call) call)

    module _ (call : Call) (out : List ℕ) (st : Stepped n s c (saved_table k) out call y) (memory : k.lent ≡ saved_table k) where
      abbrev e : Step
      e = step_of call

      abbrev table : List ℕ
      table = put_record s (saved_table k) (owner_of call) (number_of call) e.entry

      abbrev here : Kept n s c (saved_table k)
      here = side.kept copy

      abbrev named : setup_ok n s c ≡ true
      named = setup-of n s c (saved_table k) here.setup

      did : outcome n s c k.lent out call ≡ log.acted s (saved_table k) out (owner_of call) (number_of call) e
      did = ap (λ (v : List ℕ). outcome n s c v out call) memory ∙ st.is

      -- the table in memory is the call's
      lent_is : (host call out).lent ≡ table
      unfolding log.acted
      lent_is = ap (λ (v : Outcome). v.table) did

      -- its record is saved
      saved-is : saved_table (host call out) ≡ table
      saved-is =
          ap (λ (v : List ℕ). stored s k.disk (save_of n s c v (owner_of call) (number_of call))) lent_is
          ∙ part-saved (saved_table k) (owner_of call) (number_of call) e here st.range st.closed

      -- its messages, and no others, may leave
      leaving-is : (host call out).leaving ≡ k.leaving ++ map message_bytes (messages e)
      unfolding log.acted
      leaving-is =
          ap (λ (v : Outcome). k.leaving ++ written (length (out_bytes e)) v.out) did
          ∙ ap (λ (l : List (List ℕ)). k.leaving ++ l) (written_is e out st.long (out-short n s c named e st.closed.sent))

      pub event-tie : Tie (after call out) (moved n s y c call (messages e))
      event-tie =
          let z : rules.State = moved n s y c call (messages e) in
          let more : (m : Message) → Memᴰ m y.sent → Memᴰ m z.sent = λ m i. Memᴰ.append_left (messages e) i in
          let new : (m : Message) → Memᴰ m (messages e) → Memᴰ m z.sent = λ m i. Memᴰ.append_right y.sent i in
          record {
            copies = one-copy z x.copies c (host call out)
                (λ q ne. beside-still y z q (x.copies q) (other-stays y.tables c _ q ne) refl more (tie.copies q))
                (record {
                  table = here-is y.tables c (put (y.tables c) (owner_of call) (number_of call) e.entry)
                      ∙ ap (λ (f : Records). put f (owner_of call) (number_of call) e.entry) side.table
                      ∙ sym (ap (records n s) saved-is ∙ put-records n s c (saved_table k) here (owner_of call) (number_of call) st.range e.entry st.closed.held);
                  kept = λ l. subst (Kept n s c) (sym saved-is) (put-held n s c (saved_table k) here (owner_of call) (number_of call) st.range e.entry st.closed.held);
                  pending = none-pending n s (saved_table (host call out)) (host call out).lent (lent_is ∙ sym saved-is);
                  leaving = λ b i.
                      ⊎_elim (λ (w : Memᴰ b k.leaving). carried-more n s y.sent z.sent b more (side.leaving b w))
                      (λ (w : Memᴰ b (map message_bytes (messages e))).
                      carried-more n s (messages e) z.sent b new (sent-carried n s c (setup-at n s setup) named e st.closed.sent b w))
                      (Memᴰ.append_cases k.leaving (subst (Memᴰ b) leaving-is i));
                  marks = side.marks;
                });
            sent = λ b i. carried-more n s y.sent z.sent b more (tie.sent b i);
            history = ap (λ (l : List (Happening rules.Settling)). recorded l (owner_of call) (number_of call) call) tie.history ∙ recorded-heard x.history (owner_of call) (number_of call) call;
          }

    -- one mark is saved
    pub marked-here : (code : ℕ) (rest : List ℕ) → k.listed ≡ code ∷ rest → Marked n s c (saved_table k) k.lent code rest
    marked-here code rest e = marked_next n s c (saved_table k) k.lent code rest k.listed (side.kept copy) side.pending e

    pub mark-out : (code : ℕ) (rest : List ℕ) (m : Marked n s c (saved_table k) k.lent code rest) → next_out n s (y.tables c) ≡ Some (instance m.owner m.number)
    mark-out code rest m =
        let t : List ℕ = saved_table k in
        ap (next_out n s) side.table ∙ sym (next-alike n s (records_in s t) (records n s t) (alike n s t)) ∙ m.next

    pub mark-tie : (code : ℕ) (rest : List ℕ) (m : Marked n s c (saved_table k) k.lent code rest)
        → Tie (changed x c (marking n s c k code rest)) (rules.marked y c m.owner m.number)
    mark-tie code rest m =
        let t : List ℕ = saved_table k in
        let h : Kept n s c t = side.kept copy in
        let o : ℕ = m.owner in
        let j : ℕ = m.number in
        let z : rules.State = rules.marked y c o j in
        let disk : saved_table (marking n s c k code rest) ≡ marked_in s t o j =
        ap₂ (λ (p i : ℕ). stored s t (save_of n s c k.lent p i)) m.is-owner m.is_number ∙ m.saved in
        record {
          copies = one-copy z x.copies c (marking n s c k code rest)
              (λ q ne. beside-still y z q (x.copies q) (other-stays y.tables c _ q ne) (other-stays y.marks c _ q ne) (λ a i. i) (tie.copies q))
              (record {
                table = here-is y.tables c (mark (y.tables c) o j) ∙ ap (λ (f : Records). mark f o j) side.table
                    ∙ sym (ap (records n s) disk ∙ mark-records n s c t h o j m.found);
                kept = λ l. subst (Kept n s c) (sym disk) (mark-kept n s c t h o j m.found);
                pending = subst (λ (v : List ℕ). Pending n s v k.lent rest) (sym disk) m.pending;
                leaving = side.leaving;
                marks = here-is y.marks c (y.marks c ++ (o, j) ∷ []) ∙ ap (λ (l : List Instance). l ++ (o, j) ∷ []) side.marks
                    ∙ ap₂ (λ (p i : ℕ). k.marks ++ (p, i) ∷ []) (sym m.is-owner) (sym m.is_number);
              });
          sent = tie.sent;
          history = tie.history;
        }

    -- once all that was listed is saved, the table in memory is the saved one
    pub in_memory : k.listed ≡ [] → k.lent ≡ saved_table k
    in_memory none = all_saved n s (saved_table k) k.lent k.listed side.pending none

    pub hand-tie : (list : List ℕ) (i : ℕ) → k.listed ≡ [] → (handed n s c k.lent list).answer ≡ Ok i
        → Tie (changed x c (handing k (handed n s c k.lent list) i)) y
    hand-tie list i none answer-is =
        let memory = in_memory none in
        quietly (handing k (handed n s c k.lent list) i)
        (record {
          table = side.table;
          kept = side.kept;
          pending = rw memory (listed-pending n s c (saved_table k) list (side.kept copy) i (rw memory at answer-is));
          leaving = side.leaving;
          marks = side.marks;
        })

    cut-tie : Tie (changed x c (restarted k)) y
    cut-tie =
        quietly (restarted k)
        (record {
          table = side.table;
          kept = side.kept;
          pending = none-pending n s (saved_table k) (saved_table k) refl;
          leaving = λ b i. absurd (Memᴰ.not-nil i);
          marks = side.marks;
        })

    leave-tie : (b : List ℕ) → Memᴰ b k.leaving → Tie (record { copies = x.copies; sent = x.sent ++ b ∷ []; history = x.history }) y
    leave-tie b i =
        record {
          copies = tie.copies;
          sent = λ d q.
              ⊎_elim (λ (h : Memᴰ d x.sent). tie.sent d h) (λ (h : Memᴰ d (b ∷ [])). rw (Memᴰ.eq_of_singleton h) (side.leaving b i))
              (Memᴰ.append_cases x.sent q);
          history = tie.history;
        }

    -- the table in memory is sound, also while marks are still to be saved
    pub lent-kept : Kept n s c k.lent
    lent-kept = rw side.pending.table (left side.pending.room n s c (saved_table k) (side.kept copy)).kept

    -- and its votes are the saved ones
    same-votes : SameVotes n s (records_in s k.lent) (y.tables c)
    same-votes o j i =
        ap (λ (t : List ℕ). (record_in s t o j).vote) side.pending.table ∙ hand-vote n s side.pending.room c (saved_table k) (side.kept copy) o j i
        ∙ ap (λ (r : Record). r.vote) (sym (ap (λ (u : Records). u o j) side.table ∙ at-range n s (saved_table k) o j i))

    -- so a question is answered as the rules do
    pub question-tie : (o j : ℕ)
        → Tie (remembered x (x.history ++ answered c o j (settled n s c k.lent o j) ∷ [])) (rules.happened y (answered c o j (rules.settling n s (y.tables c) o j)))
    question-tie o j =
        record {
          copies = λ q. beside-still y (rules.happened y (answered c o j (rules.settling n s (y.tables c) o j))) q (x.copies q) refl refl (λ m i. i) (tie.copies q);
          sent = tie.sent;
          history =
              ap (λ (a : rules.Settling). y.history ++ answered c o j a ∷ []) (sym (settled-heard n s c k.lent (y.tables c) lent-kept same-votes o j))
              ∙ ap (λ (l : List (Happening rules.Settling)). l ++ heard (answered c o j (settled n s c k.lent o j)) ∷ []) tie.history
              ∙ sym (map-append heard x.history (answered c o j (settled n s c k.lent o j) ∷ []));
        }

  still : (y : rules.State) {z : State} → Tie z y → Next y z
  still y t = record { later = y; run = rules.stay; tie = t }

  -- an answered call names an instance
  pub event-range : (x : State) (y : rules.State) (tie : Tie x y) (c : ℕ) (copy : c < n) (call : Call) (out : List ℕ) (o j w : ℕ) → Possible x.sent call → (x.copies c).listed ≡ []
      → (outcome n s c (x.copies c).lent out call).answer ≡ event_of o j w → instance_ok n s o j ≡ true
  unfolding log.acted
  event-range x y tie c copy call out o j w possible none answer-is =
      let memory = in_memory x y tie c copy none in
      let result : (outcome n s c (saved_table (x.copies c)) out call).answer ≡ event_of o j w = ap (λ (v : List ℕ). (outcome n s c v out call).answer) (sym memory) ∙ answer-is in
      let st = stepped n s c (saved_table (x.copies c)) out ((tie.copies c).kept copy) copy y (tie.copies c).table call (brought x y tie c copy call possible) (ap answer_number result) in
      let e : event_of o j w ≡ event_of (owner_in c call) (number_in s c (y.tables c) call) (length (out_bytes (step_in n s c (y.tables c) call))) =
      sym result ∙ ap (λ (v : Outcome). v.answer) st.is in
      ap₂ (instance_ok n s) (ap answer_owner e) (ap answer_instance e) ∙ st.range

  -- an answered call, as it was answered
  event-next : (x : State) (y : rules.State) (tie : Tie x y) (c : ℕ) (copy : c < n) (call : Call) (out : List ℕ) (o j w : ℕ) → Possible x.sent call → (x.copies c).listed ≡ []
      → (outcome n s c (x.copies c).lent out call).answer ≡ event_of o j w
      → Next y (remembered (changed x c (acted n s c (x.copies c) (outcome n s c (x.copies c).lent out call) o j w)) (recorded x.history o j call))
  unfolding log.acted
  event-next x y tie c copy call out o j w possible none answer-is =
      let memory = in_memory x y tie c copy none in
      let result : (outcome n s c (saved_table (x.copies c)) out call).answer ≡ event_of o j w = ap (λ (v : List ℕ). (outcome n s c v out call).answer) (sym memory) ∙ answer-is in
      let st = stepped n s c (saved_table (x.copies c)) out ((tie.copies c).kept copy) copy y (tie.copies c).table call (brought x y tie c copy call possible) (ap answer_number result) in
      let e : event_of o j w ≡ event_of (owner_in c call) (number_in s c (y.tables c) call) (length (out_bytes (step_in n s c (y.tables c) call))) =
      sym result ∙ ap (λ (v : Outcome). v.answer) st.is in
      rw (ap answer_owner e, ap answer_instance e, ap answer_written e)
      (record {
        later = moved n s y c call (messages (step_in n s c (y.tables c) call));
        run = rules.further rules.stay (st.move _ (λ m i. i));
        tie = event-tie x y tie c copy call out st memory;
      })

  -- every move over bytes is a move of the rules, or none
  pub move-next : {x z : State} (y : rules.State) → Tie x y → Move n s x z → Next y z
  move-next {x = x} y tie (event c call out o j w copy possible none answer-is) = event-next x y tie c copy call out o j w possible none answer-is
  move-next {x = x} y tie (leave c b copy i) = still y (leave-tie x y tie c copy b i)
  move-next {x = x} y tie (hand_out c list i copy none answer-is) = still y (hand-tie x y tie c copy list i none answer-is)
  move-next {x = x} y tie (mv-mark c code rest copy e) =
      let m = marked-here x y tie c copy code rest e in
      record {
        later = rules.marked y c m.owner m.number;
        run = rules.further rules.stay (rules.hand_out c m.owner m.number copy (mark-out x y tie c copy code rest m));
        tie = mark-tie x y tie c copy code rest m;
      }
  move-next {x = x} y tie (question c o j copy) =
      record {
        later = rules.happened y (answered c o j (rules.settling n s (y.tables c) o j));
        run = rules.further rules.stay (rules.question c o j copy);
        tie = question-tie x y tie c copy o j;
      }
  move-next {x = x} y tie (cut c copy) = still y (cut-tie x y tie c copy)

  run_on : {x y z : rules.State} → rules.Run n s x y → rules.Run n s y z → rules.Run n s x z
  run_on r rules.stay = r
  run_on r (rules.further q m) = rules.further (run_on r q) m

  -- the bridge
  pub bridge : {x z : State} (y : rules.State) → Tie x y → Run n s x z → Next y z
  bridge y tie stay = record { later = y; run = rules.stay; tie = tie }
  bridge y tie (further r m) =
      let a = bridge y tie r in
      let b = move-next a.later a.tie m in
      record { later = b.later; run = run_on a.run b.run; tie = b.tie }
