-- And back: every run of the rules whose requests fit their fields is a run over bytes, so nothing that the rules can do is
-- lost there. Assumes nothing.
use Rattle.std.specs.Prelude.{Option, Some, Ok}
use Prim.Native.Nat.{ℕ, ◌≤◌, ◌<◌}
use mathlib.Core.Path.{◌≡◌, refl, sym, ap, ◌∙◌, subst}
use mathlib.Core.Bool.{Bool, true, false, cond}
use mathlib.Core.Logic.{◌⊎◌, inl, inr, ⊎_elim}
use mathlib.Core.List.Memᴰ
use mathlib.Core.List.{List, [], ◌∷◌, ◌++◌, map, Memᴰ}
use lib.Dec.{eqb}
use lib.ListN.{length, take, replicate}
use borrow.Author.Tests.{eqb-false, le-ltb}
use Rattle.paper.specs.Command.{is_noop, command_ok, Interference, Wide}
use Rattle.paper.specs.Instance.{instance_ok}
use Rattle.paper.specs.Valid.{valid}
use Rattle.paper.specs.declared.Command.{Command}
use Rattle.paper.specs.declared.Message.{Message}
use Rattle.rules.specs.declared.Step.{Step}
use Rattle.rules.specs.declared.Instance.{Instance}
use Rattle.rules.specs.Seen.{Records}
use Rattle.rules.specs.Step.{is_committed}
use Rattle.rules.specs.Received.{refused10}
use Rattle.rules.specs.Recover.{out_of_ballots}
use Rattle.rules.specs.Nudge.{nothing_to_nudge}
use Rattle.rules.specs.Events.{request_number, on_request, on_message, on_recover, on_nudge, messages}
use Rattle.rules.specs.Order.{instance, candidate, next_out, code_of, found, hand_out}
use Rattle.wire.specs.Wire.{message_at, message_bytes}
use Rattle.table.specs.Table.{blank_table, record_in, Kept}
use Rattle.seen.specs.Records.{records_in}
use Rattle.paper.specs.Fits.{CommandFits, MessageFits}
use Rattle.closed.proofs.Heard.{valid-instance}
use Rattle.closed.proofs.Mark.{Found, next_out-found}
use Rattle.gate.specs.Out.{out_bytes}
use Rattle.gate.specs.Events.{Outcome, asked, receive_open, recover_open, nudge_open, answer_number}
use Rattle.gate.specs.Events as log
use Rattle.gate.proofs.Calls.{setup-of, receive-open}
use Rattle.gate.proofs.Held.{out-short}
use Rattle.order.specs.Calls.{settled, handed_codes, handed}
use Rattle.safety.specs.Run.{Happening, requested, answered, Setup, replaced}
use Rattle.safety.specs.Run as rules
use Rattle.safety.proofs.Runs.{history-more}
use Rattle.demand.specs.Run.{Copy, saved_table, State, begun, Start, blanks, Call, request, receive, recover, nudge, outcome, Possible, written, acted, handing, marking, restarted, changed, remembered, Move, event, leave, question, cut, Run, stay, further}
use Rattle.demand.specs.Run.{mark as mv-mark, hand_out as mv-hand_out}
use Rattle.demand.proofs.Range.{number-alike, next-alike}
use Rattle.demand.proofs.Records.{records, at-range, alike, setup-at}
use Rattle.demand.proofs.Written.{reads, Carried, carried-more, mapped, message-carried, written_is}
use Rattle.demand.proofs.Handing.{Pending, none-pending, hand-answers, listed-is, next-codes}
use Rattle.demand.proofs.History.{heard}
use Rattle.demand.proofs.Steps.{gate-is, Brought, owner_in, number_in, step_in, moved, stepped}
use Rattle.demand.proofs.Bridge.{Beside, Tie, blank-tie, one-copy, here-is, other-stays, after, event-tie, in_memory, question-tie, hand-tie, marked-here, mark-out, mark-tie}

-- what the calls take of a command that is no no-op
abbrev pub Fits : Command → Type 0
Fits k = (command_ok k ≡ true) × CommandFits k

in_map : (m : Message) (l : List Message) → Memᴰ m l → Memᴰ (message_bytes m) (map message_bytes l)
in_map m l (Memᴰ.head e) = Memᴰ.head (ap message_bytes e)
in_map m l (Memᴰ.tail {xs = xs} h) = Memᴰ.tail (in_map m xs h)

module _ (n s : ℕ) (setup : Setup n s) where
  -- nothing is on its way to the disk or to the network, and all that the rules sent was sent as bytes
  pub record Full (x : State) (y : rules.State) : Type 0 where
    pub tie : Tie n s setup x y
    pub still : (q : ℕ) → (x.copies q).leaving ≡ []
    pub saved : (q : ℕ) → (x.copies q).listed ≡ []
    pub bytes : (m : Message) → Memᴰ m y.sent → Memᴰ (message_bytes m) x.sent
    pub read : (m : Message) → Memᴰ m y.sent → message_at (message_bytes m) ≡ m

  pub record Back (x : State) (y : rules.State) : Type 0 where
    pub later : State
    pub run : Run n s x later
    pub full : Full later y

  run_on : {x y z : State} → Run n s x y → Run n s y z → Run n s x z
  run_on r stay = r
  run_on r (further q m) = further (run_on r q) m

  -- messages leave one after the other
  record Gone (x : State) (strings : List (List ℕ)) : Type 0 where
    later : State
    run : Run n s x later
    copies : later.copies ≡ x.copies
    history : later.history ≡ x.history
    old : (b : List ℕ) → Memᴰ b x.sent → Memᴰ b later.sent
    new : (b : List ℕ) → Memᴰ b strings → Memᴰ b later.sent
    only : (b : List ℕ) → Memᴰ b later.sent → Memᴰ b x.sent ⊎ Memᴰ b strings

  go-out : (x : State) (c : ℕ) → c < n → (strings : List (List ℕ)) → ((b : List ℕ) → Memᴰ b strings → Memᴰ b (x.copies c).leaving) → Gone x strings
  go-out x c l [] h = record { later = x; run = stay; copies = refl; history = refl; old = λ b i. i; new = λ b i. absurd (Memᴰ.not-nil i); only = λ b i. inl i }
  go-out x c l (b ∷ strings) h =
      let r = go-out x c l strings (λ d i. h d (Memᴰ.tail i)) in
      record {
        later = record { copies = r.later.copies; sent = r.later.sent ++ b ∷ []; history = r.later.history };
        run = further r.run (leave c b l (rw r.copies (h b (Memᴰ.head refl))));
        copies = r.copies;
        history = r.history;
        old = λ d i. Memᴰ.append_left (b ∷ []) (r.old d i);
        new = λ d i. ⊎_elim (λ (e : d ≡ b). Memᴰ.append_right r.later.sent (Memᴰ.head e)) (λ (k : Memᴰ d strings). Memᴰ.append_left (b ∷ []) (r.new d k)) (Memᴰ.cases_cons i);
        only = λ d i.
            ⊎_elim
            (λ (k : Memᴰ d r.later.sent). ⊎_elim (λ (a : Memᴰ d x.sent). inl a) (λ (a : Memᴰ d strings). inr (Memᴰ.tail a)) (r.only d k))
            (λ (k : Memᴰ d (b ∷ [])). inr (Memᴰ.head (Memᴰ.eq_of_singleton k)))
            (Memᴰ.append_cases r.later.sent i);
      }

  -- a room of 256 bytes
  abbrev room : List ℕ
  room = replicate 256 0

  module _ (x : State) (y : rules.State) (f : Full x y) (c : ℕ) (copy : c < n) where
    abbrev k : Copy
    k = x.copies c

    abbrev kept : Kept n s c (saved_table k)
    kept = (f.tie.copies c).kept copy

    abbrev memory : k.lent ≡ saved_table k
    memory = in_memory n s setup x y f.tie c copy (f.saved c)

    -- an answered call, with the messages that left before a cut
    event-back : (call : Call) → Possible x.sent call → Brought n s y.sent call → answer_number (outcome n s c (saved_table k) room call).answer ≡ 0
        → (l : List Message) → rules.Among l (messages (step_in n s c (y.tables c) call)) → Back x (moved n s y c call l)
    unfolding log.acted
    event-back call possible brought answer-is l among =
        let t = f.tie in
        let o : ℕ = owner_in c call in
        let j : ℕ = number_in s c (y.tables c) call in
        let e : Step = step_in n s c (y.tables c) call in
        let st = stepped n s c (saved_table k) room kept copy y (t.copies c).table call brought answer-is in
        let p = setup-of n s c (saved_table k) kept.setup in
        let result : outcome n s c k.lent room call ≡ log.acted s (saved_table k) room o j e = ap (λ (v : List ℕ). outcome n s c v room call) memory ∙ st.is in
        let x₁ : State = after n s setup x y t c copy call room in
        let first : Move n s x x₁ = event c call room o j (length (out_bytes e)) copy possible (f.saved c) (ap (λ (z : Outcome). z.answer) result) in
        let tie₁ : Tie n s setup x₁ (moved n s y c call (messages e)) = event-tie n s setup x y t c copy call room st memory in
        let wrote : written (length (out_bytes e)) (outcome n s c k.lent room call).out ≡ map message_bytes (messages e) =
        ap (λ (z : Outcome). written (length (out_bytes e)) z.out) result ∙ written_is e room st.long (out-short n s c p e st.closed.sent) in
        let strings : List (List ℕ) = map message_bytes l in
        let ready : (b : List ℕ) → Memᴰ b strings → Memᴰ b (x₁.copies c).leaving =
        λ b i.
        let g = mapped l b i in
        rw (here-is n s setup x.copies c (acted n s c k (outcome n s c k.lent room call) o j (length (out_bytes e))), g.is)
        (Memᴰ.append_right k.leaving (rw wrote (in_map g.message (messages e) (among g.message g.among)))) in
        let r = go-out x₁ c copy strings ready in
        let x₂ : State = r.later in
        let said : (m : Message) → Memᴰ m l → Carried n s (y.sent ++ l) (message_bytes m) × (message_at (message_bytes m) ≡ m) =
        λ m i. message-carried n s c (setup-at n s setup) p e st.closed.sent m (among m i) (y.sent ++ l) (Memᴰ.append_right y.sent i) in
        record {
          later = changed x₂ c (restarted (x₂.copies c));
          run = further (run_on (further stay first) r.run) (cut c copy);
          full = record {
            tie = record {
              copies = λ q. side x₂.copies (moved n s y c call l) (λ i. rw r.copies (tie₁.copies i).table) (λ i. rw r.copies (tie₁.copies i).kept) (λ i. rw r.copies (tie₁.copies i).pending) (λ i. rw r.copies (tie₁.copies i).marks) (λ i ne. rw (r.copies, other-stays n s setup x.copies c _ i ne) (f.still i)) q;
              sent = λ b i.
                  ⊎_elim (λ (h : Memᴰ b x.sent). carried-more n s y.sent (y.sent ++ l) b (λ m z. Memᴰ.append_left l z) (t.sent b h))
                  (λ (h : Memᴰ b strings). let g = mapped l b h in rw g.is (said g.message g.among).0) (r.only b i);
              history = tie₁.history ∙ sym (ap (map heard) r.history);
            };
            still = λ q. quiet x₂.copies (λ (z : Copy). z.leaving ≡ []) refl (λ i ne. rw (r.copies, other-stays n s setup x.copies c _ i ne) (f.still i)) q;
            saved = λ q. quiet x₂.copies (λ (z : Copy). z.listed ≡ []) refl (λ i ne. rw (r.copies, other-stays n s setup x.copies c _ i ne) (f.saved i)) q;
            bytes = λ m i. ⊎_elim (λ (h : Memᴰ m y.sent). r.old (message_bytes m) (f.bytes m h)) (λ (h : Memᴰ m l). r.new (message_bytes m) (in_map m l h)) (Memᴰ.append_cases y.sent i);
            read = λ m i. ⊎_elim (λ (h : Memᴰ m y.sent). f.read m h) (λ (h : Memᴰ m l). (said m h).1) (Memᴰ.append_cases y.sent i);
          };
        }
      where
        quiet : (g : ℕ → Copy) (P : Copy → Type 0) → P (restarted (g c)) → ((q : ℕ) → (q ≡ c → ⊥) → P (g q)) → (q : ℕ) → P (replaced g c (restarted (g c)) q)
        quiet g P h others q = go (eqb q c) refl
          where
            go : (b : Bool) → eqb q c ≡ b → P (cond b (restarted (g c)) (g q))
            go true e = h
            go false e = others q (eqb-false q c e)

        side : (g : ℕ → Copy) (z : rules.State) → ((i : ℕ) → z.tables i ≡ records n s (saved_table (g i))) → ((i : ℕ) → i < n → Kept n s i (saved_table (g i)))
            → ((i : ℕ) → Pending n s (saved_table (g i)) (g i).lent (g i).listed) → ((i : ℕ) → z.marks i ≡ (g i).marks) → ((i : ℕ) → (i ≡ c → ⊥) → (g i).leaving ≡ [])
            → (q : ℕ) → Beside n s setup z q (replaced g c (restarted (g c)) q)
        side g z table kept pending marks none =
            one-copy n s setup z g c (restarted (g c))
            (λ q ne. record { table = table q; kept = kept q; pending = pending q; leaving = λ b i. absurd (Memᴰ.not-nil (rw (none q ne) at i)); marks = marks q })
            (record { table = table c; kept = kept c; pending = none-pending n s (saved_table (g c)) (saved_table (g c)) refl; leaving = λ b i. absurd (Memᴰ.not-nil i); marks = marks c })

    -- a mark: a hand-out into one place, and its save
    mark-back : (o j : ℕ) → next_out n s (y.tables c) ≡ Some (instance o j) → Back x (rules.marked y c o j)
    unfolding handed_codes hand_out
    mark-back o j next =
        let t = f.tie in
        let d : List ℕ = saved_table k in
        let one : List ℕ = 0 ∷ [] in
        let i : ℕ = length (handed_codes 1 n s d) in
        let e : next_out n s (records_in s d) ≡ Some (instance o j) = next-alike n s (records_in s d) (records n s d) (alike n s d) ∙ ap (next_out n s) (sym (t.copies c).table) ∙ next in
        let ok : Found n s (candidate n s (records_in s d)) (Some (instance o j)) = rw e at (next_out-found n s (records_in s d)) in
        let answer-is : (handed n s c k.lent one).answer ≡ Ok i = rw memory (hand-answers n s c d one kept) in
        let h : Copy = handing k (handed n s c k.lent one) i in
        let x₁ : State = changed x c h in
        let tie₁ : Tie n s setup x₁ y = hand-tie n s setup x y t c copy one i (f.saved c) answer-is in
        let at : x₁.copies c ≡ h = here-is n s setup x.copies c h in
        let codes : h.listed ≡ code_of o j ∷ [] =
        ap (λ (v : List ℕ). take i (handed n s c v one).list) memory ∙ listed-is n s c d one kept i (hand-answers n s c d one kept) ∙ next-codes n s c d kept o j ok 0 e in
        let listed : (x₁.copies c).listed ≡ code_of o j ∷ [] = ap (λ (z : Copy). z.listed) at ∙ codes in
        let m = marked-here n s setup x₁ y tie₁ c copy (code_of o j) [] listed in
        let same : Some (instance m.owner m.number) ≡ Some (instance o j) = sym (mark-out n s setup x₁ y tie₁ c copy (code_of o j) [] m) ∙ next in
        let own : m.owner ≡ o = ap (λ (z : Option Instance). found z 0 (λ p q. p)) same in
        let num : m.number ≡ j = ap (λ (z : Option Instance). found z 0 (λ p q. q)) same in
        let tie₂ = mark-tie n s setup x₁ y tie₁ c copy (code_of o j) [] m in
        record {
          later = changed x₁ c (marking n s c (x₁.copies c) (code_of o j) []);
          run = further (further stay (mv-hand_out c one i copy (f.saved c) answer-is)) (mv-mark c (code_of o j) [] copy listed);
          full = record {
            tie = rw (own, num) at tie₂;
            still = λ q. twice (λ (z : Copy). z.leaving ≡ []) h (marking n s c (x₁.copies c) (code_of o j) []) (ap (λ (z : Copy). z.leaving) at ∙ f.still c) (λ p. f.still p) q;
            saved = λ q. twice (λ (z : Copy). z.listed ≡ []) h (marking n s c (x₁.copies c) (code_of o j) []) refl (λ p. f.saved p) q;
            bytes = f.bytes;
            read = f.read;
          };
        }
      where
        twice : (P : Copy → Type 0) (h g : Copy) → P g → ((q : ℕ) → P (x.copies q)) → (q : ℕ) → P (replaced (replaced x.copies c h) c g q)
        twice P h g here others q = go (eqb q c)
          where
            go : (b : Bool) → P (cond b g (cond b h (x.copies q)))
            go true = here
            go false = others q

    -- the rules' premises are what the calls ask
    there : (o j : ℕ) → instance_ok n s o j ≡ true → y.tables c o j ≡ record_in s (saved_table k) o j
    there o j i = ap (λ (u : Records). u o j) (f.tie.copies c).table ∙ at-range n s (saved_table k) o j i

    request-back : (w : Interference) → Wide w → (v : Command) → Fits v → is_noop v ≡ false → request_number s c (y.tables c) ≤ s → (l : List Message)
        → rules.Among l (messages (on_request w n s c (y.tables c) v)) → Back x (moved n s y c (request w v) l)
    unfolding asked log.acted
    request-back w wide v (ok, fits) noop small l among =
        let t : List ℕ = saved_table k in
        let num : request_number s c (records_in s t) ≤ s =
        rw (number-alike n s (records_in s t) (records n s t) (alike n s t) c copy, ← (f.tie.copies c).table) small in
        event-back (request w v) (wide, noop, ok, fits) (wide, noop, ok, fits) (rw (gate-is n s c t room (asked w n s c t room v) kept, le-ltb s (request_number s c (records_in s t)) num)) l among

    receive-back : (w : Interference) → Wide w → (m : Message) → Memᴰ m y.sent → valid n s c m ≡ true → refused10 (y.tables c m.owner m.number) m ≡ false → (l : List Message)
        → rules.Among l (messages (on_message w n s c (y.tables c) m)) → Back x (rules.saved y c (rules.save_of m.owner m.number (on_message w n s c (y.tables c) m)) l)
    unfolding log.acted
    receive-back w wide m i v r l among =
        let t : List ℕ = saved_table k in
        let b : List ℕ = message_bytes m in
        let read : message_at b ≡ m = f.read m i in
        let brought : Carried n s y.sent b = f.tie.sent b (f.bytes m i) in
        let fits : MessageFits m = rw read at brought.fits in
        let taken = (reads n s c m fits (setup-at n s setup c copy) v).taken in
        let test : refused10 (record_in s t m.owner m.number) m ≡ false = rw (← there m.owner m.number (valid-instance n s c m v)) r in
        let answer-is : answer_number (outcome n s c t room (receive w b)).answer ≡ 0 =
        rw (gate-is n s c t room (receive_open w n s c t room b) kept, receive-open w n s c t room b (setup-at n s setup c copy), taken, read, test) in
        subst (λ (z : Message). rules.Among l (messages (on_message w n s c (y.tables c) z)) → Back x (rules.saved y c (rules.save_of z.owner z.number (on_message w n s c (y.tables c) z)) l))
        read (λ a. event-back (receive w b) (wide, f.bytes m i) (wide, brought) answer-is l a) among

    recover-back : (o j : ℕ) → instance_ok n s o j ≡ true → is_committed (y.tables c o j) ≡ false → out_of_ballots (y.tables c o j) ≡ false → (l : List Message)
        → rules.Among l (messages (on_recover n c (y.tables c) o j)) → Back x (rules.saved y c (rules.save_of o j (on_recover n c (y.tables c) o j)) l)
    unfolding recover_open log.acted
    recover-back o j i free low l among =
        let t : List ℕ = saved_table k in
        let a : is_committed (record_in s t o j) ≡ false = rw (← there o j i) free in
        let b : out_of_ballots (record_in s t o j) ≡ false = rw (← there o j i) low in
        event-back (recover o j) tt tt (rw (gate-is n s c t room (recover_open n s c t room o j) kept, i, a, b)) l among

    nudge-back : (o j : ℕ) → instance_ok n s o j ≡ true → nothing_to_nudge (y.tables c o j) ≡ false → (l : List Message)
        → rules.Among l (messages (on_nudge n c (y.tables c) o j)) → Back x (rules.saved y c (rules.save_of o j (on_nudge n c (y.tables c) o j)) l)
    unfolding nudge_open log.acted
    nudge-back o j i busy l among =
        let t : List ℕ = saved_table k in
        let a : nothing_to_nudge (record_in s t o j) ≡ false = rw (← there o j i) busy in
        event-back (nudge o j) tt tt (rw (gate-is n s c t room (nudge_open n s c t room o j) kept, i, a)) l among

    question-back : (o j : ℕ) → Back x (rules.happened y (answered c o j (rules.settling n s (y.tables c) o j)))
    question-back o j = record {
      later = remembered x (x.history ++ answered c o j (settled n s c k.lent o j) ∷ []);
      run = further stay (question c o j copy);
      full = record { tie = question-tie n s setup x y f.tie c copy o j; still = f.still; saved = f.saved; bytes = f.bytes; read = f.read };
    }

  -- requests whose keys are as the op has them, each a u32, with an edit that is a u64
  abbrev pub Fitting : List (Happening rules.Settling) → Type 0
  Fitting l = (o j : ℕ) (k : Command) → Memᴰ (requested o j k) l → Fits k

  move-back : {y z : rules.State} (x : State) → Full x y → rules.Move n s y z → Fitting z.history → Back x z
  move-back {y = y} x f (rules.request c w v l copy wide noop small among) fit =
      request-back x y f c copy w wide v (fit _ _ _ (Memᴰ.append_right y.history (Memᴰ.head refl))) noop small l among
  move-back {y = y} x f (rules.receive c w m l copy wide i v r among) fit = receive-back x y f c copy w wide m i v r l among
  move-back {y = y} x f (rules.recover c o j l copy i free low among) fit = recover-back x y f c copy o j i free low l among
  move-back {y = y} x f (rules.nudge c o j l copy i busy among) fit = nudge-back x y f c copy o j i busy l among
  move-back {y = y} x f (rules.hand_out c o j copy e) fit = mark-back x y f c copy o j e
  move-back {y = y} x f (rules.question c o j copy) fit = question-back x y f c copy o j

  -- a run over bytes that ends beside y
  pub record Traced (y : rules.State) : Type 0 where
    pub first : State
    pub start : Start n s first
    pub later : State
    pub run : Run n s first later
    pub full : Full later y

  pub back : {y₀ y : rules.State} → rules.Start n s y₀ → rules.Run n s y₀ y → Fitting y.history → Traced y
  back rules.blanks rules.stay fit = record {
    first = begun (blank_table n s) [];
    start = blanks;
    later = begun (blank_table n s) [];
    run = stay;
    full = record {
      tie = blank-tie n s setup;
      still = λ q. refl;
      saved = λ q. refl;
      bytes = λ m i. absurd (Memᴰ.not-nil i);
      read = λ m i. absurd (Memᴰ.not-nil i);
    };
  }
  back st (rules.further r m) fit =
      let a = back st r (λ o j k h. fit o j k (history-more (rules.further rules.stay m) (requested o j k) h)) in
      let b = move-back a.later a.full m fit in
      record { first = a.first; start = a.start; later = b.later; run = run_on a.run b.run; full = b.full }
