-- What each call answers on a table that holds these records: the rule's step on the records, and what the table then holds.
-- Assumes nothing.
use Rattle.std.specs.Prelude.{Some, None, Ok}
use Prim.Native.Nat.{ℕ, suc, ◌≤◌, ◌<◌, ◌^◌}
use mathlib.Core.Path.{◌≡◌, refl, sym, ap, ap₂, ◌∙◌, subst}
use mathlib.Core.Bool.{Bool, true, false, ◌&&◌, not, cond}
use mathlib.Core.List.{List, [], ◌∷◌}
use native.Mathlib.Omega.{arith}
use native.Mathlib.Decide.{dec_lt}
use lib.Dec.{leb, ltb, eqb}
use lib.ListN.{length, get_or, get_or-eq_default}
use borrow.Author.Tests.{leb-true, ltb-true, eqb-true, lt-ltb, le-ltb}
use Rattle.paper.specs.Logic.{all_below}
use Rattle.paper.specs.Instance.{instance_ok}
use Rattle.paper.specs.Command.{interfere}
use Rattle.paper.specs.Vote.{blank}
use Rattle.paper.specs.Message.{carried_in}
use Rattle.paper.specs.Valid.{valid}
use Rattle.paper.specs.Fits.{CommandFits, DepsFit, MessageFits}
use Rattle.paper.proofs.Laws.{and-true, all_below-at}
use Rattle.paper.specs.declared.Command.{Command}
use Rattle.paper.specs.declared.Record.{Record}
use Rattle.paper.specs.declared.Message.{Message}
use Rattle.paper.specs.declared.Refusal.TheVariants as why
use Rattle.rules.specs.declared.Step.{Step}
use Rattle.rules.specs.Order.{instance, first_open, candidate, next_out, marked, mark, code_of, hand_out}
use Rattle.rules.specs.Seen.{Records}
use Rattle.rules.specs.Step.{is_committed}
use Rattle.rules.specs.Received.{refused10}
use Rattle.rules.specs.Recover.{out_of_ballots}
use Rattle.rules.specs.Events.{put, request_number, on_request, on_message, on_recover}
use Rattle.rules.proofs.Rests.{blank-above}
use Rattle.wire.specs.Wire.{message_bytes}
use Rattle.wire.proofs.Laws.{why_read}
use Rattle.table.specs.Table.{blank_table, record_in, put_record, Kept}
use Rattle.table.specs.Calls.{judged}
use Rattle.seen.specs.Records.{records_in}
use Rattle.order.specs.declared.Settling.TheVariants as settling
use Rattle.order.specs.Calls.{settled, marked_in, handed_table, handed_codes, handed_open, handed}
use Rattle.order.proofs.Asked.{settled-waits, settled-past}
use Rattle.closed.proofs.Mark.{Found, next_out-found}
use Rattle.closed.specs.Held.{Held}
use Rattle.closed.proofs.Heard.{valid-instance}
use Rattle.closed.proofs.Closed.{request-event, message-event, recover-event}
use Rattle.gate.specs.Events.{Outcome, refuse, acted, gated, command_of, command_taken, requested, received, recovered}
use Rattle.gate.proofs.Calls.{setup-of, receive-open}
use Rattle.gate.proofs.Outcomes.{request-ok, asked-5, asked-ok, recover-7, recover-ok}
use Rattle.safety.specs.Run.{Setup}
use Rattle.demand.proofs.Range.{in-range, number-alike, request-alike, message-alike, recover-alike, open-alike, next-alike}
use Rattle.demand.proofs.Records.{records, at-range, alike, blank-table, blank-records, held, put-held, put-records}
use Rattle.demand.proofs.Written.{reads}
use Rattle.demand.proofs.Handing.{sound-judged, mark-kept, mark-records, next-table, next-codes}
use Rattle.demand.proofs.Steps.{gate-is, command-asked}

-- numbers that are in range, by a test
deps-fit : (d : List ℕ) → length d ≡ 7 → all_below 7 (λ i. ltb (get_or d i 0) (256 ^ 2)) ≡ true → DepsFit d
deps-fit d seven h = record { seven = seven; each = λ i. go i (dec_lt i 7) }
  where
    go : (i : ℕ) → Dec (i < 7) → get_or d i 0 < 256 ^ 2
    go i (yes l) = ltb-true _ _ (all_below-at 7 (λ i. ltb (get_or d i 0) (256 ^ 2)) h i l)
    go i (no l) = rw (get_or-eq_default d 0 {n = i} (omega (arith, seven))) (omega arith)

abbrev pub fitting : Message → Bool
fitting m =
    ltb m.from 256 && (ltb m.to 256 && (ltb m.owner 256 && (ltb m.number (256 ^ 2) && (ltb m.ballot (256 ^ 4)
    && (ltb (carried_in m.body).voted (256 ^ 4) && (ltb (carried_in m.body).status 256 && (ltb (carried_in m.body).command.key (256 ^ 4)
    && (ltb (carried_in m.body).command.second (256 ^ 4) && (ltb (carried_in m.body).command.edit (256 ^ 8) && (ltb (carried_in m.body).joined (256 ^ 4) && (eqb (length m.deps) 7
    && all_below 7 (λ i. ltb (get_or m.deps i 0) (256 ^ 2)))))))))))))

pub message-fits : (m : Message) → fitting m ≡ true → MessageFits m
message-fits m h =
    let (a, h₁) = and-true (ltb m.from 256) _ h in
    let (b, h₂) = and-true (ltb m.to 256) _ h₁ in
    let (c, h₃) = and-true (ltb m.owner 256) _ h₂ in
    let (d, h₄) = and-true (ltb m.number (256 ^ 2)) _ h₃ in
    let (e, h₅) = and-true (ltb m.ballot (256 ^ 4)) _ h₄ in
    let (f, h₆) = and-true (ltb (carried_in m.body).voted (256 ^ 4)) _ h₅ in
    let (g, h₇) = and-true (ltb (carried_in m.body).status 256) _ h₆ in
    let (i, h₈) = and-true (ltb (carried_in m.body).command.key (256 ^ 4)) _ h₇ in
    let (q, hₐ) = and-true (ltb (carried_in m.body).command.second (256 ^ 4)) _ h₈ in
    let (j, h₉) = and-true (ltb (carried_in m.body).command.edit (256 ^ 8)) _ hₐ in
    let (k, h₀) = and-true (ltb (carried_in m.body).joined (256 ^ 4)) _ h₉ in
    let (l, o) = and-true (eqb (length m.deps) 7) _ h₀ in
    record {
      from = ltb-true _ _ a;
      to = ltb-true _ _ b;
      owner = ltb-true _ _ c;
      number = ltb-true _ _ d;
      ballot = ltb-true _ _ e;
      body = record { voted = ltb-true _ _ f; status = ltb-true _ _ g; command = record { key = ltb-true _ _ i; second = ltb-true _ _ q; edit = ltb-true _ _ j }; joined = ltb-true _ _ k };
      deps = deps-fit m.deps (eqb-true _ _ l) o;
    }

-- the table is kept, and these are its records
pub record Holds (n s c : ℕ) (t : List ℕ) (u : Records) : Type 0 where
  pub kept : Kept n s c t
  pub is : records n s t ≡ u

pub blank-holds : (n s : ℕ) → Setup n s → (c : ℕ) → c < n → Holds n s c (blank_table n s c) (λ o j. blank)
blank-holds n s h c l = record { kept = blank-table n s h c l; is = blank-records n s h c }

held-here : (n s c : ℕ) (t : List ℕ) (u : Records) → Holds n s c t u → (o j : ℕ) → instance_ok n s o j ≡ true → record_in s t o j ≡ u o j
held-here n s c t u h o j i = sym (at-range n s t o j i) ∙ ap (λ (v : Records). v o j) h.is

-- what an event answers, and what the table holds then
pub record Does (n s c : ℕ) (t out : List ℕ) (u : Records) (x : Outcome) (o j : ℕ) (z : Step) : Type 0 where
  pub is : x ≡ acted s t out o j z
  pub holds : Holds n s c (put_record s t o j z.entry) (put u o j z.entry)

module _ (n s c : ℕ) (t : List ℕ) (u : Records) (h : Holds n s c t u) (out : List ℕ) (room : 256 ≤ length out) where
  open-gate : (rest : Outcome) → gated n s c t out rest ≡ rest
  open-gate rest = gate-is n s c t out rest h.kept ∙ go (ltb (length out) 256) (le-ltb (length out) 256 room)
    where
      go : (b : Bool) → b ≡ false → cond b (refuse why.Room t out) rest ≡ rest
      go b e = rw e

  does : (x : Outcome) (o j : ℕ) (z : Step) → instance_ok n s o j ≡ true → Held n s c o z.entry → x ≡ acted s t out o j z → Does n s c t out u x o j z
  does x o j z i k e =
      record {
        is = e;
        holds = record {
          kept = put-held n s c t h.kept o j i z.entry k;
          is = put-records n s c t h.kept o j i z.entry k ∙ ap (λ (v : Records). put v o j z.entry) h.is;
        };
      }

  pub request-does : (op key second edit : ℕ) → command_taken op key second edit ≡ true → CommandFits (command_of op key second edit) → c < n
      → leb (request_number s c u) s ≡ true
      → Does n s c t out u (requested n s c t out op key second edit) c (request_number s c u) (on_request interfere n s c u (command_of op key second edit))
  unfolding request_number
  request-does op key second edit taken fits copy small =
      let k : Command = command_of op key second edit in
      let num : request_number s c (records_in s t) ≡ request_number s c u = number-alike n s (records_in s t) (records n s t) (alike n s t) c copy ∙ ap (request_number s c) h.is in
      let same : on_request interfere n s c (records_in s t) k ≡ on_request interfere n s c u k =
      request-alike n s (records_in s t) (records n s t) (alike n s t) interfere c copy k ∙ ap (λ (v : Records). on_request interfere n s c v k) h.is in
      let l : request_number s c u ≤ s = leb-true _ _ small in
      let m : request_number s c (records_in s t) ≤ s = rw num l in
      let (noop, ok) = command-asked op key second edit taken in
      let e = open-gate _ ∙ sym (request-ok n s c t out op key second edit refl taken) ∙ sym (asked-ok n s c t out k refl m) in
      does _ c (request_number s c u) (on_request interfere n s c u k) (in-range n s c (request_number s c u) copy (blank-above s 1 (u c)) l)
      (rw (← same) (request-event n s c (setup-of n s c t h.kept.setup) (records_in s t) (held n s c t h.kept) interfere k ok fits noop m).held)
      (e ∙ ap₂ (λ (i : ℕ) (z : Step). acted s t out c i z) num same)

  pub request-full : (op key second edit : ℕ) → command_taken op key second edit ≡ true → c < n → ltb s (request_number s c u) ≡ true
      → requested n s c t out op key second edit ≡ refuse why.NoBlank t out
  request-full op key second edit taken copy full =
      let k : Command = command_of op key second edit in
      let num : request_number s c u ≡ request_number s c (records_in s t) = sym (number-alike n s (records_in s t) (records n s t) (alike n s t) c copy ∙ ap (request_number s c) h.is) in
      let l : s < request_number s c (records_in s t) = rw (← num) (ltb-true s (request_number s c u) full) in
      open-gate _ ∙ sym (request-ok n s c t out op key second edit refl taken) ∙ sym (asked-5 n s c t out k refl l)

  -- a message that is valid here, as it was written
  pub message-does : (m : Message) → fitting m ≡ true → valid n s c m ≡ true → refused10 (u m.owner m.number) m ≡ false
      → Does n s c t out u (received n s c t out (message_bytes m)) m.owner m.number (on_message interfere n s c u m)
  message-does m f v new =
      let setup = setup-of n s c t h.kept.setup in
      let fits = message-fits m f in
      let r = reads n s c m fits setup v in
      let i = valid-instance n s c m v in
      let same : on_message interfere n s c (records_in s t) m ≡ on_message interfere n s c u m =
      message-alike n s (records_in s t) (records n s t) (alike n s t) interfere c m i ∙ ap (λ (w : Records). on_message interfere n s c w m) h.is in
      let taken : received n s c t out (message_bytes m) ≡ acted s t out m.owner m.number (on_message interfere n s c (records_in s t) m) =
      open-gate _ ∙ receive-open interfere n s c t out (message_bytes m) setup ∙ go _ _ r.is r.taken (ap (λ (w : Record). refused10 w m) (held-here n s c t u h m.owner m.number i) ∙ new) in
      does _ m.owner m.number (on_message interfere n s c u m) i (rw (← same) (message-event n s c setup (records_in s t) (held n s c t h.kept) interfere m v fits).held)
      (taken ∙ ap (acted s t out m.owner m.number) same)
    where
      go : (w : Message) (b : Bool) → w ≡ m → b ≡ true → refused10 (record_in s t m.owner m.number) m ≡ false
          → cond (not b) (refuse (why_read n s c (message_bytes m)) t out)
          (cond (refused10 (record_in s t w.owner w.number) w) (refuse why.OtherCommit t out) (acted s t out w.owner w.number (on_message interfere n s c (records_in s t) w)))
          ≡ acted s t out m.owner m.number (on_message interfere n s c (records_in s t) m)
      go w b ew eb e = rw (ew, eb, e)

  pub recover-does : (o j : ℕ) → instance_ok n s o j ≡ true → is_committed (u o j) ≡ false → out_of_ballots (u o j) ≡ false
      → Does n s c t out u (recovered n s c t out o j) o j (on_recover n c u o j)
  recover-does o j i fresh more =
      let setup = setup-of n s c t h.kept.setup in
      let p : is_committed (record_in s t o j) ≡ false = rw (held-here n s c t u h o j i) fresh in
      let q : out_of_ballots (record_in s t o j) ≡ false = rw (held-here n s c t u h o j i) more in
      let same : on_recover n c (records_in s t) o j ≡ on_recover n c u o j =
      recover-alike n s (records_in s t) (records n s t) (alike n s t) c o j i ∙ ap (λ (v : Records). on_recover n c v o j) h.is in
      does _ o j (on_recover n c u o j) i (rw (← same) (recover-event n s c setup (records_in s t) (held n s c t h.kept) o j i p q).held)
      (open-gate _ ∙ sym (recover-ok n s c t out o j i p q) ∙ ap (acted s t out o j) same)

  pub recover-used-up : (o j : ℕ) → instance_ok n s o j ≡ true → is_committed (u o j) ≡ false → out_of_ballots (u o j) ≡ true → recovered n s c t out o j ≡ refuse why.BallotsUsedUp t out
  recover-used-up o j i fresh up =
      let p : is_committed (record_in s t o j) ≡ false = rw (held-here n s c t u h o j i) fresh in
      let q : out_of_ballots (record_in s t o j) ≡ true = rw (held-here n s c t u h o j i) up in
      open-gate _ ∙ sym (recover-7 n s c t out o j i p q)

-- too little room; the settled question, and a hand-out a place at a time
module _ (n s c : ℕ) (t : List ℕ) (u : Records) (h : Holds n s c t u) where
  pub room-short : (out : List ℕ) (rest : Outcome) → length out < 256 → gated n s c t out rest ≡ refuse why.Room t out
  room-short out rest l = gate-is n s c t out rest h.kept ∙ go (ltb (length out) 256) (lt-ltb (length out) 256 l)
    where
      go : (b : Bool) → b ≡ true → cond b (refuse why.Room t out) rest ≡ refuse why.Room t out
      go b e = rw e

  sound-here : Ok tt ≡ judged n s c t
  sound-here = sym (sound-judged n s c t h.kept)

  pub settled-does : (o j p k : ℕ) → instance_ok n s o j ≡ true → first_open n s u o j ≡ Some (instance p k) → settled n s c t o j ≡ Ok (settling.Waits (instance p k))
  settled-does o j p k i e =
      sym (settled-past n s c t o j sound-here (settled-waits n s c t o j p k i
      (sym (open-alike n s (records_in s t) (records n s t) (λ p q z. ap (λ (r : Record). r.vote) (alike n s t p q z)) o j i ∙ ap (λ (v : Records). first_open n s v o j) h.is ∙ e))))

  pub handed-does : (list : List ℕ) → handed n s c t list ≡ handed_open n s t list
  unfolding handed
  handed-does list = rw (← sound-here)

  next_here : next_out n s (records_in s t) ≡ next_out n s u
  next_here = next-alike n s (records_in s t) (records n s t) (alike n s t) ∙ ap (next_out n s) h.is

  -- it goes on from the table with that mark
  pub record Hands (room o j : ℕ) : Type 0 where
    pub table : handed_table (suc room) n s t ≡ handed_table room n s (put_record s t o j (marked (u o j)))
    pub codes : handed_codes (suc room) n s t ≡ code_of o j ∷ handed_codes room n s (put_record s t o j (marked (u o j)))
    pub holds : Holds n s c (put_record s t o j (marked (u o j))) (put u o j (marked (u o j)))

  pub hands : (room o j : ℕ) → next_out n s u ≡ Some (instance o j) → Hands room o j
  unfolding marked_in
  hands room o j e =
      let a : next_out n s (records_in s t) ≡ Some (instance o j) = next_here ∙ e in
      let f : Found n s (candidate n s (records_in s t)) (Some (instance o j)) = subst (Found n s (candidate n s (records_in s t))) a (next_out-found n s (records_in s t)) in
      let m : marked_in s t o j ≡ put_record s t o j (marked (u o j)) = ap (λ (r : Record). put_record s t o j (marked r)) (held-here n s c t u h o j f.0) in
      record {
        table = next-table n s c t h.kept o j f room a ∙ ap (handed_table room n s) m;
        codes = next-codes n s c t h.kept o j f room a ∙ ap (λ (w : List ℕ). code_of o j ∷ handed_codes room n s w) m;
        holds = record {
          kept = subst (Kept n s c) m (mark-kept n s c t h.kept o j f);
          is = ap (records n s) (sym m) ∙ mark-records n s c t h.kept o j f ∙ ap (λ (v : Records). mark v o j) h.is;
        };
      }

  -- and ends where nothing is left
  pub hands_none : (room : ℕ) → next_out n s u ≡ None → (handed_table (suc room) n s t ≡ t) × (handed_codes (suc room) n s t ≡ [])
  unfolding handed_table handed_codes hand_out
  hands_none room e = let a : next_out n s (records_in s t) ≡ None = next_here ∙ e in (rw a, rw a)
