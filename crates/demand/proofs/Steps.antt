-- A call that answers an event on a sound table is a move of the rules on its records. Assumes nothing.
use Prim.Native.Nat.{ℕ, zero, suc, ◌≤◌, ◌<◌}
use mathlib.Core.Path.{◌≡◌, refl, sym, ap, ap₂, ◌∙◌}
use mathlib.Core.Bool.{Bool, true, false, ◌&&◌, not, cond}
use mathlib.Core.List.{List, ◌++◌}
use native.Mathlib.Omega.{arith}
use lib.Dec.{ltb}
use lib.ListN.{length}
use borrow.Author.Tests.{ltb-false, not-false}
use Rattle.std.specs.Prelude.{Result, Ok, Err}
use Rattle.paper.specs.Setup.{setup_ok}
use Rattle.paper.specs.Instance.{instance_ok}
use Rattle.paper.specs.Command.{is_noop, command_ok, Interference, interfere, Wide}
use Rattle.paper.specs.Valid.{valid}
use Rattle.paper.specs.Refusal.{number_of}
use Rattle.paper.proofs.Laws.{and-true}
use Rattle.paper.proofs.Numbers.{number_of-pos}
use Rattle.paper.specs.declared.Command.{Command}
use Rattle.paper.specs.declared.Record.{Record}
use Rattle.paper.specs.declared.Message.{Message}
use Rattle.paper.specs.declared.Refusal.{Refusal}
use Rattle.paper.specs.declared.Refusal.TheVariants as why
use Rattle.rules.specs.declared.Step.{Step}
use Rattle.rules.specs.Seen.{Records}
use Rattle.rules.specs.Step.{is_committed}
use Rattle.rules.specs.Received.{refused10}
use Rattle.rules.specs.Recover.{out_of_ballots}
use Rattle.rules.specs.Nudge.{nothing_to_nudge}
use Rattle.rules.specs.Events.{put, request_number, on_request, on_message, on_recover, on_nudge, messages}
use Rattle.rules.proofs.Rests.{blank-above}
use Rattle.wire.specs.Wire.{message_at, valid_bytes, framed, op_fits}
use Rattle.wire.proofs.Laws.{why_read}
use Rattle.table.specs.Table.{record_in, Kept}
use Rattle.seen.specs.Records.{records_in}
use Rattle.paper.specs.Fits.{CommandFits}
use Rattle.closed.specs.Held.{Closed}
use Rattle.closed.proofs.Laws.{clash}
use Rattle.closed.proofs.Heard.{valid-instance}
use Rattle.closed.proofs.Closed.{request-event, message-event, recover-event, nudge-event}
use Rattle.gate.specs.Events.{event_of, Outcome, refuse, acted, gate_of, gated, through, command_of, op_taken, command_taken, asked, request_open, receive_open, recover_open, nudge_open, answer_number}
use Rattle.gate.proofs.Calls.{setup-of, receive-open}
use Rattle.safety.specs.Run.{replaced}
use Rattle.safety.specs.Run as rules
use Rattle.demand.specs.Run.{Call, request, receive, recover, nudge, outcome, PublicRequest, PublicMessage, recorded}
use Rattle.demand.proofs.Range.{in-range, number-alike, request-alike, message-alike, recover-alike, nudge-alike}
use Rattle.demand.proofs.Records.{records, at-range, alike, held}
use Rattle.demand.proofs.Written.{Carried}

-- a refusal that was not given
pub record Past (b : Bool) (x rest : Outcome) : Type 0 where
  pub test : b ≡ false
  pub is : x ≡ rest
  pub answered : answer_number rest.answer ≡ 0

past : (b : Bool) (r : Refusal) (t out : List ℕ) (x rest : Outcome) → x ≡ cond b (refuse r t out) rest → answer_number x.answer ≡ 0 → Past b x rest
past true r t out x rest e h = let z : number_of r ≡ 0 = ap (λ (y : Outcome). answer_number y.answer) (sym e) ∙ h in absurd (omega (arith, number_of-pos r))
past false r t out x rest e h = record { test = refl; is = e; answered = ap (λ (y : Outcome). answer_number y.answer) (sym e) ∙ h }

-- a sound table is refused neither 1 nor 11
pub gate-is : (n s c : ℕ) (t out : List ℕ) (rest : Outcome) → Kept n s c t → gated n s c t out rest ≡ cond (ltb (length out) 256) (refuse why.Room t out) rest
unfolding gated gate_of
gate-is n s c t out rest k = rw (k.setup, k.sound) (go (ltb (length out) 256))
  where
    go : (b : Bool) → through (cond b (Err why.Room) (Ok tt)) t out rest ≡ cond b (refuse why.Room t out) rest
    go true = refl
    go false = refl

-- what was asked of a call before it is made
abbrev pub Brought : ℕ → ℕ → List Message → Call → Type 0
Brought n s l (request w k) = Wide w × (is_noop k ≡ false) × (command_ok k ≡ true) × CommandFits k
Brought n s l (receive w b) = Wide w × Carried n s l b
Brought n s l (recover o j) = Unit {0}
Brought n s l (nudge o j) = Unit {0}

-- the instance of a call at copy c, and what it does there to a table of records
abbrev pub owner_in : ℕ → Call → ℕ
owner_in c (request w k) = c
owner_in c (receive w b) = (message_at b).owner
owner_in c (recover o j) = o
owner_in c (nudge o j) = o

abbrev pub number_in : ℕ → ℕ → Records → Call → ℕ
number_in s c u (request w k) = request_number s c u
number_in s c u (receive w b) = (message_at b).number
number_in s c u (recover o j) = j
number_in s c u (nudge o j) = j

abbrev pub step_in : ℕ → ℕ → ℕ → Records → Call → Step
step_in n s c u (request w k) = on_request w n s c u k
step_in n s c u (receive w b) = on_message w n s c u (message_at b)
step_in n s c u (recover o j) = on_recover n c u o j
step_in n s c u (nudge o j) = on_nudge n c u o j

-- the rules' run after it, once the messages l have left
abbrev pub moved : ℕ → ℕ → rules.State → ℕ → Call → List Message → rules.State
moved n s y c call l =
    record {
      tables = replaced y.tables c (put (y.tables c) (owner_in c call) (number_in s c (y.tables c) call) (step_in n s c (y.tables c) call).entry);
      sent = y.sent ++ l;
      history = recorded y.history (owner_in c call) (number_in s c (y.tables c) call) call;
      marks = y.marks;
    }

pub record Stepped (n s c : ℕ) (t out : List ℕ) (call : Call) (y : rules.State) : Type 0 where
  pub is : outcome n s c t out call ≡ acted s t out (owner_in c call) (number_in s c (y.tables c) call) (step_in n s c (y.tables c) call)
  pub range : instance_ok n s (owner_in c call) (number_in s c (y.tables c) call) ≡ true
  pub closed : Closed n s c (owner_in c call) (step_in n s c (y.tables c) call)
  pub long : 256 ≤ length out
  pub move : (l : List Message) → rules.Among l (messages (step_in n s c (y.tables c) call)) → rules.Move n s y (moved n s y c call l)

-- a request's command is no no-op, and has its keys
pub op-asked : (op : ℕ) → op_taken op ≡ true → (key second edit : ℕ) → is_noop (command_of op key second edit) ≡ false
op-asked zero e key second edit = sym e
op-asked (suc zero) e key second edit = refl
op-asked (suc (suc zero)) e key second edit = refl
op-asked (suc (suc (suc op))) e key second edit = refl

pub command-asked : (op key second edit : ℕ) → command_taken op key second edit ≡ true
    → (is_noop (command_of op key second edit) ≡ false) × (command_ok (command_of op key second edit) ≡ true)
unfolding command_ok
command-asked op key second edit e =
    let (taken, keys) = and-true (op_taken op) _ e in
    let some = op-asked op taken key second edit in
    (some, rw (some, keys))

-- the call, where it answers an event, has taken the command
pub public-request : PublicRequest
unfolding gated request_open
public-request n s c t out op key second edit o j w = by (gate_of n s c t (length out))
  where
    k : Command
    k = command_of op key second edit

    taken : (b : Bool) → command_taken op key second edit ≡ b → (cond (not b) (refuse why.Op t out) (asked interfere n s c t out k)).answer ≡ event_of o j w
        → (is_noop k ≡ false) × (command_ok k ≡ true) × (cond (not b) (refuse why.Op t out) (asked interfere n s c t out k) ≡ asked interfere n s c t out k)
    taken true e h = let (some, keys) = command-asked op key second edit e in (some, keys, refl)
    taken false e h = clash (cc)

    by : (g : Result Unit Refusal) → (through g t out (cond (not (command_taken op key second edit)) (refuse why.Op t out) (asked interfere n s c t out k))).answer ≡ event_of o j w
        → (is_noop k ≡ false) × (command_ok k ≡ true)
        × (through g t out (cond (not (command_taken op key second edit)) (refuse why.Op t out) (asked interfere n s c t out k)) ≡ through g t out (asked interfere n s c t out k))
    by (Ok x) h = taken (command_taken op key second edit) refl h
    by (Err r) h = clash (cc)

pub public-message : PublicMessage
public-message n s c t out b = refl

module _ (n s c : ℕ) (t out : List ℕ) (k : Kept n s c t) (copy : c < n) (y : rules.State) (at : y.tables c ≡ records n s t) where
  abbrev setup : setup_ok n s c ≡ true
  setup = setup-of n s c t k.setup

  here : (o j : ℕ) → instance_ok n s o j ≡ true → y.tables c o j ≡ record_in s t o j
  here o j i = ap (λ (u : Records). u o j) at ∙ at-range n s t o j i

  request-step : (w : Interference) (v : Command) → Brought n s y.sent (request w v) → answer_number (outcome n s c t out (request w v)).answer ≡ 0
      → Stepped n s c t out (request w v) y
  unfolding asked request_number
  request-step w v (wide, noop, ok, f) h =
      let j : ℕ = request_number s c (records_in s t) in
      let x : Step = on_request w n s c (records_in s t) v in
      let a = past _ why.Room t out _ _ (gate-is n s c t out (asked w n s c t out v) k) h in
      let d = past (ltb s j) why.NoBlank t out (asked w n s c t out v) (acted s t out c j x) refl a.answered in
      let small : j ≤ s = ltb-false s j d.test in
      let num : request_number s c (y.tables c) ≡ j = ap (request_number s c) at ∙ sym (number-alike n s (records_in s t) (records n s t) (alike n s t) c copy) in
      let same : on_request w n s c (y.tables c) v ≡ x = ap (λ (u : Records). on_request w n s c u v) at ∙ sym (request-alike n s (records_in s t) (records n s t) (alike n s t) w c copy v) in
      record {
        is = a.is ∙ d.is ∙ ap₂ (λ (i : ℕ) (z : Step). acted s t out c i z) (sym num) (sym same);
        range = rw num (in-range n s c j copy (blank-above s 1 (records_in s t c)) small);
        closed = rw same (request-event n s c setup (records_in s t) (held n s c t k) w v ok f noop small);
        long = ltb-false (length out) 256 a.test;
        move = λ l among. rules.request c w v l copy wide noop (rw num small) among;
      }

  receive-step : (w : Interference) (b : List ℕ) → Brought n s y.sent (receive w b) → answer_number (outcome n s c t out (receive w b)).answer ≡ 0
      → Stepped n s c t out (receive w b) y
  unfolding valid_bytes
  receive-step w b (wide, f) h =
      let m : Message = message_at b in
      let x : Step = on_message w n s c (records_in s t) m in
      let a = past _ why.Room t out _ _ (gate-is n s c t out (receive_open w n s c t out b) k) h in
      let d = past (not (valid_bytes n s c b)) (why_read n s c b) t out (receive_open w n s c t out b) _ (receive-open w n s c t out b setup) a.answered in
      let e = past (refused10 (record_in s t m.owner m.number) m) why.OtherCommit t out _ (acted s t out m.owner m.number x) refl d.answered in
      let v : valid n s c m ≡ true = (and-true (framed b && op_fits b) _ (not-false _ d.test)).1 in
      let i : instance_ok n s m.owner m.number ≡ true = valid-instance n s c m v in
      let same : on_message w n s c (y.tables c) m ≡ x = ap (λ (u : Records). on_message w n s c u m) at ∙ sym (message-alike n s (records_in s t) (records n s t) (alike n s t) w c m i) in
      record {
        is = a.is ∙ d.is ∙ e.is ∙ ap (acted s t out m.owner m.number) (sym same);
        range = i;
        closed = rw same (message-event n s c setup (records_in s t) (held n s c t k) w m v f.fits);
        long = ltb-false (length out) 256 a.test;
        move = λ l among. rules.receive c w m l copy wide f.among v (rw (here m.owner m.number i) e.test) among;
      }

  recover-step : (o j : ℕ) → answer_number (outcome n s c t out (recover o j)).answer ≡ 0 → Stepped n s c t out (recover o j) y
  unfolding recover_open
  recover-step o j h =
      let x : Step = on_recover n c (records_in s t) o j in
      let r : Record = record_in s t o j in
      let a = past _ why.Room t out _ _ (gate-is n s c t out (recover_open n s c t out o j) k) h in
      let b = past (not (instance_ok n s o j)) why.Instance t out (recover_open n s c t out o j) _ refl a.answered in
      let d = past (is_committed r) why.RecoverCommitted t out _ (cond (out_of_ballots r) (refuse why.BallotsUsedUp t out) (acted s t out o j x)) refl b.answered in
      let e = past (out_of_ballots r) why.BallotsUsedUp t out _ (acted s t out o j x) refl d.answered in
      let i : instance_ok n s o j ≡ true = not-false _ b.test in
      let same : on_recover n c (y.tables c) o j ≡ x = ap (λ (u : Records). on_recover n c u o j) at ∙ sym (recover-alike n s (records_in s t) (records n s t) (alike n s t) c o j i) in
      record {
        is = a.is ∙ b.is ∙ d.is ∙ e.is ∙ ap (acted s t out o j) (sym same);
        range = i;
        closed = rw same (recover-event n s c setup (records_in s t) (held n s c t k) o j i d.test e.test);
        long = ltb-false (length out) 256 a.test;
        move = λ l among. rules.recover c o j l copy i (rw (here o j i) d.test) (rw (here o j i) e.test) among;
      }

  nudge-step : (o j : ℕ) → answer_number (outcome n s c t out (nudge o j)).answer ≡ 0 → Stepped n s c t out (nudge o j) y
  unfolding nudge_open
  nudge-step o j h =
      let x : Step = on_nudge n c (records_in s t) o j in
      let r : Record = record_in s t o j in
      let a = past _ why.Room t out _ _ (gate-is n s c t out (nudge_open n s c t out o j) k) h in
      let b = past (not (instance_ok n s o j)) why.Instance t out (nudge_open n s c t out o j) _ refl a.answered in
      let d = past (nothing_to_nudge r) why.NudgeIdle t out _ (acted s t out o j x) refl b.answered in
      let i : instance_ok n s o j ≡ true = not-false _ b.test in
      let same : on_nudge n c (y.tables c) o j ≡ x = ap (λ (u : Records). on_nudge n c u o j) at ∙ sym (nudge-alike n s (records_in s t) (records n s t) (alike n s t) c o j i) in
      record {
        is = a.is ∙ b.is ∙ d.is ∙ ap (acted s t out o j) (sym same);
        range = i;
        closed = rw same (nudge-event n s c setup (records_in s t) (held n s c t k) o j i d.test);
        long = ltb-false (length out) 256 a.test;
        move = λ l among. rules.nudge c o j l copy i (rw (here o j i) d.test) among;
      }

  pub stepped : (call : Call) → Brought n s y.sent call → answer_number (outcome n s c t out call).answer ≡ 0 → Stepped n s c t out call y
  stepped (request w v) f h = request-step w v f h
  stepped (receive w b) f h = receive-step w b f h
  stepped (recover o j) f h = recover-step o j h
  stepped (nudge o j) f h = nudge-step o j h
