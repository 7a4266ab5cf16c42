-- What a received message's step rests on, and the outcomes of the call, one law each. Assumes nothing.
use mathlib.Core.Path.{◌≡◌, refl, sym, ap, ◌∙◌}
use mathlib.Core.Bool.{Bool, true, false, ◌&&◌}
use mathlib.Core.List.{List}
use Prim.Native.Nat.{ℕ, zero, suc, ◌^◌, ◌≤◌, ◌<◌}
use native.Mathlib.Omega.{arith}
use lib.ListN.{length}
use Rattle.std.specs.Prelude.{Result, Ok, Err}
use Rattle.paper.specs.Setup.{setup_ok}
use Rattle.paper.specs.Message.{vote_in}
use Rattle.paper.specs.Valid.{valid}
use Rattle.paper.proofs.Laws.{and-true}
use Rattle.paper.specs.declared.Command.{Command}
use Rattle.paper.specs.declared.Vote.{Vote}
use Rattle.paper.specs.declared.Record.{Record}
use Rattle.paper.specs.declared.Message.{Message}
use Rattle.paper.specs.declared.Refusal.{Refusal}
use Rattle.paper.specs.declared.Refusal.TheVariants as why
use Rattle.rules.specs.declared.Step.{Step}
use Rattle.rules.specs.Step.{silent, collect, awaited}
use Rattle.rules.specs.PrepareOk.{afresh_command, decide, quorum, prepared_by, on_prepare_ok}
use Rattle.rules.specs.Received.{refused10, receive}
use Rattle.paper.specs.Command.{interfere}
use Rattle.rules.specs.Events.{on_message}
use Rattle.rules.specs.Seen.{seen}
use Rattle.numbers.specs.Num.{Bytes}
use Rattle.table.specs.Sizes.{Names}
use Rattle.table.specs.Table.{record_in}
use Rattle.table.proofs.Laws.{sizes, names}
use Rattle.seen.specs.Records.{records_in}
use Rattle.wire.specs.Wire.{framed, op_fits, message_at, valid_bytes}
use Rattle.wire.specs.Calls as calls
use Rattle.wire.proofs.Laws.{framed_is, why_read, read_is}
use Rattle.closed.proofs.Closed.{message-event}
use Rattle.closed.proofs.Heard.{heard, valid-instance}
use Rattle.closed.proofs.Sound.{sound-is}
use Rattle.closed.proofs.Shapes.{setup-is}
use Rattle.gate.specs.Out.{out_bytes}
use Rattle.gate.specs.Events.{refuse, acted, Passed, receive_open}
use Rattle.gate.specs.Events as events
use Rattle.gate.proofs.Held.{sound-records, out-short}
use Rattle.wire.proofs.Fits.{message_at-fits}
use Rattle.gate.proofs.Calls.{setup-of, receive-open}
use Rattle.receive.specs.Message as specs

-- a PrepareOK
module _ (n c o j : ℕ) (r : Record) (seen : Command → List ℕ) where
  pub prepared-few : quorum n r ≡ false → silent r ≡ prepared_by n c o j r seen
  unfolding prepared_by
  prepared-few e = rw e

  pub prepared-all : {k : Command} {d : List ℕ} {q : ℕ} → k ≡ afresh_command r → d ≡ seen k → q ≡ c → quorum n r ≡ true → decide n q o j r d ≡ prepared_by n c o j r seen
  unfolding prepared_by
  prepared-all ek ed eq e = rw (ed, ek, eq, e)

  pub unawaited : (m : Message) → awaited 1 r m ≡ false → silent r ≡ on_prepare_ok n c o j r m seen
  unfolding on_prepare_ok
  unawaited m e = rw e

  pub awaits : (m : Message) {v : Vote} {x : Record} → v ≡ vote_in m → x ≡ collect r m.from v → awaited 1 r m ≡ true
      → prepared_by n c o j x seen ≡ on_prepare_ok n c o j r m seen
  unfolding on_prepare_ok
  awaits m ev ex e = rw (ex, ev, e)

two-pow : (n : ℕ) → n ≤ 7 → 2 ^ n ≤ 128
two-pow zero h = omega arith
two-pow (suc zero) h = omega arith
two-pow (suc (suc zero)) h = omega arith
two-pow (suc (suc (suc zero))) h = omega arith
two-pow (suc (suc (suc (suc zero)))) h = omega arith
two-pow (suc (suc (suc (suc (suc zero))))) h = omega arith
two-pow (suc (suc (suc (suc (suc (suc zero)))))) h = omega arith
two-pow (suc (suc (suc (suc (suc (suc (suc zero))))))) h = omega arith
two-pow (suc (suc (suc (suc (suc (suc (suc (suc n)))))))) h = absurd (omega arith)

-- a valid message past the gate
module _ (n s c : ℕ) (t : List ℕ) (room : ℕ) (m : Message) (h : specs.Hearing n s c t room m) where
  pub named : Names n s m.owner m.number
  named = names n s c t m.owner m.number h.passed.setup (valid-instance n s c m h.valid)

  pub ready : specs.Ready n s c t m
  ready =
      let (least, most, numbers, copy) = setup-is n s c (setup-of n s c t h.passed.setup) in
      let x = heard n s c m h.valid h.fits in
      record {
        sizes = sizes n s c t h.passed.setup;
        three = least;
        from = omega (arith, x.from);
        owner = omega (arith, named.owner);
      }

  pub small-set : Bytes t → {r : Record} → r ≡ record_in s t m.owner m.number → r.set < 128
  small-set b er =
      let (least, most, numbers, copy) = setup-is n s c (setup-of n s c t h.passed.setup) in
      let i = valid-instance n s c m h.valid in
      let x = (sound-is n s c m.owner _ (sound-records n s c t b h.passed.setup h.passed.sound m.owner m.number i).sound).set in
      let p = two-pow n most in
      rw er (omega arith)

  pub message-room : Bytes t → length (out_bytes (on_message interfere n s c (records_in s t) m)) ≤ 246
  message-room b =
      let setup = setup-of n s c t h.passed.setup in
      out-short n s c setup _ (message-event n s c setup (records_in s t) (sound-records n s c t b h.passed.setup h.passed.sound) interfere m h.valid h.fits).sent

-- outcomes
module _ (n s c : ℕ) (t out : List ℕ) where
  pub heard-10 : (m : Message) {o j : ℕ} {r : Record} → o ≡ m.owner → j ≡ m.number → r ≡ record_in s t o j
      → refused10 r m ≡ true → refuse why.OtherCommit t out ≡ events.heard interfere n s c t out m
  unfolding events.heard
  heard-10 m {r = r} eo ej er e =
      let q : r ≡ record_in s t m.owner m.number = rw (er, eo, ej) in
      let f : refused10 (record_in s t m.owner m.number) m ≡ true = ap (λ (x : Record). refused10 x m) (sym q) ∙ e in
      rw f

  pub heard-ok : (m : Message) {o j : ℕ} {r : Record} → o ≡ m.owner → j ≡ m.number → r ≡ record_in s t o j
      → refused10 r m ≡ false → acted s t out o j (on_message interfere n s c (records_in s t) m) ≡ events.heard interfere n s c t out m
  unfolding events.heard
  heard-ok m {r = r} eo ej er e =
      let q : r ≡ record_in s t m.owner m.number = rw (er, eo, ej) in
      let f : refused10 (record_in s t m.owner m.number) m ≡ false = ap (λ (x : Record). refused10 x m) (sym q) ∙ e in
      rw (eo, ej, f)

  -- the step that was taken is the rule's
  pub message-step : (m : Message) {o j : ℕ} {r : Record} {x : Step} → o ≡ m.owner → j ≡ m.number → r ≡ record_in s t o j
      → x ≡ receive n c (seen interfere n s (records_in s t) m.owner m.number) r m → x ≡ on_message interfere n s c (records_in s t) m
  unfolding on_message
  message-step m eo ej er ex = rw (ex, er, eo, ej)

  -- a reading that was refused, and one that was not
  module _ (b : List ℕ) where
    pub unread : (r : Refusal) → Err r ≡ calls.read_message n s c b → refuse r t out ≡ receive_open interfere n s c t out b
    unfolding receive_open
    unread r e = rw (← e)

    pub read : (m : Message) → Ok m ≡ calls.read_message n s c b → setup_ok n s c ≡ true → (valid_bytes n s c b ≡ true) × (m ≡ message_at b)
    read m e setup = go (valid_bytes n s c b) refl
      where
        go : (v : Bool) → valid_bytes n s c b ≡ v → (valid_bytes n s c b ≡ true) × (m ≡ message_at b)
        go true p =
            let q : ◌≡◌ {A = Result Message Refusal} (Ok m) (Ok (message_at b)) = e ∙ read_is n s c b ∙ rw (setup, p) in
            (p, cc)
        go false p =
            let q : ◌≡◌ {A = Result Message Refusal} (Ok m) (Err (why_read n s c b)) = e ∙ read_is n s c b ∙ rw (setup, p) in
            let z : ◌≡◌ {A = ℕ} 0 1 = cc in
            absurd (omega arith)

  pub receive_ok : (b : List ℕ) → setup_ok n s c ≡ true → {m : Message} → m ≡ message_at b → valid_bytes n s c b ≡ true
      → events.heard interfere n s c t out m ≡ receive_open interfere n s c t out b
  unfolding events.heard
  receive_ok b setup em p = rw (receive-open interfere n s c t out b setup, em, p)

  pub hearing : (b : List ℕ) → Bytes b → Passed n s c t (length out) → {m : Message} → m ≡ message_at b → valid_bytes n s c b ≡ true
      → specs.Hearing n s c t (length out) m
  unfolding valid_bytes
  hearing b bs p em v =
      let (fo, ok) = and-true (framed b && op_fits b) (valid n s c (message_at b)) v in
      let f = (and-true (framed b) (op_fits b) fo).0 in
      rw em (record { passed = p; valid = ok; fits = message_at-fits b bs (framed_is b f) })
