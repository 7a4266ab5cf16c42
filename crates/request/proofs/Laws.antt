-- What a request's step rests on, and that it is the rule's. Assumes nothing.
use mathlib.Core.Path.{◌≡◌, refl, ap, ◌∙◌}
use mathlib.Core.Bool.{true, false}
use mathlib.Core.List.{List}
use Prim.Native.Nat.{ℕ, zero, suc, ◌^◌, ◌≤◌, ◌<◌}
use native.Mathlib.Omega.{arith}
use lib.Dec.{eqb}
use lib.ListN.{length}
use Rattle.codec.specs.Parts.{op_of}
use Rattle.paper.specs.Command.{op_number, second_ok, command_ok, interfere}
use Rattle.paper.specs.Vote.{blank}
use Rattle.paper.specs.declared.Command.{Command}
use Rattle.paper.specs.declared.Op.{Op}
use Rattle.paper.specs.declared.Record.{Record}
use Rattle.rules.specs.Afresh.{afresh}
use Rattle.rules.specs.Request.{request}
use Rattle.rules.specs.Events.{request_number, on_request}
use Rattle.rules.specs.Seen.{seen}
use Rattle.table.specs.Sizes.{Names}
use Rattle.table.proofs.Laws.{sizes}
use Rattle.seen.specs.Records.{records_in}
use Rattle.closed.proofs.Closed.{request-event}
use Rattle.gate.specs.Out.{out_bytes}
use Rattle.gate.specs.Events.{Passed}
use Rattle.numbers.specs.Num.{Bytes}
use Rattle.gate.proofs.Held.{sound-records, out-short}
use Rattle.gate.proofs.Calls.{setup-of}
use Rattle.request.specs.Request.{Asking}

-- the step that was taken is the rule's
pub request-step : (n s c : ℕ) (t : List ℕ) (k : Command) {j q i : ℕ} {r : Record} {d : List ℕ} → j ≡ request_number s c (records_in s t) → q ≡ c → i ≡ j → r ≡ blank
    → d ≡ seen interfere n s (records_in s t) c j k → afresh n q q i r k d ≡ on_request interfere n s c (records_in s t) k
unfolding on_request request
request-step n s c t k ej eq ei er ed = rw (ed, er, eq, ei, ej)

module _ (n s c : ℕ) (t out : List ℕ) where
  pub own-names : Passed n s c t (length out) → (j : ℕ) → 1 ≤ j → j ≤ s → Names n s c j
  own-names p j l u =
      let z = sizes n s c t p.setup in
      record { copies = z.copies; numbers = z.numbers; owner = z.copy; first = l; last = u }

  pub request-room : (k : Command) → Asking n s c t (length out) k → Bytes t → {j : ℕ} → j ≡ request_number s c (records_in s t) → j ≤ s
      → length (out_bytes (on_request interfere n s c (records_in s t) k)) ≤ 246
  request-room k h b e l =
      let setup = setup-of n s c t h.passed.setup in
      let u : request_number s c (records_in s t) ≤ s = omega (arith, e, l) in
      out-short n s c setup _
      (request-event n s c setup (records_in s t) (sound-records n s c t b h.passed.setup h.passed.sound) interfere k h.ok h.fits h.edit u).sent

  module _ (op key second edit : ℕ) where
    -- the command as it is made of the arguments
    abbrev made : Op → Command
    made x = record { op = x; key = key; second = second; edit = edit }

    -- a command that is taken is no no-op
    pub asking : Passed n s c t (length out) → key < 256 ^ 4 → second < 256 ^ 4 → edit < 256 ^ 8 → {x : Op} → x ≡ op_of op → 1 ≤ op → second_ok (made x) ≡ true
        → Asking n s c t (length out) (made x)
    unfolding command_ok
    asking p hk hs he {x} ex e f =
        let some : eqb (op_number x) 0 ≡ false = ap (λ (o : Op). eqb (op_number o) 0) ex ∙ some-op op e in
        record { passed = p; ok = rw (some, f); fits = record { key = hk; second = hs; edit = he }; edit = some }
      where
        some-op : (o : ℕ) → 1 ≤ o → eqb (op_number (op_of o)) 0 ≡ false
        some-op zero h = absurd (omega arith)
        some-op (suc zero) h = refl
        some-op (suc (suc zero)) h = refl
        some-op (suc (suc (suc o))) h = refl
