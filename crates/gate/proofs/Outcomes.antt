-- What each call answers past the gate, one law for each outcome, in the order in which they are tried: a law premises only what
-- is tried before. Assumes nothing.
use mathlib.Core.Path.{◌≡◌}
use mathlib.Core.Bool.{true, false}
use mathlib.Core.List.{List}
use Prim.Native.Nat.{ℕ, ◌≤◌, ◌<◌}
use borrow.Author.Tests.{lt-ltb, le-ltb}
use Rattle.codec.specs.Parts.{op_of}
use Rattle.paper.specs.Instance.{instance_ok}
use Rattle.paper.specs.declared.Command.{Command}
use Rattle.paper.specs.declared.Op.{Op}
use Rattle.paper.specs.declared.Refusal.TheVariants as why
use Rattle.rules.specs.Step.{is_committed}
use Rattle.rules.specs.Recover.{out_of_ballots}
use Rattle.rules.specs.Nudge.{nothing_to_nudge}
use Rattle.paper.specs.Command.{interfere}
use Rattle.rules.specs.Events.{request_number, on_request, on_recover, on_nudge}
use Rattle.table.specs.Table.{record_in}
use Rattle.seen.specs.Records.{records_in}
use Rattle.gate.specs.Events.{refuse, acted, command_taken, asked, request_open, recover_open, nudge_open}

module _ (n s c : ℕ) (t out : List ℕ) where
  -- a request: 4, then 5
  module _ (op key second edit : ℕ) where
    pub request-4 : command_taken op key second edit ≡ false → refuse why.Op t out ≡ request_open n s c t out op key second edit
    unfolding request_open
    request-4 e = rw e

    pub request-ok : {x : Op} → x ≡ op_of op → command_taken op key second edit ≡ true
        → asked interfere n s c t out (record { op = x; key = key; second = second; edit = edit }) ≡ request_open n s c t out op key second edit
    unfolding request_open asked
    request-ok ex e = rw (ex, e)

  pub asked-5 : (k : Command) {j : ℕ} → j ≡ request_number s c (records_in s t) → s < j → refuse why.NoBlank t out ≡ asked interfere n s c t out k
  unfolding asked
  asked-5 k {j} e l = let p = lt-ltb s j l in rw (← e, p)

  pub asked-ok : (k : Command) {j : ℕ} → j ≡ request_number s c (records_in s t) → j ≤ s → acted s t out c j (on_request interfere n s c (records_in s t) k) ≡ asked interfere n s c t out k
  unfolding asked
  asked-ok k {j} e l = rw (← e, le-ltb s j l)

  module _ (o j : ℕ) where
    -- a recovery: 6, 8, then 7
    pub recover-6 : instance_ok n s o j ≡ false → refuse why.Instance t out ≡ recover_open n s c t out o j
    unfolding recover_open
    recover-6 p = rw p

    pub recover-8 : instance_ok n s o j ≡ true → is_committed (record_in s t o j) ≡ true → refuse why.RecoverCommitted t out ≡ recover_open n s c t out o j
    unfolding recover_open
    recover-8 p q = rw (p, q)

    pub recover-7 : instance_ok n s o j ≡ true → is_committed (record_in s t o j) ≡ false → out_of_ballots (record_in s t o j) ≡ true
        → refuse why.BallotsUsedUp t out ≡ recover_open n s c t out o j
    unfolding recover_open
    recover-7 p q r = rw (p, q, r)

    pub recover-ok : instance_ok n s o j ≡ true → is_committed (record_in s t o j) ≡ false → out_of_ballots (record_in s t o j) ≡ false
        → acted s t out o j (on_recover n c (records_in s t) o j) ≡ recover_open n s c t out o j
    unfolding recover_open
    recover-ok p q r = rw (p, q, r)

    -- a nudge: 6, then 9
    pub nudge-6 : instance_ok n s o j ≡ false → refuse why.Instance t out ≡ nudge_open n s c t out o j
    unfolding nudge_open
    nudge-6 p = rw p

    pub nudge-9 : instance_ok n s o j ≡ true → nothing_to_nudge (record_in s t o j) ≡ true → refuse why.NudgeIdle t out ≡ nudge_open n s c t out o j
    unfolding nudge_open
    nudge-9 p q = rw (p, q)

    pub nudge-ok : instance_ok n s o j ≡ true → nothing_to_nudge (record_in s t o j) ≡ false
        → acted s t out o j (on_nudge n c (records_in s t) o j) ≡ nudge_open n s c t out o j
    unfolding nudge_open
    nudge-ok p q = rw (p, q)
