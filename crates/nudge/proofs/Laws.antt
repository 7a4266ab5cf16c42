-- What a nudge's step needs, and that it is the rule's. Assumes nothing.
use mathlib.Core.Path.{◌≡◌}
use mathlib.Core.Bool.{true, false}
use mathlib.Core.List.{List}
use Prim.Native.Nat.{ℕ, ◌≤◌}
use lib.ListN.{length}
use Rattle.paper.specs.Instance.{instance_ok}
use Rattle.paper.specs.declared.Record.{Record}
use Rattle.paper.specs.declared.Refusal.TheVariants as why
use Rattle.numbers.specs.Num.{Bytes}
use Rattle.rules.specs.Nudge.{nothing_to_nudge, nudge}
use Rattle.rules.specs.Events.{on_nudge}
use Rattle.rules.specs.declared.Step.{Step}
use Rattle.table.specs.Table.{record_in}
use Rattle.seen.specs.Records.{records_in}
use Rattle.closed.proofs.Closed.{nudge-event}
use Rattle.gate.specs.Out.{out_bytes}
use Rattle.gate.specs.Events.{Passed}
use Rattle.gate.proofs.Held.{sound-records, out-short}
use Rattle.gate.proofs.Calls.{setup-of}

module _ (n s c : ℕ) (t out : List ℕ) (o j : ℕ) where
  pub nudge-room : Bytes t → Passed n s c t (length out) → instance_ok n s o j ≡ true → nothing_to_nudge (record_in s t o j) ≡ false
      → length (out_bytes (on_nudge n c (records_in s t) o j)) ≤ 246
  nudge-room b p i k =
      let setup = setup-of n s c t p.setup in
      out-short n s c setup _ (nudge-event n s c setup (records_in s t) (sound-records n s c t b p.setup p.sound) o j i k).sent

  -- the step that was taken is the rule's
  pub nudge-step : {r : Record} {x : Step} → r ≡ record_in s t o j → x ≡ nudge n c o j r → x ≡ on_nudge n c (records_in s t) o j
  unfolding on_nudge
  nudge-step er ex = rw (ex, er)
