-- What a recovery's step needs, and that it is the rule's. Assumes nothing.
use mathlib.Core.Path.{◌≡◌}
use mathlib.Core.Bool.{true, false}
use mathlib.Core.List.{List}
use Prim.Native.Nat.{ℕ, ◌≤◌}
use lib.ListN.{length}
use Rattle.paper.specs.Instance.{instance_ok}
use Rattle.paper.specs.declared.Record.{Record}
use Rattle.paper.specs.declared.Refusal.TheVariants as why
use Rattle.numbers.specs.Num.{Bytes}
use Rattle.rules.specs.Step.{is_committed}
use Rattle.rules.specs.Recover.{out_of_ballots, recover}
use Rattle.rules.specs.Events.{on_recover}
use Rattle.rules.specs.declared.Step.{Step}
use Rattle.table.specs.Table.{record_in}
use Rattle.seen.specs.Records.{records_in}
use Rattle.closed.proofs.Closed.{recover-event}
use Rattle.gate.specs.Out.{out_bytes}
use Rattle.gate.specs.Events.{Passed}
use Rattle.gate.proofs.Held.{sound-records, out-short}
use Rattle.gate.proofs.Calls.{setup-of}

module _ (n s c : ℕ) (t out : List ℕ) (o j : ℕ) where
  pub recover-room : Bytes t → Passed n s c t (length out) → instance_ok n s o j ≡ true → is_committed (record_in s t o j) ≡ false
      → out_of_ballots (record_in s t o j) ≡ false → length (out_bytes (on_recover n c (records_in s t) o j)) ≤ 246
  recover-room b p i k l =
      let setup = setup-of n s c t p.setup in
      out-short n s c setup _ (recover-event n s c setup (records_in s t) (sound-records n s c t b p.setup p.sound) o j i k l).sent

  -- the step that was taken is the rule's
  pub recover-step : {r : Record} {x : Step} → r ≡ record_in s t o j → x ≡ recover n c o j r → x ≡ on_recover n c (records_in s t) o j
  unfolding on_recover
  recover-step er ex = rw (ex, er)
