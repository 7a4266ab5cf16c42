-- From a sound table's bytes to the records that the rules keep sound, and from what they send to the room. Assumes nothing.
use mathlib.Core.Path.{◌≡◌, refl, sym, ◌∙◌}
use mathlib.Core.Bool.{Bool, true, false}
use mathlib.Core.List.{List}
use Prim.Native.Nat.{ℕ, zero, suc, ◌+◌, ◌*◌, ◌≤◌}
use native.Mathlib.Omega.{arith}
use lib.ListN.{length, length-append}
use Rattle.paper.specs.Setup.{setup_ok}
use Rattle.paper.specs.Message.{kind_of}
use Rattle.paper.specs.Vote.{member}
use Rattle.paper.specs.declared.Message.{Message}
use Rattle.numbers.specs.Num.{Bytes}
use Rattle.rules.specs.declared.Step.{Step}
use Rattle.rules.specs.Events.{addressed, messages_from}
use Rattle.table.specs.Table.{fits_setup, sound_table}
use Rattle.table.proofs.Laws.{names}
use Rattle.table.proofs.Round.{record-sound, fits_in}
use Rattle.wire.specs.Wire.{length_of, message_bytes}
use Rattle.wire.proofs.Laws.{length-message_bytes, untold-short, long-enough}
use Rattle.seen.specs.Records.{records_in}
use Rattle.closed.specs.Held.{Sent, SoundRecords}
use Rattle.closed.proofs.Closed.{room}
use Rattle.gate.specs.Out.{all_bytes, out_bytes}

-- a sound table's records are sound and fit
pub sound-records : (n s c : ℕ) (t : List ℕ) → Bytes t → fits_setup n s c t ≡ true → sound_table n s c t ≡ true → SoundRecords n s c (records_in s t)
sound-records n s c t b f h o j i =
    record { sound = record-sound n s c t h o j (names n s c t o j f i); fits = fits_in s t o j b }

-- all messages of a set are of one length
all-long : (k q to : ℕ) (m : Message) → length (all_bytes (messages_from k q to m)) ≡ length (messages_from k q to m) * length_of (kind_of m.body)
unfolding messages_from all_bytes
all-long zero q to m = omega arith
all-long (suc k) q to m = go (member q to) refl (all-long k (q + 1) to m)
  where
    go : (b : Bool) → member q to ≡ b → length (all_bytes (messages_from k (q + 1) to m)) ≡ length (messages_from k (q + 1) to m) * length_of (kind_of m.body)
        → length (all_bytes (messages_from (suc k) q to m)) ≡ length (messages_from (suc k) q to m) * length_of (kind_of m.body)
    go true e h =
        rw e (length-append (message_bytes (addressed m q)) (all_bytes (messages_from k (q + 1) to m)) ∙ rw (length-message_bytes (addressed m q), h) (sym (native.Mathlib.Nat.suc-mul _ _ ∙ native.Mathlib.Nat.add_comm _ _)))
    go false e h = rw e h

-- what an event sends fits the room
pub out-short : (n s c : ℕ) → setup_ok n s c ≡ true → (x : Step) → Sent n s c x → length (out_bytes x) ≤ 246
out-short n s c p x h =
    let r = room n s c p length_of untold-short long-enough x h in
    rw (all-long 7 0 x.to x.message) r
