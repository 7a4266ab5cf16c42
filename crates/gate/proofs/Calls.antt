-- The outcomes of each call, one law each, and what its step needs. Assumes nothing.
use mathlib.Core.Path.{◌≡◌, refl, sym, ap, ◌∙◌}
use mathlib.Core.Bool.{Bool, true, false, ◌&&◌, ◌||◌, not, cond}
use mathlib.Core.List.{List}
use Prim.Native.Nat.{ℕ, ◌≤◌, ◌<◌}
use native.Mathlib.Omega.{arith}
use lib.Dec.{ltb, eqb}
use lib.ListN.{length}
use borrow.Author.Tests.{lt-ltb, le-ltb, ltb-true, ltb-false, eqb-true}
use Rattle.std.specs.Prelude.{Result, Ok, Err}
use Rattle.paper.specs.Command.{Interference}
use Rattle.paper.specs.Setup.{setup_ok, copies_ok, numbers_ok, copy_ok}
use Rattle.paper.proofs.Laws.{and-true}
use Rattle.paper.specs.declared.Refusal.{Refusal}
use Rattle.paper.specs.declared.Refusal.TheVariants as why
use Rattle.rules.specs.Received.{refused10}
use Rattle.rules.specs.Events.{on_message}
use Rattle.wire.specs.Wire.{message_at, valid_bytes}
use Rattle.wire.specs.Calls as wire
use Rattle.wire.proofs.Laws.{why_read, read_is}
use Rattle.seen.specs.Records.{records_in}
use Rattle.numbers.specs.Num.{splice}
use Rattle.rules.specs.declared.Step.{Step}
use Rattle.table.specs.Table.{fits_setup, sound_table, record_in, put_record}
use Rattle.gate.specs.declared.Event.{Event}
use Rattle.gate.specs.Out.{out_bytes}
use Rattle.gate.specs.Events.{event_of, Outcome, refuse, acted, gate_of, gated, Passed, heard, receive_open}

-- the gate
module _ (n s c : ℕ) (t : List ℕ) (room : ℕ) where
  pub gate-1 : fits_setup n s c t ≡ false → Err why.Setup ≡ gate_of n s c t room
  unfolding gate_of
  gate-1 p = rw p

  pub gate-11 : fits_setup n s c t ≡ true → sound_table n s c t ≡ false → Err why.Unsound ≡ gate_of n s c t room
  unfolding gate_of
  gate-11 p q = rw (p, q)

  pub gate-2 : fits_setup n s c t ≡ true → sound_table n s c t ≡ true → room < 256 → Err why.Room ≡ gate_of n s c t room
  unfolding gate_of
  gate-2 p q r = rw (p, q, lt-ltb room 256 r)

  pub gate-open : fits_setup n s c t ≡ true → sound_table n s c t ≡ true → 256 ≤ room → Ok tt ≡ gate_of n s c t room
  unfolding gate_of
  gate-open p q r = rw (p, q, le-ltb room 256 r)

-- an open gate was passed
clash : {A : Type 0} (r : Refusal) → ◌≡◌ {A = Result Unit Refusal} (Ok tt) (Err r) → A
clash r e = let z : ◌≡◌ {A = ℕ} 0 1 = cc in absurd (omega arith)

pub passed : (n s c : ℕ) (t : List ℕ) (room : ℕ) → Ok tt ≡ gate_of n s c t room → Passed n s c t room
passed n s c t room e = go (fits_setup n s c t) (sound_table n s c t) (ltb room 256) refl refl refl
  where
    go : (a b d : Bool) → fits_setup n s c t ≡ a → sound_table n s c t ≡ b → ltb room 256 ≡ d → Passed n s c t room
    go true true false p q r = record { setup = p; sound = q; long = ltb-false room 256 r }
    go true true true p q r = clash why.Room (e ∙ sym (gate-2 n s c t room p q (ltb-true room 256 r)))
    go true false d p q r = clash why.Unsound (e ∙ sym (gate-11 n s c t room p q))
    go false b d p q r = clash why.Setup (e ∙ sym (gate-1 n s c t room p))

pub shut : (n s c : ℕ) (t out : List ℕ) (rest : Outcome) (r : Refusal) → Err r ≡ gate_of n s c t (length out) → refuse r t out ≡ gated n s c t out rest
unfolding gated
shut n s c t out rest r e = rw (← e)

pub opened : (n s c : ℕ) (t out : List ℕ) (rest : Outcome) → Ok tt ≡ gate_of n s c t (length out) → rest ≡ gated n s c t out rest
unfolding gated
opened n s c t out rest e = rw (← e)

-- the answer, the table and the room of an outcome
abbrev pub Met : Outcome → Result Event Refusal → List ℕ → List ℕ → Type 0
Met x a t o = record { answers : a ≡ x.answer; table : t ≡ x.table; room : o ≡ x.out }

pub met : {x y : Outcome} → x ≡ y → {a : Result Event Refusal} {t o : List ℕ} → Met x a t o → Met y a t o
met e m =
    record {
      answers = m.answers ∙ ap (λ (z : Outcome). z.answer) e;
      table = m.table ∙ ap (λ (z : Outcome). z.table) e;
      room = m.room ∙ ap (λ (z : Outcome). z.out) e;
    }

pub refused : (r : Refusal) (t o : List ℕ) → Met (refuse r t o) (Err r) t o
refused r t o = record { answers = refl; table = refl; room = refl }

pub acted-is : (s : ℕ) (t out : List ℕ) (o j : ℕ) {x y : Step} {a : Result Event Refusal} {t₁ o₁ : List ℕ} → x ≡ y
    → a ≡ event_of o j (length (out_bytes x)) → t₁ ≡ put_record s t o j x.entry → o₁ ≡ splice out 0 (out_bytes x) → Met (acted s t out o j y) a t₁ o₁
unfolding acted
acted-is s t out o j e a b c =
    record {
      answers = a ∙ ap (λ (z : Step). event_of o j (length (out_bytes z))) e;
      table = b ∙ ap (λ (z : Step). put_record s t o j z.entry) e;
      room = c ∙ ap (λ (z : Step). splice out 0 (out_bytes z)) e;
    }

pub setup-of : (n s c : ℕ) (t : List ℕ) → fits_setup n s c t ≡ true → setup_ok n s c ≡ true
unfolding fits_setup
setup-of n s c t h = (and-true (setup_ok n s c) _ h).0

-- a received message: refused with the reader's reason exactly for bytes that are not valid, then 10
pub receive-open : (w : Interference) (n s c : ℕ) (t out b : List ℕ) → setup_ok n s c ≡ true
    → receive_open w n s c t out b
    ≡ cond (not (valid_bytes n s c b)) (refuse (why_read n s c b) t out)
    (cond (refused10 (record_in s t (message_at b).owner (message_at b).number) (message_at b)) (refuse why.OtherCommit t out)
    (acted s t out (message_at b).owner (message_at b).number (on_message w n s c (records_in s t) (message_at b))))
unfolding receive_open heard
receive-open w n s c t out b p = go (valid_bytes n s c b) refl
  where
    go : (v : Bool) → valid_bytes n s c b ≡ v
        → receive_open w n s c t out b
        ≡ cond (not (valid_bytes n s c b)) (refuse (why_read n s c b) t out)
        (cond (refused10 (record_in s t (message_at b).owner (message_at b).number) (message_at b)) (refuse why.OtherCommit t out)
        (acted s t out (message_at b).owner (message_at b).number (on_message w n s c (records_in s t) (message_at b))))
    go true e = let x : wire.read_message n s c b ≡ Ok (message_at b) = read_is n s c b ∙ rw (p, e) in rw (x, e)
    go false e = let x : wire.read_message n s c b ≡ Err (why_read n s c b) = read_is n s c b ∙ rw (p, e) in rw (x, e)

-- a setup has three copies or more
pub three : (n s c : ℕ) (t : List ℕ) → fits_setup n s c t ≡ true → 3 ≤ n
unfolding setup_ok
three n s c t h = go (eqb n 3) (eqb n 5) refl refl (and-true (copies_ok n) (numbers_ok s) (and-true (copies_ok n && numbers_ok s) (copy_ok n c) (setup-of n s c t h)).0).0
  where
    go : (a b : Bool) → eqb n 3 ≡ a → eqb n 5 ≡ b → (a || b || eqb n 7) ≡ true → 3 ≤ n
    go true b e f k = omega (arith, eqb-true n 3 e)
    go false true e f k = omega (arith, eqb-true n 5 f)
    go false false e f k = omega (arith, eqb-true n 7 k)
