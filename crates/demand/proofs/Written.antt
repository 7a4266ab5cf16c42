-- The bytes that an event writes are cut into its messages again, each of which its receiver reads as sent. Assumes nothing.
use Prim.Native.Nat.{ℕ, zero, suc, ◌+◌, ◌≤◌, ◌<◌}
use mathlib.Core.Path.{◌≡◌, refl, sym, ap, ◌∙◌}
use mathlib.Core.Bool.{Bool, true, false, cond}
use mathlib.Core.Logic.{⊎_elim}
use mathlib.Core.List.{List, [], ◌∷◌, ◌++◌, map, Memᴰ}
use native.Mathlib.Omega.{arith}
use lib.ListN.{length, take, drop, length-append}
use lib.Seq.{take_at, drop_at}
use Rattle.numbers.specs.Num.{splice}
use Rattle.numbers.proofs.Laws.{splice-same}
use Rattle.std.specs.Prelude.{Result, Ok, Err}
use Rattle.paper.specs.Setup.{setup_ok}
use Rattle.paper.specs.Message.{kind_of}
use Rattle.paper.specs.Valid.{valid}
use Rattle.paper.proofs.Bodies.{kind-small}
use Rattle.paper.specs.Vote.{member}
use Rattle.paper.specs.declared.Message.{Message}
use Rattle.paper.specs.declared.Refusal.{Refusal}
use Rattle.rules.specs.declared.Step.{Step}
use Rattle.rules.specs.Events.{addressed, messages_from, messages}
use Rattle.wire.specs.Wire.{length_of, kind_at, head_bytes, message_at, message_bytes, valid_bytes}
use Rattle.wire.specs.Calls.{read_message}
use Rattle.wire.proofs.Laws.{ten, length-message_bytes, why_read, read_is}
use Rattle.wire.proofs.Round.{written-reads-back}
use Rattle.paper.specs.Fits.{MessageFits}
use Rattle.closed.specs.Held.{Sent}
use Rattle.closed.proofs.Laws.{clash}
use Rattle.closed.proofs.Closed.{addressed-fits}
use Rattle.gate.specs.Out.{all_bytes, out_bytes}
use Rattle.demand.specs.Run.{messages_in, written}

-- the kind byte comes first
kind-first : (m : Message) (q : List ℕ) → kind_at (message_bytes m ++ q) ≡ kind_of m.body
unfolding message_bytes head_bytes
kind-first m q = omega (arith, kind-small m.body)

one_more : (k : ℕ) (b : List ℕ) → 0 < length b → messages_in (suc k) b ≡ take (length_of (kind_at b)) b ∷ messages_in k (drop (length_of (kind_at b)) b)
one_more k [] h = absurd (omega arith)
one_more k (x ∷ b) h = refl

cut_up : (k : ℕ) (ms : List Message) → length ms ≤ k → messages_in k (all_bytes ms) ≡ map message_bytes ms
unfolding all_bytes
cut_up zero [] h = refl
cut_up zero (m ∷ ms) h = absurd (omega arith)
cut_up (suc k) [] h = refl
cut_up (suc k) (m ∷ ms) h =
    let b : List ℕ = message_bytes m in
    let l : length b ≡ length_of (kind_of m.body) = length-message_bytes m in
    let some : 0 < length (b ++ all_bytes ms) = rw (length-append b (all_bytes ms)) (omega (arith, ten (kind_of m.body))) in
    one_more k (b ++ all_bytes ms) some
    ∙ rw (kind-first m (all_bytes ms), take_at b (all_bytes ms) _ l, drop_at b (all_bytes ms) _ l) (ap (λ (x : List (List ℕ)). b ∷ x) (cut_up k ms (omega arith)))

few : (ms : List Message) → length ms ≤ length (all_bytes ms)
unfolding all_bytes
few [] = omega arith
few (m ∷ ms) = rw (length-append (message_bytes m) (all_bytes ms)) (omega (arith, few ms, ten (kind_of m.body), length-message_bytes m))

-- what an event writes is cut into the messages of its step
pub written_is : (x : Step) (out : List ℕ) → 256 ≤ length out → length (out_bytes x) ≤ 246
    → written (length (out_bytes x)) (splice out 0 (out_bytes x)) ≡ map message_bytes (messages x)
written_is x out h l =
    let t : take (length (out_bytes x)) (splice out 0 (out_bytes x)) ≡ out_bytes x = splice-same out 0 (out_bytes x) (length (out_bytes x)) refl (omega arith) in
    ap (messages_in (length (out_bytes x))) t ∙ cut_up (length (out_bytes x)) (messages x) (few (messages x))

-- a message that fits and is valid, as its receiver reads it
pub record Read (n s c : ℕ) (m : Message) : Type 0 where
  pub is : message_at (message_bytes m) ≡ m
  pub taken : valid_bytes n s c (message_bytes m) ≡ true

pub reads : (n s c : ℕ) (m : Message) → MessageFits m → setup_ok n s c ≡ true → valid n s c m ≡ true → Read n s c m
reads n s c m f p v = go (valid_bytes n s c (message_bytes m)) refl
  where
    read : read_message n s c (message_bytes m) ≡ Ok m
    read = written-reads-back n s c m f p v

    go : (b : Bool) → valid_bytes n s c (message_bytes m) ≡ b → Read n s c m
    go true e =
        let x : ◌≡◌ {A = Result Message Refusal} (Ok (message_at (message_bytes m))) (Ok m) = sym (read_is n s c (message_bytes m) ∙ rw (p, e)) ∙ read in
        record { is = cc; taken = e }
    go false e =
        let x : ◌≡◌ {A = Result Message Refusal} (Err (why_read n s c (message_bytes m))) (Ok m) = sym (read_is n s c (message_bytes m) ∙ rw (p, e)) ∙ read in
        clash (cc)

-- bytes that are a valid message of this list
pub record Carried (n s : ℕ) (l : List Message) (b : List ℕ) : Type 0 where
  pub bytes : b ≡ message_bytes (message_at b)
  pub fits : MessageFits (message_at b)
  pub taken : valid n s (message_at b).to (message_at b) ≡ true
  pub among : Memᴰ (message_at b) l

pub carried-more : (n s : ℕ) (l k : List Message) (b : List ℕ) → ((m : Message) → Memᴰ m l → Memᴰ m k) → Carried n s l b → Carried n s k b
carried-more n s l k b h c = record { bytes = c.bytes; fits = c.fits; taken = c.taken; among = h _ c.among }

-- a message of a step goes to a member of its set
record Went (to : ℕ) (d m : Message) : Type 0 where
  copy : ℕ
  member : member copy to ≡ true
  is : m ≡ addressed d copy

went : (k q to : ℕ) (d m : Message) → Memᴰ m (messages_from k q to d) → Went to d m
unfolding messages_from
went zero q to d m h = absurd (mathlib.Core.List.Memᴰ.not-nil h)
went (suc k) q to d m h = go (member q to) refl (λ z. went k (q + 1) to d m z) h
  where
    go : (b : Bool) → member q to ≡ b → (Memᴰ m (messages_from k (q + 1) to d) → Went to d m)
        → Memᴰ m (cond b (addressed d q ∷ messages_from k (q + 1) to d) (messages_from k (q + 1) to d)) → Went to d m
    go true e more h = ⊎_elim (λ (z : m ≡ addressed d q). record { copy = q; member = e; is = z }) more (mathlib.Core.List.Memᴰ.cases_cons h)
    go false e more h = more h

-- messages as bytes
pub record Mapped (ms : List Message) (b : List ℕ) : Type 0 where
  pub message : Message
  pub among : Memᴰ message ms
  pub is : b ≡ message_bytes message

pub mapped : (ms : List Message) (b : List ℕ) → Memᴰ b (map message_bytes ms) → Mapped ms b
mapped [] b h = absurd (mathlib.Core.List.Memᴰ.not-nil h)
mapped (m ∷ ms) b h =
    ⊎_elim (λ (e : b ≡ message_bytes m). record { message = m; among = mathlib.Core.List.Memᴰ.head refl; is = e })
    (λ (z : Memᴰ b (map message_bytes ms)). let g = mapped ms b z in record { message = g.message; among = mathlib.Core.List.Memᴰ.tail g.among; is = g.is })
    (mathlib.Core.List.Memᴰ.cases_cons h)

-- each message of a closed step is carried by its bytes
module _ (n s c : ℕ) (copies : (q : ℕ) → q < n → setup_ok n s q ≡ true) (p : setup_ok n s c ≡ true) (x : Step) (h : Sent n s c x) where
  pub message-carried : (m : Message) → Memᴰ m (messages x) → (l : List Message) → Memᴰ m l → Carried n s l (message_bytes m) × (message_at (message_bytes m) ≡ m)
  message-carried m i l k =
      let w = went 7 0 x.to x.message m i in
      let q : ℕ = w.copy in
      let d : Message = addressed x.message q in
      let t = h.each q w.member in
      let f = addressed-fits n s c p x h q w.member in
      let e : message_at (message_bytes d) ≡ d = (reads n s q d f (copies q t.copy) t.valid).is in
      rw w.is (record { bytes = rw e; fits = rw e f; taken = rw e t.valid; among = rw e (mathlib.Core.List.Memᴰ.cast (sym w.is) k) }, e)

  pub sent-carried : (b : List ℕ) → Memᴰ b (map message_bytes (messages x)) → Carried n s (messages x) b
  sent-carried b i = let g = mapped (messages x) b i in rw g.is (message-carried g.message g.among (messages x) g.among).0
