-- A message is made of its fields, nineteen numbers of a message are its fields, and with that both round trips of the C calls:
-- written fields read back equal, accepted bytes write back equal. Assumes nothing.
use mathlib.Core.Path.{◌≡◌, refl, sym, ap, ◌∙◌}
use mathlib.Core.Bool.{Bool, true, false, ◌&&◌, cond}
use mathlib.Core.List.{List, [], ◌∷◌, ◌++◌}
use Prim.Native.Nat.{ℕ, zero, suc, ◌+◌, ◌%◌, ◌^◌, ◌≤◌, ◌<◌}
use native.Mathlib.Omega.{arith}
use lib.Dec.{eqb, ltb}
use lib.ListN.{length, get_or, take, drop}
use lib.Seq.{ext_get_or}
use Rattle.std.specs.Prelude.{Result, Ok, Err}
use borrow.Author.Tests.{eqb-true, eq-eqb}
use Rattle.numbers.specs.Num.{splice}
use Rattle.codec.specs.Parts.{op_of, deps_numbers}
use Rattle.codec.proofs.Laws.{op_of-op_number, op-small, deps-are}
use Rattle.paper.specs.Logic.{all_below}
use Rattle.paper.specs.Command.{op_number}
use Rattle.paper.specs.Setup.{setup_ok}
use Rattle.paper.specs.Fits.{CommandFits, DepsFit, CarriedFits, MessageFits}
use Rattle.paper.specs.Message.{row_of, parts_of, parts_in, kind_of, none_carried, command_carried, joined_carried, carried_in, body_of, command_in, voted_in, status_in, joined_in}
use Rattle.paper.proofs.Bodies.{by_kind, said-joined}
use Rattle.paper.proofs.Laws.{and-true, all_below-at}
use Rattle.paper.proofs.Numbers.{number_of-pos}
use Rattle.paper.specs.declared.Command.{Command}
use Rattle.paper.specs.declared.Body.{Body}
use Rattle.paper.specs.declared.Body.TheVariants.{PreAccept, PreAcceptOk, Accept, AcceptOk, Commit, Prepare, PrepareOk, Nack}
use Rattle.paper.specs.declared.Carried.{Carried}
use Rattle.paper.specs.declared.Message.{Message}
use Rattle.paper.specs.declared.Refusal.{Refusal}
use Rattle.paper.specs.declared.Refusal.TheVariants as why
use Rattle.wire.specs.Wire.{message_at, framed, op_fits, valid_bytes}
use Rattle.wire.specs.Calls.{refusal_of, read_message, unwritten, Wrote, wrote, reading_number, writing_number, writing_count}
use Rattle.wire.proofs.Laws.{framed_is, why_read, read_is}
use Rattle.wire.proofs.Fits.{message_at-fits}
use Rattle.wire.proofs.Round.{written_read, read-written}
use Rattle.pumxaqert.specs.Fields.{other_ballot, fields_of, read_values, command_from, body_from, deps_from, message_from, same_fields, misfit, wrote_misfit, wrote_fields}
use Rattle.pumxaqert.proofs.Laws.{Reads, Writes}

-- a number that fits its place is not cut
whole8 : (x : ℕ) → x < 256 → x % 256 ≡ x
whole8 x h = omega arith

whole16 : (x : ℕ) → x < 256 ^ 2 → x % 65536 ≡ x
whole16 x h = omega arith

whole32 : (x : ℕ) → x < 256 ^ 4 → x % 4294967296 ≡ x
whole32 x h = omega arith

other_fits : (b : Body) → CarriedFits (carried_in b) → other_ballot b < 256 ^ 4
unfolding other_ballot
other_fits b f = go (parts_in b).joined
  where
    go : (t : Bool) → cond t (joined_in b) (voted_in b) < 256 ^ 4
    go true = f.joined
    go false = f.voted

-- a PrepareOK's other ballot is the voted one
told-other : (v t : ℕ) (k : Command) → other_ballot (PrepareOk v t k) ≡ v
unfolding other_ballot row_of
told-other v t k = rw (said-joined (PrepareOk v t k))

-- a body is made of its kind and of what it carries, with one place for its other ballot
body_back : (b : Body) → body_from (kind_of b) (other_ballot b) (status_in b) (command_in b) ≡ b
unfolding body_from body_of other_ballot row_of
body_back (PreAccept k) = by_kind (λ i. body_from i (other_ballot (PreAccept k)) 0 k ≡ PreAccept k) 1 9 k refl refl
body_back PreAcceptOk = refl
body_back (Accept k) = by_kind (λ i. body_from i (other_ballot (Accept k)) 0 k ≡ Accept k) 3 10 k refl refl
body_back AcceptOk = refl
body_back (Commit k) = by_kind (λ i. body_from i (other_ballot (Commit k)) 0 k ≡ Commit k) 5 11 k refl refl
body_back Prepare = refl
body_back (PrepareOk v t k) =
    let o = other_ballot (PrepareOk v t k) in
    by_kind (λ i. body_from i o t k ≡ PrepareOk o t k) 7 12 k refl refl ∙ ap (λ (x : ℕ). PrepareOk x t k) (told-other v t k)
body_back (Nack j) = refl

same-own : (n : ℕ) (fs : List ℕ) → all_below n (λ i. eqb (get_or fs i 0) (get_or fs i 0)) ≡ true
unfolding all_below
same-own zero fs = refl
same-own (suc n) fs = rw (eq-eqb (get_or fs n 0) (get_or fs n 0) refl) (same-own n fs)

module _ (m : Message) (f : MessageFits m) where
  command-back : command_from (fields_of m) ≡ command_in m.body
  unfolding command_from fields_of
  command-back =
      let c = command_in m.body in
      let o : op_number c.op % 256 ≡ op_number c.op = whole8 (op_number c.op) (omega (arith, op-small c.op)) in
      let p : op_of (op_number c.op % 256) ≡ c.op = ap op_of o ∙ op_of-op_number c.op in
      λ i. record { op = p i; key = whole32 c.key f.body.command.key i; second = whole32 c.second f.body.command.second i; edit = c.edit }

  deps-back : deps_from (fields_of m) ≡ m.deps
  unfolding deps_from fields_of
  deps-back =
      let w : (i : ℕ) → get_or m.deps i 0 % 65536 ≡ get_or m.deps i 0 = λ i. whole16 (get_or m.deps i 0) (f.deps.each i) in
      let e : deps_from (fields_of m) ≡ deps_numbers m.deps = λ i. w 0 i ∷ w 1 i ∷ w 2 i ∷ w 3 i ∷ w 4 i ∷ w 5 i ∷ w 6 i ∷ [] in
      e ∙ deps-are m.deps f.deps

  -- a message that fits is made of its fields
  pub fields-message : message_from (fields_of m) ≡ m
  unfolding message_from fields_of
  fields-message =
      let b = m.body in
      let v = whole32 (other_ballot b) (other_fits b f.body) in
      let t = whole8 (status_in b) f.body.status in
      let e : body_from (kind_of b) (other_ballot b % 4294967296) (status_in b % 256) (command_from (fields_of m)) ≡ b =
      (λ i. body_from (kind_of b) (v i) (t i) (command-back i)) ∙ body_back b in
      λ i. record {
        from = whole8 m.from f.from i;
        to = whole8 m.to f.to i;
        owner = whole8 m.owner f.owner i;
        number = whole16 m.number f.number i;
        ballot = whole32 m.ballot f.ballot i;
        body = e i;
        deps = deps-back i;
      }

  -- and its fields are a message's
  pub fields-same : same_fields (fields_of m) (fields_of (message_from (fields_of m))) ≡ true
  unfolding same_fields
  fields-same = ap (λ (x : Message). same_fields (fields_of m) (fields_of x)) fields-message ∙ same-own 19 (fields_of m)

-- so fields tell messages apart
pub fields-apart : (m k : Message) → MessageFits m → MessageFits k → fields_of m ≡ fields_of k → m ≡ k
fields-apart m k f g e = sym (fields-message m f) ∙ ap message_from e ∙ fields-message k g

fields-long : (m : Message) → length (fields_of m) ≡ 19
unfolding fields_of
fields-long m = refl

same_fields-eq : (f g : List ℕ) → length f ≡ 19 → length g ≡ 19 → same_fields f g ≡ true → f ≡ g
unfolding same_fields
same_fields-eq f g p q h =
    ext_get_or 0 f g (p ∙ sym q) (λ i l. eqb-true _ _ (all_below-at 19 (λ j. eqb (get_or f j 0) (get_or g j 0)) h i (omega arith)))

-- nineteen numbers that are some message's are the fields of the message that they make
pub message-fields : (fs : List ℕ) → length fs ≡ 19 → same_fields fs (fields_of (message_from fs)) ≡ true → fields_of (message_from fs) ≡ fs
message-fields fs l e = sym (same_fields-eq fs (fields_of (message_from fs)) l (fields-long (message_from fs)) e)

-- what is made of numbers fits, as each is cut to its place
joined-carried : (j : ℕ) → j < 256 ^ 4 → CarriedFits (joined_carried j)
joined-carried j h = record { voted = omega arith; status = omega arith; command = record { key = omega arith; second = omega arith; edit = omega arith }; joined = h }

none-carried : CarriedFits none_carried
none-carried = joined-carried 0 (omega arith)

command-carried : (c : Command) → CommandFits c → CarriedFits (command_carried c)
command-carried c f = record { voted = omega arith; status = omega arith; command = f; joined = omega arith }

body-fits : (x : Carried) → CarriedFits x → (k : ℕ) → CarriedFits (carried_in (body_of k x))
unfolding body_of
body-fits x f zero = none-carried
body-fits x f (suc zero) = command-carried x.command f.command
body-fits x f (suc (suc zero)) = none-carried
body-fits x f (suc (suc (suc zero))) = command-carried x.command f.command
body-fits x f (suc (suc (suc (suc zero)))) = none-carried
body-fits x f (suc (suc (suc (suc (suc zero))))) = command-carried x.command f.command
body-fits x f (suc (suc (suc (suc (suc (suc zero)))))) = none-carried
body-fits x f (suc (suc (suc (suc (suc (suc (suc zero))))))) = record { voted = f.voted; status = f.status; command = f.command; joined = omega arith }
body-fits x f (suc (suc (suc (suc (suc (suc (suc (suc zero)))))))) = joined-carried x.joined f.joined
body-fits x f (suc (suc (suc (suc (suc (suc (suc (suc (suc zero))))))))) = command-carried x.command f.command
body-fits x f (suc (suc (suc (suc (suc (suc (suc (suc (suc (suc zero)))))))))) = command-carried x.command f.command
body-fits x f (suc (suc (suc (suc (suc (suc (suc (suc (suc (suc (suc zero))))))))))) = command-carried x.command f.command
body-fits x f (suc (suc (suc (suc (suc (suc (suc (suc (suc (suc (suc (suc zero)))))))))))) = record { voted = f.voted; status = f.status; command = f.command; joined = omega arith }
body-fits x f (suc (suc (suc (suc (suc (suc (suc (suc (suc (suc (suc (suc (suc k))))))))))))) = none-carried

cut8 : (x : ℕ) → x % 256 < 256
cut8 x = omega arith

cut16 : (x : ℕ) → x % 65536 < 256 ^ 2
cut16 x = omega arith

cut32 : (x : ℕ) → x % 4294967296 < 256 ^ 4
cut32 x = omega arith

deps-fit : (fs : List ℕ) → DepsFit (deps_from fs)
unfolding deps_from
deps-fit fs = record { seven = refl; each = each }
  where
    each : (i : ℕ) → get_or (deps_from fs) i 0 < 256 ^ 2
    each zero = cut16 _
    each (suc zero) = cut16 _
    each (suc (suc zero)) = cut16 _
    each (suc (suc (suc zero))) = cut16 _
    each (suc (suc (suc (suc zero)))) = cut16 _
    each (suc (suc (suc (suc (suc zero))))) = cut16 _
    each (suc (suc (suc (suc (suc (suc zero)))))) = cut16 _
    each (suc (suc (suc (suc (suc (suc (suc i))))))) = omega arith

pub message_from-fits : (fs : List ℕ) → get_or fs 11 0 < 256 ^ 8 → MessageFits (message_from fs)
unfolding message_from body_from command_from
message_from-fits fs h = record {
  from = cut8 (get_or fs 1 0);
  to = cut8 (get_or fs 2 0);
  owner = cut8 (get_or fs 3 0);
  number = cut16 (get_or fs 4 0);
  ballot = cut32 (get_or fs 5 0);
  body = body-fits _ (record {
    voted = cut32 (get_or fs 6 0);
    status = cut8 (get_or fs 7 0);
    command = record { key = cut32 (get_or fs 9 0); second = cut32 (get_or fs 10 0); edit = h };
    joined = cut32 (get_or fs 6 0);
  }) (get_or fs 0 0);
  deps = deps-fit fs;
}

-- a count is answered for fields of a message alone
module _ (n s c : ℕ) (out fs : List ℕ) (k : ℕ) (e : (wrote_fields n s c out fs).answer ≡ Ok k) where
  refused : {A : Type 0} (r : Refusal) → wrote_fields n s c out fs ≡ unwritten r out → A
  refused r h =
      let x : ◌≡◌ {A = Result ℕ Refusal} (Err r) (Ok k) = ap (λ (w : Wrote). w.answer) (sym h) ∙ e in
      let z : ◌≡◌ {A = ℕ} 0 1 = cc in
      absurd (omega arith)

  some-message : same_fields fs (fields_of (message_from fs)) ≡ true
  unfolding wrote_fields wrote_misfit
  some-message = go (same_fields fs (fields_of (message_from fs))) refl (setup_ok n s c) refl (ltb (length out) 256) refl
    where
      go : (b : Bool) → same_fields fs (fields_of (message_from fs)) ≡ b → (t : Bool) → setup_ok n s c ≡ t → (l : Bool) → ltb (length out) 256 ≡ l
          → same_fields fs (fields_of (message_from fs)) ≡ true
      go true p t q l h = p
      go false p false q l h = refused why.Setup (rw (p, q))
      go false p true q true h = refused why.Room (rw (p, q, h))
      go false p true q false h = refused (refusal_of (parts_of (get_or fs 0 0)) (misfit fs)) (rw (p, q, h))

-- fields of a message are written as that message
as-message : (n s c : ℕ) (out fs : List ℕ) → same_fields fs (fields_of (message_from fs)) ≡ true → wrote_fields n s c out fs ≡ wrote n s c out (message_from fs)
unfolding wrote_fields
as-message n s c out fs e = rw e

-- number 0 stands for a count, and for a message that was read
writing-zero : (a : Result ℕ Refusal) → 0 ≡ writing_number a → a ≡ Ok (writing_count a)
writing-zero (Ok k) e = refl
writing-zero (Err r) e = absurd (omega (arith, number_of-pos r))

-- what was read where the number is 0
record Found (a : Result Message Refusal) : Type 0 where
  message : Message
  is : a ≡ Ok message

reading-zero : (a : Result Message Refusal) → 0 ≡ reading_number a → Found a
reading-zero (Ok m) e = record { message = m; is = refl }
reading-zero (Err r) e = absurd (omega (arith, number_of-pos r))

to_is : (m : Message) (fs : List ℕ) → fields_of m ≡ fs → m.to ≡ get_or fs 2 0
unfolding fields_of
to_is m fs e = ap (λ (l : List ℕ). get_or l 2 0) e

-- Written fields read back equal: where the writer answers a count, so many bytes of the room are read by the copy named in `to` as
-- the fields that were given.
pub written-fields-read : (n s c : ℕ) (out fs : List ℕ) (k a : ℕ) (o : List ℕ) (r : ℕ) (gs : List ℕ) (i : ℕ) → length fs ≡ 19 → ((i : ℕ) → get_or fs i 0 < 256 ^ 8)
    → Writes (wrote_fields n s c out fs) 0 k a o → Reads (read_message n s (get_or fs 2 0) (take k o)) r gs i → (r ≡ 0) × (gs ≡ fs)
written-fields-read n s c out fs k a o r gs i l small (w0, (wk, (wa, wo))) (rn, (rf, ra)) =
    let m : Message = message_from fs in
    let f : (wrote_fields n s c out fs).answer ≡ Ok k = writing-zero (wrote_fields n s c out fs).answer w0 ∙ ap Ok (sym wk) in
    let same = some-message n s c out fs k f in
    let told : wrote_fields n s c out fs ≡ wrote n s c out m = as-message n s c out fs same in
    let e : (wrote n s c out m).answer ≡ Ok k = sym (ap (λ (w : Wrote). w.answer) told) ∙ f in
    let fits : MessageFits m = message_from-fits fs (small 11) in
    let back : fields_of m ≡ fs = message-fields fs l same in
    let to : m.to ≡ get_or fs 2 0 = to_is m fs back in
    let room : o ≡ (wrote n s c out m).out = wo ∙ ap (λ (w : Wrote). w.out) told in
    let x : read_message n s m.to (take k (wrote n s c out m).out) ≡ Ok m = written_read n s c out m k fits e in
    let y : read_message n s (get_or fs 2 0) (take k o) ≡ Ok m = rw (← to, room) x in
    (rn ∙ ap reading_number y, rf ∙ ap read_values y ∙ back)

-- what was read fits
read_fits : (n s c : ℕ) (b : List ℕ) → ((i : ℕ) → get_or b i 0 < 256) → (m : Message) → read_message n s c b ≡ Ok m → MessageFits m
unfolding valid_bytes
read_fits n s c b byte m e = go (setup_ok n s c) refl (valid_bytes n s c b) refl
  where
    no : {A : Type 0} (r : Refusal) → read_message n s c b ≡ Err r → A
    no r h =
        let x : ◌≡◌ {A = Result Message Refusal} (Err r) (Ok m) = sym h ∙ e in
        let z : ◌≡◌ {A = ℕ} 0 1 = cc in
        absurd (omega arith)

    go : (a : Bool) → setup_ok n s c ≡ a → (v : Bool) → valid_bytes n s c b ≡ v → MessageFits m
    go false q v h = no why.Setup (read_is n s c b ∙ rw q)
    go true q false h = no (why_read n s c b) (read_is n s c b ∙ rw (q, h))
    go true q true h =
        let p = (and-true (framed b && op_fits b) _ h).0 in
        let x : ◌≡◌ {A = Result Message Refusal} (Ok (message_at b)) (Ok m) = sym (read_is n s c b ∙ rw (q, h)) ∙ e in
        let y : message_at b ≡ m = cc in
        rw (← y) (message_at-fits b byte (framed_is b (and-true (framed b) (op_fits b) p).0))

front : (l v : List ℕ) → splice l 0 v ≡ v ++ drop (length v) l
unfolding splice
front l v = let n : 0 + length v ≡ length v = omega arith in rw n

-- Accepted bytes write back equal: given the fields that were read, the writer counts as many bytes as were read and writes them; the
-- later ones of the room stay.
pub accepted-bytes-written : (n s c d : ℕ) (b out fs : List ℕ) (i r k a : ℕ) (o : List ℕ) → ((i : ℕ) → get_or b i 0 < 256) → setup_ok n s d ≡ true → 256 ≤ length out
    → Reads (read_message n s c b) 0 fs i → Writes (wrote_fields n s d out fs) r k a o → (r ≡ 0) × ((k ≡ length b) × (o ≡ b ++ drop (length b) out))
accepted-bytes-written n s c d b out fs i r k a o byte p l (r0, (rf, ra)) (wn, (wk, (wa, wo))) =
    let found = reading-zero (read_message n s c b) r0 in
    let m : Message = found.message in
    let e : read_message n s c b ≡ Ok m = found.is in
    let f : fs ≡ fields_of m = rf ∙ ap read_values e in
    let fit = read_fits n s c b byte m e in
    let q : wrote_fields n s d out (fields_of m) ≡ wrote n s d out m = as-message n s d out (fields_of m) (fields-same m fit) ∙ ap (wrote n s d out) (fields-message m fit) in
    let w : wrote_fields n s d out fs ≡ record { answer = Ok (length b); out = splice out 0 b } =
    ap (wrote_fields n s d out) f ∙ q ∙ read-written n s c d b out byte p l m e in (
      wn ∙ ap (λ (z : Wrote). writing_number z.answer) w,
      (wk ∙ ap (λ (z : Wrote). writing_count z.answer) w, wo ∙ ap (λ (z : Wrote). z.out) w ∙ front out b),
    )
