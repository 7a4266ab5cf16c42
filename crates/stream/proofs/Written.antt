-- What the writer wrote comes out of a stream as it was. Assumes nothing.
use mathlib.Core.Path.{◌≡◌, refl, sym, ap, ◌∙◌}
use mathlib.Core.Bool.{Bool, true, false, ◌&&◌}
use mathlib.Core.List.{List, [], ◌++◌, append-nil}
use Prim.Native.Nat.{ℕ}
use native.Mathlib.Omega.{arith}
use lib.ListN.{length, take}
use Rattle.std.specs.Prelude.{Result, Ok, Err}
use Rattle.paper.specs.Setup.{setup_ok}
use Rattle.paper.specs.Valid.{valid}
use Rattle.paper.specs.declared.Message.{Message}
use Rattle.paper.specs.declared.Refusal.{Refusal}
use Rattle.paper.specs.declared.Refusal.TheVariants.{Setup}
use Rattle.paper.proofs.Laws.{and-true}
use Rattle.wire.specs.Wire.{framed, op_fits, valid_bytes, message_at}
use Rattle.wire.specs.Calls.{read_message, wrote}
use Rattle.wire.proofs.Laws.{framed_is, why_read, read_is}
use Rattle.wire.proofs.Round.{written_read}
use Rattle.stream.specs.Stream.{is_stopped}
use Rattle.stream.specs.Cutting.{joined, uncut, Written, none, more, EachRead, WrittenThrough}
use Rattle.stream.proofs.Cutting.{Exact, AllExact, no_bytes, uncut-all}
use Rattle.stream.proofs.Kept.{any-cutting}

-- what is read as a message is one, and nothing else
read-exact : (n s c : ℕ) (b : List ℕ) (m : Message) → read_message n s c b ≡ Ok m → Exact b
unfolding valid_bytes
read-exact n s c b m e = go (setup_ok n s c) refl (valid_bytes n s c b) refl
  where
    refused : (r : Refusal) → read_message n s c b ≡ Err r → Exact b
    refused r h =
        let x : ◌≡◌ {A = Result Message Refusal} (Err r) (Ok m) = sym h ∙ e in
        let z : ◌≡◌ {A = ℕ} 0 1 = cc in
        absurd (omega arith)

    go : (a : Bool) → setup_ok n s c ≡ a → (v : Bool) → valid_bytes n s c b ≡ v → Exact b
    go false q v h = refused Setup (read_is n s c b ∙ rw q)
    go true q false h = refused (why_read n s c b) (read_is n s c b ∙ rw (q, h))
    go true q true h =
        let f = framed_is b (and-true (framed b) (op_fits b) (and-true (framed b && op_fits b) (valid n s c (message_at b)) h).0).0 in
        record { known = f.known; exact = f.exact }

each_read : {n s c : ℕ} {ms : List Message} {bs : List (List ℕ)} → Written n s c ms bs → EachRead n s ms bs
each_read none = tt
each_read {n} {s} {c} (more m out k f e w) = (written_read n s c out m k f e, each_read w)

each-exact : {n s c : ℕ} {ms : List Message} {bs : List (List ℕ)} → Written n s c ms bs → AllExact bs
each-exact none = tt
each-exact {n} {s} {c} (more m out k f e w) =
    (read-exact n s m.to (take k (wrote n s c out m).out) m (written_read n s c out m k f e), each-exact w)

pub written-through : WrittenThrough
unfolding is_stopped
written-through n s c ms bs w b l cs d e =
    let q : uncut (joined bs ++ []) ≡ record { messages = bs; rest = length (joined bs); stopped = false } = sym (uncut-all bs [] (each-exact w) (no_bytes [] refl)) in
    (any-cutting b l cs d ∙ ap uncut (e ∙ sym (append-nil (joined bs))) ∙ q, each_read w)
