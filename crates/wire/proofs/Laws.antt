-- The places of the parts, lengths of messages, and the outcomes of the two calls, one law each. Assumes nothing.
use mathlib.Core.Path.{◌≡◌, refl, sym, ap, ◌∙◌}
use mathlib.Core.Bool.{Bool, true, false, ◌&&◌, ◌||◌, not, cond, and-eq-true_iff}
use mathlib.Core.List.{List, [], ◌∷◌, ◌++◌}
use Prim.Native.Nat.{ℕ, ◌+◌, ◌≤◌, ◌<◌}
use native.Mathlib.Omega.{arith}
use lib.Dec.{leb, ltb, eqb}
use lib.ListN.{length, length-append}
use borrow.Author.Tests.{leb-true, eqb-true, eq-eqb, ne_eqb, lt-ltb, le-ltb}
use Rattle.std.specs.Prelude.{Result, Ok, Err}
use Rattle.numbers.specs.Num.{splice}
use Rattle.numbers.specs.Fields.{size_of}
use Rattle.codec.specs.Parts.{sent_widths, deps_widths, sent_bytes, deps_bytes}
use Rattle.codec.proofs.Laws.{length-sent_bytes, sent_at-rewire}
use Rattle.paper.specs.Refusal.{number_of}
use Rattle.paper.specs.Setup.{setup_ok}
use Rattle.paper.specs.Command.{is_rewire}
use Rattle.paper.specs.Message.{row_of, row_in, parts_of, parts_in, kind_of, carried_in, kept}
use Rattle.paper.specs.Valid.{op_range, op_in, valid, verdict_on}
use Rattle.paper.specs.declared.Refusal.{Refusal}
use Rattle.paper.specs.declared.Refusal.TheVariants.{Setup, Room}
use Rattle.paper.specs.declared.Refusal.TheVariants as why
use Rattle.paper.specs.declared.Carried.{Carried}
use Rattle.paper.specs.declared.Parts.{Parts}
use Rattle.paper.specs.declared.Row.{Row}
use Rattle.paper.specs.declared.Message.{Message}
use Rattle.paper.specs.declared.Blame.{Blame}
use Rattle.paper.specs.declared.Blame.TheVariants as blame
use Rattle.paper.proofs.Laws.{and-true}
use Rattle.paper.proofs.Valid.{is_valid, valid-verdict, op_fits_lem}
use Rattle.paper.proofs.Bodies.{all_of, every_row, every-row, kind-is}
use Rattle.wire.specs.Wire.{told_widths, joined_widths, head_size, past, command_start, deps_start, joined_start, rest_end, kind_at, length_of, part, told_bytes, joined_bytes, rest_bytes, head_bytes, carried_at, body_at, message_at, message_bytes, framed, OfKind, op_at, edit_in_command, valid_bytes, verdict_at}
use Rattle.wire.specs.Calls.{refusal_of, unless_blamed, read_message, unwritten, Wrote, write_unless_blamed, wrote}

-- a part moves what stands after it by its bytes or not at all
module _ (b : Bool) (ws : List ℕ) (at : ℕ) where
  pub past-over : at ≤ past b ws at
  unfolding past
  past-over = go b
    where
      go : (x : Bool) → at ≤ cond x (at + size_of ws) at
      go true = omega arith
      go false = omega arith

  pub past-most : past b ws at ≤ at + size_of ws
  unfolding past
  past-most = go b
    where
      go : (x : Bool) → cond x (at + size_of ws) at ≤ at + size_of ws
      go true = omega arith
      go false = omega arith

  pub past-there : b ≡ true → past b ws at ≡ at + size_of ws
  unfolding past
  past-there e = rw e

  pub past-further : (k : ℕ) → past b ws (k + at) ≡ k + past b ws at
  unfolding past
  past-further k = go b
    where
      go : (x : Bool) → cond x (k + at + size_of ws) (k + at) ≡ k + cond x (at + size_of ws) at
      go true = omega arith
      go false = refl

  pub past-part : (l : List ℕ) → length l ≡ size_of ws → at + length (part b l) ≡ past b ws at
  unfolding past
  past-part l e = go b
    where
      go : (x : Bool) → at + length (cond x l []) ≡ cond x (at + size_of ws) at
      go true = omega arith
      go false = omega arith

-- a command in a message is 13 or 17 bytes long
pub sent-least : (second : Bool) → 13 ≤ size_of (sent_widths second)
sent-least true = omega arith
sent-least false = omega arith

pub sent-most : (second : Bool) → size_of (sent_widths second) ≤ 17
sent-most true = omega arith
sent-most false = omega arith

-- its edit stands last
pub edit-last : (second : Bool) → edit_in_command second + 8 ≡ size_of (sent_widths second)
edit-last true = refl
edit-last false = refl

-- each part that is there stands before the end, and the end is near
module _ (p : Parts) (at : ℕ) where
  pub at_told : at ≤ command_start p at
  at_told = past-over p.told told_widths at

  pub at-command : command_start p at ≤ deps_start p at
  at-command = past-over p.command (sent_widths p.second) (command_start p at)

  pub at-deps : deps_start p at ≤ joined_start p at
  at-deps = past-over p.deps deps_widths (deps_start p at)

  pub at_joined : joined_start p at ≤ rest_end p at
  at_joined = past-over p.joined joined_widths (joined_start p at)

  pub begins : at ≤ rest_end p at
  begins = omega (arith, at_told, at-command, at-deps, at_joined)

  pub told-room : p.told ≡ true → at + 5 ≤ rest_end p at
  told-room e = omega (arith, past-there p.told told_widths at e, at-command, at-deps, at_joined)

  pub command-room : p.command ≡ true → command_start p at + size_of (sent_widths p.second) ≤ rest_end p at
  command-room e = omega (arith, past-there p.command (sent_widths p.second) (command_start p at) e, at-deps, at_joined)

  pub deps-room : p.deps ≡ true → deps_start p at + 14 ≤ rest_end p at
  deps-room e = omega (arith, past-there p.deps deps_widths (deps_start p at) e, at_joined)

  pub joined-room : p.joined ≡ true → joined_start p at + 4 ≤ rest_end p at
  joined-room e = omega (arith, past-there p.joined joined_widths (joined_start p at) e)

  pub command-near : command_start p at ≤ at + 5
  command-near = past-most p.told told_widths at

  pub deps-near : deps_start p at ≤ at + 22
  deps-near = omega (arith, past-most p.command (sent_widths p.second) (command_start p at), sent-most p.second, command-near)

  pub joined-near : joined_start p at ≤ at + 36
  joined-near = omega (arith, past-most p.deps deps_widths (deps_start p at), deps-near)

  pub end-further : (k : ℕ) → rest_end p (k + at) ≡ k + rest_end p at
  end-further k =
      rw (past-further p.told told_widths at k, past-further p.command (sent_widths p.second) (command_start p at) k, past-further p.deps deps_widths (deps_start p at) k)
      (past-further p.joined joined_widths (joined_start p at) k)

pub ten : (k : ℕ) → 10 ≤ length_of k
unfolding length_of
ten k = begins (parts_of k) 10

-- no kind is longer than 46 bytes; one that tells of no ballot and status is at most 41
pub long-enough : (k : ℕ) → length_of k ≤ 46
unfolding length_of past every_row all_of
long-enough k = leb-true _ _ (every-row (λ r. leb (rest_end r.parts head_size) 46) refl k)

pub untold-short : (k : ℕ) → (parts_of k).told ≡ false → length_of k ≤ 41
unfolding length_of past every_row all_of
untold-short k e = leb-true (length_of k) 41 (or_right (parts_of k).told _ e (every-row (λ r. r.parts.told || leb (rest_end r.parts head_size) 41) refl k))
  where
    or_right : (a b : Bool) → a ≡ false → (a || b) ≡ true → b ≡ true
    or_right a b e h = rw e at h

-- what framed bytes are
pub record Framed (b : List ℕ) : Type 0 where
  pub known : (row_of (kind_at b)).known ≡ true
  pub exact : length b ≡ length_of (kind_at b)

pub framed_is : (b : List ℕ) → framed b ≡ true → Framed b
unfolding framed
framed_is b h =
    let p = (and-eq-true_iff (row_of (kind_at b)).known _).0 h in
    record { known = p.0; exact = eqb-true _ _ p.1 }

-- the command that is read is one that the kind carries, so the kind is the message's
pub carried-fits : (p : Parts) (b : List ℕ) → p.command ≡ true → is_rewire (carried_at p b).command ≡ p.second
unfolding carried_at kept
carried-fits p b e = rw e (sent_at-rewire p.second b (command_start p head_size))

pub kind-held : (b : List ℕ) → (row_of (kind_at b)).known ≡ true → kind_of (body_at (kind_at b) b) ≡ kind_at b
kind-held b known = kind-is (kind_at b) (carried_at (parts_of (kind_at b)) b) known (carried-fits (parts_of (kind_at b)) b)

-- what the reader has of them: their kind, its row, and with that the row of the message that they hold
module _ (b : List ℕ) (k : ℕ) (r : Row) (kind : k ≡ kind_at b) (row : r ≡ row_of k) (h : framed b ≡ true) where
  pub of-kind : OfKind k r.parts b
  unfolding length_of
  of-kind =
      let f = framed_is b h in
      record { kind = kind; known = rw kind f.known; parts = ap (λ (w : Row). w.parts) row; exact = rw (row, kind) f.exact }

  pub row-held : r ≡ row_in (message_at b).body
  unfolding message_at
  row-held = row ∙ ap row_of (kind ∙ sym (kind-held b (framed_is b h).known))

pub length-head_bytes : (m : Message) → length (head_bytes m) ≡ 10
unfolding head_bytes
length-head_bytes m = refl

-- how far the parts of a rest reach
module _ (p : Parts) (x : Carried) (d : List ℕ) (at : ℕ) where
  pub told-size : at + length (part p.told (told_bytes x)) ≡ command_start p at
  told-size = past-part p.told told_widths at (told_bytes x) refl

  pub command-size : command_start p at + length (part p.command (sent_bytes p.second x.command)) ≡ deps_start p at
  command-size = past-part p.command (sent_widths p.second) (command_start p at) (sent_bytes p.second x.command) (length-sent_bytes p.second x.command)

  pub deps-size : deps_start p at + length (part p.deps (deps_bytes d)) ≡ joined_start p at
  unfolding deps_bytes
  deps-size = past-part p.deps deps_widths (deps_start p at) (deps_bytes d) refl

  pub joined-size : joined_start p at + length (part p.joined (joined_bytes x)) ≡ rest_end p at
  joined-size = past-part p.joined joined_widths (joined_start p at) (joined_bytes x) refl

  pub rest-size : at + length (rest_bytes p x d) ≡ rest_end p at
  unfolding rest_bytes
  rest-size = simp length-append (omega (arith, told-size, command-size, deps-size, joined-size))

-- where the parts of a rest stand behind a list that ends where the rest begins
module _ (p : Parts) (x : Carried) (d h : List ℕ) (at : ℕ) (e : length h ≡ at) where
  pub told-ends : length (h ++ part p.told (told_bytes x)) ≡ command_start p at
  told-ends = simp length-append (omega (arith, e, told-size p x d at))

  pub command-ends : length (h ++ part p.told (told_bytes x) ++ part p.command (sent_bytes p.second x.command)) ≡ deps_start p at
  command-ends = simp length-append (omega (arith, e, told-size p x d at, command-size p x d at))

  pub deps-ends : length (h ++ part p.told (told_bytes x) ++ part p.command (sent_bytes p.second x.command) ++ part p.deps (deps_bytes d)) ≡ joined_start p at
  deps-ends = simp length-append (omega (arith, e, told-size p x d at, command-size p x d at, deps-size p x d at))

  pub rest-ends : length (h ++ rest_bytes p x d) ≡ rest_end p at
  rest-ends = simp length-append (omega (arith, e, rest-size p x d at))

pub length-message_bytes : (m : Message) → length (message_bytes m) ≡ length_of (kind_of m.body)
unfolding message_bytes length_of
length-message_bytes m = rest-ends (parts_in m.body) (carried_in m.body) m.deps (head_bytes m) 10 (length-head_bytes m)

-- the reader's outcomes, in the order in which they are tried
module _ (n s c : ℕ) (b : List ℕ) where
  pub received-1 : setup_ok n s c ≡ false → Err Setup ≡ read_message n s c b
  unfolding read_message
  received-1 p = rw p

  pub received-31 : setup_ok n s c ≡ true → (row_of (kind_at b)).known ≡ false → Err why.UnknownKind ≡ read_message n s c b
  unfolding read_message verdict_at
  received-31 p q = rw (p, q)

  pub received-32 : setup_ok n s c ≡ true → (row_of (kind_at b)).known ≡ true → eqb (length b) (length_of (kind_at b)) ≡ false
      → Err why.WrongLength ≡ read_message n s c b
  unfolding read_message verdict_at
  received-32 p q r = rw (p, q, r)

  pub received-rest : setup_ok n s c ≡ true → framed b ≡ true
      → unless_blamed (parts_of (kind_at b)) (verdict_on n s c (op_at (parts_of (kind_at b)) b) (message_at b)) (message_at b) ≡ read_message n s c b
  unfolding read_message verdict_at framed
  received-rest p h = let (k, l) = and-true (row_of (kind_at b)).known _ h in rw (p, k, l)

  kind-read : (row_of (kind_at b)).known ≡ true → kind_of (message_at b).body ≡ kind_at b
  unfolding message_at
  kind-read p = kind-held b p

  -- no reason is given for what is valid, and one for everything else
  pub valid-bytes : is_valid (verdict_at n s c b) ≡ valid_bytes n s c b
  unfolding verdict_at valid_bytes framed
  valid-bytes = go (row_of (kind_at b)).known refl (eqb (length b) (length_of (kind_at b))) refl
    where
      go : (k : Bool) → (row_of (kind_at b)).known ≡ k → (l : Bool) → eqb (length b) (length_of (kind_at b)) ≡ l → is_valid (verdict_at n s c b) ≡ valid_bytes n s c b
      go false p l q = rw p
      go true p false q = rw (p, q)
      go true p true q =
          let held : (parts_in (message_at b).body).second ≡ (parts_of (kind_at b)).second = ap (λ (k : ℕ). (parts_of k).second) (kind-read p) in
          rw (p, q) (valid-verdict n s c (op_at (parts_of (kind_at b)) b) (message_at b) ∙ ap (λ (t : Bool). op_range t (op_at (parts_of (kind_at b)) b) && valid n s c (message_at b)) held)

-- the refusal of a verdict that blames; of one that does not it is never asked
pub why_of : Parts → Result Unit Blame → Refusal
why_of p (Ok u) = why.UnknownKind
why_of p (Err x) = refusal_of p x

-- it is 31 to 35
pub why-number : (p : Parts) (v : Result Unit Blame) → (31 ≤ number_of (why_of p v)) × (number_of (why_of p v) ≤ 35)
unfolding why_of
why-number p (Ok u) = (omega arith, omega arith)
why-number p (Err blame.Kind) = (omega arith, omega arith)
why-number p (Err blame.Length) = (omega arith, omega arith)
why-number p (Err blame.Way) = (omega arith, omega arith)
why-number p (Err blame.Lead) = (omega arith, omega arith)
why-number p (Err (blame.Of f)) = (omega arith, omega arith)

pub why-other : (p : Parts) (v : Result Unit Blame) (k : ℕ) → k < 31 → eqb (number_of (why_of p v)) k ≡ false
why-other p v k l = ne_eqb _ k (λ e. omega (arith, e, (why-number p v).0))

abbrev pub why_read : ℕ → ℕ → ℕ → List ℕ → Refusal
why_read n s c b = why_of (parts_of (kind_at b)) (verdict_at n s c b)

abbrev pub why_written : ℕ → ℕ → Message → Refusal
why_written n s m = why_of (parts_in m.body) (verdict_on n s m.to (op_in m) m)

-- the reader by what is valid
pub read_is : (n s c : ℕ) (b : List ℕ) → read_message n s c b
    ≡ cond (not (setup_ok n s c)) (Err Setup) (cond (not (valid_bytes n s c b)) (Err (why_read n s c b)) (Ok (message_at b)))
unfolding read_message why_of
read_is n s c b = ap (cond (not (setup_ok n s c)) (Err Setup)) (go (verdict_at n s c b) (valid_bytes n s c b) (valid-bytes n s c b))
  where
    go : (v : Result Unit Blame) (t : Bool) → is_valid v ≡ t
        → unless_blamed (parts_of (kind_at b)) v (message_at b) ≡ cond (not t) (Err (why_of (parts_of (kind_at b)) v)) (Ok (message_at b))
    go (Ok u) true e = refl
    go (Ok u) false e = absurd (let z : ◌≡◌ {A = ℕ} 0 1 = cc in omega arith)
    go (Err x) true e = absurd (let z : ◌≡◌ {A = ℕ} 0 1 = cc in omega arith)
    go (Err x) false e = refl

-- the writer's outcomes
module _ (n s c : ℕ) (out : List ℕ) (m : Message) where
  pub wrote-1 : setup_ok n s c ≡ false → unwritten Setup out ≡ wrote n s c out m
  unfolding wrote
  wrote-1 p = rw p

  pub wrote-2 : setup_ok n s c ≡ true → length out < 256 → unwritten Room out ≡ wrote n s c out m
  unfolding wrote
  wrote-2 p q = rw (p, lt-ltb (length out) 256 q)

  pub wrote-rest : setup_ok n s c ≡ true → 256 ≤ length out → (v : Result Unit Blame) → v ≡ verdict_on n s m.to (op_in m) m
      → write_unless_blamed v out m ≡ wrote n s c out m
  unfolding wrote
  wrote-rest p q v e = rw (e, p, le-ltb (length out) 256 q)

  -- the writer by what is valid
  pub wrote-is : wrote n s c out m
      ≡ cond (not (setup_ok n s c)) (unwritten Setup out)
      (cond (ltb (length out) 256) (unwritten Room out)
      (cond (not (valid n s m.to m)) (unwritten (why_written n s m) out)
      (record { answer = Ok (length_of (kind_of m.body)); out = splice out 0 (message_bytes m) })))
  unfolding wrote why_of
  wrote-is =
      let e : is_valid (verdict_on n s m.to (op_in m) m) ≡ valid n s m.to m = valid-verdict n s m.to (op_in m) m ∙ rw (op_fits_lem n s m.to m) in
      ap (λ (x : Wrote). cond (not (setup_ok n s c)) (unwritten Setup out) (cond (ltb (length out) 256) (unwritten Room out) x))
      (go (verdict_on n s m.to (op_in m) m) (valid n s m.to m) e)
    where
      go : (v : Result Unit Blame) (t : Bool) → is_valid v ≡ t
          → write_unless_blamed v out m
          ≡ cond (not t) (unwritten (why_of (parts_in m.body) v) out) (record { answer = Ok (length_of (kind_of m.body)); out = splice out 0 (message_bytes m) })
      go (Ok u) true e = refl
      go (Ok u) false e = absurd (let z : ◌≡◌ {A = ℕ} 0 1 = cc in omega arith)
      go (Err x) true e = absurd (let z : ◌≡◌ {A = ℕ} 0 1 = cc in omega arith)
      go (Err x) false e = refl

  pub wrote-ok : setup_ok n s c ≡ true → 256 ≤ length out → valid n s m.to m ≡ true
      → ◌≡◌ {A = Wrote} (record { answer = Ok (length_of (kind_of m.body)); out = splice out 0 (message_bytes m) }) (wrote n s c out m)
  wrote-ok p q r = sym (wrote-is ∙ rw (p, le-ltb (length out) 256 q, r))

-- what the reader goes by: the kind, its row, and where its rest ends
module _ (n s c : ℕ) (b : List ℕ) (setup : setup_ok n s c ≡ true) {k : ℕ} {r : Row} (kind : k ≡ kind_at b) (row : r ≡ row_of k) where
  pub not_known : r.known ≡ false → Err why.UnknownKind ≡ read_message n s c b
  not_known h = received-31 n s c b setup (sym (ap (λ (w : Row). w.known) (row ∙ ap row_of kind)) ∙ h)

  pub not-exact : r.known ≡ true → {e : ℕ} → e ≡ rest_end r.parts head_size → (length b ≡ e → ⊥) → Err why.WrongLength ≡ read_message n s c b
  unfolding length_of
  not-exact h e d =
      let q : r ≡ row_of (kind_at b) = row ∙ ap row_of kind in
      let l : (length b ≡ length_of (kind_at b) → ⊥) = λ g. d (g ∙ sym (e ∙ ap (λ (w : Row). rest_end w.parts head_size) q)) in
      received-32 n s c b setup (sym (ap (λ (w : Row). w.known) q) ∙ h) (ne_eqb _ _ l)

  pub judged-read : framed b ≡ true → {o : ℕ} → o ≡ op_at r.parts b → {m : Message} → m ≡ message_at b → {v : Result Unit Blame} → v ≡ verdict_on n s c o m
      → unless_blamed r.parts v m ≡ read_message n s c b
  judged-read h {o} eo {m} em {v} ev =
      let q : r.parts ≡ parts_of (kind_at b) = ap (λ (w : Row). w.parts) (row ∙ ap row_of kind) in
      let x : o ≡ op_at (parts_of (kind_at b)) b = eo ∙ ap (λ (p : Parts). op_at p b) q in
      rw (ev, em, x, q) (received-rest n s c b setup h)

pub is_framed : (b : List ℕ) {k : ℕ} {r : Row} → k ≡ kind_at b → r ≡ row_of k → r.known ≡ true → {e : ℕ} → e ≡ rest_end r.parts head_size → length b ≡ e
    → framed b ≡ true
unfolding framed length_of
is_framed b kind row h e l =
    let q = row ∙ ap row_of kind in
    rw (sym (ap (λ (w : Row). w.known) q) ∙ h) (eq-eqb _ _ (l ∙ e ∙ ap (λ (w : Row). rest_end w.parts head_size) q))

-- no bytes have kind 0
pub empty : (b : List ℕ) → length b ≡ 0 → 0 ≡ kind_at b
empty [] h = refl
empty (x ∷ xs) h = absurd (omega arith)
