-- 1/12: the offset of a bad field is that of its first byte, within the message, and it is the first: every field that stands before
-- is in range, and every rule among those holds. Assumes nothing.
use Prim.Native.Nat.{ℕ, ◌+◌, ◌≤◌, ◌<◌}
use mathlib.Core.Path.{◌≡◌, refl, sym, ap, ◌∙◌}
use mathlib.Core.Bool.{Bool, true, false}
use mathlib.Core.List.{List}
use native.Mathlib.Omega.{arith}
use lib.Dec.{eqb}
use lib.ListN.{length}
use borrow.Author.Tests.{ltb-true}
use Rattle.std.specs.Prelude.{Result, Ok, Err}
use Rattle.numbers.specs.Fields.{size_of}
use Rattle.codec.specs.Parts.{sent_widths}
use Rattle.paper.specs.Setup.{setup_ok}
use Rattle.paper.specs.Message.{row_of, parts_of, parts_in}
use Rattle.paper.specs.Valid.{Clause, holds, entry_clauses, clauses, first_failing, blame_of, verdict_on, has_field}
use Rattle.paper.specs.declared.Parts.{Parts}
use Rattle.paper.specs.declared.Field.{Field}
use Rattle.paper.specs.declared.Field.TheVariants as field
use Rattle.paper.specs.declared.Blame.{Blame}
use Rattle.paper.specs.declared.Blame.TheVariants as blame
use Rattle.paper.specs.declared.Message.{Message}
use Rattle.paper.specs.declared.Refusal.{Refusal}
use Rattle.paper.specs.declared.Refusal.TheVariants as why
use Rattle.paper.proofs.Laws.{and-true}
use Rattle.paper.proofs.Bodies.{all_of, every_row, every-row}
use Rattle.paper.proofs.First.{In, rising, first-of, named, named-carried, named-short, blamed-has}
use Rattle.wire.specs.Wire.{head_size, past, rest_end, length_of, kind_at, message_at, framed, op_at, offset_of, width_of, verdict_at}
use Rattle.wire.specs.Calls.{unless_blamed, read_message}
use Rattle.wire.proofs.Laws.{begins, told-room, command-room, sent-least, edit-last, deps-room, joined-room, framed_is, kind-held}

-- a field stands within a message that has it
pub field_room : (p : Parts) (f : Field) → has_field p f ≡ true → offset_of p f + width_of f ≤ rest_end p head_size
field_room p field.From h = omega (arith, begins p 10)
field_room p field.To h = omega (arith, begins p 10)
field_room p field.Owner h = omega (arith, begins p 10)
field_room p field.Number h = omega (arith, begins p 10)
field_room p field.Ballot h = omega (arith, begins p 10)
field_room p field.Voted h = omega (arith, told-room p 10 h)
field_room p field.Status h = omega (arith, told-room p 10 h)
field_room p field.Op h = omega (arith, command-room p 10 h, sent-least p.second)
field_room p field.Key h = omega (arith, command-room p 10 h, sent-least p.second)
field_room p field.Second h =
    let (k, t) = and-true p.command _ h in
    let long : size_of (sent_widths p.second) ≡ 17 = rw t in
    omega (arith, command-room p 10 k, long)
field_room p field.Edit h = omega (arith, command-room p 10 h, edit-last p.second)
field_room p (field.Entry i) h = let (d, l) = and-true p.deps _ h in omega (arith, deps-room p 10 d, ltb-true i 7 l)
field_room p field.Joined h = omega (arith, joined-room p 10 h)

-- which clauses blame a field of the message, and its offset
abbrev about_field : Parts → Blame → Bool
about_field p blame.Kind = false
about_field p blame.Length = false
about_field p blame.Way = false
about_field p blame.Lead = false
about_field p (blame.Of f) = has_field p f

abbrev offset_in : Parts → Blame → ℕ
offset_in p blame.Kind = 0
offset_in p blame.Length = 0
offset_in p blame.Way = 0
offset_in p blame.Lead = 0
offset_in p (blame.Of f) = offset_of p f

-- the clauses are tried in the order of the bytes
in_order : (k : ℕ) → rising (λ x. about_field (parts_of k) (blame_of x)) (λ x. offset_in (parts_of k) (blame_of x)) 0 clauses ≡ true
unfolding rising entry_clauses blame_of every_row all_of past
in_order k = every-row (λ r. rising (λ x. about_field r.parts (blame_of x)) (λ x. offset_in r.parts (blame_of x)) 0 clauses) refl k

-- what the answer 35 with this offset says of the bytes
pub record FirstBad (n s c : ℕ) (b : List ℕ) (a : ℕ) : Type 0 where
  pub field : Field
  pub clause : Clause
  pub listed : In clause clauses
  pub blames : blame_of clause ≡ blame.Of field
  pub fails : holds n s c (op_at (parts_of (kind_at b)) b) (message_at b) clause ≡ false
  pub has : has_field (parts_of (kind_at b)) field ≡ true
  pub offset : a ≡ offset_of (parts_of (kind_at b)) field
  pub within : a + width_of field ≤ length b
  pub before : (y : Clause) → In y clauses → (g : Field) → blame_of y ≡ blame.Of g → has_field (parts_of (kind_at b)) g ≡ true → offset_of (parts_of (kind_at b)) g < a
      → holds n s c (op_at (parts_of (kind_at b)) b) (message_at b) y ≡ true

-- the message that framed bytes hold has the parts of their kind
parts_held : (b : List ℕ) → framed b ≡ true → parts_in (message_at b).body ≡ parts_of (kind_at b)
unfolding message_at
parts_held b h = ap parts_of (kind-held b (framed_is b h).known)

module _ (n s c : ℕ) (b : List ℕ) (h : framed b ≡ true) where
  abbrev p : Parts
  p = parts_of (kind_at b)

  abbrev f : Clause → Bool
  f = holds n s c (op_at p b) (message_at b)

  no-op : (parts_in (message_at b).body).command ≡ false → op_at p b ≡ 0
  unfolding op_at
  no-op e = let q : p.command ≡ false = sym (ap (λ (x : Parts). x.command) (parts_held b h)) ∙ e in rw q

  first-bad : (g : Field) → verdict_on n s c (op_at p b) (message_at b) ≡ Err (blame.Of g) → FirstBad n s c b (offset_of p g)
  unfolding first_failing length_of
  first-bad g e =
      let k = named n s c (op_at p b) (message_at b) (blame.Of g) e in
      let x : Clause = k.clause in
      let carried = named-carried n s c (op_at p b) (message_at b) g k in
      let short = named-short n s c (op_at p b) (message_at b) g k in
      let has : has_field p g ≡ true =
      rw (← parts_held b h) (blamed-has n s c (op_at p b) (message_at b) carried short no-op x k.is.listed k.is.fails g k.blames) in
      let r = first-of (λ y. about_field p (blame_of y)) (λ y. offset_in p (blame_of y)) f 0 clauses x (in_order (kind_at b)) k.failing in
      let counts : about_field p (blame_of x) ≡ true = ap (about_field p) k.blames ∙ has in
      let here : offset_in p (blame_of x) ≡ offset_of p g = ap (offset_in p) k.blames in
      record {
        field = g;
        clause = x;
        listed = k.is.listed;
        blames = k.blames;
        fails = k.is.fails;
        has = has;
        offset = refl;
        within = omega (arith, field_room p g has, (framed_is b h).exact);
        before = λ y i q eq hq l.
            r.before counts y i (ap (about_field p) eq ∙ hq) (let z : offset_in p (blame_of y) ≡ offset_of p q = ap (offset_in p) eq in omega arith);
      }

  by-blame : (v : Result Unit Blame) → verdict_on n s c (op_at p b) (message_at b) ≡ v → (a : ℕ) → unless_blamed p v (message_at b) ≡ Err (why.WrongField a)
      → FirstBad n s c b a
  by-blame (Ok u) e a r = absurd (let z : ◌≡◌ {A = ℕ} 0 1 = cc in omega arith)
  by-blame (Err blame.Kind) e a r = absurd (let z : ◌≡◌ {A = ℕ} 0 1 = cc in omega arith)
  by-blame (Err blame.Length) e a r = absurd (let z : ◌≡◌ {A = ℕ} 0 1 = cc in omega arith)
  by-blame (Err blame.Way) e a r = absurd (let z : ◌≡◌ {A = ℕ} 0 1 = cc in omega arith)
  by-blame (Err blame.Lead) e a r = absurd (let z : ◌≡◌ {A = ℕ} 0 1 = cc in omega arith)
  by-blame (Err (blame.Of g)) e a r = let q : offset_of p g ≡ a = cc in rw (← q) (first-bad g e)

pub wrong-field : (n s c : ℕ) (b : List ℕ) (a : ℕ) → setup_ok n s c ≡ true → read_message n s c b ≡ Err (why.WrongField a) → FirstBad n s c b a
unfolding read_message verdict_at framed
wrong-field n s c b a setup e = go (row_of (kind_at b)).known refl (eqb (length b) (length_of (kind_at b))) refl
  where
    no : {A : Type 0} (r : Refusal) → read_message n s c b ≡ Err r → (why.WrongField a ≡ r → ⊥) → A
    no r q d = let x : ◌≡◌ {A = Result Message Refusal} (Err r) (Err (why.WrongField a)) = sym q ∙ e in absurd (d cc)

    go : (k : Bool) → (row_of (kind_at b)).known ≡ k → (l : Bool) → eqb (length b) (length_of (kind_at b)) ≡ l → FirstBad n s c b a
    go false q l t = no why.UnknownKind (rw (setup, q)) (λ x. let z : ◌≡◌ {A = ℕ} 0 1 = cc in omega arith)
    go true q false t = no why.WrongLength (rw (setup, q, t)) (λ x. let z : ◌≡◌ {A = ℕ} 0 1 = cc in omega arith)
    go true q true t =
        let h : framed b ≡ true = rw (q, t) in
        by-blame n s c b h (verdict_on n s c (op_at (parts_of (kind_at b)) b) (message_at b)) refl a (rw (setup, q, t) at e)
