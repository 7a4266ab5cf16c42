-- Commands, dependencies and votes: what is written is read back, and what is read is written back. Assumes nothing.
use mathlib.Core.Path.{◌≡◌, refl, sym, ap, ◌∙◌}
use mathlib.Core.Bool.{Bool, true, false}
use mathlib.Core.List.{List, [], ◌∷◌, ◌++◌}
use Prim.Native.Nat.{ℕ, zero, suc, ◌+◌, ◌*◌, ◌^◌, ◌≤◌, ◌<◌}
use native.Mathlib.Omega.{arith}
use native.Mathlib.Numerals.{add-one}
use lib.Dec.{eqb}
use lib.ListN.{length, get_or, take, drop, length-append}
use borrow.Author.Tests.{eqb-true, leb-true}
use Rattle.numbers.specs.Num.{num_at, bytes_of, splice}
use Rattle.numbers.specs.Fields.{size_of, fields_at, fields_bytes, FieldsFit}
use Rattle.numbers.proofs.Laws.{num_at-small, splice-step}
use Rattle.numbers.proofs.Fields.{fields_at-fields_bytes, fields_bytes-fields_at, entries-all}
use Rattle.paper.specs.Command.{op_number, is_rewire}
use Rattle.paper.specs.Valid.{op_range}
use Rattle.paper.proofs.Laws.{op_number-apart}
use Rattle.paper.specs.Fits.{CommandFits, DepsFit, VoteFits}
use Rattle.paper.specs.declared.Op.{Op}
use Rattle.paper.specs.declared.Op.TheVariants.{Noop, Read, Write, Rewire}
use Rattle.paper.specs.declared.Command.{Command}
use Rattle.paper.specs.declared.Vote.{Vote}
use Rattle.codec.specs.Parts.{op_of, short_op_of, command_widths, command_of, command_numbers, sent_widths, sent_numbers, sent_of, deps_widths, deps_numbers, vote_of, vote_numbers, vote_widths, sent_at, deps_at, vote_at, sent_bytes, deps_bytes, vote_bytes}

pub op-other : (b : ℕ) → (b ≡ 0 → ⊥) → (b ≡ 1 → ⊥) → (b ≡ 2 → ⊥) → Rewire ≡ op_of b
op-other zero p q r = absurd (p refl)
op-other (suc zero) p q r = absurd (q refl)
op-other (suc (suc zero)) p q r = absurd (r refl)
op-other (suc (suc (suc k))) p q r = refl

pub short-other : (b : ℕ) → (b ≡ 0 → ⊥) → (b ≡ 1 → ⊥) → Write ≡ short_op_of b
short-other zero p q = absurd (p refl)
short-other (suc zero) p q = absurd (q refl)
short-other (suc (suc k)) p q = refl

pub op_of-op_number : (o : Op) → op_of (op_number o) ≡ o
op_of-op_number Noop = refl
op_of-op_number Read = refl
op_of-op_number Write = refl
op_of-op_number Rewire = refl

pub op_number-op_of : (x : ℕ) → x ≤ 3 → op_number (op_of x) ≡ x
op_number-op_of zero h = refl
op_number-op_of (suc zero) h = refl
op_number-op_of (suc (suc zero)) h = refl
op_number-op_of (suc (suc (suc zero))) h = refl
op_number-op_of (suc (suc (suc (suc k)))) h = absurd (omega arith)

pub op-small : (o : Op) → op_number o ≤ 3
op-small Noop = omega arith
op-small Read = omega arith
op-small Write = omega arith
op-small Rewire = omega arith

-- what is read from bytes fits
pub deps_at-fits : (b : List ℕ) (at : ℕ) → ((i : ℕ) → get_or b i 0 < 256) → DepsFit (deps_at b at)
unfolding deps_at
deps_at-fits b at h = record { seven = refl; each = each }
  where
    two : (i : ℕ) → num_at 2 b i < 256 ^ 2
    two i = num_at-small 2 b i h

    each : (i : ℕ) → get_or (deps_at b at) i 0 < 256 ^ 2
    each zero = two _
    each (suc zero) = two _
    each (suc (suc zero)) = two _
    each (suc (suc (suc zero))) = two _
    each (suc (suc (suc (suc zero)))) = two _
    each (suc (suc (suc (suc (suc zero))))) = two _
    each (suc (suc (suc (suc (suc (suc zero)))))) = two _
    each (suc (suc (suc (suc (suc (suc (suc i))))))) = omega arith

pub vote_at-fits : (b : List ℕ) (at : ℕ) → ((i : ℕ) → get_or b i 0 < 256) → VoteFits (vote_at b at)
unfolding vote_at deps_at
vote_at-fits b at h =
    let n : (w i : ℕ) → num_at w b i < 256 ^ w = λ w i. num_at-small w b i h in
    record { voted = n 4 _; status = omega (arith, n 1 (at + 4)); command = record { key = n 4 _; second = n 4 _; edit = n 8 _ }; deps = deps_at-fits b _ h }

-- the bytes of the first entries, one entry after the other
abbrev pub deps_front : List ℕ → ℕ → List ℕ
deps_front d zero = []
deps_front d (suc k) = deps_front d k ++ bytes_of 2 (get_or d k 0)

length-deps_front : (d : List ℕ) (k : ℕ) → length (deps_front d k) ≡ 2 * k
length-deps_front d zero = refl
length-deps_front d (suc k) = simp (length-append, length-deps_front d k) (omega arith)

-- one entry more
pub deps_front-more : (l l₁ l₂ d : List ℕ) (at k : ℕ) → l₁ ≡ splice l at (deps_front d k) → l₂ ≡ splice l₁ (at + 2 * k) (bytes_of 2 (get_or d k 0)) → at + 2 * k + 2 ≤ length l
    → l₂ ≡ splice l at (deps_front d (k + 1))
deps_front-more l l₁ l₂ d at k p q h =
    rw add-one (splice-step l at (deps_front d k) (at + 2 * k) (bytes_of 2 (get_or d k 0)) p q (omega (arith, length-deps_front d k)) h)

-- a command is made of its numbers, and so are a list of dependencies and a vote
pub command-is : (c : Command) → command_of (command_numbers c) ≡ c
command-is c = rw (op_of-op_number c.op)

pub deps-are : (d : List ℕ) → DepsFit d → deps_numbers d ≡ d
deps-are d f = entries-all 7 d f.seven

pub vote-is : (v : Vote) → VoteFits v → vote_of (vote_numbers v) ≡ v
vote-is v f = rw (op_of-op_number v.command.op, deps-are v.deps f.deps)

pub vote_numbers-fit : (v : Vote) → VoteFits v → FieldsFit vote_widths (vote_numbers v)
vote_numbers-fit v f =
    let e = f.deps.each in
    (f.voted, (omega (arith, f.status), (omega (arith, op-small v.command.op), (f.command.key, (f.command.second, (f.command.edit, (e 0, (e 1, (e 2, (e 3, (e 4, (e 5, (e 6, tt)))))))))))))

-- dependencies that were written are read back, wherever they stand
pub deps_at-deps_bytes : (d p q : List ℕ) (at : ℕ) → length p ≡ at → DepsFit d → deps_at (p ++ (deps_bytes d ++ q)) at ≡ d
unfolding deps_at deps_bytes
deps_at-deps_bytes d p q at e f =
    let x = f.each in
    fields_at-fields_bytes deps_widths (deps_numbers d) p q at e (x 0, (x 1, (x 2, (x 3, (x 4, (x 5, (x 6, tt))))))) ∙ deps-are d f

-- and what was read is written back
pub deps_bytes-deps_at : (s : List ℕ) (at : ℕ) → ((i : ℕ) → get_or s i 0 < 256) → at + 14 ≤ length s → deps_bytes (deps_at s at) ≡ take 14 (drop at s)
unfolding deps_at deps_bytes
deps_bytes-deps_at s at b h = fields_bytes-fields_at deps_widths s at b h

-- a vote that was written is read back, wherever it stands
pub vote_at-vote_bytes : (v : Vote) (p q : List ℕ) (at : ℕ) → length p ≡ at → VoteFits v → vote_at (p ++ (vote_bytes v ++ q)) at ≡ v
unfolding vote_at vote_bytes
vote_at-vote_bytes v p q at e f = ap vote_of (fields_at-fields_bytes vote_widths (vote_numbers v) p q at e (vote_numbers-fit v f)) ∙ vote-is v f

-- a vote that was read is written back, where its op byte is a number of an op
pub vote_bytes-vote_at : (s : List ℕ) (at : ℕ) → ((i : ℕ) → get_or s i 0 < 256) → at + 36 ≤ length s → num_at 1 s (at + 5) ≤ 3
    → vote_bytes (vote_at s at) ≡ take 36 (drop at s)
unfolding vote_at vote_bytes
vote_bytes-vote_at s at b h o =
    let e : at + 5 ≡ at + 4 + 1 = omega arith in
    rw (op_number-op_of (num_at 1 s (at + 4 + 1)) (rw e at o)) (fields_bytes-fields_at vote_widths s at b h)

-- A command in a message. Without a second key it is no rewire and has none
pub record Sendable (second : Bool) (c : Command) : Type 0 where
  pub rewire : is_rewire c ≡ second
  pub none : second ≡ false → c.second ≡ 0

-- it is made of its numbers
pub sent_is : (second : Bool) (c : Command) → Sendable second c → sent_of second (sent_numbers second c) ≡ c
sent_is true c f =
    let o : Rewire ≡ c.op = op_number-apart Rewire c.op (sym (eqb-true (op_number c.op) 3 f.rewire)) in
    λ i. record { op = o i; key = c.key; second = c.second; edit = c.edit }
sent_is false c f = let z = sym (f.none refl) in λ i. record { op = short c.op f.rewire i; key = c.key; second = z i; edit = c.edit }
  where
    short : (o : Op) → eqb (op_number o) 3 ≡ false → short_op_of (op_number o) ≡ o
    short Noop h = refl
    short Read h = refl
    short Write h = refl
    short Rewire h = absurd (let z : ◌≡◌ {A = ℕ} 0 1 = cc in omega arith)

pub sent_numbers-fit : (second : Bool) (c : Command) → CommandFits c → FieldsFit (sent_widths second) (sent_numbers second c)
sent_numbers-fit true c f = (omega (arith, op-small c.op), (f.key, (f.second, (f.edit, tt))))
sent_numbers-fit false c f = (omega (arith, op-small c.op), (f.key, (f.edit, tt)))

pub length-sent_bytes : (second : Bool) (c : Command) → length (sent_bytes second c) ≡ size_of (sent_widths second)
unfolding sent_bytes
length-sent_bytes true c = refl
length-sent_bytes false c = refl

-- what is read fits, and is a rewire where there is a second key
pub sent_at-fits : (second : Bool) (s : List ℕ) (at : ℕ) → ((i : ℕ) → get_or s i 0 < 256) → CommandFits (sent_at second s at)
unfolding sent_at
sent_at-fits true s at b = record { key = num_at-small 4 s _ b; second = num_at-small 4 s _ b; edit = num_at-small 8 s _ b }
sent_at-fits false s at b = record { key = num_at-small 4 s _ b; second = omega arith; edit = num_at-small 8 s _ b }

pub sent_at-rewire : (second : Bool) (s : List ℕ) (at : ℕ) → is_rewire (sent_at second s at) ≡ second
unfolding sent_at
sent_at-rewire true s at = refl
sent_at-rewire false s at = go (num_at 1 s at)
  where
    go : (k : ℕ) → eqb (op_number (short_op_of k)) 3 ≡ false
    go zero = refl
    go (suc zero) = refl
    go (suc (suc k)) = refl

-- and is written back, where the op byte is one that goes with it
pub sent_bytes-sent_at : (second : Bool) (s : List ℕ) (at : ℕ) → ((i : ℕ) → get_or s i 0 < 256) → at + size_of (sent_widths second) ≤ length s
    → op_range second (num_at 1 s at) ≡ true → sent_bytes second (sent_at second s at) ≡ take (size_of (sent_widths second)) (drop at s)
unfolding sent_at sent_bytes
sent_bytes-sent_at true s at b h o =
    ap (λ (x : ℕ). fields_bytes command_widths (x ∷ fields_at (4 ∷ 4 ∷ 8 ∷ []) s (at + 1))) (sym (eqb-true (num_at 1 s at) 3 o)) ∙ fields_bytes-fields_at command_widths s at b h
sent_bytes-sent_at false s at b h o = rw (go (num_at 1 s at) (leb-true (num_at 1 s at) 2 o)) (fields_bytes-fields_at (sent_widths false) s at b h)
  where
    go : (k : ℕ) → k ≤ 2 → op_number (short_op_of k) ≡ k
    go zero h = refl
    go (suc zero) h = refl
    go (suc (suc zero)) h = refl
    go (suc (suc (suc k))) h = absurd (omega arith)
