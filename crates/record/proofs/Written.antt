-- A record as written: bytes, of which those of ops are ops' numbers; so it is sound in its bytes where the record is. And a
-- record as read fits its fields. Assumes nothing.
use Prim.Native.Nat.{ℕ, zero, suc, ◌+◌, ◌*◌, ◌^◌, ◌/◌, ◌≤◌, ◌<◌}
use mathlib.Core.Path.{◌≡◌, refl}
use mathlib.Core.Bool.{Bool, true, ◌&&◌}
use mathlib.Core.List.{List, [], ◌∷◌, ◌++◌}
use native.Mathlib.Omega.{arith}
use lib.ListN.{length, get_or, set, replicate}
use lib.Seq.{get_or-append-add}
use borrow.Author.Tests.{le-leb}
use Rattle.numbers.specs.Num.{num_at, bytes_of}
use Rattle.numbers.specs.Fields.{fields_bytes}
use Rattle.numbers.proofs.Laws.{num_at-small}
use Rattle.codec.specs.Parts.{vote_widths, vote_numbers, vote_at, vote_bytes}
use Rattle.codec.proofs.Laws.{op-small, vote_at-fits}
use Rattle.paper.specs.Fits.{VotesFit, RecordFits}
use Rattle.paper.specs.Logic.{all_below}
use Rattle.paper.specs.Sound.{sound_record}
use Rattle.paper.specs.Vote.{blank}
use Rattle.paper.specs.declared.Vote.{Vote}
use Rattle.paper.specs.declared.Record.{Record}
use Rattle.record.specs.Layout.{vote_length, op_in_vote, vote_place, mark_place, phase_place, set_place, replies_place, reply_place, record_length, with_mark, votes_at, votes_bytes, record_at, front_bytes, record_bytes}
use Rattle.numbers.specs.Num.{Bytes}
use Rattle.record.specs.Part.{op_fits, ops_fit, sound_part}
use Rattle.record.proofs.Laws.{length-front_bytes, length-vote_bytes}
use Rattle.record.proofs.Round.{record_at-record_bytes}

-- bytes, of a list that its proof names
pub record Are (l : List ℕ) : Type 0 where
  pub at : Bytes l

append_at : (a b : List ℕ) → Bytes a → Bytes b → Bytes (a ++ b)
append_at [] b f g i = g i
append_at (x ∷ a) b f g zero = f zero
append_at (x ∷ a) b f g (suc i) = append_at a b (λ k. f (suc k)) g i

pub append : {a b : List ℕ} → Are a → Are b → Are (a ++ b)
append {a} {b} f g = record { at = append_at a b f.at g.at }

number_at : (w x : ℕ) → Bytes (bytes_of w x)
number_at zero x i = omega arith
number_at (suc w) x zero = omega arith
number_at (suc w) x (suc i) = number_at w (x / 256) i

number : (w x : ℕ) → Are (bytes_of w x)
number w x = record { at = number_at w x }

fields : (ws ns : List ℕ) → Are (fields_bytes ws ns)
fields [] ns = record { at = λ i. omega arith }
fields (w ∷ ws) [] = record { at = λ i. omega arith }
fields (w ∷ ws) (x ∷ ns) = append (number w x) (fields ws ns)

vote : (v : Vote) → Are (vote_bytes v)
unfolding vote_bytes
vote v = fields vote_widths (vote_numbers v)

votes : (vs : List Vote) → Are (votes_bytes vs)
unfolding votes_bytes
votes [] = record { at = λ i. omega arith }
votes (v ∷ vs) = append (vote v) (votes vs)

pub written-bytes : (r : Record) → Are (record_bytes r)
unfolding record_bytes front_bytes
written-bytes r =
    append (append (append (append (append (number 4 r.joined) (vote r.vote)) (number 1 r.mark)) (number 1 r.phase)) (number 1 r.set))
    (votes r.replies)

-- a conjunction, and a test of each number below n, from their parts
both : (a b : Bool) → a ≡ true → b ≡ true → (a && b) ≡ true
both a b e f = rw (e, f)

pub all_in : (n : ℕ) (f : ℕ → Bool) → ((k : ℕ) → k < n → f k ≡ true) → all_below n f ≡ true
unfolding all_below
all_in zero f h = refl
all_in (suc n) f h = rw (h n (omega arith), all_in n f (λ k l. h k (omega arith)))

-- the op bytes
vote-op : (v : Vote) (q : List ℕ) → get_or (vote_bytes v ++ q) op_in_vote 0 ≤ 3
unfolding vote_bytes
vote-op v q = omega (arith, op-small v.command.op)

votes-op : (vs : List Vote) (q : ℕ) → q < length vs → get_or (votes_bytes vs) (vote_length * q + op_in_vote) 0 ≤ 3
unfolding votes_bytes
votes-op [] q h = absurd (omega arith)
votes-op (v ∷ vs) zero h = vote-op v (votes_bytes vs)
votes-op (v ∷ vs) (suc q) h =
    let e : vote_length * suc q + op_in_vote ≡ length (vote_bytes v) + (vote_length * q + op_in_vote) = omega (arith, length-vote_bytes v) in
    rw (e, get_or-append-add (vote_bytes v) (votes_bytes vs) (vote_length * q + op_in_vote) 0) (votes-op vs q (omega arith))

front-op : (r : Record) (q : List ℕ) → get_or (front_bytes r ++ q) (vote_place + op_in_vote) 0 ≤ 3
unfolding front_bytes vote_bytes
front-op r q = omega (arith, op-small r.vote.command.op)

ops-written : (r : Record) → length r.replies ≡ 7 → ops_fit (record_bytes r) ≡ true
unfolding ops_fit record_bytes
ops-written r seven =
    let f : num_at 1 (front_bytes r ++ votes_bytes r.replies) (vote_place + op_in_vote) ≤ 3 = omega (arith, front-op r (votes_bytes r.replies)) in
    both _ _ (le-leb _ 3 f)
    (all_in 7 (λ q. op_fits (front_bytes r ++ votes_bytes r.replies) (reply_place q))
    (λ q l.
    let e : reply_place q + op_in_vote ≡ length (front_bytes r) + (vote_length * q + op_in_vote) = omega (arith, length-front_bytes r) in
    let v : get_or (votes_bytes r.replies) (vote_length * q + op_in_vote) 0 ≤ 3 = votes-op r.replies q (omega arith) in
    let g : num_at 1 (front_bytes r ++ votes_bytes r.replies) (reply_place q + op_in_vote) ≤ 3 =
    rw (e, get_or-append-add (front_bytes r) (votes_bytes r.replies) (vote_length * q + op_in_vote) 0) (omega arith) in
    le-leb _ 3 g))

-- a sound record is sound as it is written
pub written-sound : (n s c o : ℕ) (r : Record) → RecordFits r → sound_record n s c o r ≡ true → sound_part n s c o (record_bytes r) ≡ true
unfolding sound_part
written-sound n s c o r f h = both _ _ (ops-written r f.seven) (rw (record_at-record_bytes r f) h)

-- what is read fits
votes_at-fit : (k : ℕ) (b : List ℕ) (at : ℕ) → Bytes b → VotesFit (votes_at k b at)
unfolding votes_at
votes_at-fit zero b at h = tt
votes_at-fit (suc k) b at h = (vote_at-fits b at h, votes_at-fit k b (at + vote_length) h)

pub replies-seven : (b : List ℕ) → length (record_at b).replies ≡ 7
unfolding record_at votes_at
replies-seven b = refl

pub deps-seven : (b : List ℕ) → length (record_at b).vote.deps ≡ 7
unfolding record_at vote_at
deps-seven b = refl

pub record_at-fits : (b : List ℕ) → Bytes b → RecordFits (record_at b)
unfolding record_at votes_at
record_at-fits b h =
    let n : (w i : ℕ) → num_at w b i < 256 ^ w = λ w i. num_at-small w b i h in
    record {
      joined = n 4 0;
      vote = vote_at-fits b vote_place h;
      mark = omega (arith, n 1 mark_place);
      phase = omega (arith, n 1 phase_place);
      set = omega (arith, n 1 set_place);
      seven = refl;
      replies = votes_at-fit 7 b replies_place h;
    }

-- a mark is one byte
pub marked-bytes : (r : Record) → record_bytes (with_mark r 1) ≡ set (record_bytes r) mark_place 1
unfolding record_bytes front_bytes vote_bytes
marked-bytes r = refl

-- which does not change what else is read back
pub marked-back : (r : Record) → record_at (record_bytes r) ≡ r → record_at (record_bytes (with_mark r 1)) ≡ with_mark r 1
unfolding record_at record_bytes front_bytes vote_bytes votes_at vote_at
marked-back r e = λ i. record {
  joined = (e i).joined;
  vote = (e i).vote;
  mark = 1;
  phase = (e i).phase;
  set = (e i).set;
  replies = (e i).replies;
}

-- a blank record is zero bytes
pub blank-bytes : record_bytes blank ≡ replicate record_length 0
unfolding record_bytes front_bytes vote_bytes votes_bytes
blank-bytes = refl
