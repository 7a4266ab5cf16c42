-- A valid message is one of which every clause holds; those of the vote that it carries taken together, as records have them.
-- Assumes nothing.
use Prim.Native.Nat.{ℕ, zero, suc, ◌+◌, ◌≤◌, ◌<◌}
use mathlib.Core.Path.{◌≡◌, refl, sym, ap, ◌∙◌}
use mathlib.Core.Bool.{Bool, true, false, ◌&&◌, ◌||◌, cond}
use mathlib.Core.List.{List, [], ◌∷◌, ◌++◌}
use native.Mathlib.Omega.{arith}
use Rattle.paper.specs.Logic.{implies, all_below}
use Rattle.paper.specs.Command.{op_number, is_rewire, key_ok, second_ok, edit_ok, command_ok}
use Rattle.paper.specs.Deps.{entry_ok, deps_ok}
use Rattle.paper.specs.Vote.{voted_ok, status_ok, vote_ok, none_voted, none_op, none_entry, none_is_blank, told_ok}
use Rattle.paper.specs.Message.{row_in, parts_in, command_in, vote_in, joined_in}
use Rattle.paper.specs.Valid.{from_range, to_range, owner_range, number_range, ballot_range, recovery_ballot, to_here, from_another, from_lead, to_lead, told_below, fresh_op, joined_range, joined_above, deps_carried, second_carried, op_range, Clause, EntryRange, ToldEntry, carried_clauses, head_clauses, way_clauses, told_clauses, command_clauses, entry_clauses, deps_clauses, joined_clauses, Failing, none, first, holds_of, holds, clauses, first_of, first_failing, is_none, op_in, valid, verdict_of, verdict_on}
use lib.Dec.{eqb}
use Rattle.std.specs.Prelude.{Result, Ok, Err}
use Rattle.paper.specs.declared.Blame.{Blame}
use Rattle.paper.specs.declared.Op.{Op}
use Rattle.paper.specs.declared.Op.TheVariants.{Noop, Read, Write, Rewire}
use Rattle.paper.specs.declared.Command.{Command}
use Rattle.paper.specs.declared.Body.{Body}
use Rattle.paper.specs.declared.Vote.{Vote}
use Rattle.paper.specs.declared.Row.{Row}
use Rattle.paper.specs.declared.Message.{Message}
use Rattle.paper.proofs.Laws.{and-true, all_below-at}
use Rattle.paper.proofs.Bodies.{second_is}

-- each of these clauses holds
abbrev All : (Clause → Bool) → List Clause → Type 0
All f [] = Unit {0}
All f (x ∷ xs) = (f x ≡ true) × All f xs

all_of : (f : Clause → Bool) (xs : List Clause) → is_none (first_of f xs) ≡ true → All f xs
unfolding first_of
all_of f [] h = tt
all_of f (x ∷ xs) h = go (f x) refl h (λ g. all_of f xs g)
  where
    go : (b : Bool) → f x ≡ b → is_none (cond b (first_of f xs) (first x)) ≡ true → (is_none (first_of f xs) ≡ true → All f xs) → (f x ≡ true) × All f xs
    go true e h more = (e, more h)
    go false e h more = absurd (let z : ◌≡◌ {A = ℕ} 0 1 = cc in omega arith)

of-all : (f : Clause → Bool) (xs : List Clause) → All f xs → is_none (first_of f xs) ≡ true
unfolding first_of
of-all f [] h = refl
of-all f (x ∷ xs) (e, h) = rw e (of-all f xs h)

joint : (f : Clause → Bool) (xs ys : List Clause) → All f xs → All f ys → All f (xs ++ ys)
joint f [] ys p q = q
joint f (x ∷ xs) ys (a, p) q = (a, joint f xs ys p q)

entries-in : (f : Clause → Bool) → ((i : ℕ) → i < 7 → f (EntryRange i) ≡ true) → ((i : ℕ) → i < 7 → f (ToldEntry i) ≡ true) → (k i : ℕ) → i + k ≤ 7
    → All f (entry_clauses k i)
unfolding entry_clauses
entries-in f r t zero i l = tt
entries-in f r t (suc k) i l = (r i (omega arith), (t i (omega arith), entries-in f r t k (i + 1) (omega arith)))

-- the clauses of a message with row w that carries the vote v and the joined ballot j
pub record Clauses (n s c : ℕ) (w : Row) (m : Message) (v : Vote) (j : ℕ) : Type 0 where
  pub carried : deps_carried w m ≡ true
  pub short : second_carried w v ≡ true
  pub from : from_range n m ≡ true
  pub to : to_range n m ≡ true
  pub owner : owner_range n m ≡ true
  pub number : number_range s m ≡ true
  pub ballot : ballot_range n m ≡ true
  pub recovery : recovery_ballot w m ≡ true
  pub here : to_here c m ≡ true
  pub another : from_another c m ≡ true
  pub lead : from_lead w m ≡ true
  pub reply : to_lead w m ≡ true
  pub vote : vote_ok n s 3 v ≡ true
  pub below : told_below w m v ≡ true
  pub blank : implies w.parts.told (none_is_blank v) ≡ true
  pub fresh : fresh_op w m v ≡ true
  pub joined : joined_range n j ≡ true
  pub above : joined_above w m j ≡ true

-- a test of each of the seven places
seven : (f : ℕ → Bool) → f 0 ≡ true → f 1 ≡ true → f 2 ≡ true → f 3 ≡ true → f 4 ≡ true → f 5 ≡ true → f 6 ≡ true → all_below 7 f ≡ true
unfolding all_below
seven f e0 e1 e2 e3 e4 e5 e6 = rw (e0, e1, e2, e3, e4, e5, e6)

vote-in : (n s : ℕ) (v : Vote) → voted_ok n v ≡ true → status_ok 3 v ≡ true → key_ok v.command ≡ true → second_ok v.command ≡ true → edit_ok v.command ≡ true
    → deps_ok n s v.deps ≡ true
    → vote_ok n s 3 v ≡ true
unfolding vote_ok command_ok
vote-in n s v a b k l e d = rw (a, b, k, l, e) d

none_in : (t : Bool) (v : Vote) → implies t (none_voted v) ≡ true → implies t (none_op v) ≡ true → (t ≡ true → all_below 7 (none_entry v) ≡ true)
    → implies t (none_is_blank v) ≡ true
unfolding none_is_blank
none_in true v a o e = rw (a, o) (e refl)
none_in false v a o e = refl

asked : (t b : Bool) → implies t b ≡ true → t ≡ true → b ≡ true
asked true b h e = h
asked false b h e = absurd (let z : ◌≡◌ {A = ℕ} 0 1 = cc in omega arith)

module _ (n s c : ℕ) (w : Row) (m : Message) (v : Vote) (o j : ℕ) where
  all-clauses : All (holds_of n s c w m v o j) clauses → Clauses n s c w m v j
  unfolding holds_of deps_ok entry_clauses
  all-clauses h =
      let (c1, (c2, (h1, (h2, (h3, (h4, (h5, (h6, (w1, (w2, (w3, (w4, b)))))))))))) = h in
      let (v1, (v2, (v3, (v4, (o0, (o1, (o2, (k1, (k2, (k3, d)))))))))) = b in
      let (r0, (t0, (r1, (t1, (r2, (t2, (r3, (t3, (r4, (t4, (r5, (t5, (r6, (t6, (j1, (j2, z)))))))))))))))) = d in
      record {
        carried = c1;
        short = c2;
        from = h1;
        to = h2;
        owner = h3;
        number = h4;
        ballot = h5;
        recovery = h6;
        here = w1;
        another = w2;
        lead = w3;
        reply = w4;
        vote = vote-in n s v v1 v3 k1 k2 k3 (seven (entry_ok n s v.deps) r0 r1 r2 r3 r4 r5 r6);
        below = v2;
        blank = none_in w.parts.told v v4 o2 (λ e.
            let x : (b : Bool) → implies w.parts.told b ≡ true → b ≡ true = λ b g. asked w.parts.told b g e in
            seven (none_entry v) (x _ t0) (x _ t1) (x _ t2) (x _ t3) (x _ t4) (x _ t5) (x _ t6));
        fresh = o1;
        joined = j1;
        above = j2;
      }

  clauses-all : Clauses n s c w m v j → op_range w.parts.second o ≡ true → All (holds_of n s c w m v o j) clauses
  unfolding holds_of deps_ok vote_ok command_ok none_is_blank
  clauses-all k op =
      let (a, deps) = and-true (voted_ok n v && status_ok 3 v && command_ok v.command) _ k.vote in
      let (b, command) = and-true (voted_ok n v && status_ok 3 v) _ a in
      let (voted, status) = and-true (voted_ok n v) _ b in
      let (keys, edit) = and-true (key_ok v.command && second_ok v.command) _ command in
      let (key, second) = and-true (key_ok v.command) _ keys in
      let r : (i : ℕ) → i < 7 → entry_ok n s v.deps i ≡ true = λ i l. all_below-at 7 (entry_ok n s v.deps) deps i l in
      let t : (i : ℕ) → i < 7 → implies w.parts.told (none_entry v i) ≡ true = λ i l. only w.parts.told (none_voted v && none_op v) (all_below 7 (none_entry v)) k.blank (none_entry v i)
      (λ e. all_below-at 7 (none_entry v) e i l) in
      let x = front w.parts.told (none_voted v) (none_op v) (all_below 7 (none_entry v)) k.blank in
      let f = holds_of n s c w m v o j in
      let carried : All f carried_clauses = (k.carried, (k.short, tt)) in
      let head : All f head_clauses = (k.from, (k.to, (k.owner, (k.number, (k.ballot, (k.recovery, tt)))))) in
      let way : All f way_clauses = (k.here, (k.another, (k.lead, (k.reply, tt)))) in
      let told : All f told_clauses = (voted, (k.below, (status, (x.0, tt)))) in
      let commands : All f command_clauses = (op, (k.fresh, (x.1, (key, (second, (edit, tt)))))) in
      let entries = entries-in f r t 7 0 (omega arith) in
      let joined : All f joined_clauses = (k.joined, (k.above, tt)) in
      let front : All f (carried_clauses ++ head_clauses ++ way_clauses ++ told_clauses) =
      joint f (carried_clauses ++ head_clauses ++ way_clauses) told_clauses (joint f (carried_clauses ++ head_clauses) way_clauses (joint f carried_clauses head_clauses carried head) way) told in
      let rest = joint f (command_clauses ++ deps_clauses) joined_clauses (joint f command_clauses deps_clauses commands entries) joined in
      joint f (carried_clauses ++ head_clauses ++ way_clauses ++ told_clauses) (command_clauses ++ deps_clauses ++ joined_clauses) front rest
    where
      only : (t a b : Bool) → implies t (a && b) ≡ true → (d : Bool) → (b ≡ true → d ≡ true) → implies t d ≡ true
      only true a b h d g = g (and-true a b h).1
      only false a b h d g = refl

      front : (t a b d : Bool) → implies t (a && b && d) ≡ true → (implies t a ≡ true) × (implies t b ≡ true)
      front true a b d h = and-true a b (and-true (a && b) d h).0
      front false a b d h = (refl, refl)

-- a kind without a second key carries a command that has none
pub carried-whole : (b : Body) (v : Vote) → v.command ≡ command_in b → command_ok v.command ≡ true → second_carried (row_in b) v ≡ true
unfolding command_ok
carried-whole b v e h =
    let (keys, edit) = and-true (key_ok v.command && second_ok v.command) _ h in
    let second = (and-true (key_ok v.command) _ keys).1 in
    rw (second_is b, sym (ap is_rewire e)) (go (is_rewire v.command) _ _ second)
  where
    go : (t l z : Bool) → cond t l z ≡ true → (t || z) ≡ true
    go true l z h = refl
    go false l z h = h

-- what a PrepareOK may tell
pub told_of : (n s c : ℕ) (w : Row) (m : Message) (v : Vote) (j : ℕ) → Clauses n s c w m v j → w.parts.told ≡ true → told_ok n s m.ballot v ≡ true
unfolding told_ok
told_of n s c w m v j k e = rw (k.vote, asked _ _ k.below e) (asked _ _ k.blank e)

-- an op by value is one that its kind carries
op-in : (k : Command) → op_range (is_rewire k) (op_number k.op) ≡ true
op-in k = go k.op
  where
    go : (x : Op) → op_range (eqb (op_number x) 3) (op_number x) ≡ true
    go Noop = refl
    go Read = refl
    go Write = refl
    go Rewire = refl

-- tests that hold together are equal
alike : (a b : Bool) → (a ≡ true → b ≡ true) → (b ≡ true → a ≡ true) → a ≡ b
alike true b f g = sym (f refl)
alike false true f g = g refl
alike false false f g = refl

module _ (n s c : ℕ) (m : Message) where
  abbrev Holding : Type 0
  Holding = Clauses n s c (row_in m.body) m (vote_in m) (joined_in m.body)

  -- of the op in the bytes valid asks nothing but its range
  from-none : (o : ℕ) → is_none (first_failing n s c o m) ≡ true → (op_range (parts_in m.body).second o ≡ true) × Holding
  unfolding first_failing holds_of
  from-none o h =
      let a : All (holds n s c o m) clauses = all_of (holds n s c o m) clauses h in
      let (c1, (c2, (h1, (h2, (h3, (h4, (h5, (h6, (w1, (w2, (w3, (w4, (v1, (v2, (v3, (v4, (o0, more))))))))))))))))) = a in
      (o0, all-clauses n s c (row_in m.body) m (vote_in m) o (joined_in m.body) a)

  to_none : (o : ℕ) → op_range (parts_in m.body).second o ≡ true → Holding → is_none (first_failing n s c o m) ≡ true
  unfolding first_failing
  to_none o e k = of-all (holds n s c o m) clauses (clauses-all n s c (row_in m.body) m (vote_in m) o (joined_in m.body) k e)

  pub clauses-of : valid n s c m ≡ true → Clauses n s c (row_in m.body) m (vote_in m) (joined_in m.body)
  unfolding valid
  clauses-of h = (from-none (op_in m) h).1

  -- an op by value is in range
  pub op_fits_lem : op_range (parts_in m.body).second (op_in m) ≡ true
  op_fits_lem = rw (second_is m.body) (op-in (command_in m.body))

  pub valid-of : Clauses n s c (row_in m.body) m (vote_in m) (joined_in m.body) → valid n s c m ≡ true
  unfolding valid
  valid-of k = to_none (op_in m) op_fits_lem k

  -- none fails of a valid message with an op in its bytes, and of no other
  pub none-fails : (o : ℕ) → is_none (first_failing n s c o m) ≡ (op_range (parts_in m.body).second o && valid n s c m)
  none-fails o =
      alike _ _ (λ h. let (e, k) = from-none o h in rw e (valid-of k)) (λ h. let (e, v) = and-true (op_range (parts_in m.body).second o) (valid n s c m) h in to_none o e (clauses-of v))

-- the verdict is valid where none fails
abbrev pub is_valid : Result Unit Blame → Bool
is_valid (Ok u) = true
is_valid (Err x) = false

pub valid-verdict : (n s c o : ℕ) (m : Message) → is_valid (verdict_on n s c o m) ≡ (op_range (parts_in m.body).second o && valid n s c m)
unfolding verdict_on
valid-verdict n s c o m = go (first_failing n s c o m) ∙ none-fails n s c m o
  where
    go : (x : Failing) → is_valid (verdict_of x) ≡ is_none x
    go none = refl
    go (first x) = refl
