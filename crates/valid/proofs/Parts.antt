-- The verdict is that of the groups, one after the other. Assumes nothing.
use Prim.Native.Nat.{ℕ, zero, suc, ◌+◌, ◌≤◌, ◌<◌}
use mathlib.Core.Path.{◌≡◌, refl, sym, ap, ap₂, ◌∙◌}
use mathlib.Core.Bool.{Bool, true, false, ◌&&◌, cond}
use mathlib.Core.List.{List, [], ◌∷◌, ◌++◌}
use native.Mathlib.Omega.{arith}
use lib.Dec.{leb, ltb, eqb}
use lib.ListN.{get_or, get_or-replicate}
use Rattle.std.specs.Prelude.{Result, Ok, Err}
use borrow.Author.Tests.{eqb-true, le-leb, leb-true, eq-eqb}
use Rattle.paper.specs.Logic.{implies}
use Rattle.paper.specs.Command.{key_ok, second_ok, edit_ok}
use Rattle.paper.specs.Ballot.{ballot_ok}
use Rattle.paper.specs.Deps.{entry_limit, entry_ok, same_deps, no_deps}
use Rattle.paper.specs.Vote.{voted_ok, status_ok, voted_below, none_voted, none_op}
use Rattle.paper.specs.Message.{row_in, parts_in, vote_in, joined_in, is_fresh}
use Rattle.paper.specs.Valid.{to_here, from_another, from_lead, to_lead, joined_range, deps_carried, second_carried, op_range, fresh_op, told_entry, Clause, EntryRange, ToldEntry, first, holds_of, holds, carried_clauses, head_clauses, way_clauses, told_clauses, command_clauses, entry_clauses, deps_clauses, joined_clauses, clauses, first_of, first_failing, blame_of, verdict_of, verdict_on}
use Rattle.paper.specs.declared.Vote.{Vote}
use Rattle.paper.specs.declared.Row.{Row}
use Rattle.paper.specs.declared.Message.{Message}
use Rattle.paper.specs.declared.Field.TheVariants as field
use Rattle.paper.specs.declared.Blame.{Blame}
use Rattle.paper.specs.declared.Blame.TheVariants as blame
use Rattle.paper.proofs.Laws.{and-true, all_below-at}
use Rattle.paper.proofs.Bodies.{untold-voted, untold-status, no-command, unjoined, stale}
use Rattle.valid.specs.Groups.{unless, and_then, all_carried, head_verdict, way_verdict, told_verdict, command_verdict, highest, entries_verdict, deps_verdict, joined_verdict, body_verdict}

-- the verdict on a list of clauses
chain : (Clause → Bool) → List Clause → Result Unit Blame
chain f [] = Ok tt
chain f (x ∷ xs) = unless (f x) (blame_of x) (chain f xs)

chain-is : (f : Clause → Bool) (xs : List Clause) → verdict_of (first_of f xs) ≡ chain f xs
unfolding first_of chain
chain-is f [] = refl
chain-is f (x ∷ xs) = go (f x) (chain-is f xs)
  where
    go : (b : Bool) → verdict_of (first_of f xs) ≡ chain f xs → verdict_of (cond b (first_of f xs) (first x)) ≡ unless b (blame_of x) (chain f xs)
    go true e = e
    go false e = refl

then-unless : (b : Bool) (x : Blame) (y z : Result Unit Blame) → and_then (unless b x y) z ≡ unless b x (and_then y z)
then-unless true x y z = refl
then-unless false x y z = refl

then-then : (x y z : Result Unit Blame) → and_then (and_then x y) z ≡ and_then x (and_then y z)
then-then (Ok u) y z = refl
then-then (Err x) y z = refl

chain-join : (f : Clause → Bool) (xs ys : List Clause) → chain f (xs ++ ys) ≡ and_then (chain f xs) (chain f ys)
unfolding chain
chain-join f [] ys = refl
chain-join f (x ∷ xs) ys = ap (unless (f x) (blame_of x)) (chain-join f xs ys) ∙ sym (then-unless (f x) (blame_of x) (chain f xs) (chain f ys))

-- two tests that blame the same
merge : (a b : Bool) (x : Blame) (y : Result Unit Blame) → unless a x (unless b x y) ≡ unless (a && b) x y
merge true b x y = refl
merge false b x y = refl

-- a test that is asked only where p holds
asked-where : (p b : Bool) → p ≡ true → implies p b ≡ b
asked-where true b e = refl
asked-where false b e = absurd (let z : ◌≡◌ {A = ℕ} 0 1 = cc in omega arith)

unasked : (p b : Bool) → p ≡ false → implies p b ≡ true
unasked true b e = absurd (let z : ◌≡◌ {A = ℕ} 0 1 = cc in omega arith)
unasked false b e = refl

-- tests that hold together are equal
alike : (a b : Bool) → (a ≡ true → b ≡ true) → (b ≡ true → a ≡ true) → a ≡ b
alike true b f g = sym (f refl)
alike false true f g = g refl
alike false false f g = refl

and-all : (a : Bool) → (a && true) ≡ a
and-all true = refl
and-all false = refl

both_true : (t e : Bool) → implies t (implies e true) ≡ true
both_true true true = refl
both_true true false = refl
both_true false e = refl

-- a group that is tried, or not
on : (p : Bool) (x : Result Unit Blame) → p ≡ true → x ≡ cond p x (Ok tt)
on p x e = rw e

off : (p : Bool) (x : Result Unit Blame) → p ≡ false → Ok tt ≡ cond p x (Ok tt)
off p x e = rw e

-- seven zeros
zero-at : (i : ℕ) → i < 7 → {x : ℕ} → x ≡ get_or no_deps i 0 → x ≡ 0
zero-at i l e = e ∙ get_or-replicate 7 i 0 0 l

-- told without a status every entry is zero, as if that were the highest
entry-as : (t e : Bool) (x n s i : ℕ) → (leb x (entry_limit n s i) && implies t (implies e (eqb x 0))) ≡ leb x (entry_limit n (cond (t && e) 0 s) i)
entry-as true true x n s i = go (ltb i n)
  where
    zero_is : (l : ℕ) → (leb x l && eqb x 0) ≡ leb x 0
    zero_is l =
        alike _ _ (λ h. let e = eqb-true x 0 (and-true (leb x l) (eqb x 0) h).1 in le-leb x 0 (omega arith))
        (λ h. let e = leb-true x 0 h in rw (le-leb x l (omega arith)) (eq-eqb x 0 (omega arith)))

    go : (b : Bool) → (leb x (cond b s 0) && eqb x 0) ≡ leb x (cond b 0 0)
    go true = zero_is s
    go false = zero_is 0
entry-as true false x n s i = and-all (leb x (entry_limit n s i))
entry-as false e x n s i = and-all (leb x (entry_limit n s i))

-- the entries, tested twice
entries-chain : (n s : ℕ) (w : Row) (v : Vote) (f : Clause → Bool) → ((i : ℕ) → f (EntryRange i) ≡ entry_ok n s v.deps i)
    → ((i : ℕ) → f (ToldEntry i) ≡ told_entry w v i) → (k i : ℕ) → chain f (entry_clauses k i) ≡ entries_verdict n (highest s w v) v.deps k i
unfolding chain entry_clauses entries_verdict blame_of
entries-chain n s w v f r t zero i = refl
entries-chain n s w v f r t (suc k) i =
    let x = blame.Of (field.Entry i) in
    let b : (f (EntryRange i) && f (ToldEntry i)) ≡ entry_ok n (highest s w v) v.deps i =
    ap₂ ◌&&◌ (r i) (t i) ∙ entry-as w.parts.told (eqb v.status 0) (get_or v.deps i 0) n s i in
    merge (f (EntryRange i)) (f (ToldEntry i)) x (chain f (entry_clauses k (i + 1)))
    ∙ ap₂ (λ (c : Bool) (y : Result Unit Blame). unless c x y) b (entries-chain n s w v f r t k (i + 1))

-- entries that are all zero
zeros-chain : (f : Clause → Bool) → ((i : ℕ) → i < 7 → f (EntryRange i) ≡ true) → ((i : ℕ) → i < 7 → f (ToldEntry i) ≡ true) → (k i : ℕ) → i + k ≤ 7
    → chain f (entry_clauses k i) ≡ Ok tt
unfolding chain entry_clauses
zeros-chain f r t zero i l = refl
zeros-chain f r t (suc k) i l = rw (r i (omega arith), t i (omega arith)) (zeros-chain f r t k (i + 1) (omega arith))

module _ (n s c o : ℕ) (m : Message) (w : Row) (ew : w ≡ row_in m.body) where
  abbrev v : Vote
  v = vote_in m

  abbrev j : ℕ
  j = joined_in m.body

  abbrev f : Clause → Bool
  f = holds_of n s c w m v o j

  head-chain : chain f (carried_clauses ++ head_clauses) ≡ head_verdict n s w m
  unfolding chain holds_of blame_of head_verdict
  head-chain =
      merge (deps_carried w m) (second_carried w v) blame.Length (chain f head_clauses)
      ∙ ap (unless (all_carried w m) blame.Length) (rw (merge _ _ (blame.Of field.Ballot) (Ok tt)))

  way-chain : chain f way_clauses ≡ way_verdict c w m
  unfolding chain holds_of blame_of way_verdict
  way-chain =
      let lead = unless (from_lead w m) blame.Lead (unless (to_lead w m) blame.Lead (Ok tt)) in
      merge (to_here c m) (from_another c m) blame.Way lead
      ∙ ap (unless (to_here c m && from_another c m) blame.Way) (merge (from_lead w m) (to_lead w m) blame.Lead (Ok tt))

  flags : {A : Type 0} (g : Row → A) → g w ≡ g (row_in m.body)
  flags g = ap g ew

  told-chain : chain f told_clauses ≡ told_verdict n w m v
  unfolding chain holds_of blame_of told_verdict ballot_ok
  told-chain = go w.parts.told refl
    where
      go : (t : Bool) → w.parts.told ≡ t → chain f told_clauses ≡ told_verdict n w m v
      go true e =
          let status = unless (status_ok 3 v) (blame.Of field.Status) (unless (none_voted v) (blame.Of field.Status) (Ok tt)) in
          rw e
          (merge (voted_ok n v) (voted_below m.ballot v) (blame.Of field.Voted) status
          ∙ ap (unless (voted_ok n v && voted_below m.ballot v) (blame.Of field.Voted)) (merge (status_ok 3 v) (none_voted v) (blame.Of field.Status) (Ok tt)))
      go false e =
          let p : (parts_in m.body).told ≡ false = sym (flags (λ r. r.parts.told)) ∙ e in
          rw (e, untold-voted m.body p, untold-status m.body p)

  command-chain : chain f command_clauses ≡ unless (op_range w.parts.second o) (blame.Of field.Op) (command_verdict w m v)
  unfolding chain holds_of blame_of command_verdict
  command-chain = go w.parts.command refl
    where
      go : (t : Bool) → w.parts.command ≡ t → chain f command_clauses ≡ unless (op_range w.parts.second o) (blame.Of field.Op) (command_verdict w m v)
      go true e =
          let more = unless (second_ok v.command) (blame.Of field.Second) (unless (edit_ok v.command) (blame.Of field.Edit) (Ok tt)) in
          let keys = unless (key_ok v.command) (blame.Of field.Key) more in
          rw e (ap (unless (op_range w.parts.second o) (blame.Of field.Op)) (merge (fresh_op w m v) (implies w.parts.told (none_op v)) (blame.Of field.Op) keys))
      go false e =
          let p : (parts_in m.body).command ≡ false = sym (flags (λ r. r.parts.command)) ∙ e in
          let k : is_fresh w.ballots ≡ false = flags (λ r. is_fresh r.ballots) ∙ stale m.body p in
          rw (e, k, no-command m.body p, both_true w.parts.told (eqb v.status 0))

  deps-chain : deps_carried w m ≡ true → chain f deps_clauses ≡ deps_verdict n s w v
  unfolding holds_of deps_verdict same_deps
  deps-chain h = go w.parts.deps refl
    where
      go : (t : Bool) → w.parts.deps ≡ t → chain f deps_clauses ≡ deps_verdict n s w v
      go true e = entries-chain n s w v f (λ i. refl) (λ i. refl) 7 0 ∙ on w.parts.deps _ e
      go false e =
          let same : same_deps m.deps no_deps ≡ true = rw e at h in
          let z : (i : ℕ) → i < 7 → get_or m.deps i 0 ≡ 0 = λ i l. zero-at i l (eqb-true _ _ (all_below-at 7 (λ i. eqb (get_or m.deps i 0) (get_or no_deps i 0)) same i l)) in
          zeros-chain f (λ i l. rw (z i l) (le-leb 0 (entry_limit n s i) (omega arith))) (λ i l. rw (z i l) (both_true w.parts.told (eqb v.status 0))) 7 0 (omega arith)
          ∙ off w.parts.deps _ e

  joined-chain : chain f joined_clauses ≡ joined_verdict n w m j
  unfolding chain holds_of blame_of joined_verdict ballot_ok
  joined-chain = go w.parts.joined refl
    where
      go : (t : Bool) → w.parts.joined ≡ t → chain f joined_clauses ≡ joined_verdict n w m j
      go true e = rw e (merge (joined_range n j) (ltb m.ballot j) (blame.Of field.Joined) (Ok tt))
      go false e =
          let p : (parts_in m.body).joined ≡ false = sym (flags (λ r. r.parts.joined)) ∙ e in
          rw (e, unjoined m.body p)

  abbrev rest : Result Unit Blame
  rest = and_then (chain f told_clauses) (and_then (chain f command_clauses) (and_then (chain f deps_clauses) (chain f joined_clauses)))

  -- the body, where no dependencies stand beside a kind that has none
  body-chain : deps_carried w m ≡ true
      → rest ≡ body_verdict n s w o m v j
  unfolding body_verdict
  body-chain h =
      rw (told-chain, command-chain, deps-chain h, joined-chain)
      (ap (and_then (told_verdict n w m v)) (then-unless (op_range w.parts.second o) (blame.Of field.Op) (command_verdict w m v) (and_then (deps_verdict n s w v) (joined_verdict n w m j))))

  grouped : chain f clauses
      ≡ and_then (chain f (carried_clauses ++ head_clauses)) (and_then (chain f way_clauses) rest)
  grouped =
      let a = carried_clauses ++ head_clauses in
      let ab = a ++ way_clauses in
      let abc = ab ++ told_clauses in
      let abcd = abc ++ command_clauses in
      chain-join f (abcd ++ deps_clauses) joined_clauses
      ∙ ap (λ (x : Result Unit Blame). and_then x (chain f joined_clauses)) (chain-join f abcd deps_clauses)
      ∙ then-then (chain f abcd) (chain f deps_clauses) (chain f joined_clauses)
      ∙ ap (λ (x : Result Unit Blame). and_then x (and_then (chain f deps_clauses) (chain f joined_clauses))) (chain-join f abc command_clauses)
      ∙ then-then (chain f abc) (chain f command_clauses) (and_then (chain f deps_clauses) (chain f joined_clauses))
      ∙ ap (λ (x : Result Unit Blame). and_then x (and_then (chain f command_clauses) (and_then (chain f deps_clauses) (chain f joined_clauses)))) (chain-join f ab told_clauses)
      ∙ then-then (chain f ab) (chain f told_clauses) (and_then (chain f command_clauses) (and_then (chain f deps_clauses) (chain f joined_clauses)))
      ∙ ap (λ (x : Result Unit Blame). and_then x rest) (chain-join f a way_clauses)
      ∙ then-then (chain f a) (chain f way_clauses) rest

  -- past the head no dependencies stand beside a kind that has none
  head-carried : head_verdict n s w m ≡ Ok tt → deps_carried w m ≡ true
  unfolding head_verdict
  head-carried h = go (deps_carried w m) refl
    where
      go : (b : Bool) → deps_carried w m ≡ b → deps_carried w m ≡ true
      go true e = e
      go false e = absurd (let q : Err blame.Length ≡ Ok tt = rw e at h in let z : ◌≡◌ {A = ℕ} 0 1 = cc in omega arith)

  by-groups : chain f clauses ≡ and_then (head_verdict n s w m) (and_then (way_verdict c w m) (body_verdict n s w o m v j))
  by-groups = grouped ∙ rw (head-chain, way-chain) (go (head_verdict n s w m) refl)
    where
      go : (h : Result Unit Blame) → head_verdict n s w m ≡ h → and_then h (and_then (way_verdict c w m) rest) ≡ and_then h (and_then (way_verdict c w m) (body_verdict n s w o m v j))
      go (Ok u) e = ap (and_then (way_verdict c w m)) (body-chain (head-carried e))
      go (Err x) e = refl

pub verdict_parts : (n s c o : ℕ) (m : Message) (w : Row) → w ≡ row_in m.body
    → verdict_on n s c o m ≡ and_then (head_verdict n s w m) (and_then (way_verdict c w m) (body_verdict n s w o m (vote_in m) (joined_in m.body)))
unfolding verdict_on first_failing
verdict_parts n s c o m w ew =
    chain-is (holds n s c o m) clauses ∙ ap (λ (r : Row). chain (holds_of n s c r m (vote_in m) o (joined_in m.body)) clauses) (sym ew) ∙ by-groups n s c o m w ew
