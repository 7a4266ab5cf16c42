-- 1/12: the clause that is named is the first: it fails, it is about a field that the message has, and all hold that are tried
-- before it. Assumes nothing.
use Prim.Native.Nat.{ℕ, ◌+◌, ◌<◌}
use mathlib.Core.Path.{◌≡◌, refl, sym, ap, ◌∙◌}
use mathlib.Core.Bool.{Bool, true, false, ◌&&◌, cond}
use mathlib.Core.List.{List, [], ◌∷◌}
use mathlib.Core.Logic.{◌⊎◌, inl, inr, ⊎_elim}
use native.Mathlib.Omega.{arith}
use lib.Dec.{leb, ltb, eqb}
use lib.ListN.{get_or, get_or-replicate}
use borrow.Author.Tests.{leb-true, ltb-true, le-leb, eqb-true}
use Rattle.std.specs.Prelude.{Result, Err}
use Rattle.paper.specs.Logic.{implies}
use Rattle.paper.specs.Ballot.{ballot_ok}
use Rattle.paper.specs.Deps.{no_deps, entry_limit, same_deps}
use Rattle.paper.specs.Message.{row_in, parts_in, vote_in}
use Rattle.paper.specs.Valid.{deps_carried, second_carried, Clause, DepsCarried, SecondCarried, FromRange, ToRange, OwnerRange, NumberRange, BallotRange, RecoveryBallot, ToHere, FromAnother, FromLead, ToLead, VotedRange, ToldBelow, StatusRange, ToldVoted, OpRange, FreshOp, ToldOp, KeyRange, SecondRange, EditRange, EntryRange, ToldEntry, JoinedRange, JoinedAbove, Failing, none, first, holds_of, holds, entry_clauses, clauses, first_of, first_failing, blame_of, verdict_of, verdict_on, has_field}
use Rattle.paper.specs.declared.Field.{Field}
use Rattle.paper.specs.declared.Field.TheVariants as field
use Rattle.paper.specs.declared.Blame.{Blame}
use Rattle.paper.specs.declared.Blame.TheVariants as blame
use Rattle.paper.specs.declared.Message.{Message}
use Rattle.paper.proofs.Laws.{and-true, all_below-at}
use Rattle.paper.proofs.Bodies.{untold-voted, untold-status, no-command, no_second, second_is, unjoined, stale}

-- x stands in a list
pub In : Clause → List Clause → Type 0
In x [] = ⊥
In x (y ∷ ys) = (x ≡ y) ⊎ In x ys

-- what is tested of every clause of a list holds of each
pub all_in : (Clause → Bool) → List Clause → Bool
all_in f [] = true
all_in f (x ∷ xs) = f x && all_in f xs

pub all_in_lem : (f : Clause → Bool) (xs : List Clause) → all_in f xs ≡ true → (x : Clause) → In x xs → f x ≡ true
unfolding In all_in
all_in_lem f [] h x i = absurd i
all_in_lem f (y ∷ ys) h x i = ⊎_elim (λ (e : x ≡ y). rw e (and-true (f y) _ h).0) (λ (m : In x ys). all_in_lem f ys (and-true (f y) _ h).1 x m) i

-- A place for each clause that counts: those of a list rise, and the first that fails is the first by its place.
module _ (counts : Clause → Bool) (place : Clause → ℕ) where
  unfoldable pub rising : ℕ → List Clause → Bool
  rising k [] = true
  rising k (x ∷ xs) = cond (counts x) (leb k (place x) && rising (place x) xs) (rising k xs)

  -- each of these that counts and has its place before k holds
  abbrev pub Before : ℕ → (Clause → Bool) → List Clause → Type 0
  Before k f xs = (x : Clause) → In x xs → counts x ≡ true → place x < k → f x ≡ true

  late : (k j : ℕ) (f : Clause → Bool) (xs : List Clause) → j < k + 1 → rising k xs ≡ true → Before j f xs
  unfolding rising In
  late k j f [] l r x i = absurd i
  late k j f (y ∷ ys) l r x i = go (counts y) refl r (λ k l r m. late k j f ys l r x m) i
    where
      go : (b : Bool) → counts y ≡ b → cond b (leb k (place y) && rising (place y) ys) (rising k ys) ≡ true
          → ((k : ℕ) → j < k + 1 → rising k ys ≡ true → In x ys → counts x ≡ true → place x < j → f x ≡ true) → (x ≡ y) ⊎ In x ys → counts x ≡ true → place x < j → f x ≡ true
      go true e h more i c p =
          let (a, r) = and-true (leb k (place y)) _ h in
          let b = leb-true k (place y) a in
          ⊎_elim (λ (q : x ≡ y). let z : place x ≡ place y = ap place q in absurd (omega arith)) (λ (m : In x ys). more (place y) (omega arith) r m c p) i
      go false e h more i c p =
          ⊎_elim (λ (q : x ≡ y). let z : true ≡ false = sym c ∙ ap counts q ∙ e in let w : ◌≡◌ {A = ℕ} 0 1 = cc in absurd (omega arith)) (λ (m : In x ys). more k l h m c p) i

  pub record First (f : Clause → Bool) (xs : List Clause) (x : Clause) : Type 0 where
    pub listed : In x xs
    pub fails : f x ≡ false
    pub before : counts x ≡ true → Before (place x) f xs

  pub first-of : (f : Clause → Bool) (k : ℕ) (xs : List Clause) (x : Clause) → rising k xs ≡ true → first_of f xs ≡ first x → First f xs x
  unfolding first_of rising In
  first-of f k [] x r e = absurd (let z : ◌≡◌ {A = ℕ} 0 1 = cc in omega arith)
  first-of f k (y ∷ ys) x r e = go (f y) refl e (counts y) refl r (λ k r h. first-of f k ys x r h)
    where
      same : {a b : Clause} → ◌≡◌ {A = Failing} (first a) (first b) → a ≡ b
      same h = cc

      go : (b : Bool) → f y ≡ b → cond b (first_of f ys) (first y) ≡ first x → (t : Bool) → counts y ≡ t
          → cond t (leb k (place y) && rising (place y) ys) (rising k ys) ≡ true → ((k : ℕ) → rising k ys ≡ true → first_of f ys ≡ first x → First f ys x) → First f (y ∷ ys) x
      go true p h true q r more =
          let i = more (place y) (and-true (leb k (place y)) _ r).1 h in
          record { listed = inr i.listed; fails = i.fails; before = λ c z m d l. ⊎_elim (λ (e : z ≡ y). rw e p) (λ (n : In z ys). i.before c z n d l) m }
      go true p h false q r more =
          let i = more k r h in
          record { listed = inr i.listed; fails = i.fails; before = λ c z m d l. ⊎_elim (λ (e : z ≡ y). rw e p) (λ (n : In z ys). i.before c z n d l) m }
      go false p h t q r more =
          let e : y ≡ x = same h in
          record {
            listed = inl (sym e);
            fails = rw (← e) p;
            before = λ c z m d l.
                let ct : t ≡ true = sym q ∙ ap counts e ∙ c in
                let r2 : rising (place y) ys ≡ true = (and-true (leb k (place y)) _ (rw ct at r)).1 in
                ⊎_elim (λ (s : z ≡ y). let w : place z ≡ place x = ap place (s ∙ e) in absurd (omega arith)) (λ (n : In z ys). late (place y) (place x) f ys (let w : place y ≡ place x = ap place e in omega arith) r2 z n d l) m;
          }

-- the order in which the blamed are tried
abbrev pub field_turn : Field → ℕ
field_turn field.From = 2
field_turn field.To = 3
field_turn field.Owner = 4
field_turn field.Number = 5
field_turn field.Ballot = 6
field_turn field.Voted = 9
field_turn field.Status = 10
field_turn field.Op = 11
field_turn field.Key = 12
field_turn field.Second = 13
field_turn field.Edit = 14
field_turn (field.Entry i) = 15 + i
field_turn field.Joined = 22

abbrev pub turn : Blame → ℕ
turn blame.Kind = 0
turn blame.Length = 1
turn blame.Way = 7
turn blame.Lead = 8
turn (blame.Of f) = field_turn f

abbrev pub each : Clause → Bool
each x = true

-- a message is blamed by the first clause that fails: all hold whose turn is before
pub record Named (n s c o : ℕ) (m : Message) (x : Blame) : Type 0 where
  pub clause : Clause
  pub blames : blame_of clause ≡ x
  pub failing : first_failing n s c o m ≡ first clause
  pub is : First each (λ y. turn (blame_of y)) (holds n s c o m) clauses clause

pub named : (n s c o : ℕ) (m : Message) (x : Blame) → verdict_on n s c o m ≡ Err x → Named n s c o m x
unfolding verdict_on first_failing entry_clauses rising blame_of
named n s c o m x e = go (first_failing n s c o m) refl e
  where
    same : {a b : Blame} → ◌≡◌ {A = Result Unit Blame} (Err a) (Err b) → a ≡ b
    same h = cc

    go : (y : Failing) → first_failing n s c o m ≡ y → verdict_of y ≡ Err x → Named n s c o m x
    go none p h = absurd (let z : ◌≡◌ {A = ℕ} 0 1 = cc in omega arith)
    go (first y) p h = record { clause = y; blames = same h; failing = p; is = first-of each (λ y. turn (blame_of y)) (holds n s c o m) 0 clauses y refl p }

-- where a field is blamed, no dependencies and no second key stand beside a kind that has none
later : (f : Field) → 1 < field_turn f
later field.From = omega arith
later field.To = omega arith
later field.Owner = omega arith
later field.Number = omega arith
later field.Ballot = omega arith
later field.Voted = omega arith
later field.Status = omega arith
later field.Op = omega arith
later field.Key = omega arith
later field.Second = omega arith
later field.Edit = omega arith
later (field.Entry i) = omega arith
later field.Joined = omega arith

pub named-carried : (n s c o : ℕ) (m : Message) (f : Field) → Named n s c o m (blame.Of f) → deps_carried (row_in m.body) m ≡ true
unfolding In holds_of blame_of
named-carried n s c o m f k = k.is.before refl DepsCarried (inl refl) refl (rw k.blames (later f))

pub named-short : (n s c o : ℕ) (m : Message) (f : Field) → Named n s c o m (blame.Of f) → second_carried (row_in m.body) (vote_in m) ≡ true
unfolding In holds_of blame_of
named-short n s c o m f k = k.is.before refl SecondCarried (inr (inl refl)) refl (rw k.blames (later f))

-- an entry's clause is about one of seven
small : Clause → Bool
small DepsCarried = true
small SecondCarried = true
small FromRange = true
small ToRange = true
small OwnerRange = true
small NumberRange = true
small BallotRange = true
small RecoveryBallot = true
small ToHere = true
small FromAnother = true
small FromLead = true
small ToLead = true
small VotedRange = true
small ToldBelow = true
small StatusRange = true
small ToldVoted = true
small OpRange = true
small FreshOp = true
small ToldOp = true
small KeyRange = true
small SecondRange = true
small EditRange = true
small (EntryRange i) = ltb i 7
small (ToldEntry i) = ltb i 7
small JoinedRange = true
small JoinedAbove = true

module _ (n s c o : ℕ) (m : Message) (carried : deps_carried (row_in m.body) m ≡ true) (short : second_carried (row_in m.body) (vote_in m) ≡ true)
    (op : (parts_in m.body).command ≡ false → o ≡ 0) where
  gone : {g f : Field} → blame.Of g ≡ blame.Of f → has_field (parts_in m.body) f ≡ false → has_field (parts_in m.body) g ≡ false
  gone {g} {f} e h = let q : g ≡ f = cc in rw q h

  clash : {A : Type 0} → true ≡ false → A
  clash h = absurd (let z : ◌≡◌ {A = ℕ} 0 1 = cc in omega arith)

  -- one of the entries beside a kind that has none
  zero-at : (parts_in m.body).deps ≡ false → (i : ℕ) → ltb i 7 ≡ true → get_or m.deps i 0 ≡ 0
  unfolding same_deps
  zero-at d i l =
      let same : same_deps m.deps no_deps ≡ true = rw d at carried in
      let k : i < 7 = ltb-true i 7 l in
      eqb-true _ _ (all_below-at 7 (λ i. eqb (get_or m.deps i 0) (get_or no_deps i 0)) same i k) ∙ get_or-replicate 7 i 0 0 k

  no-entry : (d l : Bool) → l ≡ true → (d && l) ≡ false → d ≡ false
  no-entry true l e h = clash (sym e ∙ h)
  no-entry false l e h = refl

  short-kind : (t : Bool) → (parts_in m.body).command ≡ t → (t && (parts_in m.body).second) ≡ false → (parts_in m.body).second ≡ false
  short-kind true e h = h
  short-kind false e h = no_second m.body e

  both_true : (t e : Bool) → implies t (implies e true) ≡ true
  both_true true true = refl
  both_true true false = refl
  both_true false e = refl

  -- a clause about a field that the message does not have holds
  absent : (x : Clause) → small x ≡ true → (f : Field) → blame_of x ≡ blame.Of f → has_field (parts_in m.body) f ≡ false → holds n s c o m x ≡ true
  unfolding holds_of blame_of ballot_ok small
  absent DepsCarried l f e h = absurd (let z : ◌≡◌ {A = ℕ} 0 1 = cc in omega arith)
  absent SecondCarried l f e h = absurd (let z : ◌≡◌ {A = ℕ} 0 1 = cc in omega arith)
  absent FromRange l f e h = clash (gone e h)
  absent ToRange l f e h = clash (gone e h)
  absent OwnerRange l f e h = clash (gone e h)
  absent NumberRange l f e h = clash (gone e h)
  absent BallotRange l f e h = clash (gone e h)
  absent RecoveryBallot l f e h = clash (gone e h)
  absent ToHere l f e h = absurd (let z : ◌≡◌ {A = ℕ} 0 1 = cc in omega arith)
  absent FromAnother l f e h = absurd (let z : ◌≡◌ {A = ℕ} 0 1 = cc in omega arith)
  absent FromLead l f e h = absurd (let z : ◌≡◌ {A = ℕ} 0 1 = cc in omega arith)
  absent ToLead l f e h = absurd (let z : ◌≡◌ {A = ℕ} 0 1 = cc in omega arith)
  absent VotedRange l f e h = rw (untold-voted m.body (gone e h))
  absent ToldBelow l f e h = rw (gone e h)
  absent StatusRange l f e h = rw (untold-status m.body (gone e h))
  absent ToldVoted l f e h = rw (gone e h)
  absent OpRange l f e h = rw (no_second m.body (gone e h), op (gone e h))
  absent FreshOp l f e h = rw (stale m.body (gone e h))
  absent ToldOp l f e h = rw (no-command m.body (gone e h)) (both_true (parts_in m.body).told (eqb (vote_in m).status 0))
  absent KeyRange l f e h = rw (no-command m.body (gone e h))
  absent SecondRange l f e h =
      let none : (parts_in m.body).second ≡ false = short-kind (parts_in m.body).command refl (gone e h) in
      rw (sym (second_is m.body) ∙ none) (rw none at short)
  absent EditRange l f e h = rw (no-command m.body (gone e h))
  absent (EntryRange i) l f e h =
      let d : (parts_in m.body).deps ≡ false = no-entry _ _ l (gone e h) in
      rw (zero-at d i l) (le-leb 0 (entry_limit n s i) (omega arith))
  absent (ToldEntry i) l f e h =
      let d : (parts_in m.body).deps ≡ false = no-entry _ _ l (gone e h) in
      rw (zero-at d i l) (both_true (parts_in m.body).told (eqb (vote_in m).status 0))
  absent JoinedRange l f e h = rw (unjoined m.body (gone e h))
  absent JoinedAbove l f e h = rw (gone e h)

  -- so a field that is blamed is one that the message has
  pub blamed-has : (x : Clause) → In x clauses → holds n s c o m x ≡ false → (f : Field) → blame_of x ≡ blame.Of f → has_field (parts_in m.body) f ≡ true
  unfolding all_in small entry_clauses
  blamed-has x i bad f e = go (has_field (parts_in m.body) f) refl
    where
      go : (b : Bool) → has_field (parts_in m.body) f ≡ b → b ≡ true
      go true h = refl
      go false h = clash (sym (absent x (all_in_lem small clauses refl x i) f e h) ∙ bad)
