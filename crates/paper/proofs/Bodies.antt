-- The table of bodies: every body has a row, a body is made of its kind and of what it carries, and a known kind is some
-- body's. Assumes nothing.
use Prim.Native.Nat.{ℕ, zero, suc, ◌<◌}
use mathlib.Core.Path.{◌≡◌, refl, sym, ap, ◌∙◌}
use mathlib.Core.Bool.{Bool, true, false, ◌&&◌, cond}
use mathlib.Core.List.{List, [], ◌∷◌}
use native.Mathlib.Omega.{arith}
use lib.ListN.{get_or}
use Rattle.paper.specs.Logic.{implies}
use Rattle.paper.specs.Command.{noop, is_rewire}
use Rattle.paper.specs.Message.{unknown, rows, row_of, row_in, parts_of, parts_in, kind_by, kind_of, said_in, is_commit, command_carried, carried_in, command_in, joined_in, body_of, is_fresh, kept}
use Rattle.paper.specs.declared.Command.{Command}
use Rattle.paper.specs.declared.Body.{Body}
use Rattle.paper.specs.declared.Body.TheVariants.{PreAccept, PreAcceptOk, Accept, AcceptOk, Commit, Prepare, PrepareOk, Nack}
use Rattle.paper.specs.declared.Carried.{Carried}
use Rattle.paper.specs.declared.Parts.{Parts}
use Rattle.paper.specs.declared.Row.{Row}
use Rattle.paper.proofs.Laws.{and-true}

-- what holds of a body's short and of its long kind holds of its kind
pub by_kind : (P : ℕ → Type 0) (short long : ℕ) (k : Command) → P short → P long → P (kind_by short long k)
by_kind P short long k p q = go (is_rewire k)
  where
    go : (t : Bool) → P (cond t long short)
    go true = q
    go false = p

pub kind-small : (b : Body) → kind_of b < 256
kind-small (PreAccept k) = by_kind (λ i. i < 256) 1 9 k (omega arith) (omega arith)
kind-small PreAcceptOk = omega arith
kind-small (Accept k) = by_kind (λ i. i < 256) 3 10 k (omega arith) (omega arith)
kind-small AcceptOk = omega arith
kind-small (Commit k) = by_kind (λ i. i < 256) 5 11 k (omega arith) (omega arith)
kind-small Prepare = omega arith
kind-small (PrepareOk v t k) = by_kind (λ i. i < 256) 7 12 k (omega arith) (omega arith)
kind-small (Nack x) = omega arith

pub kind-known : (b : Body) → (row_in b).known ≡ true
unfolding row_of
kind-known (PreAccept k) = by_kind (λ i. (row_of i).known ≡ true) 1 9 k refl refl
kind-known PreAcceptOk = refl
kind-known (Accept k) = by_kind (λ i. (row_of i).known ≡ true) 3 10 k refl refl
kind-known AcceptOk = refl
kind-known (Commit k) = by_kind (λ i. (row_of i).known ≡ true) 5 11 k refl refl
kind-known Prepare = refl
kind-known (PrepareOk v t k) = by_kind (λ i. (row_of i).known ≡ true) 7 12 k refl refl
kind-known (Nack x) = refl

pub body_is : (b : Body) → body_of (kind_of b) (carried_in b) ≡ b
unfolding body_of
body_is (PreAccept k) = by_kind (λ i. body_of i (command_carried k) ≡ PreAccept k) 1 9 k refl refl
body_is PreAcceptOk = refl
body_is (Accept k) = by_kind (λ i. body_of i (command_carried k) ≡ Accept k) 3 10 k refl refl
body_is AcceptOk = refl
body_is (Commit k) = by_kind (λ i. body_of i (command_carried k) ≡ Commit k) 5 11 k refl refl
body_is Prepare = refl
body_is (PrepareOk v t k) = by_kind (λ i. body_of i (carried_in (PrepareOk v t k)) ≡ PrepareOk v t k) 7 12 k refl refl
body_is (Nack x) = refl

no-commit : {A : Type 0} → false ≡ true → A
no-commit h = absurd (let z : ◌≡◌ {A = ℕ} 0 1 = cc in omega arith)

pub commit-is : (b : Body) → is_commit b ≡ true → b ≡ Commit (command_in b)
commit-is (PreAccept k) h = no-commit h
commit-is PreAcceptOk h = no-commit h
commit-is (Accept k) h = no-commit h
commit-is AcceptOk h = no-commit h
commit-is (Commit k) h = refl
commit-is Prepare h = no-commit h
commit-is (PrepareOk v t k) h = no-commit h
commit-is (Nack x) h = no-commit h

-- the same row with a second key or without
with_second : Bool → Row → Row
with_second t r =
    record {
      known = r.known;
      role = r.role;
      ballots = r.ballots;
      parts = record { told = r.parts.told; command = r.parts.command; second = t; deps = r.parts.deps; joined = r.parts.joined };
    }

two-rows : (short long : ℕ) (k : Command) → row_of short ≡ with_second false (row_of short) → row_of long ≡ with_second true (row_of short)
    → row_of (kind_by short long k) ≡ with_second (is_rewire k) (row_of short)
two-rows short long k p q = go (is_rewire k)
  where
    go : (t : Bool) → row_of (cond t long short) ≡ with_second t (row_of short)
    go true = q
    go false = p

-- the rows of a body's two kinds differ in the second key alone
row-said : (b : Body) → row_in b ≡ with_second (is_rewire (command_in b)) (said_in b)
unfolding row_of with_second
row-said (PreAccept k) = two-rows 1 9 k refl refl
row-said PreAcceptOk = refl
row-said (Accept k) = two-rows 3 10 k refl refl
row-said AcceptOk = refl
row-said (Commit k) = two-rows 5 11 k refl refl
row-said Prepare = refl
row-said (PrepareOk v t k) = two-rows 7 12 k refl refl
row-said (Nack x) = refl

-- a body has a second key in its bytes exactly where its command is a rewire
pub second_is : (b : Body) → (parts_in b).second ≡ is_rewire (command_in b)
unfolding with_second
second_is b = ap (λ (r : Row). r.parts.second) (row-said b)

module _ (b : Body) where
  pub said-role : (row_in b).role ≡ (said_in b).role
  unfolding with_second
  said-role = ap (λ (r : Row). r.role) (row-said b)

  pub said-ballots : (row_in b).ballots ≡ (said_in b).ballots
  unfolding with_second
  said-ballots = ap (λ (r : Row). r.ballots) (row-said b)

  pub said-told : (parts_in b).told ≡ (said_in b).parts.told
  unfolding with_second
  said-told = ap (λ (r : Row). r.parts.told) (row-said b)

  pub said-deps : (parts_in b).deps ≡ (said_in b).parts.deps
  unfolding with_second
  said-deps = ap (λ (r : Row). r.parts.deps) (row-said b)

  pub said-joined : (parts_in b).joined ≡ (said_in b).parts.joined
  unfolding with_second
  said-joined = ap (λ (r : Row). r.parts.joined) (row-said b)

-- what is tested of every row of the table, and of none, holds of each kind's row
unfoldable pub all_of : (Row → Bool) → List Row → Bool
all_of f [] = true
all_of f (r ∷ rs) = f r && all_of f rs

unfoldable pub every_row : (Row → Bool) → Bool
every_row f = all_of f (unknown ∷ rows)

pub every-row : (f : Row → Bool) → every_row f ≡ true → (k : ℕ) → f (row_of k) ≡ true
unfolding every_row row_of all_of
every-row f h k = go (unknown ∷ rows) k h (and-true (f unknown) _ h).0
  where
    go : (rs : List Row) (k : ℕ) → all_of f rs ≡ true → f unknown ≡ true → f (get_or rs k unknown) ≡ true
    go [] k h u = u
    go (r ∷ rs) zero h u = (and-true (f r) _ h).0
    go (r ∷ rs) (suc k) h u = go rs k (and-true (f r) (all_of f rs) h).1 u

-- what holds of each kind that has a row
known-each : (P : ℕ → Type 0) → P 1 → P 2 → P 3 → P 4 → P 5 → P 6 → P 7 → P 8 → P 9 → P 10 → P 11 → P 12 → (k : ℕ) → (row_of k).known ≡ true → P k
unfolding row_of
known-each P a b c d e f g h u v w x zero t = absurd (let z : ◌≡◌ {A = ℕ} 0 1 = cc in omega arith)
known-each P a b c d e f g h u v w x (suc zero) t = a
known-each P a b c d e f g h u v w x (suc (suc zero)) t = b
known-each P a b c d e f g h u v w x (suc (suc (suc zero))) t = c
known-each P a b c d e f g h u v w x (suc (suc (suc (suc zero)))) t = d
known-each P a b c d e f g h u v w x (suc (suc (suc (suc (suc zero))))) t = e
known-each P a b c d e f g h u v w x (suc (suc (suc (suc (suc (suc zero)))))) t = f
known-each P a b c d e f g h u v w x (suc (suc (suc (suc (suc (suc (suc zero))))))) t = g
known-each P a b c d e f g h u v w x (suc (suc (suc (suc (suc (suc (suc (suc zero)))))))) t = h
known-each P a b c d e f g h u v w x (suc (suc (suc (suc (suc (suc (suc (suc (suc zero))))))))) t = u
known-each P a b c d e f g h u v w x (suc (suc (suc (suc (suc (suc (suc (suc (suc (suc zero)))))))))) t = v
known-each P a b c d e f g h u v w x (suc (suc (suc (suc (suc (suc (suc (suc (suc (suc (suc zero))))))))))) t = w
known-each P a b c d e f g h u v w x (suc (suc (suc (suc (suc (suc (suc (suc (suc (suc (suc (suc zero)))))))))))) t = x
known-each P a b c d e f g h u v w x (suc (suc (suc (suc (suc (suc (suc (suc (suc (suc (suc (suc (suc k))))))))))))) t = absurd (let z : ◌≡◌ {A = ℕ} 0 1 = cc in omega arith)

-- the kind carries such a command: of a long one it is a rewire, of a short one it is not
abbrev pub Carries : ℕ → Command → Type 0
Carries k c = (parts_of k).command ≡ true → is_rewire c ≡ (parts_of k).second

pub kind-is : (k : ℕ) (x : Carried) → (row_of k).known ≡ true → Carries k x.command → kind_of (body_of k x) ≡ k
unfolding body_of row_of
kind-is k x t =
    known-each (λ i. Carries i x.command → kind_of (body_of i x) ≡ i) (short 1 9) (λ h. refl) (short 3 10) (λ h. refl) (short 5 11) (λ h. refl) (short 7 12) (λ h. refl)
    (long 1 9) (long 3 10) (long 5 11) (long 7 12) k t
  where
    short : (i j : ℕ) → (true ≡ true → is_rewire x.command ≡ false) → kind_by i j x.command ≡ i
    short i j h = rw (h refl)

    long : (i j : ℕ) → (true ≡ true → is_rewire x.command ≡ true) → kind_by i j x.command ≡ j
    long i j h = rw (h refl)

pub carried-is : (k : ℕ) (x : Carried) → (row_of k).known ≡ true → carried_in (body_of k x) ≡ kept (parts_of k) x
unfolding body_of row_of kept
carried-is k x t = known-each (λ i. carried_in (body_of i x) ≡ kept (parts_of i) x) refl refl refl refl refl refl refl refl refl refl refl refl k t

-- what a body carries, its row's parts hold
pub carried-kept : (b : Body) → kept (parts_in b) (carried_in b) ≡ carried_in b
unfolding row_of kept
carried-kept (PreAccept k) = by_kind (λ i. kept (parts_of i) (command_carried k) ≡ command_carried k) 1 9 k refl refl
carried-kept PreAcceptOk = refl
carried-kept (Accept k) = by_kind (λ i. kept (parts_of i) (command_carried k) ≡ command_carried k) 3 10 k refl refl
carried-kept AcceptOk = refl
carried-kept (Commit k) = by_kind (λ i. kept (parts_of i) (command_carried k) ≡ command_carried k) 5 11 k refl refl
carried-kept Prepare = refl
carried-kept (PrepareOk v t k) = by_kind (λ i. kept (parts_of i) (carried_in (PrepareOk v t k)) ≡ carried_in (PrepareOk v t k)) 7 12 k refl refl
carried-kept (Nack x) = refl

-- what parts hold of something, they hold again
pub kept-kept : (p : Parts) (x : Carried) → kept p (kept p x) ≡ kept p x
unfolding kept
kept-kept p x = λ i. record { voted = twice p.told x.voted 0 i; status = twice p.told x.status 0 i; command = twice p.command x.command noop i; joined = twice p.joined x.joined 0 i }
  where
    twice : {A : Type 0} (b : Bool) (a z : A) → cond b (cond b a z) z ≡ cond b a z
    twice true a z = refl
    twice false a z = refl

-- a place in neither the table nor before it
pub unlisted : {A : Type 0} (a b c d e f g h u v w x z : A) (k : ℕ) → (k ≡ 1 → ⊥) → (k ≡ 2 → ⊥) → (k ≡ 3 → ⊥) → (k ≡ 4 → ⊥) → (k ≡ 5 → ⊥) → (k ≡ 6 → ⊥)
    → (k ≡ 7 → ⊥) → (k ≡ 8 → ⊥) → (k ≡ 9 → ⊥) → (k ≡ 10 → ⊥) → (k ≡ 11 → ⊥) → (k ≡ 12 → ⊥) → get_or (z ∷ a ∷ b ∷ c ∷ d ∷ e ∷ f ∷ g ∷ h ∷ u ∷ v ∷ w ∷ x ∷ []) k z ≡ z
unlisted a b c d e f g h u v w x z zero n1 n2 n3 n4 n5 n6 n7 n8 n9 n10 n11 n12 = refl
unlisted a b c d e f g h u v w x z (suc zero) n1 n2 n3 n4 n5 n6 n7 n8 n9 n10 n11 n12 = absurd (n1 refl)
unlisted a b c d e f g h u v w x z (suc (suc zero)) n1 n2 n3 n4 n5 n6 n7 n8 n9 n10 n11 n12 = absurd (n2 refl)
unlisted a b c d e f g h u v w x z (suc (suc (suc zero))) n1 n2 n3 n4 n5 n6 n7 n8 n9 n10 n11 n12 = absurd (n3 refl)
unlisted a b c d e f g h u v w x z (suc (suc (suc (suc zero)))) n1 n2 n3 n4 n5 n6 n7 n8 n9 n10 n11 n12 = absurd (n4 refl)
unlisted a b c d e f g h u v w x z (suc (suc (suc (suc (suc zero))))) n1 n2 n3 n4 n5 n6 n7 n8 n9 n10 n11 n12 = absurd (n5 refl)
unlisted a b c d e f g h u v w x z (suc (suc (suc (suc (suc (suc zero)))))) n1 n2 n3 n4 n5 n6 n7 n8 n9 n10 n11 n12 = absurd (n6 refl)
unlisted a b c d e f g h u v w x z (suc (suc (suc (suc (suc (suc (suc zero))))))) n1 n2 n3 n4 n5 n6 n7 n8 n9 n10 n11 n12 = absurd (n7 refl)
unlisted a b c d e f g h u v w x z (suc (suc (suc (suc (suc (suc (suc (suc zero)))))))) n1 n2 n3 n4 n5 n6 n7 n8 n9 n10 n11 n12 = absurd (n8 refl)
unlisted a b c d e f g h u v w x z (suc (suc (suc (suc (suc (suc (suc (suc (suc zero))))))))) n1 n2 n3 n4 n5 n6 n7 n8 n9 n10 n11 n12 = absurd (n9 refl)
unlisted a b c d e f g h u v w x z (suc (suc (suc (suc (suc (suc (suc (suc (suc (suc zero)))))))))) n1 n2 n3 n4 n5 n6 n7 n8 n9 n10 n11 n12 = absurd (n10 refl)
unlisted a b c d e f g h u v w x z (suc (suc (suc (suc (suc (suc (suc (suc (suc (suc (suc zero))))))))))) n1 n2 n3 n4 n5 n6 n7 n8 n9 n10 n11 n12 = absurd (n11 refl)
unlisted a b c d e f g h u v w x z (suc (suc (suc (suc (suc (suc (suc (suc (suc (suc (suc (suc zero)))))))))))) n1 n2 n3 n4 n5 n6 n7 n8 n9 n10 n11 n12 = absurd (n12 refl)
unlisted a b c d e f g h u v w x z (suc (suc (suc (suc (suc (suc (suc (suc (suc (suc (suc (suc (suc k))))))))))))) n1 n2 n3 n4 n5 n6 n7 n8 n9 n10 n11 n12 = refl

-- what a body does not carry is zero
module _ (b : Body) where
  pub untold-voted : (parts_in b).told ≡ false → (carried_in b).voted ≡ 0
  unfolding kept
  untold-voted e = sym (ap (λ (x : Carried). x.voted) (carried-kept b)) ∙ rw e

  pub untold-status : (parts_in b).told ≡ false → (carried_in b).status ≡ 0
  unfolding kept
  untold-status e = sym (ap (λ (x : Carried). x.status) (carried-kept b)) ∙ rw e

  pub no-command : (parts_in b).command ≡ false → (carried_in b).command ≡ noop
  unfolding kept
  no-command e = sym (ap (λ (x : Carried). x.command) (carried-kept b)) ∙ rw e

  pub unjoined : (parts_in b).joined ≡ false → joined_in b ≡ 0
  unfolding kept
  unjoined e = sym (ap (λ (x : Carried). x.joined) (carried-kept b)) ∙ rw e

  pub no_second : (parts_in b).command ≡ false → (parts_in b).second ≡ false
  no_second e = second_is b ∙ rw (no-command e)

  -- what is asked of the op at ballot 0 is asked of a kind with a command
  pub stale : (parts_in b).command ≡ false → is_fresh (row_in b).ballots ≡ false
  unfolding every_row all_of
  stale e = go (is_fresh (row_in b).ballots) (parts_in b).command e (every-row (λ r. implies (is_fresh r.ballots) r.parts.command) refl (kind_of b))
    where
      go : (f c : Bool) → c ≡ false → implies f c ≡ true → f ≡ false
      go true true e h = absurd (let z : ◌≡◌ {A = ℕ} 0 1 = cc in omega arith)
      go true false e h = absurd (let z : ◌≡◌ {A = ℕ} 0 1 = cc in omega arith)
      go false c e h = refl
