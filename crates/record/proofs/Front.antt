-- What stands before the phase, outcome by outcome. Assumes nothing.
use mathlib.Core.Path.{◌≡◌, refl, sym, ◌∙◌}
use mathlib.Core.Bool.{Bool, true, false, ◌&&◌, cond}
use mathlib.Core.List.{List}
use Prim.Native.Nat.{ℕ, zero, suc, ◌≤◌}
use native.Mathlib.Omega.{arith}
use lib.Dec.{leb, ltb, eqb}
use borrow.Author.Tests.{lt-ltb, lt-leb, eq-eqb, ne_eqb}
use Rattle.numbers.specs.Num.{num_at}
use Rattle.codec.specs.Parts.{op_of, command_at, deps_at, vote_at}
use Rattle.paper.specs.Command.{op_number, command_ok}
use Rattle.paper.specs.Logic.{implies, all_below}
use Rattle.paper.specs.Deps.{deps_ok}
use Rattle.paper.specs.Vote.{none_is_blank}
use Rattle.sound.specs.Asked.{ballots_ok, marked_ok}
use Rattle.sound.proofs.Laws.{and_one}
use Rattle.record.specs.Part.{command_fits, front_ok}

-- no op has a number above 3
above : (k : ℕ) → leb (suc (suc (suc (suc k)))) 3 ≡ false
above k = lt-leb (suc (suc (suc (suc k)))) 3 (omega arith)

module _ (b : List ℕ) {x l k : ℕ} (ex : x ≡ num_at 1 b 9) (el : l ≡ num_at 4 b 14) (ek : k ≡ num_at 4 b 10) where
  pub command-two : x ≡ 3 → ltb k l ≡ command_fits b
  unfolding command_fits command_ok command_at
  command-two h = rw (sym ex ∙ h, el, ek) (sym (and_one (ltb (num_at 4 b 10) (num_at 4 b 14))))

  pub command-second : (x ≡ 3 → ⊥) → (l ≡ 0 → ⊥) → false ≡ command_fits b
  unfolding command_fits command_ok command_at
  command-second h g = rw (ne_eqb (num_at 4 b 14) 0 (λ z. g (el ∙ z))) (go (num_at 1 b 9) (λ z. h (ex ∙ z)) (ltb (num_at 4 b 10) (num_at 4 b 14)) (eqb (num_at 4 b 10) 0) (eqb (num_at 8 b 18) 0))
    where
      go : (y : ℕ) → (y ≡ 3 → ⊥) → (t u v : Bool)
          → false ≡ (leb y 3 && (implies (eqb (op_number (op_of y)) 0) u && cond (eqb (op_number (op_of y)) 3) t false && implies (eqb (op_number (op_of y)) 0) v))
      go zero n t true v = refl
      go zero n t false v = refl
      go (suc zero) n t u v = refl
      go (suc (suc zero)) n t u v = refl
      go (suc (suc (suc zero))) n t u v = absurd (n refl)
      go (suc (suc (suc (suc y)))) n t u v = rw (above y)

  pub command-one : (x ≡ 3 → ⊥) → l ≡ 0 → (x ≡ 0 → ⊥) → leb x 3 ≡ command_fits b
  unfolding command_fits command_ok command_at
  command-one h z n = rw (ex, eq-eqb (num_at 4 b 14) 0 (sym el ∙ z)) (go (num_at 1 b 9) (λ e. h (ex ∙ e)) (λ e. n (ex ∙ e)) (ltb (num_at 4 b 10) (num_at 4 b 14)) (eqb (num_at 4 b 10) 0) (eqb (num_at 8 b 18) 0))
    where
      go : (y : ℕ) → (y ≡ 3 → ⊥) → (y ≡ 0 → ⊥) → (t u v : Bool)
          → leb y 3 ≡ (leb y 3 && (implies (eqb (op_number (op_of y)) 0) u && cond (eqb (op_number (op_of y)) 3) t true && implies (eqb (op_number (op_of y)) 0) v))
      go zero n m t u v = absurd (m refl)
      go (suc zero) n m t u v = refl
      go (suc (suc zero)) n m t u v = refl
      go (suc (suc (suc zero))) n m t u v = absurd (n refl)
      go (suc (suc (suc (suc y)))) n m t u v = rw (above y)

  pub command-key : x ≡ 0 → l ≡ 0 → (k ≡ 0 → ⊥) → false ≡ command_fits b
  unfolding command_fits command_ok command_at
  command-key h z g = rw (sym ex ∙ h, ne_eqb (num_at 4 b 10) 0 (λ e. g (ek ∙ e)))

  pub command-edit : x ≡ 0 → l ≡ 0 → k ≡ 0 → {e : ℕ} → e ≡ num_at 8 b 18 → eqb e 0 ≡ command_fits b
  unfolding command_fits command_ok command_at
  command-edit h z g ee = rw (sym ex ∙ h, eq-eqb (num_at 4 b 10) 0 (sym ek ∙ g), eq-eqb (num_at 4 b 14) 0 (sym el ∙ z), ee)

pub none-some : (b : List ℕ) {x : ℕ} → x ≡ num_at 1 b 8 → (x ≡ 0 → ⊥) → true ≡ none_is_blank (vote_at b 4)
unfolding none_is_blank vote_at all_below
none-some b ex h = rw (ne_eqb (num_at 1 b 8) 0 (λ z. h (ex ∙ z)))

-- seven copies or more: no entry is past them
pub deps-seven : (n s : ℕ) (d : List ℕ) → 7 ≤ n → deps_ok 7 s d ≡ deps_ok n s d
unfolding deps_ok all_below
deps-seven n s d h =
    rw (lt-ltb 0 n (omega arith), lt-ltb 1 n (omega arith), lt-ltb 2 n (omega arith), lt-ltb 3 n (omega arith), lt-ltb 4 n (omega arith), lt-ltb 5 n (omega arith), lt-ltb 6 n (omega arith))

module _ (n s : ℕ) (b : List ℕ) where
  pub front-ballots : ballots_ok n (num_at 4 b 0) (num_at 4 b 4) ≡ false → false ≡ front_ok n s b
  unfolding front_ok
  front-ballots p = rw p

  module _ (p : ballots_ok n (num_at 4 b 0) (num_at 4 b 4) ≡ true) where
    pub front-command : command_fits b ≡ false → false ≡ front_ok n s b
    unfolding front_ok
    front-command q = rw (p, q)

    module _ (q : command_fits b ≡ true) where
      pub front-mark : marked_ok (num_at 1 b 8) (num_at 1 b 40) ≡ false → false ≡ front_ok n s b
      unfolding front_ok
      front-mark r = rw (p, q, r)

      module _ (r : marked_ok (num_at 1 b 8) (num_at 1 b 40) ≡ true) where
        pub front-none : none_is_blank (vote_at b 4) ≡ false → false ≡ front_ok n s b
        unfolding front_ok
        front-none u = rw (p, q, r, u)

        pub front-deps : none_is_blank (vote_at b 4) ≡ true → deps_ok n s (deps_at b 26) ≡ front_ok n s b
        unfolding front_ok
        front-deps u = rw (p, q, r, u)
