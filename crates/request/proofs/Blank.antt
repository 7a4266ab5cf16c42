-- In a sound table an untouched record is blank, and the walk up the own row for the lowest of them. Assumes nothing.
use mathlib.Core.Path.{◌≡◌, refl, sym, ap, ◌∙◌}
use mathlib.Core.Bool.{Bool, true, false, ◌&&◌}
use mathlib.Core.List.{List}
use Prim.Native.Nat.{ℕ, suc, ◌+◌, ◌-◌, ◌≤◌, ◌<◌}
use native.Mathlib.Omega.{arith}
use lib.Dec.{eqb}
use lib.ListN.{get_or}
use borrow.Author.Tests.{eqb-true, eq-eqb}
use Rattle.paper.specs.Logic.{all_below}
use Rattle.paper.specs.Command.{is_noop, noop, command_ok}
use Rattle.paper.specs.Deps.{no_deps, same_deps, deps_ok}
use Rattle.paper.specs.Vote.{no_vote, same_vote, none_voted, none_op, none_entry, none_is_blank, voted_ok, status_ok, vote_ok, member}
use Rattle.paper.specs.Sound.{sound_record, reply_ok, replies_ok}
use Rattle.paper.proofs.Laws.{all_below-at, noop-only}
use Rattle.paper.specs.declared.Vote.{Vote}
use Rattle.paper.specs.declared.Record.{Record}
use Rattle.rules.specs.Request.{is_blank, lowest_blank}
use Rattle.rules.specs.Events.{request_number}
use Rattle.table.specs.Sizes.{Names, Has}
use Rattle.table.proofs.Laws.{sizes}
use Rattle.table.proofs.Round.{record-sound}
use Rattle.seen.specs.Records.{records_in}
use Rattle.closed.proofs.Laws.{both, all_in, imp-at, three, four}
use Rattle.closed.proofs.Sets.{member-none}
use Rattle.closed.proofs.Sound.{Sound, sound-is}
use Rattle.closed.proofs.Shapes.{unmarked}
use Rattle.request.specs.Request.{is_untouched}
use Rattle.table.specs.Table.{Judged}

-- status 0 of a sound record is no vote
none-voted : (n s : ℕ) (v : Vote) → vote_ok n s 4 v ≡ true → none_is_blank v ≡ true → v.status ≡ 0 → same_vote v no_vote ≡ true
unfolding vote_ok none_is_blank same_deps all_below same_vote
none-voted n s v ok none e =
    let (a, b, c, d) = four (voted_ok n v) (status_ok 4 v) (command_ok v.command) (deps_ok n s v.deps) ok in
    let zero = eq-eqb v.status 0 e in
    let (voted, noop, deps) = three (none_voted v) (none_op v) (all_below 7 (none_entry v)) none in
    let op : is_noop v.command ≡ true = imp-at _ _ noop zero in
    let entries : same_deps v.deps no_deps ≡ true = rw zero at deps in
    both _ _ (both _ _ (both _ _ (imp-at _ _ voted zero) zero) (noop-only v.command c op)) entries

-- nothing collected: every place is zero
none_told : (n s c : ℕ) (r : Record) → replies_ok n s c r ≡ true → r.set ≡ 0 → all_below 7 (λ q. same_vote (get_or r.replies q no_vote) no_vote) ≡ true
unfolding replies_ok reply_ok
none_told n s c r ok e = all_in 7 _ (λ q l. at q (all_below-at 7 (reply_ok n s c r) ok q l))
  where
    at : (q : ℕ) → reply_ok n s c r q ≡ true → same_vote (get_or r.replies q no_vote) no_vote ≡ true
    at q h = let f : member q r.set ≡ false = ap (member q) e ∙ member-none q in sym (rw f) ∙ h

-- tests that fail with one of their parts
no-phase : (a b c d : Bool) → false ≡ (a && b && false && c && d)
no-phase true true c d = refl
no-phase true false c d = refl
no-phase false b c d = refl

no-status : (a b c d e f g : Bool) → false ≡ ((a && false && b && c) && d && e && f && g)
no-status true b c d e f g = refl
no-status false b c d e f g = refl

differing : (v : Vote) → eqb v.status 0 ≡ false → (d e g l : Bool) → false ≡ (same_vote v no_vote && d && e && g && l)
unfolding same_vote
differing v y d e g l = rw y (no-status (eqb v.voted 0) _ _ d e g l)

pub blank-is : (n s c o : ℕ) (r : Record) → sound_record n s c o r ≡ true → is_untouched r ≡ is_blank r
unfolding is_untouched is_blank
blank-is n s c o r h = go (eqb r.joined 0) (eqb r.vote.status 0) (eqb r.phase 0) refl refl refl
  where
    f : Sound n s c o r
    f = sound-is n s c o r h

    go : (a b d : Bool) → eqb r.joined 0 ≡ a → eqb r.vote.status 0 ≡ b → eqb r.phase 0 ≡ d → is_untouched r ≡ is_blank r
    go true true true x y z =
        let st = eqb-true _ _ y in
        let set = f.empty (eqb-true _ _ z) in
        let v = none-voted n s r.vote f.own f.none st in
        let k : eqb r.mark 0 ≡ true = eq-eqb _ _ (unmarked n s c o r f (λ g. absurd (omega arith))) in
        let l : eqb r.set 0 ≡ true = eq-eqb _ _ set in
        let w = none_told n s c r f.replies set in
        both _ _ (both _ _ x y) z ∙ sym (both _ _ (both _ _ (both _ _ (both _ _ (both _ _ x v) k) z) l) w)
    go true true false x y z = rw (x, y, z) (no-phase (same_vote r.vote no_vote) (eqb r.mark 0) _ _)
    go true false d x y z = rw (x, y) (differing r.vote y _ _ _ _)
    go false b d x y z = rw x

-- the walk up copy c's row: the numbers from j on are still to be looked at
module _ (n s c : ℕ) (t : List ℕ) where
  pub record From (j : ℕ) : Type 0 where
    pub judged : Judged n s c t
    pub so : request_number s c (records_in s t) ≡ lowest_blank (s + 1 - j) j (records_in s t c)
    pub least : 1 ≤ j
    pub most : j ≤ s + 1

  pub few : Judged n s c t → s ≤ 64
  few h = (sizes n s c t h.setup).numbers

  pub start : Judged n s c t → From 1
  unfolding request_number
  start h = let e : s + 1 - 1 ≡ s = omega arith in record { judged = h; so = rw e; least = omega arith; most = omega arith }

  module _ (j : ℕ) (f : From j) (h : j ≤ s) where
    own : Names n s c j
    own = let z = sizes n s c t f.judged.setup in record { copies = z.copies; numbers = z.numbers; owner = z.copy; first = f.least; last = h }

    pub has : Has n s c j t
    has = record { names = own; long = (sizes n s c t f.judged.setup).long }

    -- the test that was made is the definition's
    pub tested : {b : Bool} → b ≡ is_untouched (records_in s t c j) → is_blank (records_in s t c j) ≡ b
    tested eb = sym (eb ∙ blank-is n s c c (records_in s t c j) (record-sound n s c t f.judged.sound c j own))

    pub here : is_blank (records_in s t c j) ≡ true → j ≡ request_number s c (records_in s t)
    unfolding lowest_blank
    here e = let k : s + 1 - j ≡ suc (s - j) = omega arith in sym (f.so ∙ rw (k, e))

    pub next : is_blank (records_in s t c j) ≡ false → From (j + 1)
    unfolding lowest_blank
    next e =
        let k : s + 1 - j ≡ suc (s + 1 - (j + 1)) = omega arith in
        let l = f.least in
        record { judged = f.judged; so = f.so ∙ rw (k, e); least = omega arith; most = omega arith }

  pub full : (j : ℕ) → From j → s < j → j ≡ request_number s c (records_in s t)
  unfolding lowest_blank
  full j f h = let k : s + 1 - j ≡ 0 = omega arith in sym (f.so ∙ rw k)
