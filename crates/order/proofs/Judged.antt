-- What a judged table gives the search. Assumes nothing.
use Prim.Native.Nat.{ℕ, ◌≤◌, ◌<◌}
use mathlib.Core.Path.{◌≡◌, refl, ◌∙◌}
use mathlib.Core.Bool.{Bool, true, false, ◌&&◌}
use mathlib.Core.List.{List}
use native.Mathlib.Omega.{arith}
use lib.ListN.{get_or, length}
use borrow.Author.Tests.{leb-true, lt-ltb}
use Rattle.std.specs.Prelude.{Result, Ok, Err}
use Rattle.paper.specs.Deps.{entry_limit, entry_ok, deps_ok}
use Rattle.paper.specs.Vote.{voted_ok, status_ok, vote_ok}
use Rattle.paper.specs.Command.{command_ok}
use Rattle.paper.specs.Sound.{joined_ok, own_vote_ok, mark_ok, phase_ok, set_ok, ranges_ok, votes_ok, phases_ok, replies_ok, sound_record}
use Rattle.paper.proofs.Laws.{and-true, all_below-at}
use Rattle.paper.specs.declared.Record.{Record}
use Rattle.paper.specs.declared.Refusal.{Refusal}
use Rattle.paper.specs.declared.Refusal.TheVariants as why
use Rattle.table.specs.Place.{table_length}
use Rattle.table.specs.Sizes.{Names}
use Rattle.table.specs.Table.{fits_setup, sound_table, record_in}
use Rattle.table.specs.Calls.{judged}
use Rattle.table.proofs.Laws.{sizes}
use Rattle.table.proofs.Round.{record-sound}
use Rattle.seen.specs.Records.{records_in}
use Rattle.reach.specs.High.{Inst, Fit}
use Rattle.table.specs.Table.{Judged}

-- a sound record's entries name instances, or none
entry-fits : (n s c o : ℕ) (r : Record) → sound_record n s c o r ≡ true → (q : ℕ) → q < 7 → q < n → get_or r.vote.deps q 0 ≤ s
unfolding sound_record ranges_ok vote_ok deps_ok
entry-fits n s c o r h q l7 ln =
    let a = (and-true (ranges_ok n s r && votes_ok r && phases_ok n c o r) (replies_ok n s c r) h).0 in
    let b = (and-true (ranges_ok n s r && votes_ok r) (phases_ok n c o r) a).0 in
    let d = (and-true (ranges_ok n s r) (votes_ok r) b).0 in
    let e = (and-true (joined_ok n r && own_vote_ok n s r && mark_ok r && phase_ok r) (set_ok n r) d).0 in
    let f = (and-true (joined_ok n r && own_vote_ok n s r && mark_ok r) (phase_ok r) e).0 in
    let g = (and-true (joined_ok n r && own_vote_ok n s r) (mark_ok r) f).0 in
    let i = (and-true (joined_ok n r) (own_vote_ok n s r) g).1 in
    let k = (and-true (voted_ok n r.vote && status_ok 4 r.vote && command_ok r.vote.command) (deps_ok n s r.vote.deps) i).1 in
    let m = leb-true (get_or r.vote.deps q 0) (entry_limit n s q) (all_below-at 7 (entry_ok n s r.vote.deps) k q l7) in
    rw (lt-ltb q n ln) at m

clash : {A : Type 0} (r : Refusal) → ◌≡◌ {A = Result Unit Refusal} (Ok tt) (Err r) → A
clash r e = let z : ◌≡◌ {A = ℕ} 0 1 = cc in absurd (omega arith)

pub passed : (n s c : ℕ) (t : List ℕ) → Ok tt ≡ judged n s c t → Judged n s c t
unfolding judged
passed n s c t e = go (fits_setup n s c t) (sound_table n s c t) refl refl
  where
    go : (a b : Bool) → fits_setup n s c t ≡ a → sound_table n s c t ≡ b → Judged n s c t
    go true true p q = record { setup = p; sound = q }
    go true false p q = clash why.Unsound (e ∙ rw (p, q))
    go false b p q = clash why.Setup (e ∙ rw p)

module _ (n s c : ℕ) (t : List ℕ) (h : Judged n s c t) where
  pub passed-names : (o j : ℕ) → Inst n s o j → Names n s o j
  passed-names o j i =
      let z = sizes n s c t h.setup in
      record { copies = z.copies; numbers = z.numbers; owner = i.owner; first = i.first; last = i.last }

  pub passed-fit : Fit n s (records_in s t)
  passed-fit o j i q lq =
      entry-fits n s c o (record_in s t o j) (record-sound n s c t h.sound o j (passed-names o j i)) q
      (omega (arith, (sizes n s c t h.setup).copies)) lq

  pub passed-long : length t ≡ table_length n s
  passed-long = (sizes n s c t h.setup).long
