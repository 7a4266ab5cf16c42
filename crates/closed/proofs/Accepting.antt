-- Accepting, pre-accepting afresh, and committing: what a lead does on enough replies. Assumes nothing.
use Prim.Native.Nat.{ℕ, ◌^◌, ◌<◌}
use mathlib.Core.Path.{◌≡◌, refl}
use mathlib.Core.Bool.{true, false}
use mathlib.Core.List.{List}
use native.Mathlib.Omega.{arith}
use Rattle.paper.specs.Command.{is_noop, command_ok}
use Rattle.paper.specs.Deps.{deps_ok}
use Rattle.paper.specs.Ballot.{ballot_ok, lead}
use Rattle.paper.specs.declared.Command.{Command}
use Rattle.paper.specs.declared.Record.{Record}
use Rattle.rules.specs.Sets.{others}
use Rattle.rules.specs.Accepting.{join_all, accepting, accepting_join}
use Rattle.rules.specs.Afresh.{afresh}
use Rattle.rules.specs.Committing.{committed, committing}
use Rattle.paper.specs.Fits.{CommandFits, DepsFit}
use Rattle.closed.specs.Held.{Held, Closed}
use Rattle.closed.proofs.Sound.{sound-is}
use Rattle.rules.proofs.Joins.{joins-seven}
use Rattle.closed.proofs.Deps.{joins-ok, deps-fit}
use Rattle.closed.proofs.Votes.{vote-in, vote-is, none_in, reply-is}
use Rattle.closed.proofs.Shapes.{Spot, idle-held, preaccepting-held, accepting-held, unmarked}
use Rattle.closed.proofs.Says.{to-others, preaccept-sent, accept-sent, commit-sent}

module _ (n s c o j : ℕ) (p : Spot n s c o j) where
  -- a lead at its joined ballot, with a command and dependencies in range
  module _ (r : Record) (hb : ballot_ok n r.joined ≡ true) (lb : r.joined < 256 ^ 4) (leads : lead o r.joined ≡ c) (plain : r.mark ≡ 0)
      (k : Command) (hk : command_ok k ≡ true) (fk : CommandFits k) (d : List ℕ) (hd : deps_ok n s d ≡ true) (fd : DepsFit d) where
    pub accepting-closed : Closed n s c o (accepting n c o j r k d)
    unfolding accepting
    accepting-closed =
        record {
          held =
              accepting-held n s c o r.joined (record { voted = r.joined; status = 3; command = k; deps = d }) r.mark hb lb (vote-in n s 4 _ hb (omega arith) hk hd)
              (record { voted = lb; status = omega arith; command = fk; deps = fd }) refl refl plain leads;
          sent = accept-sent n s c o j p _ (others n c) r.joined hb lb k hk fk d hd fd (to-others n s c o j p) leads;
        }

    pub afresh-closed : (r.joined ≡ 0 → is_noop k ≡ false) → Closed n s c o (afresh n c o j r k d)
    unfolding afresh
    afresh-closed op =
        record {
          held =
              preaccepting-held n s c o r.joined (record { voted = r.joined; status = 2; command = k; deps = d }) r.mark hb lb (vote-in n s 4 _ hb (omega arith) hk hd)
              (record { voted = lb; status = omega arith; command = fk; deps = fd }) refl refl plain leads op;
          sent = preaccept-sent n s c o j p _ (others n c) r.joined hb lb k hk fk d hd fd (to-others n s c o j p) leads op;
        }

  module _ (r : Record) (h : Held n s c o r) where
    -- out of phase 2, the join of all dependencies
    pub accepting_join-closed : r.phase ≡ 2 → Closed n s c o (accepting_join n c o j r)
    unfolding accepting_join
    accepting_join-closed e =
        let f = sound-is n s c o r h.sound in
        let v = vote-is n s 4 r.vote f.own in
        let g = h.fits.vote in
        let low = f.live (omega arith) in
        let d = joins-ok n s r.vote.deps r.replies v.deps (λ q. (reply-is n s c r f.own f.replies h.fits.seven q).deps) in
        accepting-closed r f.joined h.fits.joined (f.leads (omega arith)) (unmarked n s c o r f (λ z. omega arith)) r.vote.command v.command g.command
        (join_all r.vote.deps r.replies) d
        (deps-fit n s (join_all r.vote.deps r.replies) p.numbers (joins-seven r.vote.deps r.replies g.deps.seven) d)

    -- committing keeps both ballots
    pub committed-held : (k : Command) → command_ok k ≡ true → CommandFits k → (d : List ℕ) → deps_ok n s d ≡ true → DepsFit d → Held n s c o (committed r k d)
    committed-held k hk fk d hd fd =
        let f = sound-is n s c o r h.sound in
        let v = vote-is n s 4 r.vote f.own in
        idle-held n s c o r.joined (record { voted = r.vote.voted; status = 4; command = k; deps = d }) r.mark f.joined h.fits.joined
        (vote-in n s 4 _ v.voted (omega arith) hk hd) (record { voted = h.fits.vote.voted; status = omega arith; command = fk; deps = fd }) f.below
        (none_in _ (omega arith)) f.mark (λ e. refl)

    pub committing-closed : Closed n s c o (committing n c o j r)
    unfolding committing
    committing-closed =
        let f = sound-is n s c o r h.sound in
        let v = vote-is n s 4 r.vote f.own in
        let g = h.fits.vote in
        record {
          held = committed-held r.vote.command v.command g.command r.vote.deps v.deps g.deps;
          sent =
              commit-sent n s c o j p _ (others n c) r.joined f.joined h.fits.joined r.vote.command v.command g.command r.vote.deps v.deps g.deps
              (to-others n s c o j p);
        }
