-- "PrepareOK b": what a lead decides on F+1 replies. Assumes nothing.
use Prim.Native.Nat.{ℕ, ◌+◌, ◌^◌, ◌≤◌, ◌<◌}
use mathlib.Core.Path.{◌≡◌, ◌∙◌}
use mathlib.Core.Bool.{true}
use mathlib.Core.List.{List}
use native.Mathlib.Omega.{arith}
use lib.Dec.{ltb, eqb}
use lib.ListN.{length, length-set}
use borrow.Author.Tests.{leb-false, ne_eqb}
use Rattle.paper.specs.Setup.{faults}
use Rattle.paper.specs.Command.{command_ok}
use Rattle.paper.specs.Deps.{deps_ok}
use Rattle.paper.specs.Ballot.{ballot_ok, lead}
use Rattle.paper.specs.Vote.{vote_ok, told_ok, count}
use Rattle.paper.specs.Message.{vote_in}
use Rattle.paper.specs.Sound.{collected_ok, replies_ok}
use Rattle.paper.specs.declared.Command.{Command}
use Rattle.paper.specs.declared.Record.{Record}
use Rattle.paper.specs.declared.Message.{Message}
use Rattle.rules.specs.Sets.{those, lowest, with}
use Rattle.rules.specs.Step.{collect, awaited}
use Rattle.rules.specs.PrepareOk.{voter, top_voter, afresh_command, accepted_from, decide, quorum, prepared_by, on_prepare_ok}
use Rattle.paper.specs.Fits.{CommandFits, DepsFit, VoteFits, VotesFit}
use Rattle.closed.specs.Held.{Held, Closed}
use Rattle.closed.proofs.Laws.{by_cond}
use Rattle.closed.proofs.Sound.{sound-is}
use Rattle.closed.proofs.Votes.{noop-ok, noop-fits, votes-at, votes-set, reply-is}
use Rattle.closed.proofs.Shapes.{Spot, collect-replies, collect-held, unmarked}
use Rattle.closed.proofs.Heard.{awaited-is}
use Rattle.closed.proofs.Back.{silent-closed}
use Rattle.closed.proofs.Accepting.{accepting-closed, afresh-closed}

-- the record may hold F+1 replies, one more than a sound one: of it only what a decision needs
module _ (n s c o j : ℕ) (p : Spot n s c o j) (r : Record) (hb : ballot_ok n r.joined ≡ true) (lb : r.joined < 256 ^ 4) (late : 8 ≤ r.joined)
    (leads : lead o r.joined ≡ c) (plain : r.mark ≡ 0) (own : vote_ok n s 4 r.vote ≡ true) (replies : replies_ok n s c r ≡ true)
    (seven : length r.replies ≡ 7) (votes : VotesFit r.replies) where
  pub afresh-ok : command_ok (afresh_command r) ≡ true
  unfolding afresh_command
  afresh-ok =
      by_cond (λ (k : Command). command_ok k ≡ true) (eqb (those (voter r)) 0) (λ e. noop-ok)
      (λ e. (reply-is n s c r own replies seven (lowest (top_voter r))).command)

  afresh-fits : CommandFits (afresh_command r)
  unfolding afresh_command
  afresh-fits = by_cond CommandFits (eqb (those (voter r)) 0) (λ e. noop-fits) (λ e. (votes-at r.replies votes (lowest (top_voter r))).command)

  decide-closed : (d : List ℕ) → deps_ok n s d ≡ true → DepsFit d → Closed n s c o (decide n c o j r d)
  unfolding decide
  decide-closed d hd fd =
      let told = reply-is n s c r own replies seven (accepted_from n o r) in
      let fits = votes-at r.replies votes (accepted_from n o r) in
      by_cond (Closed n s c o) (ltb (accepted_from n o r) 7)
      (λ e. accepting-closed n s c o j p r hb lb leads plain _ told.command fits.command _ told.deps fits.deps)
      (λ e. afresh-closed n s c o j p r hb lb leads plain (afresh_command r) afresh-ok afresh-fits d hd fd (λ z. absurd (omega arith)))

module _ (n s c o j : ℕ) (p : Spot n s c o j) (r : Record) (h : Held n s c o r) (m : Message) (from : m.from < n) (other : m.from ≡ c → ⊥)
    (told : told_ok n s m.ballot (vote_in m) ≡ true) (fits : VoteFits (vote_in m))
    (seen : Command → List ℕ) (hs : (k : Command) → command_ok k ≡ true → deps_ok n s (seen k) ≡ true) (fs : (k : Command) → command_ok k ≡ true → DepsFit (seen k)) where
  collected : r.phase ≡ 1 → r.joined ≡ m.ballot → collected_ok n s c r.phase r.joined r.vote m.from (vote_in m) ≡ true
  unfolding collected_ok
  collected e f = rw (e, f, ne_eqb m.from c other) told

  pub on_prepare_ok-closed : Closed n s c o (on_prepare_ok n c o j r m seen)
  unfolding on_prepare_ok prepared_by quorum collect
  on_prepare_ok-closed =
      by_cond (Closed n s c o) (awaited 1 r m)
      (λ e.
      let (ph, jo, new) = awaited-is 1 r m e in
      let f = sound-is n s c o r h.sound in
      let g = h.fits in
      let low = f.live (omega arith) in
      let x = collect r m.from (vote_in m) in
      let reps = collect-replies n s c o r m.from (vote_in m) p.small from new f.set g.seven (collected ph jo) f.replies in
      let len = length-set r.replies m.from (vote_in m) ∙ g.seven in
      let vs = votes-set r.replies g.replies m.from (vote_in m) fits in
      let plain = unmarked n s c o r f (λ z. omega arith) in
      let leads = f.leads (omega arith) in
      let hk = afresh-ok n s c o j p x f.joined g.joined (f.late ph) leads plain f.own reps len vs in
      by_cond (Closed n s c o) (quorum n x)
      (λ q. decide-closed n s c o j p x f.joined g.joined (f.late ph) leads plain f.own reps len vs (seen (afresh_command x)) (hs _ hk) (fs _ hk))
      (λ q. silent-closed n s c o x
      (collect-held n s c o r m.from (vote_in m) p.small from new f.set g.seven h other p.copy (omega arith) fits (collected ph jo)
      (λ z. let l = leb-false (faults n + 1) (count (with r.set m.from)) q in omega arith))))
      (λ e. silent-closed n s c o r h)
