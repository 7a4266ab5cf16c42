-- The demand is not empty: scripts of three copies that commit and hand out, played by the rules. Assumes nothing.
use Rattle.std.specs.Prelude.{Option, Some, None}
use Prim.Native.Nat.{ℕ, zero, suc, ◌^◌, ◌<◌}
use mathlib.Core.Path.{◌≡◌, refl, ap₂}
use mathlib.Core.Bool.{Bool, true, false, ◌&&◌, not}
use mathlib.Core.List.{List, [], ◌∷◌, ◌++◌, Memᴰ}
use native.Mathlib.Omega.{arith}
use lib.Count.{ones, ones_in}
use lib.Dec.{leb, ltb, eqb}
use lib.ListN.{get_or, length}
use Rattle.paper.specs.Logic.{all_below}
use Rattle.paper.specs.Instance.{instance_ok}
use Rattle.paper.specs.Command.{noop, on_one, on_two, is_noop, same_command, command_ok, Interference, touches, same_object, interfere, Wide}
use Rattle.paper.proofs.Interference.{interfere-wide, same_object-wide}
use Rattle.paper.specs.Deps.{deps_ok, same_deps, covers, join_from}
use Rattle.paper.specs.Ballot.{ballot_ok, lead}
use Rattle.paper.specs.Vote.{blank, member, same_vote, none_is_blank, vote_ok, told_ok}
use Rattle.paper.specs.Message.{no_message, row_of}
use Rattle.paper.specs.Valid.{valid, first_failing, first_of, holds_of, entry_clauses}
use Rattle.paper.specs.declared.Op.TheVariants.{Read, Write}
use Rattle.paper.specs.declared.Command.{Command}
use Rattle.paper.specs.declared.Message.{Message}
use Rattle.rules.specs.declared.Instance.{Instance}
use Rattle.rules.specs.Sets.{bits_below, others, absent, lowest_from, largest_below, highest}
use Rattle.rules.specs.Step.{is_committed, collect, awaited, commit_back, nack_back}
use Rattle.rules.specs.Seen.{met, seen_entry, seen_from}
use Rattle.rules.specs.Accepting.{join_all, accepting, accepting_join}
use Rattle.rules.specs.Afresh.{afresh}
use Rattle.rules.specs.Committing.{committing}
use Rattle.rules.specs.Request.{is_blank, lowest_blank}
use Rattle.rules.specs.PreAccept.{pre_accept}
use Rattle.rules.specs.PreAcceptOk.{matching, different, fast_enough, slow_enough, some_enough, pre_accepted_by, on_pre_accept_ok}
use Rattle.rules.specs.Accept.{accept}
use Rattle.rules.specs.AcceptOk.{accepted_by, on_accept_ok}
use Rattle.rules.specs.Commit.{differs, commit}
use Rattle.rules.specs.Prepare.{prepare}
use Rattle.rules.specs.PrepareOk.{top_voted, maybe_fast, afresh_command, accepted_from, decide, quorum, prepared_by, on_prepare_ok}
use Rattle.rules.specs.Nack.{nack}
use Rattle.rules.specs.Recover.{out_of_ballots}
use Rattle.rules.specs.Nudge.{nothing_to_nudge, again}
use Rattle.rules.specs.Received.{by_kind, conflict, refused10}
use Rattle.rules.specs.Events.{put, request_number, on_request, on_message, on_recover, on_nudge, messages_from, messages}
use Rattle.rules.specs.Order.{instance, everywhere, somewhere, first_owner, first_number, covers_in, reaches_in, reaches, waits_for, first_open, is_settled, candidate, next_out, found}
use Rattle.safety.specs.Run.{Happening, requested, answered, Settling, settled, waits, unknown, settling, State, begun, Start, blanks, save_of, saved, happened, marked, Move, request, receive, recover, nudge, hand_out, question, Run, stay, further}
use Rattle.safety.specs.Demand.{Committed}
use Rattle.reach.proofs.Tests.{clash, and_l, and_r, not-not, eqb-eq, leb-le, ltb-lt}

-- a line of a script: copy c is asked for k; the message sent as number i arrives; copy c recovers or nudges o.j; copy c saves the
-- mark of o.j, or says whether it is settled; or one of these at a copy that works by document 01's interference
data Line : Type 0 where
  ask : ℕ → Command → Line
  arrives : ℕ → Line
  recovers nudges marks says : ℕ → ℕ → ℕ → Line
  before : Line → Line

abbrev sent_as : State → ℕ → Message
sent_as x i = get_or x.sent i no_message

module _ (n s : ℕ) where
  -- what it makes of a state, by the interference w
  abbrev after : Interference → State → Line → State
  after w x (ask c k) =
      happened (saved x c (save_of c (request_number s c (x.tables c)) (on_request w n s c (x.tables c) k)) (messages (on_request w n s c (x.tables c) k))) (requested c (request_number s c (x.tables c)) k)
  after w x (arrives i) =
      saved x (sent_as x i).to (save_of (sent_as x i).owner (sent_as x i).number (on_message w n s (sent_as x i).to (x.tables (sent_as x i).to) (sent_as x i)))
      (messages (on_message w n s (sent_as x i).to (x.tables (sent_as x i).to) (sent_as x i)))
  after w x (recovers c o j) = saved x c (save_of o j (on_recover n c (x.tables c) o j)) (messages (on_recover n c (x.tables c) o j))
  after w x (nudges c o j) = saved x c (save_of o j (on_nudge n c (x.tables c) o j)) (messages (on_nudge n c (x.tables c) o j))
  after w x (marks c o j) = marked x c o j
  after w x (says c o j) = happened x (answered c o j (settling n s (x.tables c) o j))
  after w x (before e) = after same_object x e

  -- whether it is a move there
  abbrev fair : State → Line → Bool
  fair x (ask c k) = ltb c n && not (is_noop k) && leb (request_number s c (x.tables c)) s
  fair x (arrives i) =
      ltb i (length x.sent) && ltb (sent_as x i).to n && valid n s (sent_as x i).to (sent_as x i)
      && not (refused10 (x.tables (sent_as x i).to (sent_as x i).owner (sent_as x i).number) (sent_as x i))
  fair x (recovers c o j) = ltb c n && instance_ok n s o j && not (is_committed (x.tables c o j)) && not (out_of_ballots (x.tables c o j))
  fair x (nudges c o j) = ltb c n && instance_ok n s o j && not (nothing_to_nudge (x.tables c o j))
  fair x (marks c o j) = ltb c n && found (next_out n s (x.tables c)) false (λ p i. eqb p o && eqb i j)
  fair x (says c o j) = ltb c n
  fair x (before e) = fair x e

  mem-at : (l : List Message) (i : ℕ) (d : Message) → i < length l → Memᴰ (get_or l i d) l
  mem-at [] i d h = absurd (omega arith)
  mem-at (m ∷ l) zero d h = Memᴰ.head refl
  mem-at (m ∷ l) (suc i) d h = Memᴰ.tail (mem-at l i d (omega arith))

  at-found : (f : Option Instance) (o j : ℕ) → found f false (λ p i. eqb p o && eqb i j) ≡ true → f ≡ Some (instance o j)
  at-found None o j h = clash (cc)
  at-found (Some x) o j h = ap₂ (λ (p i : ℕ). Some (instance p i)) (eqb-eq x.owner o (and_l _ (eqb x.number j) h)) (eqb-eq x.number j (and_r (eqb x.owner o) _ h))

  fair-move : (w : Interference) → Wide w → (x : State) (e : Line) → fair x e ≡ true → Move n s x (after w x e)
  fair-move w wide x (ask c k) h =
      let g = and_l _ (leb (request_number s c (x.tables c)) s) h in
      request c w k _ (ltb-lt c n (and_l _ (not (is_noop k)) g)) wide (not-not _ (and_r (ltb c n) _ g)) (leb-le _ _ (and_r (ltb c n && not (is_noop k)) _ h)) (λ m z. z)
  fair-move w wide x (arrives i) h =
      let m : Message = sent_as x i in
      let g = and_l _ (not (refused10 (x.tables m.to m.owner m.number) m)) h in
      let f = and_l _ (valid n s m.to m) g in
      receive m.to w m _ (ltb-lt m.to n (and_r (ltb i (length x.sent)) _ f)) wide (mem-at x.sent i no_message (ltb-lt i (length x.sent) (and_l _ (ltb m.to n) f)))
      (and_r (ltb i (length x.sent) && ltb m.to n) _ g) (not-not _ (and_r (ltb i (length x.sent) && ltb m.to n && valid n s m.to m) _ h)) (λ y z. z)
  fair-move w wide x (recovers c o j) h =
      let g = and_l _ (not (out_of_ballots (x.tables c o j))) h in
      let f = and_l _ (not (is_committed (x.tables c o j))) g in
      recover c o j _ (ltb-lt c n (and_l _ (instance_ok n s o j) f)) (and_r (ltb c n) _ f) (not-not _ (and_r (ltb c n && instance_ok n s o j) _ g))
      (not-not _ (and_r (ltb c n && instance_ok n s o j && not (is_committed (x.tables c o j))) _ h)) (λ y z. z)
  fair-move w wide x (nudges c o j) h =
      let f = and_l _ (not (nothing_to_nudge (x.tables c o j))) h in
      nudge c o j _ (ltb-lt c n (and_l _ (instance_ok n s o j) f)) (and_r (ltb c n) _ f) (not-not _ (and_r (ltb c n && instance_ok n s o j) _ h)) (λ y z. z)
  fair-move w wide x (marks c o j) h =
      hand_out c o j (ltb-lt c n (and_l _ (found (next_out n s (x.tables c)) false (λ p i. eqb p o && eqb i j)) h)) (at-found (next_out n s (x.tables c)) o j (and_r (ltb c n) _ h))
  fair-move w wide x (says c o j) h = question c o j (ltb-lt c n h)
  fair-move w wide x (before e) h = fair-move same_object same_object-wide x e h

  -- a script played from a state
  abbrev played : State → List Line → State
  played x [] = x
  played x (e ∷ l) = played (after interfere x e) l

  abbrev fairly : State → List Line → Bool
  fairly x [] = true
  fairly x (e ∷ l) = fair x e && fairly (after interfere x e) l

  play : {x₀ : State} (x : State) (l : List Line) → Run n s x₀ x → fairly x l ≡ true → Run n s x₀ (played x l)
  play x [] r h = r
  play x (e ∷ l) r h =
      play (after interfere x e) l (further r (fair-move interfere interfere-wide x e (and_l _ (fairly (after interfere x e) l) h))) (and_r (fair x e) _ h)

pub write : ℕ → Command
write e = on_one Write 7 e

pub read : ℕ → Command
read e = on_one Read 7 e

-- a write of another object, and a rewire of both
pub other : ℕ → Command
other e = on_one Write 9 e

pub rewire : ℕ → Command
rewire e = on_two 7 9 e

pub deps : ℕ → ℕ → ℕ → List ℕ
deps a b c = a ∷ b ∷ c ∷ 0 ∷ 0 ∷ 0 ∷ 0 ∷ []

-- the owner commits on one matching reply
fast : List Line
fast = ask 0 (write 1) ∷ arrives 0 ∷ arrives 2 ∷ []

-- copy 1 was asked for a write of the same key and adds it; the owner goes on through Accept
slow : List Line
slow = ask 0 (write 1) ∷ ask 1 (write 2) ∷ arrives 0 ∷ arrives 4 ∷ nudges 0 0 1 ∷ arrives 5 ∷ arrives 7 ∷ []

-- both are committed at copies 0 and 1, and handed out there
out : List Line
out = arrives 3 ∷ arrives 10 ∷ arrives 11 ∷ arrives 8 ∷ marks 0 1 1 ∷ marks 0 0 1 ∷ marks 1 1 1 ∷ marks 1 0 1 ∷ []

-- copy 1 recovers an instance that nobody was asked for
lost : List Line
lost = recovers 1 0 1 ∷ arrives 1 ∷ arrives 2 ∷ arrives 4 ∷ arrives 5 ∷ arrives 7 ∷ arrives 8 ∷ []

-- copy 2 recovers what copy 1 pre-accepted as it came, the owner away
saved-edit : List Line
saved-edit = ask 0 (write 1) ∷ arrives 0 ∷ recovers 2 0 1 ∷ arrives 4 ∷ arrives 5 ∷ arrives 7 ∷ arrives 8 ∷ []

-- copy 0 is asked before and after its commit
told : List Line
told = ask 0 (write 1) ∷ says 0 0 1 ∷ arrives 0 ∷ arrives 2 ∷ says 0 0 1 ∷ says 0 0 2 ∷ []

-- two reads of one object at once: each owner commits on the other's answer, and hands its own out while the other's is open there
reads : List Line
reads = ask 0 (read 1) ∷ ask 1 (read 2) ∷ arrives 0 ∷ arrives 2 ∷ arrives 4 ∷ arrives 5 ∷ says 0 0 1 ∷ says 1 1 1 ∷ marks 0 0 1 ∷ marks 1 1 1 ∷ []

-- copy 1 works by document 01 until it has answered, and adds its own read; it goes on by 4/12, and all that follows is as in `slow`
mixed : List Line
mixed = ask 0 (read 1) ∷ before (ask 1 (read 2)) ∷ before (arrives 0) ∷ arrives 4 ∷ nudges 0 0 1 ∷ arrives 5 ∷ arrives 7 ∷ []

-- writes of two objects, each fast; copy 2, which took both, is asked for a rewire of them: it commits fast, and is handed out last
rewires : List Line
rewires =
    ask 0 (write 1) ∷ ask 1 (other 2) ∷ arrives 1 ∷ arrives 4 ∷ arrives 3 ∷ arrives 7 ∷ ask 2 (rewire 3) ∷ arrives 10 ∷ arrives 12 ∷ says 2 2 1 ∷ arrives 6 ∷ says 2 2 1 ∷ arrives 9
    ∷ says 2 2 1 ∷ marks 2 0 1 ∷ marks 2 1 1 ∷ marks 2 2 1 ∷ []

-- five copies: two matching replies wait, the third commits
five-waits : List Line
five-waits = ask 0 (write 1) ∷ arrives 0 ∷ arrives 1 ∷ arrives 2 ∷ arrives 4 ∷ arrives 5 ∷ []

five-fast : List Line
five-fast = five-waits ++ arrives 6 ∷ []

-- copy 1 adds its own write: two replies that differ are enough, and then two AcceptOKs
five-slow : List Line
five-slow = ask 0 (write 1) ∷ ask 1 (write 2) ∷ arrives 0 ∷ arrives 1 ∷ arrives 8 ∷ arrives 9 ∷ arrives 10 ∷ arrives 11 ∷ arrives 14 ∷ arrives 15 ∷ []

-- copy 3 recovers what copies 1 and 2 took as it came, which may have been a fast commit
five-perhaps : List Line
five-perhaps =
    ask 0 (write 1) ∷ arrives 0 ∷ arrives 1 ∷ recovers 3 0 1 ∷ arrives 7 ∷ arrives 8 ∷ arrives 10 ∷ arrives 11 ∷ arrives 13 ∷ arrives 14 ∷ arrives 16 ∷ arrives 17 ∷ []

-- what copy 1 alone took cannot have been: it is asked for anew
five-asks : List Line
five-asks = ask 0 (write 1) ∷ arrives 0 ∷ recovers 3 0 1 ∷ arrives 6 ∷ arrives 7 ∷ arrives 9 ∷ arrives 10 ∷ []

five-afresh : List Line
five-afresh = five-asks ++ arrives 12 ∷ arrives 13 ∷ arrives 15 ∷ arrives 16 ∷ arrives 18 ∷ arrives 19 ∷ arrives 21 ∷ arrives 22 ∷ []

-- seven copies: four matching replies wait, the fifth commits
seven-waits : List Line
seven-waits = ask 0 (write 1) ∷ arrives 0 ∷ arrives 1 ∷ arrives 2 ∷ arrives 3 ∷ arrives 4 ∷ arrives 6 ∷ arrives 7 ∷ arrives 8 ∷ arrives 9 ∷ []

seven-fast : List Line
seven-fast = seven-waits ++ arrives 10 ∷ []

-- two that differ wait, the third goes on
seven-two : List Line
seven-two = ask 0 (write 1) ∷ ask 1 (write 2) ∷ arrives 0 ∷ arrives 1 ∷ arrives 2 ∷ arrives 12 ∷ arrives 13 ∷ []

seven-slow : List Line
seven-slow = seven-two ++ arrives 14 ∷ arrives 15 ∷ arrives 16 ∷ arrives 17 ∷ arrives 21 ∷ arrives 22 ∷ arrives 23 ∷ []

-- copy 4 recovers what three others took as it came
seven-perhaps : List Line
seven-perhaps =
    ask 0 (write 1) ∷ arrives 0 ∷ arrives 1 ∷ arrives 2 ∷ recovers 4 0 1 ∷ arrives 10 ∷ arrives 11 ∷ arrives 12 ∷ arrives 15 ∷ arrives 16 ∷ arrives 17 ∷ arrives 19 ∷ arrives 20 ∷ arrives 21
    ∷ arrives 24 ∷ arrives 25 ∷ arrives 26 ∷ []

-- what two others took cannot have been fast: it is asked for anew
seven-asks : List Line
seven-asks = ask 0 (write 1) ∷ arrives 0 ∷ arrives 1 ∷ recovers 4 0 1 ∷ arrives 9 ∷ arrives 10 ∷ arrives 11 ∷ arrives 14 ∷ arrives 15 ∷ arrives 16 ∷ []

seven-afresh : List Line
seven-afresh =
    seven-asks ++ arrives 18 ∷ arrives 19 ∷ arrives 20 ∷ arrives 23 ∷ arrives 24 ∷ arrives 25 ∷ arrives 27 ∷ arrives 28 ∷ arrives 29 ∷ arrives 32 ∷ arrives 33 ∷ arrives 34 ∷ []

-- what was asked for fits the calls: its keys are as its op has them, each a u32, and its edit is a u64
abbrev pub fitting : List (Happening Settling) → Bool
fitting [] = true
fitting (requested o j k ∷ l) = command_ok k && (ltb k.key (256 ^ 4) && ltb k.second (256 ^ 4) && ltb k.edit (256 ^ 8)) && fitting l
fitting (answered c o j a ∷ l) = fitting l

-- a script that is fair leads to a state of a run in which P holds
pub record Reached (n s : ℕ) (P : State → Type 0) : Type 0 where
  pub first : State
  pub start : Start n s first
  pub state : State
  pub run : Run n s first state
  pub fits : fitting state.history ≡ true
  pub holds : P state

abbrev empty : State
empty = begun (λ c o j. blank) []

by-script : (n s : ℕ) (l : List Line) (P : State → Type 0) → fairly n s empty l ≡ true → fitting (played n s empty l).history ≡ true → P (played n s empty l)
    → Reached n s P
by-script n s l P f g h = record { first = empty; start = blanks; state = played n s empty l; run = play n s empty l stay f; fits = g; holds = h }

pub record Shown : Type 0 where
  -- a fast commit
  pub fast : Reached 3 1 (λ x. Committed x 0 0 1 (write 1) (deps 0 0 0))
  -- a commit through Accept
  pub slow : Reached 3 1 (λ x. Committed x 0 0 1 (write 1) (deps 0 1 0))
  -- a no-op by recovery
  pub lost : Reached 3 1 (λ x. Committed x 1 0 1 noop (deps 0 0 0))
  -- a command by recovery
  pub saved : Reached 3 1 (λ x. Committed x 2 0 1 (write 1) (deps 0 0 0))
  -- two that interfere, handed out at two copies
  pub out : Reached 3 1 (λ x. Committed x 0 0 1 (write 1) (deps 0 1 0) × Committed x 1 1 1 (write 2) (deps 0 0 0)
      × (x.marks 0 ≡ (1, 1) ∷ (0, 1) ∷ []) × (x.marks 1 ≡ (1, 1) ∷ (0, 1) ∷ []))
  -- questions and the request that they stand after, in their order
  pub told : Reached 3 1 (λ x. x.history
      ≡ requested 0 1 (write 1) ∷ answered 0 0 1 (waits 0 1) ∷ answered 0 0 1 (settled (write 1)) ∷ answered 0 0 2 unknown ∷ [])
  -- two reads of one object, each handed out by its owner, where the other is open
  pub reads : Reached 3 1 (λ x. Committed x 0 0 1 (read 1) (deps 0 0 0) × Committed x 1 1 1 (read 2) (deps 0 0 0)
      × ((x.tables 0 1 1).vote.status ≡ 2) × ((x.tables 1 0 1).vote.status ≡ 2) × (x.marks 0 ≡ (0, 1) ∷ []) × (x.marks 1 ≡ (1, 1) ∷ [])
      × (x.history ≡ requested 0 1 (read 1) ∷ requested 1 1 (read 2) ∷ answered 0 0 1 (settled (read 1)) ∷ answered 1 1 1 (settled (read 2)) ∷ []))
  -- a copy that works by document 01 and then by 4/12, beside copies that work by 4/12: one read covers the other
  pub mixed : Reached 3 1 (λ x. Committed x 0 0 1 (read 1) (deps 0 1 0) × Committed x 1 1 1 (read 2) (deps 0 0 0)
      × (x.marks 0 ≡ (1, 1) ∷ (0, 1) ∷ []) × (x.marks 1 ≡ (1, 1) ∷ (0, 1) ∷ []))
  -- a rewire of two objects covers the write of each, is not settled before both are, and is handed out after them
  pub rewires : Reached 3 1 (λ x. Committed x 2 2 1 (rewire 3) (deps 1 1 0) × Committed x 0 0 1 (write 1) (deps 0 0 0) × Committed x 1 1 1 (other 2) (deps 0 0 0)
      × (x.marks 2 ≡ (0, 1) ∷ (1, 1) ∷ (2, 1) ∷ [])
      × (x.history ≡ requested 0 1 (write 1) ∷ requested 1 1 (other 2) ∷ requested 2 1 (rewire 3) ∷ answered 2 2 1 (waits 0 1) ∷ answered 2 2 1 (waits 1 1)
      ∷ answered 2 2 1 (settled (rewire 3)) ∷ []))

-- and of five and of seven copies, each beside the moment before, when it is not yet so
pub record Larger : Type 0 where
  pub five-waits : Reached 5 1 (λ x. (x.tables 0 0 1).vote.status ≡ 2)
  pub five-fast : Reached 5 1 (λ x. Committed x 0 0 1 (write 1) (deps 0 0 0))
  pub five-slow : Reached 5 1 (λ x. Committed x 0 0 1 (write 1) (deps 0 1 0))
  pub five-perhaps : Reached 5 1 (λ x. Committed x 3 0 1 (write 1) (deps 0 0 0))
  pub five-asks : Reached 5 1 (λ x. (x.tables 3 0 1).phase ≡ 2)
  pub five-afresh : Reached 5 1 (λ x. Committed x 3 0 1 (write 1) (deps 0 0 0))
  pub seven-waits : Reached 7 1 (λ x. (x.tables 0 0 1).vote.status ≡ 2)
  pub seven-fast : Reached 7 1 (λ x. Committed x 0 0 1 (write 1) (deps 0 0 0))
  pub seven-two : Reached 7 1 (λ x. (x.tables 0 0 1).vote.status ≡ 2)
  pub seven-slow : Reached 7 1 (λ x. Committed x 0 0 1 (write 1) (deps 0 1 0))
  pub seven-perhaps : Reached 7 1 (λ x. Committed x 4 0 1 (write 1) (deps 0 0 0))
  pub seven-asks : Reached 7 1 (λ x. (x.tables 4 0 1).phase ≡ 2)
  pub seven-afresh : Reached 7 1 (λ x. Committed x 4 0 1 (write 1) (deps 0 0 0))

pub shown : Shown × Larger
unfolding fast slow out lost saved-edit told reads mixed rewires five-waits five-fast five-slow five-perhaps five-asks five-afresh seven-waits seven-fast seven-two seven-slow
    seven-perhaps seven-asks seven-afresh write read other rewire deps put request_number lowest_blank is_blank same_vote same_command same_deps all_below on_request
    Rattle.rules.specs.Request.request afresh others absent bits_below messages_from member valid first_failing first_of holds_of entry_clauses row_of ballot_ok lead command_ok
    deps_ok vote_ok told_ok none_is_blank instance_ok conflict differs on_message by_kind pre_accept seen_from seen_entry highest met touches same_object interfere join_from
    on_pre_accept_ok awaited collect pre_accepted_by fast_enough slow_enough some_enough matching different committing accepting_join accepting join_all
    accept on_accept_ok accepted_by commit prepare on_prepare_ok prepared_by quorum decide accepted_from afresh_command top_voted maybe_fast lowest_from
    largest_below nack on_recover Rattle.rules.specs.Recover.recover on_nudge Rattle.rules.specs.Nudge.nudge again commit_back nack_back ones ones_in
    next_out first_number first_owner first_open candidate is_settled waits_for reaches reaches_in covers_in covers everywhere somewhere
shown = (
  record {
    fast = by-script 3 1 fast _ refl refl (record { status = refl; command = refl; deps = refl });
    slow = by-script 3 1 slow _ refl refl (record { status = refl; command = refl; deps = refl });
    lost = by-script 3 1 lost _ refl refl (record { status = refl; command = refl; deps = refl });
    saved = by-script 3 1 saved-edit _ refl refl (record { status = refl; command = refl; deps = refl });
    out = by-script 3 1 (slow ++ out) _ refl refl (record { status = refl; command = refl; deps = refl }, record { status = refl; command = refl; deps = refl }, refl, refl);
    told = by-script 3 1 told _ refl refl refl;
    reads = by-script 3 1 reads _ refl refl (record { status = refl; command = refl; deps = refl }, record { status = refl; command = refl; deps = refl }, refl, refl, refl, refl, refl);
    mixed = by-script 3 1 (mixed ++ out) _ refl refl (record { status = refl; command = refl; deps = refl }, record { status = refl; command = refl; deps = refl }, refl, refl);
    rewires = by-script 3 1 rewires _ refl refl (record { status = refl; command = refl; deps = refl }, record { status = refl; command = refl; deps = refl }, record { status = refl; command = refl; deps = refl }, refl, refl);
  },
  record {
    five-waits = by-script 5 1 five-waits _ refl refl refl;
    five-fast = by-script 5 1 five-fast _ refl refl (record { status = refl; command = refl; deps = refl });
    five-slow = by-script 5 1 five-slow _ refl refl (record { status = refl; command = refl; deps = refl });
    five-perhaps = by-script 5 1 five-perhaps _ refl refl (record { status = refl; command = refl; deps = refl });
    five-asks = by-script 5 1 five-asks _ refl refl refl;
    five-afresh = by-script 5 1 five-afresh _ refl refl (record { status = refl; command = refl; deps = refl });
    seven-waits = by-script 7 1 seven-waits _ refl refl refl;
    seven-fast = by-script 7 1 seven-fast _ refl refl (record { status = refl; command = refl; deps = refl });
    seven-two = by-script 7 1 seven-two _ refl refl refl;
    seven-slow = by-script 7 1 seven-slow _ refl refl (record { status = refl; command = refl; deps = refl });
    seven-perhaps = by-script 7 1 seven-perhaps _ refl refl (record { status = refl; command = refl; deps = refl });
    seven-asks = by-script 7 1 seven-asks _ refl refl refl;
    seven-afresh = by-script 7 1 seven-afresh _ refl refl (record { status = refl; command = refl; deps = refl });
  },
)
