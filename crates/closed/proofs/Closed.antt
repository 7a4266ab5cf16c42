-- Every event keeps every record of a table sound and writable, and what it sends is valid where it goes. Assumes nothing.
use Rattle.std.specs.Prelude.{Option, Some, None}
use Prim.Native.Nat.{ℕ, zero, suc, ◌+◌, ◌*◌, ◌-◌, ◌≤◌}
use mathlib.Core.Path.{◌≡◌, refl, sym, ◌∙◌}
use mathlib.Core.Bool.{Bool, true, false, ◌&&◌, cond}
use native.Mathlib.Omega.{arith}
use native.Mathlib.Nat.{mul-le-mul}
use lib.Dec.{eqb}
use lib.ListN.{length}
use borrow.Author.Tests.{eqb-true, lt-ltb, le-leb}
use Rattle.paper.specs.Setup.{setup_ok}
use Rattle.paper.specs.Instance.{instance_ok}
use Rattle.paper.specs.Command.{is_noop, command_ok, Interference}
use Rattle.paper.specs.Deps.{deps_ok}
use Rattle.paper.specs.Message.{kind_of, parts_of, parts_in}
use Rattle.paper.proofs.Bodies.{said-told}
use Rattle.paper.specs.Valid.{valid}
use Rattle.paper.specs.Vote.{blank, member}
use Rattle.paper.specs.declared.Command.{Command}
use Rattle.paper.specs.declared.Record.{Record}
use Rattle.paper.specs.declared.Message.{Message}
use Rattle.rules.specs.declared.Step.{Step}
use Rattle.rules.specs.Seen.{Records, seen}
use Rattle.rules.specs.Step.{is_committed}
use Rattle.rules.specs.Request.{is_blank, lowest_blank}
use Rattle.rules.specs.Recover.{out_of_ballots}
use Rattle.rules.specs.Nudge.{nothing_to_nudge}
use Rattle.rules.specs.Events.{put, request_number, on_request, on_message, on_recover, on_nudge, addressed, messages}
use Rattle.rules.specs.declared.Instance.{Instance}
use Rattle.rules.specs.Order.{instance, candidate, marked, mark, next_out, found, handed_out}
use Rattle.paper.specs.Fits.{CommandFits, MessageFits}
use Rattle.closed.specs.Held.{Held, Sent, Closed, SoundRecords}
use Rattle.closed.proofs.Laws.{both, by_cond, two}
use Rattle.rules.proofs.Seen.{seen-length}
use Rattle.closed.proofs.Deps.{seen-ok, deps-fit}
use Rattle.closed.proofs.Shapes.{setup-is, spot, blank-held}
use Rattle.closed.proofs.Says.{few-messages}
use Rattle.closed.proofs.Heard.{heard, valid-instance}
use Rattle.closed.proofs.Request.{request-closed}
use Rattle.closed.proofs.Received.{by_kind-closed}
use Rattle.closed.proofs.Recover.{recover-closed}
use Rattle.closed.proofs.Nudge.{nudge-closed}
use Rattle.closed.proofs.Mark.{marked-held, Found, candidate-committed, next_out-found}

module _ (n s c : ℕ) (setup : setup_ok n s c ≡ true) where
  -- a blank table
  pub blanks-sound : SoundRecords n s c (λ o j. blank)
  blanks-sound o j i = blank-held n s c o

  -- a record that holds, put into a table
  pub put-sound : (t : Records) → SoundRecords n s c t → (o j : ℕ) (r : Record) → Held n s c o r → SoundRecords n s c (put t o j r)
  unfolding put
  put-sound t all o j r h p i e = go (eqb p o && eqb i j) refl
    where
      go : (b : Bool) → (eqb p o && eqb i j) ≡ b → Held n s c p (cond b r (t p i))
      go true f = let (a, g) = two _ _ f in rw (eqb-true p o a) h
      go false f = all p i e

  module _ (t : Records) (all : SoundRecords n s c t) where
    -- a request's number is one of the owner's, where one of them is blank
    first : (k j : ℕ) (row : ℕ → Record) → j ≤ lowest_blank k j row
    unfolding lowest_blank
    first zero j row = omega arith
    first (suc k) j row = by_cond (λ (x : ℕ). j ≤ x) (is_blank (row j)) (λ e. omega arith) (λ e. omega (arith, first k (j + 1) row))

    own : request_number s c t ≤ s → instance_ok n s c (request_number s c t) ≡ true
    unfolding request_number instance_ok
    own l = both _ _ (lt-ltb c n (setup-is n s c setup).3) (both _ _ (le-leb _ _ (first s 1 (t c))) (le-leb _ _ l))

    -- what each event leaves at its instance, and what it sends
    pub request-event : (w : Interference) (k : Command) → command_ok k ≡ true → CommandFits k → is_noop k ≡ false → request_number s c t ≤ s → Closed n s c c (on_request w n s c t k)
    unfolding on_request
    request-event w k hk fk op l =
        let j = request_number s c t in
        let p = spot n s c c j setup (own l) in
        let d = seen-ok n s w t c j k in
        request-closed n s c j p k hk fk op (seen w n s t c j k) d (deps-fit n s _ p.numbers (seen-length w n s t c j k) d)

    -- also where refusal 10 is given: the rule would keep the record
    pub message-event : (w : Interference) (m : Message) → valid n s c m ≡ true → MessageFits m → Closed n s c m.owner (on_message w n s c t m)
    unfolding on_message
    message-event w m v g =
        let i = valid-instance n s c m v in
        let p = spot n s c m.owner m.number setup i in
        let d : (k : Command) → deps_ok n s (seen w n s t m.owner m.number k) ≡ true = λ k. seen-ok n s w t m.owner m.number k in
        by_kind-closed n s c m.owner m.number p (seen w n s t m.owner m.number) (λ k e. d k)
        (λ k e. deps-fit n s _ p.numbers (seen-length w n s t m.owner m.number k) (d k)) (t m.owner m.number) (all m.owner m.number i) m m.body refl
        (heard n s c m v g)

    pub recover-event : (o j : ℕ) → instance_ok n s o j ≡ true → is_committed (t o j) ≡ false → out_of_ballots (t o j) ≡ false → Closed n s c o (on_recover n c t o j)
    unfolding on_recover
    recover-event o j i = recover-closed n s c o j (spot n s c o j setup i) (t o j) (all o j i)

    pub nudge-event : (o j : ℕ) → instance_ok n s o j ≡ true → nothing_to_nudge (t o j) ≡ false → Closed n s c o (on_nudge n c t o j)
    unfolding on_nudge
    nudge-event o j i = nudge-closed n s c o j (spot n s c o j setup i) (t o j) (all o j i)

    -- each event keeps the whole table sound
    pub request-sound : (w : Interference) (k : Command) → command_ok k ≡ true → CommandFits k → is_noop k ≡ false → request_number s c t ≤ s
        → SoundRecords n s c (put t c (request_number s c t) (on_request w n s c t k).entry)
    request-sound w k hk fk op l = put-sound t all c (request_number s c t) _ (request-event w k hk fk op l).held

    pub message-sound : (w : Interference) (m : Message) → valid n s c m ≡ true → MessageFits m → SoundRecords n s c (put t m.owner m.number (on_message w n s c t m).entry)
    message-sound w m v g = put-sound t all m.owner m.number _ (message-event w m v g).held

    pub recover-sound : (o j : ℕ) → instance_ok n s o j ≡ true → is_committed (t o j) ≡ false → out_of_ballots (t o j) ≡ false
        → SoundRecords n s c (put t o j (on_recover n c t o j).entry)
    recover-sound o j i e b = put-sound t all o j _ (recover-event o j i e b).held

    pub nudge-sound : (o j : ℕ) → instance_ok n s o j ≡ true → nothing_to_nudge (t o j) ≡ false → SoundRecords n s c (put t o j (on_nudge n c t o j).entry)
    nudge-sound o j i e = put-sound t all o j _ (nudge-event o j i e).held

    pub mark-sound : (o j : ℕ) → instance_ok n s o j ≡ true → is_committed (t o j) ≡ true → SoundRecords n s c (mark t o j)
    mark-sound o j i e = put-sound t all o j (marked (t o j)) (marked-held n s c o (t o j) (all o j i) e)

  -- hand-out keeps it too
  pub handed_out-sound : (room : ℕ) (t : Records) → SoundRecords n s c t → SoundRecords n s c (handed_out room n s t)
  unfolding handed_out
  handed_out-sound zero t all = all
  handed_out-sound (suc room) t all = go (next_out n s t) (next_out-found n s t) (λ u h. handed_out-sound room u h)
    where
      go : (x : Option Instance) → Found n s (candidate n s t) x → ((u : Records) → SoundRecords n s c u → SoundRecords n s c (handed_out room n s u))
          → SoundRecords n s c (found x t (λ o j. handed_out room n s (mark t o j)))
      go None g more = all
      go (Some i) g more = more (mark t i.owner i.number) (mark-sound t all i.owner i.number g.0 (candidate-committed n s t i.owner i.number g.0 g.1))

  -- what goes out fits, with its destination filled in
  pub addressed-fits : (x : Step) → Sent n s c x → (q : ℕ) → member q x.to ≡ true → MessageFits (addressed x.message q)
  addressed-fits x h q e =
      let f = h.fits in
      let t = h.each q e in
      let (least, most, numbers, copy) = setup-is n s c setup in
      record { from = f.from; to = omega (arith, t.copy); owner = f.owner; number = f.number; ballot = f.ballot; body = f.body; deps = f.deps }

  -- at most N-1 messages go out, so at most six
  pub few : (x : Step) → Sent n s c x → (length (messages x) ≤ n - 1) × (n - 1 ≤ 6)
  few x h =
      let (least, most, numbers, copy) = setup-is n s c setup in
      (few-messages n c x.to x.message (λ q e. let t = h.each q e in (t.copy, t.other)) copy, omega arith)

  -- whatever the lengths of the kinds are, if they are at most 41, and 46 where a vote is told: at most 246 bytes go out
  pub room : (size : ℕ → ℕ) → ((k : ℕ) → (parts_of k).told ≡ false → size k ≤ 41) → ((k : ℕ) → size k ≤ 46) → (x : Step) → Sent n s c x
      → length (messages x) * size (kind_of x.message.body) ≤ 246
  room size short long x h = go (parts_in x.message.body).told refl
    where
      go : (b : Bool) → (parts_in x.message.body).told ≡ b → length (messages x) * size (kind_of x.message.body) ≤ 246
      go true e = omega (arith, mul-le-mul (h.single (sym (said-told x.message.body) ∙ e)) (long (kind_of x.message.body)))
      go false e = let l : length (messages x) ≤ 6 = let (a, b) = few x h in omega arith in omega (arith, mul-le-mul l (short (kind_of x.message.body) e))
