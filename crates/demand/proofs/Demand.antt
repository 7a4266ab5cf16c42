-- Demand 3 holds of every run over bytes, for every setup. Assumes nothing.
use Rattle.std.specs.Prelude.{Option, Some, None, Result, Ok}
use Prim.Native.Nat.{ℕ, ◌<◌}
use mathlib.Core.Logic.{inl, inr, ⊎_elim}
use mathlib.Core.Path.{◌≡◌, refl, sym, ap, ◌∙◌}
use mathlib.Core.Bool.{Bool, true, false, ◌&&◌, ◌||◌, not, cond}
use mathlib.Core.List.{List, ◌++◌, Memᴰ}
use native.Mathlib.Omega.{arith}
use lib.Dec.{ltb, eqb}
use lib.ListN.{length}
use borrow.Author.Tests.{not-false}
use Rattle.paper.specs.Command.{is_noop, Interference, interfere}
use Rattle.paper.specs.Instance.{instance_ok}
use Rattle.paper.specs.Refusal.{number_of}
use Rattle.paper.specs.Valid.{valid}
use Rattle.paper.proofs.Laws.{and-true}
use Rattle.paper.specs.declared.Command.{Command}
use Rattle.paper.specs.declared.Record.{Record}
use Rattle.paper.specs.declared.Message.{Message}
use Rattle.paper.specs.declared.Refusal.{Refusal}
use Rattle.paper.specs.declared.Refusal.TheVariants as why
use Rattle.rules.specs.declared.Step.{Step}
use Rattle.rules.specs.declared.Instance as named
use Rattle.rules.specs.Seen.{Records}
use Rattle.rules.specs.Step.{is_committed}
use Rattle.rules.specs.Received.{refused10}
use Rattle.rules.specs.Recover.{out_of_ballots}
use Rattle.rules.specs.Nudge.{nothing_to_nudge}
use Rattle.rules.specs.Events.{request_number}
use Rattle.rules.specs.Order.{instance, found, first_open}
use Rattle.paper.specs.Message.{parts_of}
use Rattle.wire.specs.Wire.{kind_at, message_at, valid_bytes, verdict_at, framed, op_fits}
use Rattle.wire.proofs.Laws.{why_read, why-other}
use Rattle.table.specs.Table.{record_in, Kept}
use Rattle.seen.specs.Records.{records_in}
use Rattle.closed.proofs.Laws.{by_cond, tf}
use Rattle.closed.proofs.Heard.{valid-instance}
use Rattle.gate.specs.Events.{Outcome, refuse, acted, command_of, command_taken, asked, request_open, receive_open, recover_open, nudge_open, answer_number}
use Rattle.gate.specs.Events as log
use Rattle.order.specs.Calls.{settled_open, settled, handed_open, handed, settling_number, handing_number}
use Rattle.order.specs.declared.Settling.{Settling}
use Rattle.order.specs.declared.Settling.TheVariants as settling
use Rattle.safety.specs.Run.{Instance, requested, Setup}
use Rattle.safety.specs.Run as rules
use Rattle.safety.specs.Demand as rules-demand
use Rattle.safety.proofs.Demand as rules-proved
use Rattle.demand.specs.Run.{saved_table, State, Start, Call, request, receive, recover, nudge, outcome, Run, stay}
use Rattle.demand.specs.Demand.{in_place, Committed, Unrefused, Lasting, Demand}
use Rattle.gate.proofs.Calls.{setup-of, receive-open}
use Rattle.demand.proofs.Records.{at-range}
use Rattle.demand.proofs.Handing.{sound-judged}
use Rattle.demand.proofs.History.{requested-heard}
use Rattle.demand.proofs.Steps.{gate-is}
use Rattle.demand.proofs.Bridge.{Tie, Next, begin, in_memory, lent-kept, bridge}

module _ (n s : ℕ) (setup : Setup n s) where
  -- the rules' run beside a moment x and a later one y
  module _ (x₀ x y : State) (st : Start n s x₀) (rx : Run n s x₀ x) (ry : Run n s x y) where
    abbrev at_x : Next n s setup (begin n s setup st).first x
    at_x = bridge n s setup (begin n s setup st).first (begin n s setup st).tie rx

    abbrev at_y : Next n s setup at_x.later y
    at_y = bridge n s setup at_x.later at_x.tie ry

  -- a commit in saved bytes is one of the rules, and back
  pub record_is : (x : State) (y : rules.State) → Tie n s setup x y → (c o j : ℕ) → instance_ok n s o j ≡ true → y.tables c o j ≡ record_in s (saved_table (x.copies c)) o j
  record_is x y t c o j i = ap (λ (u : Records). u o j) (t.copies c).table ∙ at-range n s (saved_table (x.copies c)) o j i

  to-rules : (x : State) (y : rules.State) → Tie n s setup x y → (c o j : ℕ) (k : Command) (d : List ℕ) → Committed n s (in_place n s) x c o j k d → rules-demand.Committed y c o j k d
  to-rules x y t c o j k d h =
      let e = record_is x y t c o j h.range in
      record { status = rw e h.status; command = rw e h.command; deps = rw e h.deps }

  pub of-rules : (x : State) (y : rules.State) → Tie n s setup x y → (c o j : ℕ) (k : Command) (d : List ℕ) → c < n → instance_ok n s o j ≡ true
      → rules-demand.Committed y c o j k d → Committed n s (in_place n s) x c o j k d
  of-rules x y t c o j k d l i h =
      let e = record_is x y t c o j i in
      record { copy = l; range = i; status = rw (← e) h.status; command = rw (← e) h.command; deps = rw (← e) h.deps }

  -- no call on a sound table is refused 1 or 11
  abbrev Other : ℕ → Type 0
  Other a = (a ≡ 1 → ⊥) × (a ≡ 11 → ⊥)

  other : (a : ℕ) → (eqb a 1 || eqb a 11) ≡ false → Other a
  other a h = (λ e. tf (eqb a 1 || eqb a 11) (rw e) h, λ e. tf (eqb a 1 || eqb a 11) (rw e) h)

  record Fine (x : Outcome) : Type 0 where
    is : Other (answer_number x.answer)

  -- a refusal that is neither, or the rest
  or_else : (b : Bool) (r : Refusal) (t out : List ℕ) (rest : Outcome) → (eqb (number_of r) 1 || eqb (number_of r) 11) ≡ false → Fine rest → Fine (cond b (refuse r t out) rest)
  or_else b r t out rest h f = by_cond Fine b (λ e. record { is = other (number_of r) h }) (λ e. f)

  done : (t out : List ℕ) (o j : ℕ) (x : Step) → Fine (acted s t out o j x)
  unfolding acted
  done t out o j x = record { is = other 0 refl }

  asked-fine : (w : Interference) (c : ℕ) (t out : List ℕ) (v : Command) → Fine (asked w n s c t out v)
  unfolding asked
  asked-fine w c t out v = or_else (ltb s (request_number s c (records_in s t))) why.NoBlank t out _ refl (done t out _ _ _)

  request-fine : (c : ℕ) (t out : List ℕ) → Kept n s c t → (op key second edit : ℕ) → Fine (log.requested n s c t out op key second edit)
  unfolding request_open
  request-fine c t out k op key second edit =
      rw (gate-is n s c t out (request_open n s c t out op key second edit) k)
      (or_else (ltb (length out) 256) why.Room t out _ refl (or_else (not (command_taken op key second edit)) why.Op t out _ refl (asked-fine interfere c t out (command_of op key second edit))))

  open-fine : (c : ℕ) (t out : List ℕ) → Kept n s c t → (call : Call) → Fine (outcome n s c t out call)
  unfolding recover_open nudge_open
  open-fine c t out k (request w v) =
      rw (gate-is n s c t out (asked w n s c t out v) k) (or_else (ltb (length out) 256) why.Room t out _ refl (asked-fine w c t out v))
  open-fine c t out k (receive w b) =
      let r : Record = record_in s t (message_at b).owner (message_at b).number in
      let other : (k : ℕ) → k < 31 → eqb (number_of (why_read n s c b)) k ≡ false = why-other (parts_of (kind_at b)) (verdict_at n s c b) in
      let ungated : (eqb (number_of (why_read n s c b)) 1 || eqb (number_of (why_read n s c b)) 11) ≡ false = rw (other 1 (omega arith), other 11 (omega arith)) in
      rw (gate-is n s c t out (receive_open w n s c t out b) k, receive-open w n s c t out b (setup-of n s c t k.setup))
      (or_else (ltb (length out) 256) why.Room t out _ refl
      (or_else (not (valid_bytes n s c b)) (why_read n s c b) t out _ ungated (or_else (refused10 r (message_at b)) why.OtherCommit t out _ refl (done t out _ _ _))))
  open-fine c t out k (recover o j) =
      let r : Record = record_in s t o j in
      rw (gate-is n s c t out (recover_open n s c t out o j) k)
      (or_else (ltb (length out) 256) why.Room t out _ refl
      (or_else (not (instance_ok n s o j)) why.Instance t out _ refl
      (or_else (is_committed r) why.RecoverCommitted t out _ refl (or_else (out_of_ballots r) why.BallotsUsedUp t out _ refl (done t out _ _ _)))))
  open-fine c t out k (nudge o j) =
      rw (gate-is n s c t out (nudge_open n s c t out o j) k)
      (or_else (ltb (length out) 256) why.Room t out _ refl
      (or_else (not (instance_ok n s o j)) why.Instance t out _ refl (or_else (nothing_to_nudge (record_in s t o j)) why.NudgeIdle t out _ refl (done t out _ _ _))))

  question-fine : (c : ℕ) (t : List ℕ) → Kept n s c t → (o j : ℕ) → Other (settling_number (settled n s c t o j))
  unfolding settled settled_open
  question-fine c t k o j =
      rw (sound-judged n s c t k)
      (by_cond (λ (x : Result Settling Refusal). Other (settling_number x)) (not (instance_ok n s o j)) (λ e. other 6 refl) (λ e. go (first_open n s (records_in s t) o j)))
    where
      go : (f : Option named.Instance) → Other (settling_number (found f (Ok (settling.Settled (record_in s t o j).vote.command)) (λ p k. Ok (settling.Waits (instance p k)))))
      go None = other 0 refl
      go (Some i) = other 0 refl

  hand-fine : (c : ℕ) (t : List ℕ) → Kept n s c t → (list : List ℕ) → Other (handing_number (handed n s c t list).answer)
  unfolding handed handed_open
  hand-fine c t k list = rw (sound-judged n s c t k) (other 0 refl)

  unrefused : (c : ℕ) (t : List ℕ) (r : ℕ) → Kept n s c t → ((a : ℕ) → Other a → a ≡ r → ⊥) → Unrefused n s c t r
  unrefused c t r k h =
      record {
        request = λ out op key second edit. h _ (request-fine c t out k op key second edit).is;
        event = λ out call. h _ (open-fine c t out k call).is;
        question = λ o j. h _ (question-fine c t k o j);
        hand_out = λ list. h _ (hand-fine c t k list);
      }

  -- nor does what was sent differ from a stored commit
  abbrev Agrees : Outcome → Type 0
  Agrees x = answer_number x.answer ≡ 10 → ⊥

  ten : (a : ℕ) → eqb a 10 ≡ false → a ≡ 10 → ⊥
  ten a h e = tf (eqb a 10) (rw e) h

  sent-agrees : (x : State) (y₀ y : rules.State) → Tie n s setup x y → rules.Start n s y₀ → rules.Run n s y₀ y → (c : ℕ) → c < n
      → (w : Interference) (out b : List ℕ) → Memᴰ b x.sent → Agrees (outcome n s c (saved_table (x.copies c)) out (receive w b))
  unfolding valid_bytes acted
  sent-agrees x y₀ y t st r c l w out b i =
      let v : List ℕ = saved_table (x.copies c) in
      let m : Message = message_at b in
      let same : valid_bytes n s c b ≡ true → refused10 (record_in s v m.owner m.number) m ≡ false =
      λ h.
      let g : valid n s c m ≡ true = (and-true (framed b && op_fits b) _ h).1 in
      rw (← record_is x y t c m.owner m.number (valid-instance n s c m g)) ((rules-proved.lasting n s setup).unrefused y₀ y st r c m (t.sent b i).among g) in
      rw (gate-is n s c v out (receive_open w n s c v out b) ((t.copies c).kept l), receive-open w n s c v out b (setup-of n s c v ((t.copies c).kept l).setup))
      (by_cond Agrees (ltb (length out) 256) (λ e. ten 2 refl)
      (λ e. by_cond Agrees (not (valid_bytes n s c b)) (λ f. ten _ (why-other (parts_of (kind_at b)) (verdict_at n s c b) 10 (omega arith)))
      (λ f. by_cond Agrees (refused10 (record_in s v m.owner m.number) m) (λ g. tf _ g (same (not-false _ f))) (λ g. ten 0 refl))))

  -- the table in memory is sound
  in-run : (x₀ x : State) → Start n s x₀ → Run n s x₀ x → (c : ℕ) → c < n → Kept n s c (x.copies c).lent
  in-run x₀ x st r c l = let p = at_x x₀ x x st r stay in lent-kept n s setup x p.later p.tie c l

-- demand 3
module _ (n s : ℕ) (setup : Setup n s) where
  abbrev D : rules-demand.Demand n s
  D = rules-proved.demand-3 n s setup

  lasting : Lasting n s (in_place n s)
  lasting = record {
    commit = λ x₀ x y st rx ry a o j k d h.
        let z = begin n s setup st in
        let p = at_x n s setup x₀ x y st rx ry in
        let q = at_y n s setup x₀ x y st rx ry in
        of-rules n s setup y q.later q.tie a o j k d h.copy h.range
        (D.lasting.commit z.first p.later q.later z.start p.run q.run a o j k d (to-rules n s setup x p.later p.tie a o j k d h));
    marks = λ x₀ x y st rx ry a.
        let z = begin n s setup st in
        let p = at_x n s setup x₀ x y st rx ry in
        let q = at_y n s setup x₀ x y st rx ry in
        let (l, e) = D.lasting.marks z.first p.later q.later z.start p.run q.run a in
        (l, sym (q.tie.copies a).marks ∙ e ∙ ap (λ (m : List Instance). m ++ l) (p.tie.copies a).marks);
    never-10 = λ x₀ x st r c l none w out b i e.
        let z = begin n s setup st in
        let p = at_x n s setup x₀ x x st r stay in
        let m = in_memory n s setup x p.later p.tie c l none in
        sent-agrees n s setup x z.first p.later p.tie z.start p.run c l w out b i (rw m at e);
    never-1 = λ x₀ x st r c l. unrefused n s setup c (x.copies c).lent 1 (in-run n s setup x₀ x st r c l) (λ a o e. o.0 e);
    never-11 = λ x₀ x st r c l. unrefused n s setup c (x.copies c).lent 11 (in-run n s setup x₀ x st r c l) (λ a o e. o.1 e);
  }

  pub demand-3 : Demand n s (in_place n s)
  demand-3 = record {
    agreement = λ x₀ x y st rx ry a b o j k l d e h g.
        let z = begin n s setup st in
        let p = at_x n s setup x₀ x y st rx ry in
        let q = at_y n s setup x₀ x y st rx ry in
        D.agreement z.first p.later q.later z.start p.run q.run a b o j k l d e (to-rules n s setup x p.later p.tie a o j k d h)
        (to-rules n s setup y q.later q.tie b o j l e g);
    requested = λ x₀ x st rx a o j k d h.
        let z = begin n s setup st in
        let p = at_x n s setup x₀ x x st rx stay in
        ⊎_elim (λ (e : is_noop k ≡ true). inl e) (λ (m : Memᴰ (requested o j k) p.later.history). inr (requested-heard x.history o j k (rw p.tie.history at m)))
        (D.requested z.first p.later z.start p.run a o j k d (to-rules n s setup x p.later p.tie a o j k d h));
    covering = λ x₀ x y st rx ry a b o j p i k l d e ne h g it.
        let z = begin n s setup st in
        let u = at_x n s setup x₀ x y st rx ry in
        let v = at_y n s setup x₀ x y st rx ry in
        D.covering z.first u.later v.later z.start u.run v.run a b o j p i k l d e ne (to-rules n s setup x u.later u.tie a o j k d h)
        (to-rules n s setup y v.later v.tie b p i l e g) it;
    order = λ x₀ x y st rx ry a b c e o j p i k l d f h g it bf mo mp.
        let z = begin n s setup st in
        let u = at_x n s setup x₀ x y st rx ry in
        let v = at_y n s setup x₀ x y st rx ry in
        let at = (v.tie.copies b).marks in
        rw (← at)
        (D.order z.first u.later v.later z.start u.run v.run a b c e o j p i k l d f (to-rules n s setup y v.later v.tie c o j k d h)
        (to-rules n s setup y v.later v.tie e p i l f g) it (rw (u.tie.copies a).marks bf) (rw at mo) (rw at mp));
    lasting = lasting;
    marking = record {
      once = λ x₀ x st rx a i b.
          let z = begin n s setup st in
          let p = at_x n s setup x₀ x x st rx stay in
          D.marking.once z.first p.later z.start p.run a i (rw (p.tie.copies a).marks b);
      listed = λ x₀ x st rx a o j h.
          let z = begin n s setup st in
          let p = at_x n s setup x₀ x x st rx stay in
          let (i, m) = D.marking.listed z.first p.later z.start p.run a o j (rw (p.tie.copies a).marks h) in
          (i, rw (← record_is n s setup x p.later p.tie a o j i) m);
      marked = λ x₀ x st rx a o j i m.
          let z = begin n s setup st in
          let p = at_x n s setup x₀ x x st rx stay in
          rw (← (p.tie.copies a).marks) (D.marking.marked z.first p.later z.start p.run a o j i (rw (record_is n s setup x p.later p.tie a o j i) m));
    };
  }
