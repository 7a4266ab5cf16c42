-- Every move of a run but the mark is a move of the model. Assumes nothing.
use Prim.Native.Nat.{ℕ, ◌≤◌, ◌<◌}
use mathlib.Core.Path.{◌≡◌, refl}
use mathlib.Core.Bool.{true, false}
use mathlib.Core.List.{List, Memᴰ}
use native.Mathlib.Omega.{arith}
use Rattle.paper.specs.Instance.{instance_ok}
use Rattle.paper.specs.Valid.{valid}
use Rattle.paper.specs.Command.{Interference, Wide}
use Rattle.paper.specs.declared.Command.{Command}
use Rattle.paper.specs.declared.Message.{Message}
use Rattle.rules.specs.Seen.{seen}
use Rattle.rules.specs.Step.{is_committed}
use Rattle.rules.specs.Request.{is_blank}
use Rattle.rules.specs.Nudge.{nothing_to_nudge}
use Rattle.rules.specs.Events.{request_number, on_request, on_message, on_recover, on_nudge, messages}
use Rattle.rules.proofs.Rests.{blank-above, request-blank}
use Rattle.safety.specs.Run.{State, Happening, requested, answered, Settling, settling, save_of, saved, happened, Among}
use Rattle.rules.proofs.Seen.{seen-length}
use Rattle.safety.proofs.Deps.{under-refl}
use Rattle.safety.proofs.Older.{le_refl}
use Rattle.safety.proofs.Case.{Case, copies, code-owner, code-number, in-range}
use Rattle.safety.proofs.Rel.Votes.{on-request, on-recover}
use Rattle.safety.proofs.Rel.Leads.{on-nudge}
use Rattle.safety.proofs.Received.{Fit, fits, on-received}
use Rattle.safety.proofs.Sim.{Tie, Next, counted, spot, event}

module _ {C : Case} {x : State} (t : Tie C x) where
  open C use {s, fit}
  open t use {msgs}

  abbrev n : ℕ
  n = copies C

  pub receive-next : (c : ℕ) (w : Interference) (m : Message) (out : List Message) → c < n → Wide w → Memᴰ m x.sent → valid n s c m ≡ true
      → Among out (messages (on_message w n s c (x.tables c) m)) → Next t (saved x c (save_of m.owner m.number (on_message w n s c (x.tables c) m)) out)
  unfolding on_message
  receive-next c w m out lc wide h v am =
      let f : Fit n s c m = fits n s c m v in
      event t c m.owner m.number lc f.inst (on_message w n s c (x.tables c) m) out am
      (on-received (spot t c m.owner m.number lc f.inst) (seen w n s (x.tables c) m.owner m.number)
      (λ k. seen-length w n s (x.tables c) m.owner m.number k) (λ k d u. counted t w wide c m.owner m.number lc k d u)
      s m refl refl f (msgs m h f.inst))

  pub recover-next : (c o j : ℕ) (out : List Message) → c < n → instance_ok n s o j ≡ true → is_committed (x.tables c o j) ≡ false
      → Among out (messages (on_recover n c (x.tables c) o j)) → Next t (saved x c (save_of o j (on_recover n c (x.tables c) o j)) out)
  unfolding on_recover
  recover-next c o j out lc ok e am = event t c o j lc ok (on_recover n c (x.tables c) o j) out am (on-recover (spot t c o j lc ok) n e)

  pub nudge-next : (c o j : ℕ) (out : List Message) → c < n → instance_ok n s o j ≡ true → nothing_to_nudge (x.tables c o j) ≡ false
      → Among out (messages (on_nudge n c (x.tables c) o j)) → Next t (saved x c (save_of o j (on_nudge n c (x.tables c) o j)) out)
  unfolding on_nudge
  nudge-next c o j out lc ok e am = event t c o j lc ok (on_nudge n c (x.tables c) o j) out am (on-nudge (spot t c o j lc ok) e)

  -- what happens beside the tables is no part of the tie
  tie-happened : {y : State} (e : Happening Settling) → Next t y → Next t (happened y e)
  tie-happened e h = let z = h.tie in record {
    tie = record { G = z.G; M = z.M; reach = z.reach; rels = z.rels; msgs = z.msgs; none = z.none; mark-in = z.mark-in; in-mark = z.in-mark; listed = z.listed };
    grow = h.grow;
  }

  -- a question leaves everything
  pub question-next : (c o j : ℕ) → Next t (happened x (answered c o j (settling n s (x.tables c) o j)))
  question-next c o j = tie-happened (answered c o j (settling n s (x.tables c) o j)) (record { tie = t; grow = λ J q. le_refl ((t.G J).now q) })

  pub request-next : (c : ℕ) (w : Interference) (k : Command) (out : List Message) → c < n → Wide w → request_number s c (x.tables c) ≤ s
      → Among out (messages (on_request w n s c (x.tables c) k)) → Memᴰ (requested c (request_number s c (x.tables c)) k) C.past
      → Next t (happened (saved x c (save_of c (request_number s c (x.tables c)) (on_request w n s c (x.tables c) k)) out) (requested c (request_number s c (x.tables c)) k))
  unfolding on_request request_number
  request-next c w k out lc wide ls am rq =
      go (request_number s c (x.tables c)) (request-blank s c (x.tables c) ls) (in-range n s c (request_number s c (x.tables c)) lc (blank-above s 1 (x.tables c c)) ls) am rq
    where
      go : (j : ℕ) → is_blank (x.tables c c j) ≡ true → instance_ok n s c j ≡ true → Among out (messages (Rattle.rules.specs.Request.request n c j k (seen w n s (x.tables c) c j k)))
          → Memᴰ (requested c j k) C.past → Next t (happened (saved x c (save_of c j (Rattle.rules.specs.Request.request n c j k (seen w n s (x.tables c) c j k))) out) (requested c j k))
      go j bl ok am rq = tie-happened (requested c j k) (event t c c j lc ok (Rattle.rules.specs.Request.request n c j k (seen w n s (x.tables c) c j k)) out am
          (on-request (spot t c c j lc ok) refl n k (seen w n s (x.tables c) c j k) bl
          (rw (code-owner c j (omega arith), code-number c j (omega arith)) rq)
          (counted t w wide c c j lc k _ (under-refl (seen w n s (x.tables c) c j k))) (seen-length w n s (x.tables c) c j k)))
