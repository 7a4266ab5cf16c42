-- A run of tables beside a run of the model: what ties them, and that every event keeps the tie. Assumes nothing.
use Prim.Native.Nat.{ℕ, zero, suc, ◌+◌, ◌/◌, ◌%◌, ◌≤◌, ◌<◌}
use mathlib.Core.Path.{◌≡◌, refl, sym, ap, subst}
use mathlib.Core.Logic.{◌⊎◌, inl, inr, ⊎_elim}
use mathlib.Core.Bool.{Bool, true, false, ◌&&◌, not, cond}
use mathlib.Core.List.Memᴰ
use mathlib.Core.List.{List, [], ◌∷◌, ◌++◌, Memᴰ}
use native.Mathlib.Omega.{arith}
use native.Mathlib.Decide.{ℕ_discrete}
use lib.Dec.{eqb}
use Rattle.paper.specs.Instance.{instance_ok}
use Rattle.paper.specs.Vote.{member}
use Rattle.paper.specs.Command.{Interference, Wide}
use Rattle.paper.specs.declared.Command.{Command}
use Rattle.paper.specs.declared.Record.{Record}
use Rattle.paper.specs.declared.Message.{Message}
use Rattle.paper.specs.declared.Body.{Body}
use Rattle.rules.specs.declared.Step.{Step}
use Rattle.rules.specs.Seen.{Records, met, seen}
use Rattle.rules.specs.Events.{put, addressed, messages_from, messages}
use Rattle.rules.specs.Order.{is_marked}
use Rattle.safety.specs.Run.{Instance, State, replaced, save_of, saved, Among}
use Rattle.reach.proofs.Tests.{tf, bool, and_l, and_r, and_in, not-true, eqb-eq, eqb_same, eqb-false, leb-in}
use Rattle.safety.proofs.Deps.{Under, seen-counts}
use Rattle.safety.proofs.Value.{Value, cmd, Interf}
use Rattle.safety.proofs.Case.{Case, copies, code, code-owner, code-number, own, own_code, Req, Cover, range}
use Rattle.safety.proofs.Hist.{unvoted}
use Rattle.safety.proofs.Sys.{Rec, Msg, Sys, upd, upd-cases, push, Sent, Trans}
use Rattle.safety.proofs.Inv.{Inv}
use Rattle.safety.proofs.Older.{Le, le_refl}
use Rattle.safety.proofs.Inv.Good.{good, holds}
use Rattle.safety.proofs.Inv.Multi.{Guard, no-vote, accepts, commits, seen as g-seen, GReach, alone}
use Rattle.safety.proofs.Inv.HandOut.{MReach, m-step, m-g}
use Rattle.safety.proofs.Rel.{status_number, status-eq, val, Rel, Means, Out, quiet, spoken, Kind, kept, takes, counts, Spot, Ref, same, moved, Saying, nothing, plain, valued, some_command, some_status, Told, saying}
use Rattle.safety.proofs.Rel.{commits as k-commits}

-- the marks of a copy as numbers, the newest first
abbrev pub newest : List ℕ → List Instance → List ℕ
newest old [] = old
newest old (e ∷ l) = newest (code e.0 e.1 ∷ old) l

pub newest-more : (old : List ℕ) (l : List Instance) (o j : ℕ) → newest old (l ++ (o, j) ∷ []) ≡ code o j ∷ newest old l
newest-more old [] o j = refl
newest-more old (e ∷ l) o j = newest-more (code e.0 e.1 ∷ old) l o j

-- a saved place is the new record, any other as before
pub at-saved : (P : Record → Type 0) (t : ℕ → Records) (c o j : ℕ) (x : Record) (q p i : ℕ) → ((q ≡ c) × (p ≡ o) × (i ≡ j) → P x)
    → (((q ≡ c) × (p ≡ o) × (i ≡ j) → ⊥) → P (t q p i)) → P (replaced t c (put (t c) o j x) q p i)
unfolding put
at-saved P t c o j x q p i f g = go (ℕ_discrete q c) (ℕ_discrete p o) (ℕ_discrete i j)
  where
    go : Dec (q ≡ c) → Dec (p ≡ o) → Dec (i ≡ j) → P (cond (eqb q c) (put (t c) o j x) (t q) p i)
    go (no n) d e = rw (eqb-false q c n) (g (λ h. n h.0))
    go (yes a) (no n) e = rw (eqb_same q c a, eqb-false p o n) (rw a at (g (λ h. n h.1)))
    go (yes a) (yes b) (no n) = rw (eqb_same q c a, eqb_same p o b, eqb-false i j n) (rw a at (g (λ h. n h.2)))
    go (yes a) (yes b) (yes d) = rw (eqb_same q c a, eqb_same p o b, eqb_same i j d) (f (a, b, d))

-- each message of a step is its one message, addressed
one-message : (k q to : ℕ) (m y : Message) → Memᴰ y (messages_from k q to m) → (d : ℕ) × (y ≡ addressed m d)
unfolding messages_from
one-message zero q to m y h = absurd (Memᴰ.not-nil h)
one-message (suc k) q to m y h = go (member q to) (one-message k (q + 1) to m y) h
  where
    go : (b : Bool) → (Memᴰ y (messages_from k (q + 1) to m) → (d : ℕ) × (y ≡ addressed m d))
        → Memᴰ y (cond b (addressed m q ∷ messages_from k (q + 1) to m) (messages_from k (q + 1) to m)) → (d : ℕ) × (y ≡ addressed m d)
    go true ih h = ⊎_elim (λ e. (q, e)) ih (Memᴰ.cases_cons h)
    go false ih h = ih h

-- what a message tells stays told
means-up : (S X : Sys) → ((y : Msg) → Sent S y → Sent X y) → (m : Message) (b : Body) → Means S m b → Means X m b
means-up S X up m b t = go (saying m.from m.ballot m.deps b) t
  where
    go : (y : Saying) → Told S m.deps y → Told X m.deps y
    go nothing t = t
    go (plain y) t = up _ t
    go (valued y) (l, t) = (l, up _ t)
    go (some_command f) (l, (k, t)) = (l, (k, up _ t))
    go (some_status n f) (l, (u, e, q)) = (l, (u, e, up _ q))

-- whom it goes to says nothing
means-to : (X : Sys) (m : Message) (d : ℕ) (b : Body) → Means X m b → Means X (addressed m d) b
means-to X m d b t = t

-- the state x beside a state G of the model, in which copy c has set the marks M c
pub record Tie (C : Case) (x : State) : Type 0 where
  pub G : ℕ → Sys
  pub M : ℕ → List ℕ
  pub reach : MReach C G M
  pub rels : (c J : ℕ) → c < copies C → Rel C.F c (x.tables c (J % 8) (J / 8)) ((G J).now c)
  pub msgs : (m : Message) → Memᴰ m x.sent → instance_ok (copies C) C.s m.owner m.number ≡ true → Means (G (code m.owner m.number)) m m.body
  -- nothing stands outside the range
  pub none : (c o j : ℕ) → ((c < copies C) × (instance_ok (copies C) C.s o j ≡ true) → ⊥) → (x.tables c o j).vote.status ≡ 0
  -- the marks in the tables are those saved
  pub mark-in : (c J : ℕ) → is_marked (x.tables c (J % 8) (J / 8)) ≡ true → Memᴰ J (M c)
  pub in-mark : (c J : ℕ) → Memᴰ J (M c) → is_marked (x.tables c (J % 8) (J / 8)) ≡ true
  pub listed : (c : ℕ) → M c ≡ newest [] (x.marks c)

-- the same later on
pub record Next {C : Case} {x : State} (t : Tie C x) (y : State) : Type 0 where
  pub tie : Tie C y
  pub grow : (J q : ℕ) → Le ((t.G J).now q) ((tie.G J).now q)

module _ {C : Case} {x : State} (t : Tie C x) where
  open C use {F, s, fit, pos}
  open t use {G, M, reach, rels, msgs, none, mark-in, in-mark, listed}

  abbrev n : ℕ
  n = copies C

  pub reached : GReach C G
  reached = m-g C reach

  pub inv : (J : ℕ) → Inv F (own C J) (G J)
  inv J = holds (alone C reached J)

  -- at an instance in range
  pub rel-at : (c o j : ℕ) → c < n → o < n → Rel F c (x.tables c o j) ((G (code o j)).now c)
  rel-at c o j lc lo = rw (code-owner o j (omega arith), code-number o j (omega arith)) at (rels c (code o j) lc)

  -- a pre-accept of o.j counts all that c has
  abbrev pub Counts : ℕ → ℕ → ℕ → Value → Type 0
  Counts c o j v = (J : ℕ) → (code o j ≡ J → ⊥) → (((G J).now c).status ≡ unvoted → ⊥) → Interf (cmd v) (cmd ((G J).now c).value) → Cover C v J

  pub counted : (w : Interference) → Wide w → (c o j : ℕ) → c < n → (k : Command) (d : List ℕ) → Under (seen w n s (x.tables c) o j k) d → Counts c o j (val k d)
  unfolding met
  counted w wide c o j lc k d u J ne nz it = go (bool (instance_ok n s p i))
    where
      p : ℕ
      p = J % 8

      i : ℕ
      i = J / 8

      rl : Rel F c (x.tables c p i) ((G J).now c)
      rl = rels c J lc

      some : 1 ≤ (x.tables c p i).vote.status
      some = let z : status_number ((G J).now c).status ≡ 0 → ⊥ = λ e. nz (status-eq ((G J).now c).status unvoted e) in omega (arith, rl.status, z)

      apart : (eqb p o && eqb i j) ≡ false
      apart = not-true (eqb p o && eqb i j) (λ e. ne (sym (let a : J % 8 ≡ o = eqb-eq _ _ (and_l _ (eqb i j) e) in let b : J / 8 ≡ j = eqb-eq _ _ (and_r (eqb p o) _ e) in omega arith)))

      go : (instance_ok n s p i ≡ true) ⊎ (instance_ok n s p i ≡ false) → Cover C (val k d) J
      go (inr e) = absurd (omega (arith, some, none c p i (λ h. tf (instance_ok n s p i) h.1 e)))
      go (inl e) =
          let (a, b, f) = range n s p i e in
          let m : met w (x.tables c) o j k p i ≡ true
          = and_in _ _ (and_in (not (eqb p o && eqb i j)) _ (rw apart refl) (leb-in 1 (x.tables c p i).vote.status some)) (wide _ _ (rw rl.value at it)) in
          let h = seen-counts w n s (x.tables c) o j k p i a (omega arith) b f m in
          record { owner = a; first = b; last = f; far = omega (arith, h, u p (omega arith)) }

  module _ (c o j : ℕ) (lc : c < n) (ok : instance_ok n s o j ≡ true) where
    abbrev I : ℕ
    I = code o j

    pub lo : o < n
    lo = (range n s o j ok).0

    -- where an event of c at o.j happens
    abbrev pub spot : Spot
    spot = record {
      F = F;
      o = o;
      j = j;
      c = c;
      Req = Req C I;
      Cov = Counts c o j;
      fit = fit;
      pos = pos;
      lo = lo;
      lc = lc;
      S = G I;
      I = rw (own_code C o j lo) at (inv I);
      r = x.tables c o j;
      rel = rel-at c o j lc lo;
    }

    here : (J : ℕ) → J % 8 ≡ o → J / 8 ≡ j → J ≡ I
    here J a b = omega arith

    module _ (st : Step) (out : List Message) (am : Among out (messages st)) where
      abbrev y : State
      y = saved x c (save_of o j st) out

      out-means : (X : ℕ → Sys) → Out (X I) o j st.message → (m : Message) → Memᴰ m out → Means (X (code m.owner m.number)) m m.body
      out-means X ou m h = go (one-message 7 0 st.to st.message m (am m h)) ou
        where
          go : (d : ℕ) × (m ≡ addressed st.message d) → Out (X I) o j st.message → Means (X (code m.owner m.number)) m m.body
          go (d, e) (quiet f) = rw e (means-to (X (code st.message.owner st.message.number)) st.message d st.message.body (f (X (code st.message.owner st.message.number))))
          go (d, e) (spoken a b w) = rw e (subst (λ (J : ℕ). Means (X J) (addressed st.message d) st.message.body) (λ k. code (sym a k) (sym b k)) (means-to (X I) st.message d st.message.body w))

      none' : (q p i : ℕ) → ((q < n) × (instance_ok n s p i ≡ true) → ⊥) → (y.tables q p i).vote.status ≡ 0
      none' q p i h = at-saved (λ (z : Record). z.vote.status ≡ 0) x.tables c o j st.entry q p i (λ e. absurd (h (rw e.0 lc, rw (e.1, e.2) ok))) (λ e. none q p i h)

      -- a step leaves marks as they are
      module _ (mk : st.entry.mark ≡ (x.tables c o j).mark) where
        same-mark : (q p i : ℕ) → (y.tables q p i).mark ≡ (x.tables q p i).mark
        same-mark q p i = at-saved (λ (z : Record). z.mark ≡ (x.tables q p i).mark) x.tables c o j st.entry q p i (λ e. rw (e.0, e.1, e.2) mk) (λ e. refl)

        mark-in' : (q J : ℕ) → is_marked (y.tables q (J % 8) (J / 8)) ≡ true → Memᴰ J (M q)
        mark-in' q J h = mark-in q J (rw (same-mark q (J % 8) (J / 8)) at h)

        in-mark' : (q J : ℕ) → Memᴰ J (M q) → is_marked (y.tables q (J % 8) (J / 8)) ≡ true
        in-mark' q J h = rw (same-mark q (J % 8) (J / 8)) (in-mark q J h)

      pub event : Ref spot st → Next t y
      event (same e ou) = record {
        tie = record {
          G = G;
          M = M;
          reach = reach;
          rels = λ q J lq. at-saved (λ (z : Record). Rel F q z ((G J).now q)) x.tables c o j st.entry q (J % 8) (J / 8)
              (λ h. rw e (subst (λ (z : Record). Rel F q z ((G J).now q)) (λ k. x.tables (h.0 k) (h.1 k) (h.2 k)) (rels q J lq))) (λ h. rels q J lq);
          msgs = λ m h k. ⊎_elim (λ a. msgs m a k) (λ a. out-means G ou m a) (Memᴰ.append_cases x.sent h);
          none = none';
          mark-in = mark-in' (ap (λ (z : Record). z.mark) e);
          in-mark = in-mark' (ap (λ (z : Record). z.mark) e);
          listed = listed;
        };
        grow = λ J q. le_refl ((G J).now q);
      }
      event (moved R ms tr rl mk kd ou) = record {
        tie = record {
          G = H;
          M = M;
          reach = m-step I c R ms reach lc tr' (guard kd);
          rels = rels';
          msgs = λ m h k. ⊎_elim (λ a. old-means m (msgs m a k)) (λ a. out-means H (rw upd-at ou) m a) (Memᴰ.append_cases x.sent h);
          none = none';
          mark-in = mark-in' mk;
          in-mark = in-mark' mk;
          listed = listed;
        };
        grow = λ J q. upd-cases (λ (X : Sys). Le ((G J).now q) (X.now q)) G I S' J
            (λ e. upd-cases (λ (X : Rec). Le ((G J).now q) X) (G I).now c R q (λ f. rw (e, f) (good (inv I) c tr').older) (λ f. rw e (le_refl ((G I).now q))))
            (λ e. le_refl ((G J).now q));
      }
        where
          S' : Sys
          S' = push (G I) c R ms

          H : ℕ → Sys
          H = upd G I S'

          upd-at : H I ≡ S'
          upd-at = upd-cases (λ (X : Sys). X ≡ S') G I S' I (λ e. refl) (λ e. absurd (e refl))

          tr' : Trans F (own C I) (Req C I) (G I) c ((G I).now c) R ms
          tr' = rw (own_code C o j lo) tr

          guard : Kind (Counts c o j) ((G I).now c) R → Guard C G I c R
          guard (kept a b d) = no-vote a b d
          guard (takes a) = accepts a
          guard (k-commits a) = commits a
          guard (counts a) = g-seen a

          old-means : (m : Message) → Means (G (code m.owner m.number)) m m.body → Means (H (code m.owner m.number)) m m.body
          old-means m w = upd-cases (λ (X : Sys). Means X m m.body) G I S' (code m.owner m.number)
              (λ e. means-up (G I) S' (λ z h. Memᴰ.append_right ms h) m m.body (rw e at w)) (λ e. w)

          rels' : (q J : ℕ) → q < n → Rel F q (y.tables q (J % 8) (J / 8)) ((H J).now q)
          rels' q J lq = upd-cases (λ (X : Sys). Rel F q (y.tables q (J % 8) (J / 8)) (X.now q)) G I S' J
              (λ e. upd-cases (λ (X : Rec). Rel F q (y.tables q (J % 8) (J / 8)) X) (G I).now c R q
              (λ f. at-saved (λ (z : Record). Rel F q z R) x.tables c o j st.entry q (J % 8) (J / 8) (λ h. rw f rl)
              (λ h. absurd (h (f, rw e (code-owner o j (omega (arith, lo))), rw e (code-number o j (omega (arith, lo)))))))
              (λ f. at-saved (λ (z : Record). Rel F q z ((G I).now q)) x.tables c o j st.entry q (J % 8) (J / 8) (λ h. absurd (f h.0)) (λ h. rw (← e) (rels q J lq))))
              (λ e. at-saved (λ (z : Record). Rel F q z ((G J).now q)) x.tables c o j st.entry q (J % 8) (J / 8) (λ h. absurd (e (here J h.1 h.2))) (λ h. rels q J lq))
