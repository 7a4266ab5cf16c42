-- Every run of hosts that save in place (demand/specs/Run) is a run of hosts that keep journals, in which every event's entry and the first
-- mark of every hand-out was first cut inside: the replay dropped what stood of it, and the copy went on. Assumes nothing.
use Rattle.std.specs.Prelude.{Result, Ok}
use Prim.Native.Nat.{ℕ, zero, suc, ◌+◌, ◌-◌, ◌≤◌, ◌<◌}
use mathlib.Core.Path.{◌≡◌, refl, sym, ap, ap₂, ◌∙◌, subst}
use mathlib.Core.Logic.{◌⊎◌, inl, inr, ⊎_elim}
use mathlib.Core.Bool.{Bool, true, false, cond}
use mathlib.Core.List.Memᴰ
use mathlib.Core.List.{List, [], ◌∷◌, ◌++◌, map, append-nil, Memᴰ}
use native.Mathlib.Omega.{arith}
use lib.Dec.{ltb, eqb}
use lib.ListN.{length, take, drop, length-append}
use lib.Seq.{take-length, drop-length, take-append-le, take-append_seam, drop-append_seam, length-take-le}
use borrow.Author.Tests.{eqb-true, eqb-false, ltb-true, ltb-false, lt-ltb, le-ltb}
use Rattle.paper.specs.declared.Refusal.{Refusal}
use Rattle.paper.specs.Instance.{instance_ok}
use Rattle.table.specs.Table.{blank_table, record_in, Judged, Kept}
use Rattle.table.specs.Calls.{part_of, put_part}
use Rattle.table.proofs.Laws.{sizes}
use Rattle.table.proofs.Saved.{part-size, part-of-sound}
use Rattle.rules.specs.Step.{is_committed}
use Rattle.rules.specs.Order.{instance_of}
use Rattle.seen.specs.Records.{records_in}
use Rattle.closed.proofs.Mark.{candidate-committed}
use Rattle.gate.specs.Events.{event_of}
use Rattle.order.specs.declared.Settling.{Settling}
use Rattle.order.specs.Calls.{marked_in, handed}
use Rattle.entries.specs.Entry.{record_kind, mark_kind, entry_length, kind_in, record_entry, mark_entry}
use Rattle.entries.specs.Replay.{Replayed, committed_in, replayed}
use Rattle.entries.specs.Journal.{Journal, none, record-then, mark-then}
use Rattle.entries.proofs.Framed.{record-long, short-rest}
use Rattle.entries.proofs.Journal.{bounds, record-size, mark-size, replays, replays-rest}
use Rattle.safety.specs.Run.{Instance, Happening, Setup}
use Rattle.safety.specs.Run as rules
use Rattle.demand.specs.Run.{Call, request, receive, recover, nudge, outcome, Possible, recorded, written}
use Rattle.demand.specs.Run as place
use Rattle.demand.proofs.Records.{blank-table}
use Rattle.demand.proofs.Handing.{Marked}
use Rattle.demand.proofs.Bridge.{Tie, begin, bridge, move-next, here-is, other-stays, in_memory, lent-kept, marked-here, event-range}
use Rattle.disk.specs.Run.{Copy, saved_table, marks_in, saved_marks, State, fresh, Start, blanks, mark_entries, acted, handing, wrote, waited, restarted, changed, remembered, Move, Run, stay, further}
use Rattle.disk.specs.Run as move
use Rattle.disk.proofs.Marks.{marks-record, marks-mark}

-- a cut inside an entry: so many bytes stood of it, and the replay dropped them
abbrev pub lost : {n s : ℕ} {x y : State} → Move n s x y → List ℕ
lost (move.event c call out o j w l p e a) = []
lost (move.same c call out o j w l p e a f) = []
lost (move.hand_out c list i l e a) = []
lost (move.write c i l) = []
lost (move.wait c l e) = []
lost (move.leave c b l i) = []
lost (move.question c o j l e) = []
lost (move.cut c p e l le lt a) = cond (ltb e p) ((p - e) ∷ []) []
lost (move.begin c l e) = []

-- what the last move dropped
abbrev pub last : {n s : ℕ} {x y : State} → Run n s x y → List ℕ
last stay = []
last (further r m) = lost m

-- for each cut inside an entry after which the run went on, so many bytes stood of the entry; the latest is first
abbrev pub torn : {n s : ℕ} {x y : State} → Run n s x y → List ℕ
torn stay = []
torn (further r m) = last r ++ torn r

-- where the cuts come: i bytes stand of a record's entry, j of a mark's
pub record Inside (i j : ℕ) : Type 0 where
  pub some : 0 < i
  pub less : i < entry_length record_kind
  pub one : 0 < j
  pub short : j < entry_length mark_kind

-- what a call of the other host tears here: an event i bytes of its entry, a hand-out that lists codes j bytes of its first mark
abbrev pub first_mark : ℕ → List ℕ → List ℕ
first_mark j [] = []
first_mark j (code ∷ codes) = j ∷ []

abbrev pub tear : {n s : ℕ} (i j : ℕ) {x y : place.State} → place.Move n s x y → List ℕ
tear i j (place.event c call out o k w l p e a) = i ∷ []
tear i j (place.leave c b l m) = []
tear {n = n} {s = s} i j {x = x} (place.hand_out c list k l e a) = first_mark j (take k (handed n s c (x.copies c).lent list).list)
tear i j (place.mark c code rest l e) = []
tear i j (place.question c o k l) = []
tear i j (place.cut c l) = []

-- and all of its calls, the latest first
abbrev pub tears : {n s : ℕ} (i j : ℕ) {x y : place.State} → place.Run n s x y → List ℕ
tears i j place.stay = []
tears i j (place.further r m) = tear i j m ++ tears i j r

module _ (n s : ℕ) (setup : Setup n s) where
  -- copy c with its entries, beside the same copy at the other host: all that this one saved is in whole entries on disk
  pub record Level (c : ℕ) (k : Copy) (q : place.Copy) : Type 0 where
    pub base : Kept n s c k.base
    pub journal : Journal n s c k.base k.disk q.disk
    pub marks : marks_in (length k.disk) k.disk ≡ q.marks
    pub coming : k.coming ≡ mark_entries (map instance_of q.listed)
    pub lent : k.lent ≡ q.lent
    pub safe : k.safe ≤ length k.disk

  -- both at a moment: what was sent there, and what may leave there, has left here
  pub record Same (x : State) (y : place.State) : Type 0 where
    pub sent : (b : List ℕ) → Memᴰ b y.sent → Memᴰ b x.sent
    pub gone : (c : ℕ) → c < n → (b : List ℕ) → Memᴰ b (y.copies c).leaving → Memᴰ b x.sent
    pub levels : (c : ℕ) → c < n → Level c (x.copies c) (y.copies c)

  -- more may have been sent
  possible : (sent more : List (List ℕ)) → ((b : List ℕ) → Memᴰ b sent → Memᴰ b more) → (call : Call) → Possible sent call → Possible more call
  possible sent more grown (request w v) p = p
  possible sent more grown (receive w b) p = (p.0, grown b p.1)
  possible sent more grown (recover o j) p = p
  possible sent more grown (nudge o j) p = p

  -- a run on from x to where copy c is k, and the other copies and what was sent are as in x; t is what was torn by then, l what its
  -- last move dropped
  module _ (x₀ x : State) (c : ℕ) (copy : c < n) where
    record Got (k : Copy) (t l : List ℕ) : Type 0 where
      later : State
      run : Run n s x₀ later
      tears : torn run ≡ t
      drops : last run ≡ l
      here : later.copies c ≡ k
      others : (p : ℕ) → (p ≡ c → ⊥) → later.copies p ≡ x.copies p
      sent : later.sent ≡ x.sent

    module _ {k : Copy} {t l : List ℕ} (r : Got k t l) where
      abbrev at : Copy
      at = r.later.copies c

      -- one move more of copy c
      step : (j m : Copy) (past : List (Happening (Result Settling Refusal))) (e : j ≡ m) (v : Move n s r.later (remembered (changed r.later c j) past)) → Got m (l ++ t) (lost v)
      step j m past e v =
          record {
            later = remembered (changed r.later c j) past;
            run = further r.run v;
            tears = ap₂ (λ (a b : List ℕ). a ++ b) r.drops r.tears;
            drops = refl;
            here = here-is n s setup r.later.copies c j ∙ e;
            others = λ p ne. other-stays n s setup r.later.copies c j p ne ∙ r.others p ne;
            sent = r.sent;
          }

      -- each of its moves, on a copy that is k and a table that is u
      did-event : (call : Call) (out : List ℕ) (o j w : ℕ) (u : List ℕ) → Possible x.sent call → k.coming ≡ [] → k.lent ≡ u → (outcome n s c u out call).answer ≡ event_of o j w
          → Got (acted n s c k (outcome n s c u out call) o j w) (l ++ t) []
      did-event call out o j w u p e f a =
          let lent : at.lent ≡ u = ap (λ (z : Copy). z.lent) r.here ∙ f in
          step (acted n s c at (outcome n s c at.lent out call) o j w) (acted n s c k (outcome n s c u out call) o j w) (recorded r.later.history o j call)
          (ap₂ (λ (z : Copy) (v : List ℕ). acted n s c z (outcome n s c v out call) o j w) r.here lent)
          (move.event c call out o j w copy (subst (λ (m : List (List ℕ)). Possible m call) (sym r.sent) p) (ap (λ (z : Copy). z.coming) r.here ∙ e)
          (ap (λ (v : List ℕ). (outcome n s c v out call).answer) lent ∙ a))

      did-hand : (list : List ℕ) (i : ℕ) (u : List ℕ) → k.coming ≡ [] → k.lent ≡ u → (handed n s c u list).answer ≡ Ok i → Got (handing k (handed n s c u list) i) (l ++ t) []
      did-hand list i u e f a =
          let lent : at.lent ≡ u = ap (λ (z : Copy). z.lent) r.here ∙ f in
          step (handing at (handed n s c at.lent list) i) (handing k (handed n s c u list) i) r.later.history
          (ap₂ (λ (z : Copy) (v : List ℕ). handing z (handed n s c v list) i) r.here lent)
          (move.hand_out c list i copy (ap (λ (z : Copy). z.coming) r.here ∙ e) (ap (λ (v : List ℕ). (handed n s c v list).answer) lent ∙ a))

      did_write : (i : ℕ) → Got (wrote k i) (l ++ t) []
      did_write i = step (wrote at i) (wrote k i) r.later.history (ap (λ (z : Copy). wrote z i) r.here) (move.write c i copy)

      did-wait : k.coming ≡ [] → Got (waited k) (l ++ t) []
      did-wait e = step (waited at) (waited k) r.later.history (ap waited r.here) (move.wait c copy (ap (λ (z : Copy). z.coming) r.here ∙ e))

      did-cut : (p e : ℕ) → k.safe ≤ p → p ≤ length k.disk → (replayed n s c k.base (take p k.disk)).answer ≡ Ok e
          → Got (restarted n s c k p e) (l ++ t) (cond (ltb e p) ((p - e) ∷ []) [])
      did-cut p e le lt a =
          let h : k ≡ at = sym r.here in
          step (restarted n s c at p e) (restarted n s c k p e) r.later.history (ap (λ (z : Copy). restarted n s c z p e) r.here)
          (move.cut c p e copy (subst (λ (z : Copy). z.safe ≤ p) h le) (subst (λ (z : Copy). p ≤ length z.disk) h lt)
          (subst (λ (z : Copy). (replayed n s c z.base (take p z.disk)).answer ≡ Ok e) h a))

    -- a call was answered, and its entries are still to be written
    abbrev opened : Copy → List ℕ → List ℕ → List (List ℕ) → Copy
    opened k b u h = record { base = k.base; disk = k.disk; safe = k.safe; coming = b; lent = u; held = h; leaving = k.leaving }

    -- a copy that restarted after a cut, which dropped these
    record Again (q : place.Copy) (t l : List ℕ) : Type 0 where
      now : Copy
      got : Got now t l
      level : Level c now q

    module _ (k : Copy) (q : place.Copy) (v : Level c k q) where
      -- the table that its journal was begun with is judged, and small
      abbrev judged-base : Judged n s c k.base
      judged-base = record { setup = v.base.setup; sound = v.base.sound }

      pub few : n ≤ 7
      few = (sizes n s c k.base v.base.setup).copies

      pub low : s ≤ 64
      low = (sizes n s c k.base v.base.setup).numbers

      -- restarted from the whole entries, beside a copy that has the same saved and nothing listed
      again : (b : List ℕ) (p : ℕ) (j : Copy) (r : place.Copy) → r.disk ≡ q.disk → r.marks ≡ q.marks → r.listed ≡ [] → r.lent ≡ q.disk
          → j.base ≡ k.base → j.safe ≡ k.safe → take p j.disk ≡ b → take (length k.disk) b ≡ k.disk → (replayed n s c k.base b).table ≡ q.disk
          → Level c (restarted n s c j p (length k.disk)) r
      again b p j r same-disk same-marks none-listed memory is_base is-safe left whole table =
          let disk : take (length k.disk) (take p j.disk) ≡ k.disk = ap (take (length k.disk)) left ∙ whole in
          record {
            base = subst (Kept n s c) (sym is_base) v.base;
            journal = subst (λ (d : List ℕ). Journal n s c j.base d r.disk) (sym disk)
                (subst (λ (d : List ℕ). Journal n s c d k.disk r.disk) (sym is_base) (subst (Journal n s c k.base k.disk) (sym same-disk) v.journal));
            marks = ap (λ (d : List ℕ). marks_in (length d) d) disk ∙ v.marks ∙ sym same-marks;
            coming = sym (ap (λ (l : List ℕ). mark_entries (map instance_of l)) none-listed);
            lent = ap₂ (λ (d m : List ℕ). (replayed n s c d m).table) is_base left ∙ table ∙ sym memory;
            safe = rw disk (subst (λ (m : ℕ). m ≤ length k.disk) (sym is-safe) v.safe);
          }

      -- the first of these entries is cut inside
      tear-in : (b e more u : List ℕ) (h : List (List ℕ)) (t : List ℕ) (i : ℕ) → q.listed ≡ [] → q.lent ≡ q.disk → b ≡ e ++ more → length e ≡ entry_length (kind_in e)
          → 0 < i → i < length e → Got (opened k b u h) t [] → Again q t (i ∷ [])
      tear-in b e more u h t i none-listed memory parts size some less g =
          let d : List ℕ = k.disk ++ take i b in
          let p : ℕ = length d in
          let piece : take i b ≡ take i e = ap (take i) parts ∙ take-append-le i e more (omega arith) in
          let long : length (take i b) ≡ i = ap length piece ∙ length-take-le i e (omega arith) in
          let sum : length d ≡ length k.disk + length (take i b) = length-append k.disk (take i b) in
          let left : take p d ≡ d = take-length d in
          let answer : replayed n s c k.base (take p d) ≡ record { answer = Ok (length k.disk); table = q.disk } =
          ap (replayed n s c k.base) (left ∙ ap (λ (m : List ℕ). k.disk ++ m) piece)
          ∙ replays-rest n s c k.base k.disk q.disk (take i e) judged-base v.journal (short-rest n s c (committed_in s q.disk) e i size less) in
          let j : Copy = wrote (opened k b u h) i in
          let dropped : cond (ltb (length k.disk) p) ((p - length k.disk) ∷ []) [] ≡ i ∷ [] =
          ap₂ (λ (f : Bool) (m : ℕ). cond f (m ∷ []) []) (lt-ltb (length k.disk) p (omega arith)) (omega arith) in
          record {
            now = restarted n s c j p (length k.disk);
            got = subst (Got (restarted n s c j p (length k.disk)) t) dropped
                (did-cut (did_write g i) p (length k.disk) (omega (arith, v.safe)) (omega arith) (ap (λ (z : Replayed). z.answer) answer));
            level = again d p j q refl refl none-listed memory refl refl left (take-append_seam k.disk (take i b))
                (ap (λ (m : List ℕ). (replayed n s c k.base m).table) (sym left) ∙ ap (λ (z : Replayed). z.table) answer);
          }

      -- a cut behind the whole entries
      cut_off : (t : List ℕ) → Got k t [] → Again (place.restarted q) t []
      cut_off t g =
          let p : ℕ = length k.disk in
          let left : take p k.disk ≡ k.disk = take-length k.disk in
          let answer : replayed n s c k.base k.disk ≡ record { answer = Ok (length k.disk); table = q.disk } = replays n s c k.base k.disk q.disk judged-base v.journal in
          record {
            now = restarted n s c k p p;
            got = subst (Got (restarted n s c k p p) t) (ap (λ (b : Bool). cond b ((p - p) ∷ []) []) (le-ltb p p (omega arith)))
                (did-cut g p p v.safe (omega arith) (ap (λ (m : List ℕ). (replayed n s c k.base m).answer) left ∙ ap (λ (r : Replayed). r.answer) answer));
            level = again k.disk p k (place.restarted q) refl refl refl refl refl refl left left (ap (λ (r : Replayed). r.table) answer);
          }

  -- a run with journals that came as far as the other host's
  pub record Forth (x₀ : State) (y : place.State) (t : List ℕ) : Type 0 where
    pub later : State
    pub run : Run n s x₀ later
    pub tears : torn run ≡ t
    pub drops : last run ≡ []
    pub same : Same later y

  -- messages leave one after the other
  record Gone (x₀ x : State) (t : List ℕ) (strings : List (List ℕ)) : Type 0 where
    later : State
    run : Run n s x₀ later
    tears : torn run ≡ t
    drops : last run ≡ []
    copies : later.copies ≡ x.copies
    old : (b : List ℕ) → Memᴰ b x.sent → Memᴰ b later.sent
    new : (b : List ℕ) → Memᴰ b strings → Memᴰ b later.sent

  go-out : (x₀ x : State) (t : List ℕ) (r : Run n s x₀ x) → torn r ≡ t → last r ≡ [] → (c : ℕ) → c < n → (strings : List (List ℕ))
      → ((b : List ℕ) → Memᴰ b strings → Memᴰ b (x.copies c).leaving) → Gone x₀ x t strings
  go-out x₀ x t r e f c l [] h = record { later = x; run = r; tears = e; drops = f; copies = refl; old = λ b i. i; new = λ b i. absurd (Memᴰ.not-nil i) }
  go-out x₀ x t r e f c l (b ∷ strings) h =
      let g = go-out x₀ x t r e f c l strings (λ d i. h d (Memᴰ.tail i)) in
      record {
        later = record { copies = g.later.copies; sent = g.later.sent ++ b ∷ []; history = g.later.history };
        run = further g.run (move.leave c b l (subst (λ (m : ℕ → Copy). Memᴰ b (m c).leaving) (sym g.copies) (h b (Memᴰ.head refl))));
        tears = ap₂ (λ (a d : List ℕ). a ++ d) g.drops g.tears;
        drops = refl;
        copies = g.copies;
        old = λ d i. Memᴰ.append_left (b ∷ []) (g.old d i);
        new = λ d i. ⊎_elim (λ (a : d ≡ b). Memᴰ.append_right g.later.sent (Memᴰ.head a)) (λ (k : Memᴰ d strings). Memᴰ.append_left (b ∷ []) (g.new d k)) (Memᴰ.cases_cons i);
      }

  -- copy c has come so far, and its messages leave
  landed : (x₀ x : State) (y : place.State) → Same x y → (c : ℕ) (copy : c < n) (k : Copy) (t : List ℕ) (q : place.Copy) → Got x₀ x c copy k t [] → Level c k q
      → (strings : List (List ℕ)) → ((b : List ℕ) → Memᴰ b strings → Memᴰ b k.leaving) → ((b : List ℕ) → Memᴰ b q.leaving → Memᴰ b x.sent ⊎ Memᴰ b strings)
      → (past : List (Happening (Result Settling Refusal))) → Forth x₀ (place.remembered (place.changed y c q) past) t
  landed x₀ x y same c copy k t q g v strings ready said past =
      record {
        later = z.later;
        run = z.run;
        tears = z.tears;
        drops = z.drops;
        same = record {
          sent = λ b i. old b (same.sent b i);
          gone = λ p l b i. gone p l (eqb p c) b i;
          levels = λ p l. level p l (eqb p c) refl;
        };
      }
    where
      z : Gone x₀ g.later t strings
      z = go-out x₀ g.later t g.run g.tears g.drops c copy strings (λ b i. subst (λ (j : Copy). Memᴰ b j.leaving) (sym g.here) (ready b i))

      old : (b : List ℕ) → Memᴰ b x.sent → Memᴰ b z.later.sent
      old b i = z.old b (subst (Memᴰ b) (sym g.sent) i)

      gone : (p : ℕ) → p < n → (f : Bool) (b : List ℕ) → Memᴰ b (cond f q (y.copies p)).leaving → Memᴰ b z.later.sent
      gone p l true b i = ⊎_elim (λ (h : Memᴰ b x.sent). old b h) (λ (h : Memᴰ b strings). z.new b h) (said b i)
      gone p l false b i = old b (same.gone p l b i)

      level : (p : ℕ) → p < n → (f : Bool) → eqb p c ≡ f → Level p (z.later.copies p) (cond f q (y.copies p))
      level p l true e =
          subst (λ (i : ℕ). Level i (z.later.copies i) q) (sym (eqb-true p c e)) (subst (λ (j : Copy). Level c j q) (sym (ap (λ (m : ℕ → Copy). m c) z.copies ∙ g.here)) v)
      level p l false e =
          subst (λ (j : Copy). Level p j (y.copies p)) (sym (ap (λ (m : ℕ → Copy). m p) z.copies ∙ g.others p (eqb-false p c e))) (same.levels p l)

  -- an instance that is marked next is in range and committed, and what is saved of it is its mark
  module _ (c : ℕ) (copy : c < n) (w : place.State) (at : rules.State) (beside : Tie n s setup w at) (code : ℕ) (rest : List ℕ) (e : (w.copies c).listed ≡ code ∷ rest) where
    mark-is : Marked n s c (w.copies c).disk (w.copies c).lent code rest
    mark-is = marked-here n s setup w at beside c copy code rest e

    pub mark-range : instance_ok n s (instance_of code).0 (instance_of code).1 ≡ true
    mark-range = ap₂ (instance_ok n s) mark-is.is-owner mark-is.is_number ∙ mark-is.found.0

    pub mark-done : is_committed (record_in s (w.copies c).disk (instance_of code).0 (instance_of code).1) ≡ true
    mark-done =
        ap₂ (λ (p i : ℕ). is_committed (record_in s (w.copies c).disk p i)) mark-is.is-owner mark-is.is_number
        ∙ candidate-committed n s (records_in s (w.copies c).disk) mark-is.owner mark-is.number mark-is.found.0 mark-is.found.1

    mark-saved : put_part s (w.copies c).disk (instance_of code).0 (instance_of code).1 (part_of n s c (w.copies c).lent (instance_of code).0 (instance_of code).1)
        ≡ marked_in s (w.copies c).disk (instance_of code).0 (instance_of code).1
    mark-saved =
        ap₂ (λ (p i : ℕ). put_part s (w.copies c).disk p i (part_of n s c (w.copies c).lent p i)) mark-is.is-owner mark-is.is_number ∙ mark-is.saved
        ∙ sym (ap₂ (marked_in s (w.copies c).disk) mark-is.is-owner mark-is.is_number)

  -- the moves
  module _ (i j : ℕ) (inside : Inside i j) (x₀ : State) (y : place.State) (z : rules.State) (tie : Tie n s setup y z) (t : List ℕ) (f : Forth x₀ y t) (c : ℕ) (copy : c < n) where
    -- this host's state, copy c here and there, and both beside each other
    abbrev x : State
    x = f.later

    abbrev k : Copy
    k = f.later.copies c

    abbrev q : place.Copy
    q = y.copies c

    abbrev v : Level c (f.later.copies c) (y.copies c)
    v = f.same.levels c copy

    -- no move yet
    here : Got x₀ f.later c copy (f.later.copies c) t []
    here = record { later = f.later; run = f.run; tears = f.tears; drops = f.drops; here = refl; others = λ p ne. refl; sent = refl }

    -- where nothing is listed, nothing is to be written
    idle : (m : Copy) → Level c m q → q.listed ≡ [] → m.coming ≡ []
    idle m u e = u.coming ∙ ap (λ (l : List ℕ). mark_entries (map instance_of l)) e

    -- an event: the call, a cut inside its entry, the call again, its entry written and waited for, and its messages leave
    module _ (call : Call) (out : List ℕ) (o m w : ℕ) (p : Possible y.sent call) (e : q.listed ≡ []) (a : (outcome n s c q.lent out call).answer ≡ event_of o m w) where
      abbrev u : List ℕ
      u = (outcome n s c q.lent out call).table

      abbrev part : List ℕ
      part = part_of n s c u o m

      abbrev entry : List ℕ
      entry = record_entry o m part

      abbrev acts : place.Copy
      acts = place.acted n s c q (outcome n s c q.lent out call) o m w

      range : instance_ok n s o m ≡ true
      range = event-range n s setup y z tie c copy call out o m w p e a

      kept : Kept n s c (outcome n s c q.lent out call).table
      kept =
          let b = move-next n s setup z tie (place.event c call out o m w copy p e a) in
          subst (λ (r : place.Copy). Kept n s c r.lent) (here-is n s setup y.copies c acts)
          (lent-kept n s setup (place.remembered (place.changed y c acts) (recorded y.history o m call)) b.later b.tie c copy)

      -- the copy, once its entry is written and waited for
      entered : (r : Copy) → Level c r q → Level c (waited (wrote (acted n s c r (outcome n s c q.lent out call) o m w) (length entry))) acts
      entered r h =
          let long = part-size n s c u o m kept.setup range in
          let all : take (length entry) entry ≡ entry = take-length entry in
          record {
            base = h.base;
            journal = subst (λ (d : List ℕ). Journal n s c r.base (r.disk ++ d) (put_part s q.disk o m part)) (sym all)
                (record-then h.journal o m part range long (part-of-sound n s c u kept o m range));
            marks = ap (λ (d : List ℕ). marks_in (length (r.disk ++ d)) (r.disk ++ d)) all
                ∙ (marks-record n s c (few x₀ x c copy r q h) (low x₀ x c copy r q h) h.journal o m range part long) ∙ h.marks;
            coming = drop-length entry;
            lent = refl;
            safe = omega arith;
          }

      -- the call, wherever the copy is as it was before it
      calls : {r : Copy} {b l : List ℕ} → Got x₀ f.later c copy r b l → Level c r q → Got x₀ f.later c copy (acted n s c r (outcome n s c q.lent out call) o m w) (l ++ b) []
      calls {r = r} g h = did-event x₀ x c copy g call out o m w q.lent (possible y.sent x.sent f.same.sent call p) (idle r h e) h.lent a

      torn-event : Again x₀ f.later c copy (y.copies c) t (i ∷ [])
      torn-event =
          let long = part-size n s c u o m kept.setup range in
          let b = bounds n s c (few x₀ x c copy k q v) (low x₀ x c copy k q v) o m range in
          let size = record-long o m b.0 b.1 part long in
          tear-in x₀ x c copy k q v entry entry [] u (k.held ++ written w (outcome n s c q.lent out call).out) t i e (in_memory n s setup y z tie c copy e) (sym (append-nil entry))
          (record-size n s c (few x₀ x c copy k q v) (low x₀ x c copy k q v) o m range part long) inside.some (omega (arith, inside.less)) (calls here v)

      event-forth : Forth x₀ (place.remembered (place.changed y c (place.acted n s c (y.copies c) (outcome n s c (y.copies c).lent out call) o m w)) (recorded y.history o m call)) (i ∷ t)
      event-forth =
          let r = torn-event in
          let strings : List (List ℕ) = written w (outcome n s c q.lent out call).out in
          landed x₀ x y f.same c copy _ (i ∷ t) acts
          (did-wait x₀ x c copy (did_write x₀ x c copy (calls r.got r.level) (length entry)) (drop-length entry)) (entered r.now r.level) strings
          (λ b h. Memᴰ.append_right r.now.leaving (Memᴰ.append_right r.now.held h))
          (λ b h. ⊎_elim (λ (d : Memᴰ b q.leaving). inl (f.same.gone c copy b d)) (λ (d : Memᴰ b strings). inr d) (Memᴰ.append_cases q.leaving h))
          (recorded y.history o m call)

    -- all that may leave there has left here
    said : (b : List ℕ) → Memᴰ b q.leaving → Memᴰ b f.later.sent ⊎ Memᴰ b []
    said b h = inl (f.same.gone c copy b h)

    -- a copy that has nothing more to send
    settles : (r : Copy) (d : List ℕ) (p : place.Copy) → Got x₀ f.later c copy r d [] → Level c r p → ((b : List ℕ) → Memᴰ b p.leaving → Memᴰ b q.leaving)
        → Forth x₀ (place.changed y c p) d
    settles r d p g h less = landed x₀ x y f.same c copy r d p g h [] (λ b a. absurd (Memᴰ.not-nil a)) (λ b a. said b (less b a)) y.history

    -- a hand-out: if it lists a code, a cut inside its first mark, and the hand-out again
    module _ (list : List ℕ) (m : ℕ) (e : q.listed ≡ []) (a : (handed n s c q.lent list).answer ≡ Ok m) where
      abbrev codes : List ℕ
      codes = take m (handed n s c q.lent list).list

      abbrev lists : place.Copy
      lists = place.handing q (handed n s c q.lent list) m

      hands : {r : Copy} {b l : List ℕ} → Got x₀ f.later c copy r b l → Level c r q → Got x₀ f.later c copy (handing r (handed n s c q.lent list) m) (l ++ b) []
      hands {r = r} g h = did-hand x₀ x c copy g list m q.lent (idle r h e) h.lent a

      handed-level : (r : Copy) → Level c r q → Level c (handing r (handed n s c q.lent list) m) lists
      handed-level r h = record { base = h.base; journal = h.journal; marks = h.marks; coming = refl; lent = refl; safe = h.safe }

      torn-hand : (code : ℕ) (rest : List ℕ) → codes ≡ code ∷ rest → Again x₀ f.later c copy (y.copies c) t (j ∷ [])
      torn-hand code rest g =
          let b = move-next n s setup z tie (place.hand_out c list m copy e a) in
          let o : ℕ = (instance_of code).0 in
          let d : ℕ = (instance_of code).1 in
          let range : instance_ok n s o d ≡ true = mark-range c copy (place.changed y c lists) b.later b.tie code rest (ap (λ (r : place.Copy). r.listed) (here-is n s setup y.copies c lists) ∙ g) in
          tear-in x₀ x c copy k q v (mark_entries (map instance_of codes)) (mark_entry o d) (mark_entries (map instance_of rest)) (handed n s c q.lent list).table k.held t j e (in_memory n s setup y z tie c copy e) (ap (λ (l : List ℕ). mark_entries (map instance_of l)) g)
          (mark-size n s c (few x₀ x c copy k q v) (low x₀ x c copy k q v) o d range) inside.one inside.short (hands here v)

      hand-forth : Forth x₀ (place.changed y c (place.handing (y.copies c) (handed n s c (y.copies c).lent list) m)) (first_mark j (take m (handed n s c (y.copies c).lent list).list) ++ t)
      hand-forth = go codes refl
        where
          go : (l : List ℕ) → codes ≡ l → Forth x₀ (place.changed y c (place.handing (y.copies c) (handed n s c (y.copies c).lent list) m)) (first_mark j l ++ t)
          go [] g = settles _ t lists (hands here v) (handed-level k v) (λ b d. d)
          go (code ∷ rest) g = let r = torn-hand code rest g in settles _ (j ∷ t) lists (hands r.got r.level) (handed-level r.now r.level) (λ b d. d)

    -- the first mark of those that are coming is written
    mark-forth : (code : ℕ) (rest : List ℕ) → q.listed ≡ code ∷ rest → Forth x₀ (place.changed y c (place.marking n s c (y.copies c) code rest)) t
    mark-forth code rest e =
        let o : ℕ = (instance_of code).0 in
        let d : ℕ = (instance_of code).1 in
        let entry : List ℕ = mark_entry o d in
        let range = mark-range c copy y z tie code rest e in
        let parts : k.coming ≡ entry ++ mark_entries (map instance_of rest) = v.coming ∙ ap (λ (l : List ℕ). mark_entries (map instance_of l)) e in
        let piece : take (length entry) k.coming ≡ entry = ap (take (length entry)) parts ∙ take-append_seam entry (mark_entries (map instance_of rest)) in
        settles (wrote k (length entry)) t (place.marking n s c q code rest) (did_write x₀ x c copy here (length entry))
        (record {
          base = v.base;
          journal = subst (λ (b : List ℕ). Journal n s c k.base (k.disk ++ b) (place.marking n s c q code rest).disk) (sym piece)
              (subst (Journal n s c k.base (k.disk ++ entry)) (sym (mark-saved c copy y z tie code rest e)) (mark-then v.journal o d range (mark-done c copy y z tie code rest e)));
          marks = ap (λ (b : List ℕ). marks_in (length (k.disk ++ b)) (k.disk ++ b)) piece
              ∙ marks-mark n s c (few x₀ x c copy k q v) (low x₀ x c copy k q v) v.journal o d range
              ∙ ap (λ (l : List Instance). l ++ (o, d) ∷ []) v.marks;
          coming = ap (drop (length entry)) parts ∙ drop-append_seam entry (mark_entries (map instance_of rest));
          lent = v.lent;
          safe = rw (length-append k.disk (take (length entry) k.coming)) (omega (arith, v.safe));
        })
        (λ b h. h)

    -- a cut there is a cut here, behind the whole entries
    cut-forth : Forth x₀ (place.changed y c (place.restarted (y.copies c))) t
    cut-forth = let r = cut_off x₀ x c copy k q v t here in settles r.now t (place.restarted q) r.got r.level (λ b h. absurd (Memᴰ.not-nil h))

    -- a message that leaves there has left
    leave-forth : (b : List ℕ) → Memᴰ b q.leaving → Forth x₀ (record { copies = y.copies; sent = y.sent ++ b ∷ []; history = y.history }) t
    leave-forth b m =
        record {
          later = f.later;
          run = f.run;
          tears = f.tears;
          drops = f.drops;
          same = record {
            sent = λ d h. ⊎_elim (λ (a : Memᴰ d y.sent). f.same.sent d a) (λ (a : Memᴰ d (b ∷ [])). subst (λ (l : List ℕ). Memᴰ l f.later.sent) (sym (Memᴰ.eq_of_singleton a)) (f.same.gone c copy b m)) (Memᴰ.append_cases y.sent h);
            gone = f.same.gone;
            levels = f.same.levels;
          };
        }

  -- every move
  move-forth : (i j : ℕ) → Inside i j → (x₀ : State) {y u : place.State} (z : rules.State) → Tie n s setup y z → (t : List ℕ) → Forth x₀ y t → (m : place.Move n s y u) → Forth x₀ u (tear i j m ++ t)
  move-forth i j a x₀ {y = y} z tie t f (place.event c call out o m w l p e h) = event-forth i j a x₀ y z tie t f c l call out o m w p e h
  move-forth i j a x₀ {y = y} z tie t f (place.leave c b l m) = leave-forth i j a x₀ y z tie t f c l b m
  move-forth i j a x₀ {y = y} z tie t f (place.hand_out c list m l e h) = hand-forth i j a x₀ y z tie t f c l list m e h
  move-forth i j a x₀ {y = y} z tie t f (place.mark c code rest l e) = mark-forth i j a x₀ y z tie t f c l code rest e
  move-forth i j a x₀ {y = y} z tie t f (place.question c o k l) =
      record { later = f.later; run = f.run; tears = f.tears; drops = f.drops; same = record { sent = f.same.sent; gone = f.same.gone; levels = f.same.levels } }
  move-forth i j a x₀ {y = y} z tie t f (place.cut c l) = cut-forth i j a x₀ y z tie t f c l

  -- where a run may start
  abbrev pub begun : State
  begun = record { copies = λ c. fresh (blank_table n s c); sent = []; history = [] }

  start-forth : {y : place.State} → place.Start n s y → Forth begun y []
  unfolding marks_in
  start-forth place.blanks =
      record {
        later = begun;
        run = stay;
        tears = refl;
        drops = refl;
        same = record {
          sent = λ b h. h;
          gone = λ c l b h. h;
          levels = λ c l. record { base = blank-table n s setup c l; journal = none; marks = refl; coming = refl; lent = refl; safe = omega arith };
        };
      }

  -- every run
  pub forth : (i j : ℕ) → Inside i j → {y₀ y : place.State} → place.Start n s y₀ → (r : place.Run n s y₀ y) → Forth begun y (tears i j r)
  forth i j a st place.stay = start-forth st
  forth i j a st (place.further r m) =
      let z = begin n s setup st in
      let b = bridge n s setup z.first z.tie r in
      move-forth i j a begun b.later b.tie (tears i j r) (forth i j a st r) m

  -- what a copy has saved is what the other host has
  pub record Even (c : ℕ) (k : Copy) (q : place.Copy) : Type 0 where
    pub saved : saved_table n s c k ≡ q.disk
    pub marks : saved_marks k ≡ q.marks

  -- once it has waited for the disk
  even : (c : ℕ) (k : Copy) (q : place.Copy) → Level c k q → Even c (waited k) q
  even c k q v =
      let all : take (length k.disk) k.disk ≡ k.disk = take-length k.disk in
      record {
        saved = ap (λ (b : List ℕ). (replayed n s c k.base b).table) all
            ∙ ap (λ (r : Replayed). r.table) (replays n s c k.base k.disk q.disk (record { setup = v.base.setup; sound = v.base.sound }) v.journal);
        marks = ap (λ (b : List ℕ). marks_in (length b) b) all ∙ v.marks;
      }

  -- the first m copies have restarted and waited for the disk
  record Part (y : place.State) (t : List ℕ) (m : ℕ) : Type 0 where
    later : State
    run : Run n s begun later
    tears : torn run ≡ t
    drops : last run ≡ []
    done : (c : ℕ) → c < n → c < m → Even c (later.copies c) (y.copies c)
    rest : (c : ℕ) → c < n → m ≤ c → Level c (later.copies c) (y.copies c)

  -- one copy more: a cut behind its whole entries, which drops the marks that were still to be written, and a wait
  one_more : (y : place.State) (t : List ℕ) (m : ℕ) → m < n → Part y t m → Part y t (suc m)
  one_more y t m l w =
      record {
        later = g.later;
        run = g.run;
        tears = g.tears;
        drops = g.drops;
        done = λ c d e. side c d e (ltb c m) refl;
        rest = λ c d e. subst (λ (j : Copy). Level c j (y.copies c)) (sym (g.others c (λ h. omega arith))) (w.rest c d (omega arith));
      }
    where
      at : Got begun w.later m l (w.later.copies m) t []
      at = record { later = w.later; run = w.run; tears = w.tears; drops = w.drops; here = refl; others = λ p ne. refl; sent = refl }

      off : Again begun w.later m l (place.restarted (y.copies m)) t []
      off = cut_off begun w.later m l (w.later.copies m) (y.copies m) (w.rest m l (omega arith)) t at

      g : Got begun w.later m l (waited off.now) t []
      g = did-wait begun w.later m l off.got off.level.coming

      side : (c : ℕ) → c < n → c < suc m → (b : Bool) → ltb c m ≡ b → Even c (g.later.copies c) (y.copies c)
      side c d e true f =
          let less : c < m = ltb-true c m f in
          subst (λ (j : Copy). Even c j (y.copies c)) (sym (g.others c (λ h. omega arith))) (w.done c d less)
      side c d e false f =
          let h = even m off.now (place.restarted (y.copies m)) off.level in
          let same : m ≡ c = omega (arith, ltb-false c m f) in
          subst (λ (p : ℕ). Even p (g.later.copies p) (y.copies p)) same (subst (λ (j : Copy). Even m j (y.copies m)) (sym g.here) (record { saved = h.saved; marks = h.marks }))

  -- all of them
  each : (y : place.State) (t : List ℕ) → Part y t 0 → (m : ℕ) → m ≤ n → Part y t m
  each y t w zero l = w
  each y t w (suc m) l = one_more y t m (omega arith) (each y t w m (omega arith))

  -- a run with journals from the blank tables, at the end of which every copy has saved what it has in the other host's run
  pub record Lifted (y : place.State) (t : List ℕ) : Type 0 where
    pub first : State
    pub start : Start n s first
    pub state : State
    pub run : Run n s first state
    pub tears : torn run ≡ t
    pub evens : (c : ℕ) → c < n → Even c (state.copies c) (y.copies c)

  -- every run there is such a run, torn at each event and at each hand-out that listed a code
  pub lifted : (i j : ℕ) → Inside i j → {y₀ y : place.State} → place.Start n s y₀ → (r : place.Run n s y₀ y) → Lifted y (tears i j r)
  lifted i j a {y = y} st r =
      let f = forth i j a st r in
      let w = each y (tears i j r) (record { later = f.later; run = f.run; tears = f.tears; drops = f.drops; done = λ c l e. absurd (omega arith); rest = λ c l e. f.same.levels c l }) n (omega arith) in
      record { first = begun; start = blanks; state = w.later; run = w.run; tears = w.tears; evens = λ c l. w.done c l l }
