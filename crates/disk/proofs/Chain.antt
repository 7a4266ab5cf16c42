-- What a host has done since it last waited for the disk, as a host that saves in place would do it (demand/specs/Run), and the bytes of
-- its entries. Such a host can do it all at once when the other one has waited. Assumes nothing.
use Rattle.std.specs.Prelude.{Result, Ok}
use Prim.Native.Nat.{ℕ, ◌+◌, ◌-◌, ◌≤◌, ◌<◌}
use mathlib.Core.Path.{◌≡◌, refl, sym, ap, ap₂, ◌∙◌, subst}
use mathlib.Core.Logic.{◌⊎◌, inl, inr, ⊎_elim}
use mathlib.Core.Bool.{Bool, true, false}
use mathlib.Core.List.Memᴰ
use mathlib.Core.List.{List, [], ◌∷◌, ◌++◌, map, append_assoc, append-nil, Memᴰ}
use native.Mathlib.Omega.{arith}
use lib.Dec.{ltb}
use lib.ListN.{length, take, length-append}
use lib.Seq.{take_all, take-append-le, take-append-add}
use borrow.Author.Tests.{ltb-true, ltb-false}
use Rattle.paper.specs.declared.Refusal.{Refusal}
use Rattle.paper.specs.Instance.{instance_ok}
use Rattle.paper.specs.declared.Command.{Command}
use Rattle.rules.specs.Step.{is_committed}
use Rattle.rules.specs.Order.{instance_of}
use Rattle.table.specs.Table.{record_in, Kept}
use Rattle.table.specs.Calls.{part_of, put_part}
use Rattle.table.proofs.Laws.{sizes, names}
use Rattle.table.proofs.Round.{record-whole, put-get}
use Rattle.table.proofs.Saved.{part-size, part-of-sound}
use Rattle.seen.specs.Records.{records_in}
use Rattle.closed.proofs.Mark.{candidate-committed}
use Rattle.gate.specs.Events.{event_of}
use Rattle.order.specs.declared.Settling.{Settling}
use Rattle.order.specs.Calls.{marked_in, handed}
use Rattle.entries.specs.Entry.{entry_length, kind_in, record_entry, mark_entry}
use Rattle.entries.specs.Replay.{front_of}
use Rattle.entries.specs.declared.Front.TheVariants as front
use Rattle.entries.specs.Journal.{Journal, none, record-then, mark-then}
use Rattle.entries.proofs.Framed.{short-rest, none_rest}
use Rattle.entries.proofs.Journal.{record-size, mark-size}
use Rattle.safety.specs.Run.{Happening, requested, Setup}
use Rattle.safety.specs.Run as rules
use Rattle.demand.specs.Run.{Call, request, receive, recover, nudge, outcome, Possible, recorded}
use Rattle.demand.specs.Run as place
use Rattle.disk.specs.Run.{marks_in, mark_entries}
use Rattle.disk.proofs.Marks.{marks-record, marks-mark}
use Rattle.demand.proofs.Records.{saved-record}
use Rattle.demand.proofs.Handing.{Marked}
use Rattle.demand.proofs.Bridge.{Tie, here-is, other-stays, bridge, in_memory, lent-kept, marked-here, event-range}

-- a request that was answered is in the history
abbrev pub Asked : List (Happening (Result Settling Refusal)) → ℕ → ℕ → Call → Type 0
Asked past o j (request w k) = Memᴰ (requested o j k) past
Asked past o j (receive w b) = Unit {0}
Asked past o j (recover p i) = Unit {0}
Asked past o j (nudge p i) = Unit {0}

-- from the copy k to the copy q, with these bytes
pub data Chain (n s c : ℕ) (sent : List (List ℕ)) (past : List (Happening (Result Settling Refusal))) (k : place.Copy) : List ℕ → place.Copy → Type 0 where
  still : Chain n s c sent past k [] k
  event : {b : List ℕ} {q : place.Copy} → Chain n s c sent past k b q → (call : Call) (out : List ℕ) (o j w : ℕ) → Possible sent call → Asked past o j call → q.listed ≡ []
      → (outcome n s c q.lent out call).answer ≡ event_of o j w
      → Chain n s c sent past k (b ++ record_entry o j (part_of n s c (outcome n s c q.lent out call).table o j)) (place.acted n s c q (outcome n s c q.lent out call) o j w)
  same : {b : List ℕ} {q : place.Copy} → Chain n s c sent past k b q → (call : Call) (out : List ℕ) (o j w : ℕ) → Possible sent call → Asked past o j call → q.listed ≡ []
      → (outcome n s c q.lent out call).answer ≡ event_of o j w → (outcome n s c q.lent out call).table ≡ q.lent
      → Chain n s c sent past k b (place.acted n s c q (outcome n s c q.lent out call) o j w)
  hand_out : {b : List ℕ} {q : place.Copy} → Chain n s c sent past k b q → (list : List ℕ) (i : ℕ) → q.listed ≡ []
      → (handed n s c q.lent list).answer ≡ Ok i → Chain n s c sent past k b (place.handing q (handed n s c q.lent list) i)
  mark : {b : List ℕ} {q : place.Copy} → Chain n s c sent past k b q → (code : ℕ) (rest : List ℕ) → q.listed ≡ code ∷ rest
      → Chain n s c sent past k (b ++ mark_entry (instance_of code).0 (instance_of code).1) (place.marking n s c q code rest)
  cut : {b : List ℕ} {q : place.Copy} → Chain n s c sent past k b q → Chain n s c sent past k b (place.restarted q)

-- more may have been sent, and more have happened
module _ (n s c : ℕ) (sent more : List (List ℕ)) (past then : List (Happening (Result Settling Refusal))) (k : place.Copy)
    (grown : (b : List ℕ) → Memᴰ b sent → Memᴰ b more) (later : (h : Happening (Result Settling Refusal)) → Memᴰ h past → Memᴰ h then) where
  possible : (call : Call) → Possible sent call → Possible more call
  possible (request w v) p = p
  possible (receive w b) p = (p.0, grown b p.1)
  possible (recover o j) p = p
  possible (nudge o j) p = p

  asked : (o j : ℕ) (call : Call) → Asked past o j call → Asked then o j call
  asked o j (request w v) p = later (requested o j v) p
  asked o j (receive w b) p = p
  asked o j (recover p i) h = h
  asked o j (nudge p i) h = h

  pub chain_more : {b : List ℕ} {q : place.Copy} → Chain n s c sent past k b q → Chain n s c more then k b q
  chain_more still = still
  chain_more (event h call out o j w p a l e) = event (chain_more h) call out o j w (possible call p) (asked o j call a) l e
  chain_more (same h call out o j w p a l e t) = same (chain_more h) call out o j w (possible call p) (asked o j call a) l e t
  chain_more (hand_out h list i l e) = hand_out (chain_more h) list i l e
  chain_more (mark h code rest e) = mark (chain_more h) code rest e
  chain_more (cut h) = cut (chain_more h)

-- a run of the host that saves in place, to where its copy c is q, and nothing else has changed but what happened
pub record Ran (n s c : ℕ) (past : List (Happening (Result Settling Refusal))) (x : place.State) (q : place.Copy) : Type 0 where
  pub later : place.State
  pub run : place.Run n s x later
  pub here : later.copies c ≡ q
  pub others : (p : ℕ) → (p ≡ c → ⊥) → later.copies p ≡ x.copies p
  pub sent : later.sent ≡ x.sent
  pub history : (o j : ℕ) (k : Command) → Memᴰ (requested o j k) later.history → Memᴰ (requested o j k) x.history ⊎ Memᴰ (requested o j k) past

module _ (n s : ℕ) (setup : Setup n s) (c : ℕ) (copy : c < n) (past : List (Happening (Result Settling Refusal))) (x : place.State) where
  -- a call is remembered, if it is a request
  recalled : (l : List (Happening (Result Settling Refusal))) (o j : ℕ) (call : Call) → Asked past o j call → (p i : ℕ) (v : Command) → Memᴰ (requested p i v) (recorded l o j call)
      → Memᴰ (requested p i v) l ⊎ Memᴰ (requested p i v) past
  recalled l o j (request w k) a p i v m =
      ⊎_elim (λ (h : Memᴰ (requested p i v) l). inl h) (λ (h : Memᴰ (requested p i v) (requested o j k ∷ [])). inr (subst (λ (z : Happening (Result Settling Refusal)). Memᴰ z past) (sym (Memᴰ.eq_of_singleton h)) a)) (Memᴰ.append_cases l m)
  recalled l o j (receive w b) a p i v m = inl m
  recalled l o j (recover q k) a p i v m = inl m
  recalled l o j (nudge q k) a p i v m = inl m

  -- one move more of copy c
  module _ {q : place.Copy} (r : Ran n s c past x q) where
    moved : (k : place.Copy) → place.Move n s r.later (place.changed r.later c k) → Ran n s c past x k
    moved k m =
        record {
          later = place.changed r.later c k;
          run = place.further r.run m;
          here = here-is n s setup r.later.copies c k;
          others = λ p ne. other-stays n s setup r.later.copies c k p ne ∙ r.others p ne;
          sent = r.sent;
          history = r.history;
        }

    ran-event : (call : Call) (out : List ℕ) (o j w : ℕ) → Possible x.sent call → Asked past o j call → q.listed ≡ [] → (outcome n s c q.lent out call).answer ≡ event_of o j w
        → Ran n s c past x (place.acted n s c q (outcome n s c q.lent out call) o j w)
    ran-event call out o j w p a l e =
        let y : place.State = r.later in
        let k : place.Copy = place.acted n s c (y.copies c) (outcome n s c (y.copies c).lent out call) o j w in
        record {
          later = place.remembered (place.changed y c k) (recorded y.history o j call);
          run = place.further r.run (place.event c call out o j w copy (subst (λ (l : List (List ℕ)). Possible l call) (sym r.sent) p) (ap (λ (k : place.Copy). k.listed) r.here ∙ l)
              (ap (λ (k : place.Copy). (outcome n s c k.lent out call).answer) r.here ∙ e));
          here = here-is n s setup y.copies c k ∙ ap (λ (k : place.Copy). place.acted n s c k (outcome n s c k.lent out call) o j w) r.here;
          others = λ p ne. other-stays n s setup y.copies c k p ne ∙ r.others p ne;
          sent = r.sent;
          history = λ p i v m. ⊎_elim (λ (h : Memᴰ (requested p i v) y.history). r.history p i v h) (λ (h : Memᴰ (requested p i v) past). inr h) (recalled y.history o j call a p i v m);
        }

  pub ran : {sent : List (List ℕ)} {k : place.Copy} {b : List ℕ} {q : place.Copy} → x.copies c ≡ k → x.sent ≡ sent → Chain n s c sent past k b q → Ran n s c past x q
  ran at se still = record { later = x; run = place.stay; here = at; others = λ p ne. refl; sent = refl; history = λ o j k m. inl m }
  ran at se (event h call out o j w p a l e) = ran-event (ran at se h) call out o j w (subst (λ (m : List (List ℕ)). Possible m call) (sym se) p) a l e
  ran at se (same h call out o j w p a l e t) = ran-event (ran at se h) call out o j w (subst (λ (m : List (List ℕ)). Possible m call) (sym se) p) a l e
  ran at se (hand_out h list i l e) =
      let r = ran at se h in
      subst (λ (k : place.Copy). Ran n s c past x (place.handing k (handed n s c k.lent list) i)) r.here
      (moved r (place.handing (r.later.copies c) (handed n s c (r.later.copies c).lent list) i)
      (place.hand_out c list i copy (ap (λ (k : place.Copy). k.listed) r.here ∙ l) (ap (λ (k : place.Copy). (handed n s c k.lent list).answer) r.here ∙ e)))
  ran at se (mark h code rest e) =
      let r = ran at se h in
      subst (λ (k : place.Copy). Ran n s c past x (place.marking n s c k code rest)) r.here
      (moved r (place.marking n s c (r.later.copies c) code rest) (place.mark c code rest copy (ap (λ (k : place.Copy). k.listed) r.here ∙ e)))
  ran at se (cut h) =
      let r = ran at se h in
      subst (λ (k : place.Copy). Ran n s c past x (place.restarted k)) r.here (moved r (place.restarted (r.later.copies c)) (place.cut c copy))

  -- a part that is put back where it was
  unchanged : (t : List ℕ) → Kept n s c t → (o j : ℕ) → instance_ok n s o j ≡ true → put_part s t o j (part_of n s c t o j) ≡ t
  unchanged t m o j i =
      let a = names n s c t o j m.setup i in
      saved-record n s c t m t o j i ∙ put-get n s t (sizes n s c t m.setup).long o j a (record-whole n s c t m o j a)

  -- what is known of the copy after it
  module _ (y : rules.State) (tie : Tie n s setup x y) {sent : List (List ℕ)} {k : place.Copy} (at : x.copies c ≡ k) (se : x.sent ≡ sent) where
    pub record Known (q : place.Copy) : Type 0 where
      pub saved : Kept n s c q.disk
      pub lent : Kept n s c q.lent
      pub memory : q.listed ≡ [] → q.lent ≡ q.disk

    pub known : {b : List ℕ} {q : place.Copy} → Chain n s c sent past k b q → Known q
    known {q = q} h =
        let r = ran at se h in
        let z = bridge n s setup y tie r.run in
        subst Known r.here
        (record {
          saved = (z.tie.copies c).kept copy;
          lent = lent-kept n s setup r.later z.later z.tie c copy;
          memory = in_memory n s setup r.later z.later z.tie c copy;
        })

    -- an answered call names an instance
    pub ranged : {b : List ℕ} {q : place.Copy} → Chain n s c sent past k b q → (call : Call) (out : List ℕ) (o j w : ℕ) → Possible sent call → q.listed ≡ []
        → (outcome n s c q.lent out call).answer ≡ event_of o j w → instance_ok n s o j ≡ true
    ranged h call out o j w p l e =
        let r = ran at se h in
        let z = bridge n s setup y tie r.run in
        event-range n s setup r.later z.later z.tie c copy call out o j w (subst (λ (m : List (List ℕ)). Possible m call) (sym (r.sent ∙ se)) p)
        (ap (λ (k : place.Copy). k.listed) r.here ∙ l) (ap (λ (k : place.Copy). (outcome n s c k.lent out call).answer) r.here ∙ e)

    -- what is marked next
    marked-in : {b : List ℕ} {q : place.Copy} → Chain n s c sent past k b q → (code : ℕ) (rest : List ℕ) → q.listed ≡ code ∷ rest → Marked n s c q.disk q.lent code rest
    marked-in h code rest e =
        let r = ran at se h in
        let z = bridge n s setup y tie r.run in
        subst (λ (k : place.Copy). Marked n s c k.disk k.lent code rest) r.here
        (marked-here n s setup r.later z.later z.tie c copy code rest (ap (λ (k : place.Copy). k.listed) r.here ∙ e))

    -- its entries are a journal, from the table saved before it to the table saved after it
    pub chain-journal : {b : List ℕ} {q : place.Copy} → Chain n s c sent past k b q → Journal n s c k.disk b q.disk
    chain-journal still = none
    chain-journal (event {q = q} h call out o j w p a l e) =
        let t : List ℕ = (outcome n s c q.lent out call).table in
        let i : instance_ok n s o j ≡ true = ranged h call out o j w p l e in
        let m : Kept n s c t = (known (event h call out o j w p a l e)).lent in
        record-then (chain-journal h) o j (part_of n s c t o j) i (part-size n s c t o j m.setup i) (part-of-sound n s c t m o j i)
    chain-journal (same {b = b} {q = q} h call out o j w p a l e f) =
        let z = known h in
        let i : instance_ok n s o j ≡ true = ranged h call out o j w p l e in
        let t : (outcome n s c q.lent out call).table ≡ q.disk = f ∙ z.memory l in
        let back : put_part s q.disk o j (part_of n s c (outcome n s c q.lent out call).table o j) ≡ q.disk =
        ap (λ (u : List ℕ). put_part s q.disk o j (part_of n s c u o j)) t ∙ unchanged q.disk z.saved o j i in
        subst (Journal n s c k.disk b) (sym back) (chain-journal h)
    chain-journal (hand_out h list i l e) = chain-journal h
    chain-journal (mark {b = b} {q = q} h code rest e) =
        let m = marked-in h code rest e in
        let o : ℕ = (instance_of code).0 in
        let j : ℕ = (instance_of code).1 in
        let range : instance_ok n s o j ≡ true = ap₂ (instance_ok n s) m.is-owner m.is_number ∙ m.found.0 in
        let done : is_committed (record_in s q.disk o j) ≡ true =
        ap₂ (λ (p i : ℕ). is_committed (record_in s q.disk p i)) m.is-owner m.is_number
        ∙ candidate-committed n s (records_in s q.disk) m.owner m.number m.found.0 m.found.1 in
        let saved : put_part s q.disk o j (part_of n s c q.lent o j) ≡ marked_in s q.disk o j =
        ap₂ (λ (p i : ℕ). put_part s q.disk p i (part_of n s c q.lent p i)) m.is-owner m.is_number ∙ m.saved
        ∙ sym (ap₂ (marked_in s q.disk) m.is-owner m.is_number) in
        subst (Journal n s c k.disk (b ++ mark_entry o j)) (sym saved) (mark-then (chain-journal h) o j range done)
    chain-journal (cut h) = chain-journal h

-- what a cut leaves: whole entries, restarted from, and less than one more
pub record Left (n s c : ℕ) (sent : List (List ℕ)) (past : List (Happening (Result Settling Refusal))) (k : place.Copy) (b : List ℕ) (p : ℕ) : Type 0 where
  pub kept : List ℕ
  pub rest : List ℕ
  pub end : place.Copy
  pub chain : Chain n s c sent past k kept end
  pub parts : take p b ≡ kept ++ rest
  pub less : (done : ℕ → ℕ → Bool) → front_of n s c done rest ≡ Ok front.Rest
  pub memory : end.lent ≡ end.disk
  pub none : end.listed ≡ []

module _ (n s c : ℕ) (sent : List (List ℕ)) (past : List (Happening (Result Settling Refusal))) (k : place.Copy) where
  -- all of it
  all_left : (b : List ℕ) (q : place.Copy) (p : ℕ) → Chain n s c sent past k b q → length b ≤ p → Left n s c sent past k b p
  all_left b q p h l =
      record {
        kept = b;
        rest = [];
        end = place.restarted q;
        chain = cut h;
        parts = take_all p b l ∙ sym (append-nil b);
        less = none_rest n s c;
        memory = refl;
        none = refl;
      }

  -- one entry more
  one_left : (b e : List ℕ) (q : place.Copy) (p : ℕ) → Chain n s c sent past k b q → length e ≡ entry_length (kind_in e) → p < length (b ++ e)
      → (p < length b → Left n s c sent past k b p) → Left n s c sent past k (b ++ e) p
  one_left b e q p h size lt below = go (ltb p (length b)) refl
    where
      go : (x : Bool) → ltb p (length b) ≡ x → Left n s c sent past k (b ++ e) p
      go true f =
          let z = below (ltb-true p (length b) f) in
          record {
            kept = z.kept;
            rest = z.rest;
            end = z.end;
            chain = z.chain;
            parts = take-append-le p b e (omega (arith, ltb-true p (length b) f)) ∙ z.parts;
            less = z.less;
            memory = z.memory;
            none = z.none;
          }
      go false f =
          let g = ltb-false p (length b) f in
          let y = length-append b e in
          let m : p ≡ length b + (p - length b) = omega arith in
          record {
            kept = b;
            rest = take (p - length b) e;
            end = place.restarted q;
            chain = cut h;
            parts = ap (λ (i : ℕ). take i (b ++ e)) m ∙ take-append-add b e (p - length b);
            less = λ done. short-rest n s c done e (p - length b) size (omega arith);
            memory = refl;
            none = refl;
          }

module _ (n s : ℕ) (setup : Setup n s) (c : ℕ) (copy : c < n) (past : List (Happening (Result Settling Refusal))) (x : place.State) (y : rules.State) (tie : Tie n s setup x y)
    {sent : List (List ℕ)} {k : place.Copy} (at : x.copies c ≡ k) (se : x.sent ≡ sent) (few : n ≤ 7) (low : s ≤ 64) where
  cut_in : {b : List ℕ} {q : place.Copy} → Chain n s c sent past k b q → (p : ℕ) → p < length b → Left n s c sent past k b p
  cut_in still p l = absurd (omega arith)
  cut_in (event {b = b} {q = q} h call out o j w a r f e) p l =
      let t : List ℕ = (outcome n s c q.lent out call).table in
      let i = ranged n s setup c copy past x y tie at se h call out o j w a f e in
      let m = (known n s setup c copy past x y tie at se (event h call out o j w a r f e)).lent in
      one_left n s c sent past k b (record_entry o j (part_of n s c t o j)) q p h (record-size n s c few low o j i (part_of n s c t o j) (part-size n s c t o j m.setup i)) l (λ z. cut_in h p z)
  cut_in (same h call out o j w a r f e t) p l = cut_in h p l
  cut_in (hand_out h list i f e) p l = cut_in h p l
  cut_in (mark {b = b} {q = q} h code rest e) p l =
      let m = marked-in n s setup c copy past x y tie at se h code rest e in
      let range : instance_ok n s (instance_of code).0 (instance_of code).1 ≡ true = ap₂ (instance_ok n s) m.is-owner m.is_number ∙ m.found.0 in
      one_left n s c sent past k b (mark_entry (instance_of code).0 (instance_of code).1) q p h (mark-size n s c few low _ _ range) l (λ z. cut_in h p z)
  cut_in (cut h) p l = cut_in h p l

  -- a cut at any byte
  pub cut_at : {b : List ℕ} {q : place.Copy} → Chain n s c sent past k b q → (p : ℕ) → Left n s c sent past k b p
  cut_at {b = b} {q = q} h p = go (ltb p (length b)) refl
    where
      go : (z : Bool) → ltb p (length b) ≡ z → Left n s c sent past k b p
      go true f = cut_in h p (ltb-true p (length b) f)
      go false f = all_left n s c sent past k b q p h (ltb-false p (length b) f)

-- the marks of a hand-out, one after another
module _ (n s c : ℕ) (sent : List (List ℕ)) (past : List (Happening (Result Settling Refusal))) (k : place.Copy) where
  pub record Handed (b codes : List ℕ) (q : place.Copy) : Type 0 where
    pub end : place.Copy
    pub chain : Chain n s c sent past k (b ++ mark_entries (map instance_of codes)) end
    pub lent : end.lent ≡ q.lent
    pub none : end.listed ≡ []
    pub leaving : end.leaving ≡ q.leaving

  pub mark-all : (codes b : List ℕ) (q : place.Copy) → Chain n s c sent past k b q → q.listed ≡ codes → Handed b codes q
  mark-all [] b q h e = record { end = q; chain = subst (λ (l : List ℕ). Chain n s c sent past k l q) (sym (append-nil b)) h; lent = refl; none = e; leaving = refl }
  mark-all (code ∷ codes) b q h e =
      let m : List ℕ = mark_entry (instance_of code).0 (instance_of code).1 in
      let z = mark-all codes (b ++ m) (place.marking n s c q code codes) (mark h code codes e) refl in
      record {
        end = z.end;
        chain = subst (λ (l : List ℕ). Chain n s c sent past k l z.end) (append_assoc b m (mark_entries (map instance_of codes))) z.chain;
        lent = z.lent;
        none = z.none;
        leaving = z.leaving;
      }

-- the marks that it saved are those of its entries
module _ (n s : ℕ) (setup : Setup n s) (c : ℕ) (copy : c < n) (past : List (Happening (Result Settling Refusal))) (x : place.State) (y : rules.State) (tie : Tie n s setup x y)
    {sent : List (List ℕ)} {k : place.Copy} (at : x.copies c ≡ k) (se : x.sent ≡ sent) (few : n ≤ 7) (low : s ≤ 64) where
  pub chain-marks : {b : List ℕ} {q : place.Copy} → Chain n s c sent past k b q → q.marks ≡ k.marks ++ marks_in (length b) b
  unfolding marks_in
  chain-marks still = sym (append-nil k.marks)
  chain-marks (event {q = q} h call out o j w a r f e) =
      let t : List ℕ = (outcome n s c q.lent out call).table in
      let i = ranged n s setup c copy past x y tie at se h call out o j w a f e in
      let m = (known n s setup c copy past x y tie at se (event h call out o j w a r f e)).lent in
      chain-marks h
      ∙ ap (λ (l : List rules.Instance). k.marks ++ l) (sym (marks-record n s c few low (chain-journal n s setup c copy past x y tie at se h) o j i (part_of n s c t o j) (part-size n s c t o j m.setup i)))
  chain-marks (same h call out o j w a r f e t) = chain-marks h
  chain-marks (hand_out h list i f e) = chain-marks h
  chain-marks (mark {b = b} h code rest e) =
      let m = marked-in n s setup c copy past x y tie at se h code rest e in
      let range : instance_ok n s (instance_of code).0 (instance_of code).1 ≡ true = ap₂ (instance_ok n s) m.is-owner m.is_number ∙ m.found.0 in
      ap (λ (l : List rules.Instance). l ++ instance_of code ∷ []) (chain-marks h) ∙ append_assoc k.marks (marks_in (length b) b) (instance_of code ∷ [])
      ∙ ap (λ (l : List rules.Instance). k.marks ++ l) (sym (marks-mark n s c few low (chain-journal n s setup c copy past x y tie at se h) (instance_of code).0 (instance_of code).1 range))
  chain-marks (cut h) = chain-marks h
