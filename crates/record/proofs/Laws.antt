-- Lengths of a record's bytes, one more reply written, and soundness as it is judged. Assumes nothing.
use mathlib.Core.Path.{◌≡◌, refl, sym, ap, ◌∙◌}
use mathlib.Core.Bool.{Bool, true, false, ◌&&◌}
use mathlib.Core.List.{List, [], ◌∷◌, ◌++◌, append_assoc, append-nil, map}
use Prim.Native.Nat.{ℕ, zero, suc, ◌+◌, ◌*◌, ◌-◌, ◌^◌, ◌≤◌, ◌<◌}
use native.Mathlib.Omega.{arith}
use native.Mathlib.Numerals.{add-one}
use native.Mathlib.Nat.{add-zero}
use lib.ListN.{length, length-append, take, get_or}
use lib.Seq.{take-suc, length-take-le}
use Rattle.std.specs.List.{range_with_len, list_all}
use Rattle.numbers.specs.Num.{num_at, splice}
use Rattle.numbers.proofs.Laws.{splice-step}
use Rattle.codec.specs.Parts.{command_at, deps_at, vote_at, vote_bytes}
use lib.Dec.{leb, ltb}
use Rattle.paper.specs.Logic.{all_below}
use Rattle.paper.specs.Ballot.{ballot_ok}
use Rattle.paper.specs.Command.{command_ok}
use Rattle.paper.specs.Deps.{deps_ok}
use Rattle.paper.specs.Vote.{no_vote, same_vote, none_is_blank, vote_ok, member}
use Rattle.paper.specs.Sound.{mark_committed, ranges_ok, votes_ok, phases_ok, preparing_ok, proposing_ok, busy_ok, replies_ok, collected_ok, reply_ok, sound_record}
use Rattle.paper.proofs.Laws.{and-true}
use Rattle.sound.specs.Front.{front}
use Rattle.sound.specs.Asked.{ballots_ok, marked_ok, phased_ok}
use Rattle.paper.specs.declared.Vote.{Vote}
use Rattle.paper.specs.declared.Record.{Record}
use Rattle.record.specs.Layout.{vote_length, replies_length, record_length, reply_place, votes_at, votes_bytes, front_bytes, record_at, record_bytes}
use Rattle.record.specs.Part.{op_fits, ops_fit, sound_part, command_fits, front_ok, plain_ok, busy_part, reply_part}

pub length-vote_bytes : (v : Vote) → length (vote_bytes v) ≡ 36
unfolding vote_bytes
length-vote_bytes v = refl

pub length-votes_bytes : (vs : List Vote) → length (votes_bytes vs) ≡ 36 * length vs
unfolding votes_bytes
length-votes_bytes [] = refl
length-votes_bytes (v ∷ vs) = simp (length-append, length-vote_bytes, length-votes_bytes vs) (omega arith)

pub length-front_bytes : (r : Record) → length (front_bytes r) ≡ 43
unfolding front_bytes
length-front_bytes r = simp (length-append, length-vote_bytes)

pub length-record_bytes : (r : Record) → length r.replies ≡ 7 → length (record_bytes r) ≡ record_length
unfolding record_bytes
length-record_bytes r h =
    let m : length (votes_bytes r.replies) ≡ replies_length = length-votes_bytes r.replies ∙ ap (λ (k : ℕ). vote_length * k) h in
    simp (length-append, length-front_bytes) (omega arith)

votes_bytes-append : (vs ws : List Vote) → votes_bytes (vs ++ ws) ≡ votes_bytes vs ++ votes_bytes ws
unfolding votes_bytes
votes_bytes-append [] ws = refl
votes_bytes-append (v ∷ vs) ws = rw (votes_bytes-append vs ws, append_assoc)

votes_bytes-snoc : (vs : List Vote) (k : ℕ) (d : Vote) → k < length vs → votes_bytes (take k vs) ++ vote_bytes (get_or vs k d) ≡ votes_bytes (take (k + 1) vs)
unfolding votes_bytes
votes_bytes-snoc vs k d h =
    sym (rw (add-one, take-suc vs k d h, votes_bytes-append) (ap (λ (x : List ℕ). votes_bytes (take k vs) ++ x) (append-nil (vote_bytes (get_or vs k d)))))

-- one more reply is written after the first k
pub votes-step : (l : List ℕ) (at : ℕ) (vs : List Vote) (k : ℕ) (d : Vote) {l₁ l₂ : List ℕ} → l₁ ≡ splice l at (votes_bytes (take k vs))
    → l₂ ≡ splice l₁ (at + 36 * k) (vote_bytes (get_or vs k d)) → k < length vs → at + 36 * k + 36 ≤ length l → l₂ ≡ splice l at (votes_bytes (take (k + 1) vs))
votes-step l at vs k d p q h r =
    let n : length (take k vs) ≡ k = length-take-le k vs (omega arith) in
    let m : length (votes_bytes (take k vs)) ≡ 36 * k = length-votes_bytes (take k vs) ∙ ap (λ (x : ℕ). 36 * x) n in
    let o : length (vote_bytes (get_or vs k d)) ≡ 36 = length-vote_bytes (get_or vs k d) in
    splice-step l at (votes_bytes (take k vs)) (at + 36 * k) (vote_bytes (get_or vs k d)) p q (omega arith) (omega arith)
    ∙ ap (λ (v : List ℕ). splice l at v) (votes_bytes-snoc vs k d h)

-- tests of each place that are asked one after the other
pub all_below-step : (k : ℕ) (f : ℕ → Bool) → 0 < k → all_below k f ≡ (f (k - 1) && all_below (k - 1) f)
unfolding all_below
all_below-step zero f h = absurd (omega arith)
all_below-step (suc k) f h = let e : suc k - 1 ≡ k = omega arith in rw e

pub all_below-none : (k : ℕ) (f : ℕ → Bool) → k ≡ 0 → all_below k f ≡ true
unfolding all_below
all_below-none k f e = rw e

-- replies are as many votes, each at its place
pub votes-values : (s : List ℕ) (at a n j : ℕ) → a ≡ at + 36 * j → map (λ q. vote_at s (at + 36 * q)) (range_with_len j n) ≡ votes_at n s a
unfolding votes_at
votes-values s at a zero j e = refl
votes-values s at a (suc n) j e = rw (e, votes-values s at (at + 36 * j + 36) n (j + 1) (omega arith))

-- tests of each place, from the first on
all_below-from : (f : ℕ → Bool) (n a : ℕ) → (list_all f (range_with_len a n) && all_below a f) ≡ all_below (a + n) f
unfolding all_below
all_below-from f zero a = rw add-zero
all_below-from f (suc n) a =
    let e : a + suc n ≡ suc a + n = omega arith in
    let more : (list_all f (range_with_len (suc a) n) && all_below (suc a) f) ≡ all_below (suc a + n) f = all_below-from f n (suc a) in
    rw (e, ← more, add-one) (go (f a) (list_all f (range_with_len (suc a) n)) (all_below a f))
  where
    go : (x y z : Bool) → (x && y && z) ≡ (y && (x && z))
    go true true z = refl
    go true false z = refl
    go false true z = refl
    go false false z = refl

pub all_below-all : (f : ℕ → Bool) (n : ℕ) → list_all f (range_with_len 0 n) ≡ all_below n f
unfolding all_below
all_below-all f n = let e : 0 + n ≡ n = omega arith in rw e at (sym (go (list_all f (range_with_len 0 n))) ∙ all_below-from f n 0)
  where
    go : (x : Bool) → (x && true) ≡ x
    go true = refl
    go false = refl

pub all_below-both : (k : ℕ) (f g : ℕ → Bool) → all_below k (λ i. f i && g i) ≡ (all_below k f && all_below k g)
unfolding all_below
all_below-both zero f g = refl
all_below-both (suc k) f g = go (f k) (g k) (all_below k f) (all_below k g) (all_below-both k f g)
  where
    go : (a b x y : Bool) {z : Bool} → z ≡ (x && y) → (a && b && z) ≡ (a && x && (b && y))
    go true true x y e = e
    go true false true y e = refl
    go true false false y e = refl
    go false b x y e = refl

-- tests that are asked in another order and grouped otherwise
same_tests : (x y : Bool) → (x ≡ true → y ≡ true) → (y ≡ true → x ≡ true) → x ≡ y
same_tests true y f g = sym (f refl)
same_tests false true f g = g refl
same_tests false false f g = refl

regroup : (o j v t c d m p e l u k : Bool)
    → (j && v && l && (o && c && (t && m && k && (u && d))) && (p && e)) ≡ (o && (j && (v && t && c && d) && m && p && e && (l && u && k)))
regroup o j v t c d m p e l u k = same_tests _ _ there back
  where
    there : (j && v && l && (o && c && (t && m && k && (u && d))) && (p && e)) ≡ true → (o && (j && (v && t && c && d) && m && p && e && (l && u && k))) ≡ true
    there h =
        let a = and-true _ (p && e) h in
        let b = and-true (j && v && l) _ a.0 in
        let bj = and-true (j && v) l b.0 in
        let jv = and-true j v bj.0 in
        let r = and-true (o && c) _ b.1 in
        let oc = and-true o c r.0 in
        let s = and-true (t && m && k) (u && d) r.1 in
        let tk = and-true (t && m) k s.0 in
        let tm = and-true t m tk.0 in
        let ud = and-true u d s.1 in
        let pe = and-true p e a.1 in
        rw (oc.0, jv.0, jv.1, tm.0, oc.1, ud.1, tm.1, pe.0, pe.1, bj.1, ud.0, tk.1)

    back : (o && (j && (v && t && c && d) && m && p && e && (l && u && k))) ≡ true → (j && v && l && (o && c && (t && m && k && (u && d))) && (p && e)) ≡ true
    back h =
        let a = and-true o _ h in
        let b = and-true (j && (v && t && c && d) && m && p && e) (l && u && k) a.1 in
        let be = and-true (j && (v && t && c && d) && m && p) e b.0 in
        let bp = and-true (j && (v && t && c && d) && m) p be.0 in
        let bm = and-true (j && (v && t && c && d)) m bp.0 in
        let bv = and-true j (v && t && c && d) bm.0 in
        let vd = and-true (v && t && c) d bv.1 in
        let vc = and-true (v && t) c vd.0 in
        let vt = and-true v t vc.0 in
        let lk = and-true (l && u) k b.1 in
        let lu = and-true l u lk.0 in
        rw (a.0, bv.0, vt.0, vt.1, vc.1, vd.1, bm.1, bp.1, be.1, lu.0, lu.1, lk.1)

-- what holds in any phase, as the paper has it
plain-is : (n s : ℕ) (b : List ℕ) → plain_ok n s b ≡ (op_fits b 4 && (ranges_ok n s (record_at b) && votes_ok (record_at b)))
unfolding plain_ok front_ok command_fits ballots_ok marked_ok phased_ok ranges_ok votes_ok vote_ok record_at vote_at command_at deps_at
plain-is n s b =
    let r = record_at b in
    let v = r.vote in
    regroup (op_fits b 4) (ballot_ok n r.joined) (ballot_ok n v.voted) (leb v.status 4) (command_ok v.command) (deps_ok n s v.deps) (leb r.mark 1) (leb r.phase 3) (ltb r.set (2 ^ n)) (leb v.voted r.joined) (none_is_blank v) (mark_committed r)

-- sound as the paper has it is sound as it is judged
pub sound_part-is : (n s c o : ℕ) (b : List ℕ) → sound_part n s c o b ≡ (plain_ok n s b && busy_part n s c o b)
unfolding sound_part busy_part reply_part ops_fit sound_record replies_ok
sound_part-is n s c o b =
    let f : ℕ → Bool = λ q. op_fits b (reply_place q) in
    let g : ℕ → Bool = reply_ok n s c (record_at b) in
    go (op_fits b 4) (all_below 7 f) (ranges_ok n s (record_at b) && votes_ok (record_at b)) (phases_ok n c o (record_at b)) (all_below 7 g) (all_below-both 7 f g) (plain-is n s b)
  where
    go : (a x y p z : Bool) {w u : Bool} → w ≡ (x && z) → u ≡ (a && y) → (a && x && (y && p && z)) ≡ (u && (p && w))
    go true true true true z e h = rw h (sym e)
    go true true true false z e h = rw h
    go true true false p z e h = rw h
    go true false true true z e h = rw h (sym e)
    go true false true false z e h = rw h
    go true false false p z e h = rw h
    go false x y p z e h = rw h

votes_at-at : (k : ℕ) (b : List ℕ) (at q : ℕ) (d : Vote) → q < k → get_or (votes_at k b at) q d ≡ vote_at b (at + 36 * q)
unfolding votes_at
votes_at-at zero b at q d h = absurd (omega arith)
votes_at-at (suc k) b at zero d h = let e : at ≡ at + 36 * 0 = omega arith in ap (vote_at b) e
votes_at-at (suc k) b at (suc q) d h =
    let e : at + 36 + 36 * q ≡ at + 36 * suc q = omega arith in
    votes_at-at k b (at + 36) q d (omega arith) ∙ ap (vote_at b) e

-- the reply of copy q stands at its place
pub votes_at-place : (q : ℕ) (b : List ℕ) (d : Vote) → q < 7 → get_or (votes_at 7 b 43) q d ≡ vote_at b (reply_place q)
votes_at-place q b d h = votes_at-at 7 b 43 q d h

-- what is asked of a reply's place
module _ (n s c : ℕ) (b : List ℕ) (q : ℕ) (h : q < 7) where
  pub reply_part-op : op_fits b (reply_place q) ≡ false → false ≡ reply_part n s c b q
  unfolding reply_part
  reply_part-op p = rw p

  pub reply_part-in : op_fits b (reply_place q) ≡ true → member q (num_at 1 b 42) ≡ true
      → collected_ok n s c (num_at 1 b 41) (num_at 4 b 0) (vote_at b 4) q (vote_at b (reply_place q)) ≡ reply_part n s c b q
  unfolding reply_part reply_ok record_at
  reply_part-in p m = rw (p, m, votes_at-place q b no_vote h)

  pub reply_part-out : op_fits b (reply_place q) ≡ true → member q (num_at 1 b 42) ≡ false → same_vote (vote_at b (reply_place q)) no_vote ≡ reply_part n s c b q
  unfolding reply_part reply_ok record_at
  reply_part-out p m = rw (p, m, votes_at-place q b no_vote h)

-- of the fields as they were read
module _ (b : List ℕ) {j : ℕ} {v : Vote} {p t : ℕ} (ej : j ≡ num_at 4 b 0) (ev : v ≡ vote_at b 4) (ep : p ≡ num_at 1 b 41) (et : t ≡ num_at 1 b 42) where
  pub phase-judged : (n c o : ℕ) {z : Bool} → z ≡ phases_ok n c o (front j v 0 p t) → z ≡ phases_ok n c o (record_at b)
  unfolding record_at phases_ok preparing_ok proposing_ok busy_ok
  phase-judged n c o ez = rw (ez, ej, ev, ep, et)

-- one test after the other
pub as_judged : (n s c o : ℕ) (b : List ℕ) → sound_part n s c o b ≡ (plain_ok n s b && (phases_ok n c o (record_at b) && all_below 7 (reply_part n s c b)))
unfolding busy_part
as_judged n s c o b = sound_part-is n s c o b

pub sound-replies : (n s c o : ℕ) (b : List ℕ) → plain_ok n s b ≡ true → phases_ok n c o (record_at b) ≡ true → all_below 7 (reply_part n s c b) ≡ sound_part n s c o b
sound-replies n s c o b p q = sym (as_judged n s c o b ∙ rw (p, q))
