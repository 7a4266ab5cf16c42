-- Both round trips of a record: what was written is read back, and what was read from sound bytes is written back. Assumes nothing.
use mathlib.Core.Path.{◌≡◌, refl, sym, ap, ◌∙◌}
use mathlib.Core.Bool.{true}
use mathlib.Core.List.{List, [], ◌∷◌, ◌++◌, append_assoc}
use Prim.Native.Nat.{ℕ, zero, suc, ◌+◌, ◌*◌, ◌≤◌, ◌<◌}
use native.Mathlib.Omega.{arith}
use lib.ListN.{length, take, drop, length-append}
use lib.Seq.{take_all, take-add, drop-drop}
use borrow.Author.Tests.{leb-true}
use Rattle.numbers.specs.Num.{num_at, Bytes}
use Rattle.numbers.proofs.Laws.{num_at-bytes_of, bytes_of-num_at}
use Rattle.codec.specs.Parts.{vote_at, vote_bytes}
use Rattle.codec.proofs.Laws.{vote_at-vote_bytes, vote_bytes-vote_at}
use Rattle.paper.specs.Fits.{VotesFit, RecordFits}
use Rattle.paper.specs.Logic.{all_below}
use Rattle.paper.specs.Sound.{sound_record}
use Rattle.paper.proofs.Laws.{and-true, all_below-at}
use Rattle.paper.specs.declared.Vote.{Vote}
use Rattle.paper.specs.declared.Record.{Record}
use Rattle.record.specs.Layout.{record_length, reply_place, votes_at, votes_bytes, record_at, front_bytes, record_bytes}
use Rattle.record.specs.Part.{op_fits, ops_fit, sound_part}
use Rattle.record.proofs.Laws.{length-vote_bytes, length-front_bytes}

votes_at-votes_bytes : (vs : List Vote) (p : List ℕ) (at : ℕ) → length p ≡ at → VotesFit vs → votes_at (length vs) (p ++ votes_bytes vs) at ≡ vs
unfolding votes_at votes_bytes
votes_at-votes_bytes [] p at e f = refl
votes_at-votes_bytes (v ∷ vs) p at e f =
    let one : vote_at (p ++ (vote_bytes v ++ votes_bytes vs)) at ≡ v = vote_at-vote_bytes v p (votes_bytes vs) at e f.0 in
    let l : length (p ++ vote_bytes v) ≡ at + 36 = simp (length-append, length-vote_bytes) (omega arith) in
    let more : votes_at (length vs) (p ++ vote_bytes v ++ votes_bytes vs) (at + 36) ≡ vs = votes_at-votes_bytes vs (p ++ vote_bytes v) (at + 36) l f.1 in
    rw one (ap (λ (l : List Vote). v ∷ l) (rw (← append_assoc p (vote_bytes v) (votes_bytes vs)) more))

-- what was written is read back
module _ (r : Record) (f : RecordFits r) where
  joined-reads : num_at 4 (record_bytes r) 0 ≡ r.joined
  unfolding record_bytes front_bytes
  joined-reads = num_at-bytes_of 4 r.joined [] [] 0 refl f.joined

  vote-reads : vote_at (record_bytes r) 4 ≡ r.vote
  unfolding record_bytes front_bytes vote_at vote_bytes
  vote-reads = vote_at-vote_bytes r.vote [] [] 0 refl f.vote

  mark-reads : num_at 1 (record_bytes r) 40 ≡ r.mark
  unfolding record_bytes front_bytes vote_bytes
  mark-reads = omega (arith, f.mark)

  phase-reads : num_at 1 (record_bytes r) 41 ≡ r.phase
  unfolding record_bytes front_bytes vote_bytes
  phase-reads = omega (arith, f.phase)

  set_reads : num_at 1 (record_bytes r) 42 ≡ r.set
  unfolding record_bytes front_bytes vote_bytes
  set_reads = omega (arith, f.set)

  replies-read : votes_at 7 (record_bytes r) 43 ≡ r.replies
  unfolding record_bytes
  replies-read =
      ap (λ (k : ℕ). votes_at k (front_bytes r ++ votes_bytes r.replies) 43) (sym f.seven)
      ∙ votes_at-votes_bytes r.replies (front_bytes r) 43 (length-front_bytes r) f.replies

  pub record_at-record_bytes : record_at (record_bytes r) ≡ r
  unfolding record_at
  record_at-record_bytes = λ i. record {
    joined = joined-reads i;
    vote = vote-reads i;
    mark = mark-reads i;
    phase = phase-reads i;
    set = set_reads i;
    replies = replies-read i;
  }

-- what was read is written back, where each op byte is the number of an op
module _ (b : List ℕ) (byte : Bytes b) (long : length b ≡ record_length) where
  votes-back : (k at : ℕ) → at + 36 * k ≤ record_length → ((q : ℕ) → q < k → num_at 1 b (at + 36 * q + 5) ≤ 3) → votes_bytes (votes_at k b at) ≡ take (36 * k) (drop at b)
  unfolding votes_at votes_bytes
  votes-back zero at h o = refl
  votes-back (suc k) at h o =
      let e : at + 36 * 0 + 5 ≡ at + 5 = omega arith in
      let one : vote_bytes (vote_at b at) ≡ take 36 (drop at b) = vote_bytes-vote_at b at byte (omega arith) (rw e at (o 0 (omega arith))) in
      let next : (q : ℕ) → q < k → num_at 1 b (at + 36 + 36 * q + 5) ≤ 3 =
      λ q l. let g : at + 36 * suc q + 5 ≡ at + 36 + 36 * q + 5 = omega arith in rw g at (o (suc q) (omega arith)) in
      let more : votes_bytes (votes_at k b (at + 36)) ≡ take (36 * k) (drop (at + 36) b) = votes-back k (at + 36) (omega arith) next in
      let n : 36 * suc k ≡ 36 + 36 * k = omega arith in
      rw (one, more, n, take-add 36 (36 * k) (drop at b), drop-drop 36 at b)

  ops-at : ops_fit b ≡ true → (q : ℕ) → q < 7 → num_at 1 b (43 + 36 * q + 5) ≤ 3
  unfolding ops_fit
  ops-at h q l =
      leb-true _ 3 (all_below-at 7 (λ k. op_fits b (reply_place k)) (and-true (op_fits b 4) (all_below 7 (λ k. op_fits b (reply_place k))) h).1 q l)

  op-at : ops_fit b ≡ true → num_at 1 b (4 + 5) ≤ 3
  unfolding ops_fit
  op-at h = leb-true _ 3 (and-true (op_fits b 4) (all_below 7 (λ k. op_fits b (reply_place k))) h).0

  record_bytes-record_at : ops_fit b ≡ true → record_bytes (record_at b) ≡ b
  unfolding record_bytes front_bytes record_at
  record_bytes-record_at h =
      let j = bytes_of-num_at 4 b 0 byte (omega arith) in
      let v = vote_bytes-vote_at b 4 byte (omega arith) (op-at h) in
      let m = bytes_of-num_at 1 b 40 byte (omega arith) in
      let p = bytes_of-num_at 1 b 41 byte (omega arith) in
      let s = bytes_of-num_at 1 b 42 byte (omega arith) in
      let w = votes-back 7 43 (omega arith) (ops-at h) in
      whole j v m p s w
    where
      whole : {j v m p s w : List ℕ} → j ≡ take 4 (drop 0 b) → v ≡ take 36 (drop 4 b) → m ≡ take 1 (drop 40 b) → p ≡ take 1 (drop 41 b) → s ≡ take 1 (drop 42 b)
          → w ≡ take 252 (drop 43 b) → (j ++ v ++ m ++ p ++ s ++ w) ≡ b
      whole ej ev em ep es ew =
          rw (ej, ev, em, ep, es, ew, ← take-add 4 36 b, ← take-add 40 1 b, ← take-add 41 1 b, ← take-add 42 1 b, ← take-add 43 252 b)
          (take_all record_length b (omega arith))

-- of bytes that are sound: the record is, and they are what it is written as
module _ (n s c o : ℕ) (b : List ℕ) (h : sound_part n s c o b ≡ true) where
  pub part_sound : sound_record n s c o (record_at b) ≡ true
  unfolding sound_part
  part_sound = (and-true (ops_fit b) (sound_record n s c o (record_at b)) h).1

  pub part-whole : Bytes b → length b ≡ record_length → record_bytes (record_at b) ≡ b
  unfolding sound_part
  part-whole byte long = record_bytes-record_at b byte long (and-true (ops_fit b) (sound_record n s c o (record_at b)) h).0
