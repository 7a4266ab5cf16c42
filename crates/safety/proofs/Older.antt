-- One saved record may have become another: votes and joined ballots only rise, and a commit stays. Assumes nothing.
use Prim.Native.Nat.{ℕ, ◌+◌, ◌*◌, ◌≤◌, ◌<◌}
use mathlib.Core.Path.{◌≡◌, refl, ap}
use native.Mathlib.Omega.{arith}
use Rattle.safety.proofs.Hist.{Status, unvoted, pre_added, pre_received, accept_vote, commit_vote}
use Rattle.safety.proofs.Sys.{Rec}

abbrev pub rank : Status → ℕ
rank unvoted = 0
rank pre_added = 1
rank pre_received = 1
rank accept_vote = 2
rank commit_vote = 2

pub rank-le : (s : Status) → rank s ≤ 2
rank-le unvoted = omega arith
rank-le pre_added = omega arith
rank-le pre_received = omega arith
rank-le accept_vote = omega arith
rank-le commit_vote = omega arith

-- R may have become S
pub data Le (R S : Rec) : Type 0 where
  le_same : R.joined ≤ S.joined → R.voted ≡ S.voted → R.status ≡ S.status → R.value ≡ S.value → Le R S
  le-new : R.joined ≤ S.joined → R.joined ≤ S.voted → R.voted * 3 + rank R.status < S.voted * 3 + rank S.status
      → (R.status ≡ commit_vote → ⊥) → (S.status ≡ commit_vote → ⊥) → Le R S
  le-com : (R.status ≡ commit_vote → ⊥) → S.status ≡ commit_vote → Le R S

pub le_refl : (R : Rec) → Le R R
le_refl R = le_same (omega arith) refl refl refl

pub le_trans : {R S T : Rec} → Le R S → Le S T → Le R T
le_trans (le_same a b c d) (le_same a' b' c' d') = le_same (omega arith) (cc) (cc) (cc)
le_trans {R = R} {S = S} {T = T} (le_same a b c d) (le-new a' b' c' d' e') = le-new (omega arith) (omega arith) (omega (arith, ap rank c)) (λ e. d' (cc)) e'
le_trans (le_same a b c d) (le-com a' b') = le-com (λ e. a' (cc)) b'
le_trans (le-new a b c d e) (le_same a' b' c' d') = le-new (omega arith) (omega arith) (omega (arith, ap rank c')) d (λ x. e (cc))
le_trans (le-new a b c d e) (le-new a' b' c' d' e') = le-new (omega arith) (omega arith) (omega arith) d e'
le_trans (le-new a b c d e) (le-com a' b') = le-com d b'
le_trans (le-com a b) (le_same a' b' c' d') = le-com a (cc)
le_trans (le-com a b) (le-new a' b' c' d' e') = absurd (d' b)
le_trans (le-com a b) (le-com a' b') = absurd (a' b)

-- a vote does not fall, and a commit stays
pub le-voted : {R S : Rec} → Le R S → (S.status ≡ commit_vote → ⊥) → R.voted ≤ S.voted
le-voted (le_same a b c d) n = omega arith
le-voted {R = R} {S = S} (le-new a b c d e) n = omega (arith, rank-le R.status, rank-le S.status)
le-voted (le-com a b) n = absurd (n b)

pub le_four : {R S : Rec} → Le R S → R.status ≡ commit_vote → S.status ≡ commit_vote
le_four (le_same a b c d) n = cc
le_four (le-new a b c d e) n = absurd (d n)
le_four (le-com a b) n = b
