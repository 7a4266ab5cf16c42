-- What happened over bytes, as the rules' history has it. Assumes nothing.
use Rattle.std.specs.Prelude.{Option, Some, None, Result, Ok, Err}
use Prim.Native.Nat.{ℕ}
use mathlib.Core.Path.{◌≡◌, refl, sym, ap}
use mathlib.Core.Bool.{Bool, true, false, cond, not}
use mathlib.Core.List.Memᴰ
use mathlib.Core.List.{List, [], ◌∷◌, map, map-append, Memᴰ}
use Rattle.paper.specs.declared.Refusal.{Refusal}
use Rattle.paper.specs.Instance.{instance_ok}
use Rattle.paper.specs.declared.Command.{Command}
use Rattle.paper.specs.declared.Refusal.TheVariants as why
use Rattle.paper.specs.declared.Vote.{Vote}
use Rattle.rules.specs.declared.Instance.{Instance}
use Rattle.rules.specs.Seen.{Records}
use Rattle.rules.specs.Order.{instance, found, first_open}
use Rattle.table.specs.Table.{record_in, Kept}
use Rattle.seen.specs.Records.{records_in}
use Rattle.closed.proofs.Laws.{clash}
use Rattle.order.specs.declared.Settling.{Settling}
use Rattle.order.specs.declared.Settling.TheVariants.{Settled, Waits}
use Rattle.order.specs.Calls.{settled_open, settled}
use Rattle.safety.specs.Run.{Happening, requested, answered}
use Rattle.safety.specs.Run as rules
use Rattle.demand.specs.Run.{Call, request, receive, recover, nudge, recorded}
use Rattle.demand.proofs.Range.{SameVotes, open-alike}
use Rattle.demand.proofs.Handing.{sound-judged}

-- an answer of the settled call, as the rules have it: on a sound table only an instance out of range is refused
abbrev pub answer_of : Result Settling Refusal → rules.Settling
answer_of (Ok (Settled k)) = rules.settled k
answer_of (Ok (Waits i)) = rules.waits i.owner i.number
answer_of (Err r) = rules.unknown

abbrev pub heard : Happening (Result Settling Refusal) → Happening rules.Settling
heard (requested o j k) = requested o j k
heard (answered c o j a) = answered c o j (answer_of a)

-- it is recorded at both alike
pub recorded-heard : (l : List (Happening (Result Settling Refusal))) (o j : ℕ) (call : Call) → recorded (map heard l) o j call ≡ map heard (recorded l o j call)
recorded-heard l o j (request w k) = sym (map-append heard l (requested o j k ∷ []))
recorded-heard l o j (receive w b) = refl
recorded-heard l o j (recover p i) = refl
recorded-heard l o j (nudge p i) = refl

-- a request of the rules' history was one over bytes
is-requested : (h : Happening (Result Settling Refusal)) (o j : ℕ) (k : Command) → requested o j k ≡ heard h → requested o j k ≡ h
is-requested (requested p i l) o j k e = λ z. requested (owner e z) (number e z) (command e z)
  where
    owner : requested o j k ≡ heard (requested p i l) → o ≡ p
    owner q = cc

    number : requested o j k ≡ heard (requested p i l) → j ≡ i
    number q = cc

    command : requested o j k ≡ heard (requested p i l) → k ≡ l
    command q = cc
is-requested (answered c p i a) o j k e = clash (cc)

pub requested-heard : (l : List (Happening (Result Settling Refusal))) (o j : ℕ) (k : Command) → Memᴰ (requested o j k) (map heard l) → Memᴰ (requested o j k) l
requested-heard [] o j k m = absurd (Memᴰ.not-nil m)
requested-heard (h ∷ l) o j k (Memᴰ.head e) = Memᴰ.head (is-requested h o j k e)
requested-heard (h ∷ l) o j k (Memᴰ.tail m) = Memᴰ.tail (requested-heard l o j k m)

-- the call answers what the rules answer, from any table with the same votes
pub settled-heard : (n s c : ℕ) (t : List ℕ) (u : Records) → Kept n s c t → SameVotes n s (records_in s t) u → (o j : ℕ)
    → answer_of (settled n s c t o j) ≡ rules.settling n s u o j
unfolding settled settled_open
settled-heard n s c t u k same o j = rw (sound-judged n s c t k) (go (instance_ok n s o j) refl)
  where
    by : (f : Option Instance) (a b : Command) → a ≡ b → answer_of (found f (Ok (Settled a)) (λ p k. Ok (Waits (instance p k)))) ≡ found f (rules.settled b) rules.waits
    by None a b e = ap rules.settled e
    by (Some i) a b e = refl

    go : (b : Bool) → instance_ok n s o j ≡ b
        → answer_of (cond (not b) (Err why.Instance) (found (first_open n s (records_in s t) o j) (Ok (Settled (record_in s t o j).vote.command)) (λ p k. Ok (Waits (instance p k)))))
        ≡ cond b (found (first_open n s u o j) (rules.settled (u o j).vote.command) rules.waits) rules.unknown
    go false e = refl
    go true e =
        rw (open-alike n s (records_in s t) u same o j e)
        (by (first_open n s u o j) (record_in s t o j).vote.command (u o j).vote.command (ap (λ (v : Vote). v.command) (same o j e)))
