-- The outcomes of the settled question, one law each. Assumes nothing.
use Rattle.std.specs.Prelude.{Some, None, Result, Ok, Err}
use Prim.Native.Nat.{ℕ, zero, suc}
use mathlib.Core.Path.{◌≡◌, refl}
use mathlib.Core.Bool.{true, false}
use mathlib.Core.List.{List}
use native.Mathlib.Omega.{arith}
use lib.ListN.{get_or, replicate}
use Rattle.paper.specs.Instance.{instance_ok}
use Rattle.paper.specs.declared.Record.{Record}
use Rattle.paper.specs.declared.Refusal.{Refusal}
use Rattle.paper.specs.declared.Refusal.TheVariants as why
use Rattle.rules.specs.Order.{instance, first_open}
use Rattle.table.specs.Table.{record_in}
use Rattle.table.specs.Calls.{judged}
use Rattle.table.proofs.Laws.{sizes, names}
use Rattle.seen.specs.Records.{records_in}
use Rattle.reach.specs.High.{Explored}
use Rattle.reach.proofs.High.{explored-highs}
use Rattle.search.specs.Searching.{Searching, Searched}
use Rattle.table.specs.Table.{Judged}
use Rattle.order.specs.Calls.{settled_open, settled}
use Rattle.order.specs.declared.Settling.{Settling}
use Rattle.order.specs.declared.Settling.TheVariants.{Settled, Waits}
use Rattle.order.proofs.Judged.{passed-fit, passed-long}

pub no-mark : (k i : ℕ) → get_or {A = ℕ} (replicate k 0) i 0 ≡ 0
no-mark zero i = refl
no-mark (suc k) zero = refl
no-mark (suc k) (suc i) = no-mark k i

module _ (n s c : ℕ) (t : List ℕ) (o j : ℕ) where
  -- the search that is made, and what it leaves
  pub searching : Judged n s c t → instance_ok n s o j ≡ true → Searching n s t o j (replicate 7 0)
  searching h i = record {
    names = names n s c t o j h.setup i;
    long = passed-long n s c t h;
    fit = passed-fit n s c t h;
    seven = refl;
    few = λ q l. rw (no-mark 7 q) (omega arith);
  }

  pub searched : Judged n s c t → (m : List ℕ) → Explored n s (records_in s t) o j n (replicate 7 0) m → Searched n s t o j m
  searched h m e =
      let z = sizes n s c t h.setup in
      record {
        copies = z.copies;
        numbers = z.numbers;
        long = z.long;
        seven = e.long;
        highs = explored-highs n s (records_in s t) o j (replicate 7 0) m (no-mark 7) e;
      }

  pub settled-6 : instance_ok n s o j ≡ false → Err why.Instance ≡ settled_open n s t o j
  unfolding settled_open
  settled-6 i = rw i

  pub settled-waits : (p k : ℕ) → instance_ok n s o j ≡ true → Some (instance p k) ≡ first_open n s (records_in s t) o j → Ok (Waits (instance p k)) ≡ settled_open n s t o j
  unfolding settled_open
  settled-waits p k i e = rw (i, ← e)

  pub settled-gives : instance_ok n s o j ≡ true → None ≡ first_open n s (records_in s t) o j → {r : Record} → r ≡ record_in s t o j → Ok (Settled r.vote.command) ≡ settled_open n s t o j
  unfolding settled_open
  settled-gives i e er = rw (i, ← e, er)

  pub settled-refused : (r : Refusal) → Err r ≡ judged n s c t → Err r ≡ settled n s c t o j
  unfolding settled
  settled-refused r e = rw (← e)

  pub settled-past : Ok tt ≡ judged n s c t → {x : Result Settling Refusal} → x ≡ settled_open n s t o j → x ≡ settled n s c t o j
  unfolding settled
  settled-past e p = rw (← e) p
