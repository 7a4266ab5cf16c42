-- What the settled question and the hand-out answer, and every lent byte and place after. Assumes nothing.
-- n, s: the setup; c: this copy; t: the table's bytes; list: the lent list of codes.
use Rattle.std.specs.Prelude.{ℕ, zero, suc, not, cond, List, [], ◌∷◌, length, Result, Ok, Err}
use Rattle.numbers.specs.Num.{splice}
use Rattle.paper.specs.Command.{op_number}
use Rattle.paper.specs.Instance.{instance_ok}
use Rattle.paper.specs.Refusal.{number_of}
use Rattle.paper.specs.declared.Refusal.{Refusal}
use Rattle.paper.specs.declared.Refusal.TheVariants.{Instance}
use Rattle.rules.specs.Order.{instance, found, first_open, next_out, marked, hand_out}
use Rattle.table.specs.Table.{record_in, put_record}
use Rattle.table.specs.Calls.{judged}
use Rattle.seen.specs.Records.{records_in}
use Rattle.order.specs.declared.Settling.{Settling}
use Rattle.order.specs.declared.Settling.TheVariants.{Settled, Waits}

-- 1, 11, then the rest
abbrev pub settled_through : Result Unit Refusal → Result Settling Refusal → Result Settling Refusal
settled_through (Ok x) rest = rest
settled_through (Err r) rest = Err r

-- Settled: 6, then the command, or the uncommitted instance that comes first
unfoldable pub settled_open : ℕ → ℕ → List ℕ → ℕ → ℕ → Result Settling Refusal
settled_open n s t o j =
    cond (not (instance_ok n s o j)) (Err Instance)
    (found (first_open n s (records_in s t) o j) (Ok (Settled (record_in s t o j).vote.command)) (λ p k. Ok (Waits (instance p k))))

unfoldable pub settled : ℕ → ℕ → ℕ → List ℕ → ℕ → ℕ → Result Settling Refusal
settled n s c t o j = settled_through (judged n s c t) (settled_open n s t o j)

-- the table with a mark at o.j
unfoldable pub marked_in : ℕ → List ℕ → ℕ → ℕ → List ℕ
marked_in s t o j = put_record s t o j (marked (record_in s t o j))

-- the table with the marks of a hand-out of so many places
unfoldable pub handed_table : ℕ → ℕ → ℕ → List ℕ → List ℕ
handed_table zero n s t = t
handed_table (suc room) n s t = found (next_out n s (records_in s t)) t (λ o j. handed_table room n s (marked_in s t o j))

-- its codes
unfoldable pub handed_codes : ℕ → ℕ → ℕ → List ℕ → List ℕ
handed_codes room n s t = hand_out room n s (records_in s t)

-- the answer, the table and the list after a hand-out
pub record Handed : Type 0 where
  pub answer : Result ℕ Refusal
  pub table : List ℕ
  pub list : List ℕ

abbrev pub handed_through : Result Unit Refusal → List ℕ → List ℕ → Handed → Handed
handed_through (Ok x) t list rest = rest
handed_through (Err r) t list rest = record { answer = Err r; table = t; list = list }

-- Hand-out: the list's first places are the codes, the later ones keep their contents
unfoldable pub handed_open : ℕ → ℕ → List ℕ → List ℕ → Handed
handed_open n s t list =
    record {
      answer = Ok (length (handed_codes (length list) n s t));
      table = handed_table (length list) n s t;
      list = splice list 0 (handed_codes (length list) n s t);
    }

unfoldable pub handed : ℕ → ℕ → ℕ → List ℕ → List ℕ → Handed
handed n s c t list = handed_through (judged n s c t) t list (handed_open n s t list)

-- the paper's number of an answer, 0 for none, and its values: 1 and the command, or 0 and the instance that it waits for
abbrev pub settling_number : Result Settling Refusal → ℕ
settling_number (Ok x) = 0
settling_number (Err r) = number_of r

abbrev pub settling_values : Result Settling Refusal → List ℕ
settling_values (Ok (Settled k)) = 1 ∷ op_number k.op ∷ k.key ∷ k.second ∷ k.edit ∷ []
settling_values (Ok (Waits i)) = 0 ∷ i.owner ∷ i.number ∷ 0 ∷ 0 ∷ []
settling_values (Err r) = 0 ∷ 0 ∷ 0 ∷ 0 ∷ 0 ∷ []

-- and how many codes
abbrev pub handing_number : Result ℕ Refusal → ℕ
handing_number (Ok k) = 0
handing_number (Err r) = number_of r

abbrev pub handing_count : Result ℕ Refusal → ℕ
handing_count (Ok k) = k
handing_count (Err r) = 0
