-- "Settled and handed out". Assumes nothing.
use Rattle.std.specs.Prelude.{ℕ, zero, suc, ◌+◌, ◌*◌, ◌/◌, ◌%◌, Bool, false, ◌&&◌, ◌||◌, not, cond, List, [], ◌∷◌, eqb, Option, Some, None}
use Rattle.paper.specs.Logic.{implies, all_below}
use Rattle.paper.specs.Instance.{instance_ok}
use Rattle.paper.specs.Deps.{covers}
use Rattle.paper.specs.declared.Record.{Record}
use Rattle.rules.specs.declared.Instance.{Instance}
use Rattle.rules.specs.Seen.{Records}
use Rattle.rules.specs.Step.{is_committed}
use Rattle.rules.specs.Events.{put}

-- f holds of every instance
unfoldable pub everywhere : ℕ → ℕ → (ℕ → ℕ → Bool) → Bool
everywhere n s f = all_below n (λ o. all_below s (λ i. f o (i + 1)))

unfoldable pub somewhere : ℕ → ℕ → (ℕ → ℕ → Bool) → Bool
somewhere n s f = not (everywhere n s (λ o j. not (f o j)))

abbrev pub instance : ℕ → ℕ → Instance
instance o j = record { owner = o; number = j }

-- the first owner from o on, among k, at number j; else what comes after
unfoldable pub first_owner : ℕ → ℕ → ℕ → (ℕ → ℕ → Bool) → Option Instance → Option Instance
first_owner zero o j f later = later
first_owner (suc k) o j f later = cond (f o j) (Some (instance o j)) (first_owner k (o + 1) j f later)

-- the first instance, by number, then owner, from number j on, among k
unfoldable pub first_number : ℕ → ℕ → ℕ → (ℕ → ℕ → Bool) → Option Instance
first_number zero n j f = None
first_number (suc k) n j f = first_owner n 0 j f (first_number k n (j + 1) f)

abbrev pub first : ℕ → ℕ → (ℕ → ℕ → Bool) → Option Instance
first n s f = first_number s n 1 f

-- p.k covers o.j by the dependencies it holds at the moment
unfoldable pub covers_in : ℕ → ℕ → Records → ℕ → ℕ → ℕ → ℕ → Bool
covers_in n s t p k o j = instance_ok n s o j && covers p k (t p k).vote.deps o j

-- p.k covers o.j, or something that comes to o.j in at most f more steps
unfoldable pub reaches_in : ℕ → ℕ → ℕ → Records → ℕ → ℕ → ℕ → ℕ → Bool
reaches_in zero n s t p k o j = covers_in n s t p k o j
reaches_in (suc f) n s t p k o j =
    covers_in n s t p k o j || somewhere n s (λ q i. let further : Bool = reaches_in f n s t q i o j in cond (covers_in n s t p k q i) further false)

-- by one step of covering or many; no way is longer than there are instances
unfoldable pub reaches : ℕ → ℕ → Records → ℕ → ℕ → ℕ → ℕ → Bool
reaches n s t p k o j = reaches_in (n * s) n s t p k o j

-- the instance itself, or one that it reaches, is not committed
unfoldable pub waits_for : ℕ → ℕ → Records → ℕ → ℕ → ℕ → ℕ → Bool
waits_for n s t p k o j = ((eqb o p && eqb j k) || reaches n s t p k o j) && not (is_committed (t o j))

-- what it waits for: the first that is open of all that it reaches, itself too; none once it is settled
unfoldable pub first_open : ℕ → ℕ → Records → ℕ → ℕ → Option Instance
first_open n s t p k = first n s (waits_for n s t p k)

unfoldable pub is_settled : ℕ → ℕ → Records → ℕ → ℕ → Bool
is_settled n s t p k = everywhere n s (λ o j. not (waits_for n s t p k o j))

abbrev pub is_marked : Record → Bool
is_marked r = eqb r.mark 1

-- settled, without a mark, and all it reaches that does not reach back is marked
unfoldable pub candidate : ℕ → ℕ → Records → ℕ → ℕ → Bool
candidate n s t p k =
    is_settled n s t p k && not (is_marked (t p k))
    && everywhere n s (λ o j. implies (reaches n s t p k o j && not (reaches n s t o j p k)) (is_marked (t o j)))

abbrev pub marked : Record → Record
marked r = record { joined = r.joined; vote = r.vote; mark = 1; phase = r.phase; set = r.set; replies = r.replies }

abbrev pub mark : Records → ℕ → ℕ → Records
mark t o j = put t o j (marked (t o j))

-- the lowest candidate
unfoldable pub next_out : ℕ → ℕ → Records → Option Instance
next_out n s t = first n s (candidate n s t)

-- the code of an instance, 256 x owner + number, and the instance that a code names
abbrev pub code_of : ℕ → ℕ → ℕ
code_of o j = 256 * o + j

abbrev pub instance_of : ℕ → ℕ × ℕ
instance_of code = (code / 256, code % 256)

abbrev pub found : {A : Type 0} → Option Instance → A → (ℕ → ℕ → A) → A
found None none f = none
found (Some i) none f = f i.owner i.number

-- one place at a time, until the list is full or none is left
unfoldable pub hand_out : ℕ → ℕ → ℕ → Records → List ℕ
hand_out zero n s t = []
hand_out (suc room) n s t = found (next_out n s t) [] (λ o j. code_of o j ∷ hand_out room n s (mark t o j))

-- the table with the marks of that list
unfoldable pub handed_out : ℕ → ℕ → ℕ → Records → Records
handed_out zero n s t = t
handed_out (suc room) n s t = found (next_out n s t) t (λ o j. handed_out room n s (mark t o j))
