-- What every instance reaches, found by sweeps over the table. Assumes nothing.
-- n, s: the setup; t: the table's bytes; u: the records; g: a row for each beginning of an owner's row, what its instances
-- reach; h: a row for each instance, what it reaches.
use Rattle.std.specs.Prelude.{ℕ, zero, suc, ◌-◌, ◌≤◌, ◌<◌, ◌≡◌, Bool, false, ◌&&◌, cond, List, leb, ltb, length, get_or}
use Rattle.paper.specs.Deps.{no_deps, join}
use Rattle.table.specs.Place.{table_length}
use Rattle.rules.specs.Seen.{Records}
use Rattle.seen.specs.Records.{records_in}
use Rattle.reach.specs.High.{Inst, entry_of, Fit, Comes, Highs, Marks, From, Holds}
use Rattle.rows.specs.Rows.{slot_of, marks_at, mark_at}

-- a table of the setup, whose dependencies name instances
pub record Sized (n s : ℕ) (t : List ℕ) : Type 0 where
  pub copies : n ≤ 7
  pub numbers : s ≤ 64
  pub long : length t ≡ table_length n s
  pub fit : Fit n s (records_in s t)

-- the marks at p.k's place are those of p.k
pub record Row (n s : ℕ) (u : Records) (h : List ℕ) (p k : ℕ) : Type 0 where
  pub few : (q : ℕ) → q < n → mark_at h (slot_of p k) q ≤ s
  pub highs : Highs n s u p k (λ o. mark_at h (slot_of p k) o)
  -- whoever is marked there brings its own marks
  pub closed : (q i : ℕ) → Inst n s q i → i ≤ mark_at h (slot_of p k) q → (o : ℕ) → o < n → mark_at h (slot_of q i) o ≤ mark_at h (slot_of p k) o

pub record Charted (n s : ℕ) (u : Records) (h : List ℕ) : Type 0 where
  pub long : length h ≡ 6272
  pub each : (p k : ℕ) → Inst n s p k → Row n s u h p k

-- before the sweeps: nothing is marked
pub record Charting (n s : ℕ) (t g h : List ℕ) : Type 0 where
  pub sized : Sized n s t
  pub rows : length g ≡ 6272
  pub long : length h ≡ 6272
  pub blank : (x i : ℕ) → mark_at g x i ≡ 0

-- a row takes in that of the beginning of owner q's row which an entry names
unfoldable pub with_named : ℕ → List ℕ → ℕ → ℕ → List ℕ → List ℕ
with_named n g q entry row = cond (ltb q n && leb 1 entry) (join row (marks_at g (slot_of q entry))) row

-- a row takes in those that it names itself, for the first k owners
unfoldable pub beyond_in : ℕ → ℕ → List ℕ → List ℕ → List ℕ
beyond_in zero n g row = row
beyond_in (suc k) n g row = with_named n g k (get_or (beyond_in k n g row) k 0) (beyond_in k n g row)

-- the row of the beginning before the one that ends at o.j
unfoldable pub before_in : List ℕ → ℕ → ℕ → List ℕ
before_in g o j = cond (leb j 1) no_deps (marks_at g (slot_of o (j - 1)))

abbrev pub marks_of : List ℕ → Marks
marks_of g q i o = mark_at g (slot_of q i) o

-- the rows of beginnings at any time: they mark nothing but what is reached
pub record Rows (n s : ℕ) (u : Records) (g : List ℕ) : Type 0 where
  pub long : length g ≡ 6272
  pub few : (q i : ℕ) → Inst n s q i → (o : ℕ) → o < n → marks_of g q i o ≤ s
  pub from : From n s u (marks_of g)

-- marks are only added
abbrev pub Kept : ℕ → ℕ → List ℕ → List ℕ → Type 0
Kept n s g g' = (q i : ℕ) → Inst n s q i → (o : ℕ) → marks_of g q i o ≤ marks_of g' q i o

-- the beginning that ends at o.j was raised
pub record Raised (n s : ℕ) (u : Records) (g g' : List ℕ) (o j : ℕ) : Type 0 where
  pub rows : Rows n s u g'
  pub kept : Kept n s g g'
  pub holds : Holds n s u (marks_of g) o (j - 1) → Holds n s u (marks_of g') o j

-- those that end at number j were
pub record Numbered (n s : ℕ) (u : Records) (g g' : List ℕ) (j : ℕ) : Type 0 where
  pub rows : Rows n s u g'
  pub kept : Kept n s g g'
  pub holds : ((o : ℕ) → o < n → Holds n s u (marks_of g) o (j - 1)) → (o : ℕ) → o < n → Holds n s u (marks_of g') o j

-- all were; upwards, each then holds its instances' entries
pub record Swept (n s : ℕ) (u : Records) (g g' : List ℕ) (back : Bool) : Type 0 where
  pub rows : Rows n s u g'
  pub kept : Kept n s g g'
  pub holds : back ≡ false → (o j : ℕ) → Inst n s o j → Holds n s u (marks_of g') o j

-- the i-th of so many, from the first or from the last
abbrev pub turned : ℕ → ℕ → Bool → ℕ
turned many i back = cond back (many - 1 - i) i

pub record Sweeping (n s : ℕ) (t g h : List ℕ) : Type 0 where
  pub sized : Sized n s t
  pub rows : Rows n s (records_in s t) g
  pub long : length h ≡ 6272

-- an entry of owner q's
pub record Naming (n : ℕ) (g : List ℕ) (q entry : ℕ) : Type 0 where
  pub copies : n ≤ 7
  pub long : length g ≡ 6272
  pub owner : q < n
  pub last : entry ≤ 64

-- a row of entries or marks
pub record Taking (n s : ℕ) (g row : List ℕ) : Type 0 where
  pub copies : n ≤ 7
  pub numbers : s ≤ 64
  pub long : length g ≡ 6272
  pub rows : (q i : ℕ) → Inst n s q i → (o : ℕ) → o < n → marks_of g q i o ≤ s
  pub seven : length row ≡ 7
  pub few : (o : ℕ) → o < n → get_or row o 0 ≤ s

-- the beginnings' rows after the sweeps
pub record Found (n s : ℕ) (u : Records) (g : List ℕ) : Type 0 where
  pub rows : Rows n s u g
  pub holds : (o j : ℕ) → Inst n s o j → Holds n s u (marks_of g) o j

-- row is on its way to the marks of p.k
pub record Opened (n s : ℕ) (u : Records) (p k : ℕ) (row : List ℕ) : Type 0 where
  pub few : (o : ℕ) → o < n → get_or row o 0 ≤ s
  pub own : (o : ℕ) → entry_of u p k o ≤ get_or row o 0
  pub comers : (o x : ℕ) → Inst n s o x → x ≤ get_or row o 0 → Comes n s u p k o x

-- and there
pub record Closed (n s : ℕ) (u : Records) (g : List ℕ) (p k : ℕ) (row : List ℕ) : Type 0 where
  pub opened : Opened n s u p k row
  pub named : (q : ℕ) → q < n → 1 ≤ get_or row q 0 → (o : ℕ) → marks_of g q (get_or row q 0) o ≤ get_or row o 0

-- a row of h and nothing else was written
pub record Wrote (h h' : List ℕ) (x : ℕ) : Type 0 where
  pub long : length h' ≡ 6272
  pub others : (y : ℕ) → y < 448 → (y ≡ x → ⊥) → marks_at h' y ≡ marks_at h y

pub record Closing (n s : ℕ) (t g h : List ℕ) (p k : ℕ) : Type 0 where
  pub sized : Sized n s t
  pub found : Found n s (records_in s t) g
  pub long : length h ≡ 6272
  pub inst : Inst n s p k

pub record Reaching (n s : ℕ) (t g h : List ℕ) : Type 0 where
  pub sized : Sized n s t
  pub found : Found n s (records_in s t) g
  pub long : length h ≡ 6272
