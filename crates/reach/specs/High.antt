-- High-water marks. What an instance covers is a prefix of each owner's row, so what it reaches is one too, but for the
-- instance itself: a number for each owner says it. Assumes nothing.
-- n, s: the setup; t: the records; p.k: where a search starts.
use Rattle.std.specs.Prelude.{ℕ, ◌≤◌, ◌<◌, ◌≡◌, ◌⊎◌, Bool, true, ◌&&◌, ◌||◌, List, leb, eqb, length, get_or}
use Rattle.rules.specs.Seen.{Records}
use Rattle.rules.specs.Order.{reaches}

-- an instance of the setup
pub record Inst (n s o j : ℕ) : Type 0 where
  pub owner : o < n
  pub first : 1 ≤ j
  pub last : j ≤ s

-- the dependencies that o.j holds at the moment, for owner q
abbrev pub entry_of : Records → ℕ → ℕ → ℕ → ℕ
entry_of t o j q = get_or (t o j).vote.deps q 0

-- every entry names an instance, or none
abbrev pub Fit : ℕ → ℕ → Records → Type 0
Fit n s t = (o j : ℕ) → Inst n s o j → (q : ℕ) → q < n → entry_of t o j q ≤ s

-- the marks m: o.j was visited where 1 <= j <= the mark of o
abbrev pub Few : ℕ → ℕ → List ℕ → Type 0
Few n s m = (q : ℕ) → q < n → get_or m q 0 ≤ s

-- p.k itself, or reached from it
abbrev pub Comes : ℕ → ℕ → Records → ℕ → ℕ → ℕ → ℕ → Type 0
Comes n s t p k o j = ((o ≡ p) × (j ≡ k)) ⊎ (reaches n s t p k o j ≡ true)

-- a search from p.k that met the marks m has come to the marks r, and is through with the owners below q
pub record Explored (n s : ℕ) (t : Records) (p k q : ℕ) (m r : List ℕ) : Type 0 where
  pub long : length r ≡ length m
  pub kept : (i : ℕ) → get_or m i 0 ≤ get_or r i 0
  pub few : Few n s r
  pub holds : (i : ℕ) → i < q → entry_of t p k i ≤ get_or r i 0
  pub closed : (o j : ℕ) → o < n → get_or m o 0 < j → j ≤ get_or r o 0 → (i : ℕ) → i < n → entry_of t o j i ≤ get_or r i 0
  pub from : (o j : ℕ) → o < n → get_or m o 0 < j → j ≤ get_or r o 0 → Comes n s t p k o j

-- o.j is p.k
abbrev pub itself : ℕ → ℕ → ℕ → ℕ → Bool
itself p k o j = eqb o p && eqb j k

-- the marks f are those of p.k: itself and what it reaches is itself and what is marked
abbrev pub Highs : ℕ → ℕ → Records → ℕ → ℕ → (ℕ → ℕ) → Type 0
Highs n s t p k f = (o j : ℕ) → Inst n s o j → (itself p k o j || reaches n s t p k o j) ≡ (itself p k o j || leb j (f o))

-- marks for each beginning of an owner's row: at q i o the mark of o of what the first i of owner q's row reach
abbrev pub Marks : Type 0
Marks = ℕ → ℕ → ℕ → ℕ

-- whoever a beginning marks comes from one of its instances
abbrev pub From : ℕ → ℕ → Records → Marks → Type 0
From n s t g = (q i : ℕ) → Inst n s q i → (o x : ℕ) → Inst n s o x → x ≤ g q i o → (y : ℕ) × Inst n s q y × (y ≤ i) × Comes n s t q y o x

-- a beginning holds the entries of its instances
abbrev pub Holds : ℕ → ℕ → Records → Marks → ℕ → ℕ → Type 0
Holds n s t g o k = (i : ℕ) → Inst n s o i → i ≤ k → (q : ℕ) → entry_of t o i q ≤ g o k q
