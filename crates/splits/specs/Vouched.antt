-- Why the definitions may be believed: laws to hold against document 01, each proved in proofs/ as exactly this type.
use Rattle.std.specs.Prelude.{◌≡◌, List, ◌↔◌, ℕ, ◌≤◌, ◌<◌, length}
use Rattle.words.specs.Keys.{first_bits}
use Rattle.tables.specs.Tables.{key_at, Table}
use Rattle.splits.specs.Splits.{len, left, right, root}

-- the rows from left m up to, not including, right m are exactly those with the split's string
abbrev pub RowsAre : Type 0
RowsAre = (T : List ℕ) → Table T → (m : ℕ) → 0 < m → m < length T → (i : ℕ) → i < length T
    → ((left T m ≤ i) × (i < right T m)) ↔ (first_bits (len T m) (key_at T i) ≡ first_bits (len T m) (key_at T m))

-- no split has a smaller len than the root
abbrev pub RootLeast : Type 0
RootLeast = (T : List ℕ) (m : ℕ) → 0 < m → m < length T → len T (root T) ≤ len T m

-- and no other has as small a len: so it does not matter which of several would be taken
abbrev pub RootOnly : Type 0
RootOnly =
    (T : List ℕ) → Table T → (m : ℕ) → 0 < m → m < length T → len T m ≤ len T
    (root T) → m ≡ root T
