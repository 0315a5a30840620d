-- Why the definitions may be believed: laws to hold against document 01, each proved in proofs/ as exactly this type.
use Rattle.std.specs.Prelude.{◌≡◌, List, ◌↔◌, ℕ, ◌-◌, ◌^◌, ◌≤◌, ◌<◌, length}
use Rattle.tables.specs.Tables.{key_at, Table, first_fall}
use Rattle.tables.specs.Delimiters.{delimiters}

-- no row falls exactly in a table
abbrev pub NoFallIff : Type 0
NoFallIff = (T : List ℕ) → ((i : ℕ) → i < length T → key_at T i < 2 ^ 64) → (first_fall T ≡ 0) ↔ Table T

-- a row that is named is not above the one before it, and all rows before it are
abbrev pub FallNamed : Type 0
FallNamed = (T : List ℕ) (r : ℕ) → first_fall T ≡ r → 0 < r
    → (r < length T) × (key_at T r ≤ key_at T (r - 1))
    × ((j : ℕ) → 1 ≤ j → j < r → key_at T (j - 1) < key_at T j)

-- with buckets of one row the delimiters are the table itself
abbrev pub DelimitersOne : Type 0
DelimitersOne = (T : List ℕ) → delimiters 1 T ≡ T
