-- Why the definitions may be believed: request Eight in its own words, said of the row in which a key is found. Each is
-- proved in proofs/ as exactly this type. (That a key is found exactly where it stands is demand 2's, of built stores.)
use Rattle.std.specs.Prelude.{◌≡◌, Option, Some, None, List, ◌↔◌, ℕ, ◌<◌, length, get_or}
use Rattle.tables.specs.Tables.{key_at}
use Rattle.outcomes.specs.Outcomes.{row_says, planned, withdrawn, absent, marked}

-- x is found in a row exactly if it is that row which is looked at, and the table's key there equals x
abbrev pub FoundIff : Type 0
FoundIff =
    (keys : List ℕ) (r x q : ℕ) → (row_says keys r x ≡ Some q) ↔ ((q ≡ r) × (q < length keys) × (key_at keys q ≡ x))

-- a row is given as planned exactly if the key is found there and the byte is zero ..
abbrev pub PlannedIff : Type 0
PlannedIff =
    (bytes : List ℕ) (at : Option ℕ) (r : ℕ) → (marked bytes at ≡ planned r) ↔ ((at ≡ Some r) × (get_or bytes r 0 ≡ 0))

-- .. as withdrawn exactly if the key is found there and the byte isn't zero ..
abbrev pub WithdrawnIff : Type 0
WithdrawnIff =
    (bytes : List ℕ) (at : Option ℕ) (r : ℕ) → (marked bytes at ≡ withdrawn r) ↔ ((at ≡ Some r) × (get_or bytes r 0 ≡ 0 → ⊥))

-- .. and a key is absent exactly if it is found nowhere
abbrev pub AbsentIff : Type 0
AbsentIff = (bytes : List ℕ) (at : Option ℕ) → (marked bytes at ≡ absent) ↔ (at ≡ None)
