-- What inner functions answer and leave.
use Rattle.std.specs.Prelude.{◌≡◌, List, Option, Some, None, ℕ, ◌+◌, ◌<◌, ◌≤◌, length}
use Rattle.digits.specs.Texts.{placed}
use Rattle.outcomes.specs.Outcomes.{Told, planned, withdrawn, absent}

-- what is printed of an outcome: its row or none
abbrev pub called_of : Told → Option ℕ
called_of (planned r) = Some r
called_of (withdrawn r) = Some r
called_of absent = None

-- what a writer of several texts says: the text stands at i, or there is no room for it and a part may have been
-- written
unfoldable pub Prints : List ℕ → List ℕ → ℕ → List ℕ → Option ℕ → Type 0
Prints t out i after (Some j) = (j ≡ i + length t) × (j ≤ length out) × (after ≡ placed out i t)
Prints t out i after None = length out < i + length t
