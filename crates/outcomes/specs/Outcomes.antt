-- Document 01, "Call index", and request Eight: the row in which x is found, and what is told of it.
use Rattle.std.specs.Prelude.{cond, Option, Some, None, List, ℕ, eqb, ltb, length, get_or}
use Rattle.tables.specs.Tables.{key_at}
use Rattle.outcomes.specs.declared.Outcome.{Outcome}
use Rattle.outcomes.specs.declared.Outcome.TheVariants.{Planned, Withdrawn, Absent}

-- if row < n and the table's key there equals x, x is found in that row, otherwise nowhere
abbrev pub row_says : List ℕ → ℕ → ℕ → Option ℕ
row_says keys r x = cond (ltb r (length keys)) (cond (eqb (key_at keys r) x) (Some r) None) None

-- the three outcomes of an ask
pub data Told : Type 0 where
  planned : ℕ → Told
  withdrawn : ℕ → Told
  absent : Told

abbrev pub told_by : Outcome → Told
told_by (Planned r) = planned r
told_by (Withdrawn r) = withdrawn r
told_by Absent = absent

-- what is found in a row is planned if the row's byte is zero, and withdrawn if it is anything else; what is found
-- nowhere is absent. (Every row that an ask finds has a byte: it refuses where there are fewer bytes than rows.)
abbrev pub marked : List ℕ → Option ℕ → Told
marked bytes (Some r) = cond (eqb (get_or bytes r 0) 0) (planned r) (withdrawn r)
marked bytes None = absent
