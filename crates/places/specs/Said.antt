-- Document 01, "The walk": what an answer says, in the document's numbers, and what the walk says over any table and
-- stores.
use Rattle.std.specs.Prelude.{Bool, ◌&&◌, Result, Ok, Err, List, ℕ, eqb, ltb, length}
use Rattle.refusals.specs.Numbers.{number, names}
use Rattle.refusals.specs.declared.Refusal.{Refusal}
use Rattle.cells.specs.Cells.{map_value}
use Rattle.tables.specs.Tables.{key_at}
use Rattle.tables.specs.Lengths.{handle_count}
use Rattle.walks.specs.Walk.{Answer, before, spoiled, store_walk}
use Rattle.places.specs.declared.Place.{Place}

-- what an ask says: the number before, the probe count and whether x stands in the table; or a refusal's number and
-- what it names
pub data NeighbourSaid : Type 0 where
  place : (before probes : ℕ) (stands : Bool) → NeighbourSaid
  refused : (number names : ℕ) → NeighbourSaid

-- what each answer says
unfoldable pub said_by_neighbour : Result Place Refusal → NeighbourSaid
said_by_neighbour (Ok p) = place p.before p.probes p.stands
said_by_neighbour (Err r) = refused (number r) (names r)

-- x stands in the table: the number before is below n, and the key there equals x
abbrev pub stands_at : List ℕ → ℕ → ℕ → Bool
stands_at T x c = ltb c (length T) && eqb (key_at T c) x

-- what the end of a walk after so many probes says
unfoldable pub told : List ℕ → ℕ → ℕ → Answer → NeighbourSaid
told T x probes (before c) = place c probes (stands_at T x c)
told T x probes spoiled = refused 6 0

-- what the walk says over a table, the cells of map 3, the two stores of bounds and the store of lengths
unfoldable pub walk_says : (T handles lefts rights lengths : List ℕ) → ℕ → ℕ → NeighbourSaid
walk_says T handles lefts rights lengths seed x =
    let w = store_walk T x (map_value handles (handle_count (length T)) seed) lefts rights lengths in
    told T x (length w.probed) w.answer
