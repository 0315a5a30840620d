-- Document 01, "The walk" and "Refusal numbers and their order", with request Six: what a neighbour ask says, in the
-- document's numbers. What an answer says, and what the walk says over a table and stores of fitting sizes, stands in
-- places/specs/Said.antt and is handed on.
use Rattle.std.specs.Prelude.{cond, List, [], ℕ, ltb, length}
use Rattle.tables.specs.Tables.{most_keys}
use Rattle.stores.specs.Sizes.{short_store, neighbour_sizes}
use Rattle.stores.specs.Stores.{asked, sizes_of}
pub use Rattle.places.specs.Said.{NeighbourSaid, place, refused, stands_at}
unfoldable pub use Rattle.places.specs.Said.{said_by_neighbour, told, walk_says}

-- what an ask says, whatever it is given: refusal 1, refusal 4 with the first store that is too short, and then the
-- walk, which may give 6
unfoldable pub neighbour_says : (keys handles lefts rights lengths : List ℕ) → ℕ → ℕ → NeighbourSaid
neighbour_says keys handles lefts rights lengths seed x =
    let short = short_store (sizes_of (asked [] handles lefts rights lengths)) (neighbour_sizes (length keys)) in
    cond (ltb most_keys (length keys)) (refused 1 0)
    (cond (ltb 0 short) (refused 4 short) (walk_says keys handles lefts rights lengths seed x))
