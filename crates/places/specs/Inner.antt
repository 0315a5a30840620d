-- What only the contracts of inner functions need: bounds that fit a search, and what its walk says.
use Rattle.std.specs.Prelude.{List, ℕ, ◌≤◌, length}
use Rattle.tables.specs.Inner.{listing}
use Rattle.descent.specs.declared.search.Search.{Search}
use Rattle.places.specs.Said.{NeighbourSaid, walk_says}

-- the stores of the bounds have an entry for each delimiter
pub record Bounded (s : Search) (lefts rights : List ℕ) : Type 0 where
  pub lefts_long : s.rows.count ≤ length lefts
  pub rights_long : s.rows.count ≤ length rights

-- the walk over the search's delimiters and stores, with these bounds
abbrev pub search_says : Search → List ℕ → List ℕ → ℕ → NeighbourSaid
search_says s lefts rights x = walk_says (listing s.rows) s.handles.now lefts rights s.lengths.now s.seed x
