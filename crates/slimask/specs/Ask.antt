-- Request One, with Six and Eight: asking x of the slim profile.
use Rattle.std.specs.Prelude.{Bool, cond, Option, None, Result, Ok, Err, List, ℕ, ◌+◌, ◌*◌, ltb, length}
use Rattle.refusals.specs.Numbers.{number, names}
use Rattle.refusals.specs.declared.Refusal.{Refusal}
use Rattle.cells.specs.Cells.{map_value}
use Rattle.tables.specs.Delimiters.{buckets, delimiters}
use Rattle.stores.specs.Judged.{ask_refused}
use Rattle.stores.specs.Stores.{Stores, sizes_beside}
use Rattle.outcomes.specs.Outcomes.{Told, row_says, told_by, marked}
use Rattle.places.specs.Said.{NeighbourSaid, walk_says}
use Rattle.places.specs.Said as walk
use Rattle.slimstores.specs.Sizes.{slim_ask_sizes}
use Rattle.slimask.specs.declared.SlimAnswer.{SlimAnswer}

-- what an ask says, in the documents' numbers: an outcome, and of the walk over the delimiters the number before, the
-- probe count and whether x is a delimiter; or a refusal and what it names
pub data SlimSaid : Type 0 where
  told : Told → (before probes : ℕ) (stands : Bool) → SlimSaid
  refused : (number names : ℕ) → SlimSaid

abbrev pub said_by_slim : Result SlimAnswer Refusal → SlimSaid
said_by_slim (Ok a) = told (told_by a.outcome) a.place.before a.place.probes a.place.stands
said_by_slim (Err r) = refused (number r) (names r)

-- the bucket of x is the number of delimiters smaller than x; if that is k, x is nowhere. The whole value of the map is
-- the offset: row = bucket × B + offset, and the table's key in that row decides
unfoldable pub bucket_says : List ℕ → ℕ → ℕ → List ℕ → ℕ → ℕ → Option ℕ
bucket_says keys b seed₁ offsets x bucket =
    cond (ltb bucket (buckets (length keys) b))
    (row_says keys (bucket * b + map_value offsets (length keys) seed₁ x) x) None

-- what the walk over the delimiters counts is the bucket; its answer is told beside the outcome, and its refusal as it
-- stands
unfoldable pub by_bucket : (keys bytes : List ℕ) → ℕ → ℕ → List ℕ → ℕ → NeighbourSaid → SlimSaid
by_bucket keys bytes b seed₁ offsets x (walk.place before probes stands) =
    told (marked bytes (bucket_says keys b seed₁ offsets x before)) before probes stands
by_bucket keys bytes b seed₁ offsets x (walk.refused number names) = refused number names

-- refusals 1, 2 and 4, of 1 offset cells, 2 handle cells, 3 left, 4 right, 6 lengths and 7 row bytes (the work is not
-- looked at); then the walk over the delimiters, which may give 6, and the row in the bucket that it counts
unfoldable pub slim_says : (keys bytes : List ℕ) → (b seed₁ seed₃ : ℕ) → Stores → ℕ → SlimSaid
slim_says keys bytes b seed₁ seed₃ S x =
    ask_refused refused (length keys) b (sizes_beside S bytes) (slim_ask_sizes (length keys) b)
    (by_bucket keys bytes b seed₁ S.cells x
    (walk_says (delimiters b keys) S.handles S.left S.right S.lengths seed₃ x))
