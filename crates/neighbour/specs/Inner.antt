-- What only the contracts of inner functions need: what the stores can be built into, and what is built.
use Rattle.std.specs.Prelude.{◌≡◌, Result, List, ℕ, ◌≤◌, length}
use Rattle.cells.specs.Cells.{work_count}
use Rattle.tables.specs.Tables.{Table}
use Rattle.tables.specs.Delimiters.{delimiters, Bucketed}
use Rattle.tables.specs.Lengths.{handle_count, handle_cells}
use Rattle.splits.specs.Splits.{left_store, right_store, length_store}
use Rattle.items.specs.Items.{handle_items, handle_splits}
use Rattle.maps.specs.Built.{Built}

-- a table whose delimiters are counted, and stores and work with room for them. The limits of b stand here too, though
-- `Delimiters` has them: so the clause, and each law over it, is whole without the value that the table comes in
pub record Storable (b : ℕ) (keys handles left right work lengths : List ℕ) : Type 0 where
  pub table : Table keys
  pub bucketed : Bucketed b keys
  pub handles_long : handle_cells (length (delimiters b keys)) ≤ length handles
  pub left_long : length (delimiters b keys) ≤ length left
  pub right_long : length (delimiters b keys) ≤ length right
  pub work_long : work_count (handle_count (length (delimiters b keys))) ≤ length work
  pub lengths_long : length (delimiters b keys) ≤ length lengths

-- the bounds and the lengths of the splits of T are written, and map 3 is built, or jammed
pub record StoresBuilt (T : List ℕ) (seed : ℕ) (handles left right work lengths : List ℕ) (answer : Result (Unit {0}) ℕ)
    (handles' left' right' work' lengths' : List ℕ) : Type 0 where
  pub map₃ : Built seed (handle_items T) (handle_splits T) handles work answer handles' work'
  pub lefts : left' ≡ left_store T left
  pub rights : right' ≡ right_store T right
  pub lens : lengths' ≡ length_store T lengths
