-- What inner functions of `call` ask for, the tests of the build passed, and what they leave.
use Rattle.std.specs.Prelude.{◌≡◌, List, ℕ, ◌≤◌, length, take, drop, Result}
use Rattle.cells.specs.Cells.{cell_count}
use Rattle.tables.specs.Lengths.{call_cells, call_work}
use Rattle.items.specs.Items.{Sorted, key_values, prefix_items, bucket_numbers}
use Rattle.maps.specs.Built.{Built}

-- a table in buckets, with room for both maps and the work of building them. The limits of b stand here too, though
-- `Delimiters` has them: so the clause, and each law over it, is whole without the value that the table comes in
pub record Buildable (keys : List ℕ) (b : ℕ) (cells work : List ℕ) : Type 0 where
  pub sorted : Sorted b keys
  pub cells_long : call_cells (length keys) b ≤ length cells
  pub work_long : call_work (length keys) ≤ length work

-- map 1 is built, or jammed
abbrev pub KeysBuilt : List ℕ → ℕ → ℕ → List ℕ → List ℕ → Result (Unit {0}) ℕ → List ℕ → List ℕ → Type 0
KeysBuilt keys b seed cells work answer cells' work' = Built seed keys (key_values b keys) cells work answer cells' work'

-- map 2 is built, or jammed, in the part from cell C(n) on, and the part before it is as it was
pub record PrefixesBuilt (keys : List ℕ) (b seed : ℕ) (cells work : List ℕ) (answer : Result (Unit {0}) ℕ)
    (cells' work' : List ℕ) : Type 0 where
  pub part : let c = cell_count (length keys) in Built seed (prefix_items b keys) (bucket_numbers b keys)
      (drop c cells) work answer (drop c cells') work'
  pub kept : let c = cell_count (length keys) in take c cells' ≡ take c cells
