-- What inner functions ask for, the tests of the entry passed.
use Rattle.std.specs.Prelude.{List, ℕ, ◌≤◌, length}
use Rattle.cells.specs.Cells.{cell_count}

-- a table and a bucket size within their limits, and room for the map of offsets. The limits of b stand here too, though
-- `Delimiters` has them: so the clause, and each law over it, is whole without the value that the table comes in
pub record Askable (keys : List ℕ) (b : ℕ) (offsets : List ℕ) : Type 0 where
  pub few : length keys ≤ 32768
  pub two : 2 ≤ b
  pub most : b ≤ 256
  pub offsets_long : cell_count (length keys) ≤ length offsets
