-- What inner functions ask for, the tests of the entry passed.
use Rattle.std.specs.Prelude.{List, ℕ, ◌≤◌, length}
use Rattle.tables.specs.Lengths.{call_cells}

-- sizes that fit
pub record Askable (keys : List ℕ) (b : ℕ) (cells : List ℕ) : Type 0 where
  pub few : length keys ≤ 32768
  pub two : 2 ≤ b
  pub most : b ≤ 256
  pub cells_long : call_cells (length keys) b ≤ length cells
