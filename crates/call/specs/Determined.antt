-- What is left free in the call cells of an accepted build: which fitting filling is written.
use Rattle.std.specs.Prelude.{List, ℕ, length, take, drop}
use Rattle.cells.specs.Cells.{cell_count}
use Rattle.items.specs.Items.{prefix_items}
use Rattle.maps.specs.Determined.{Alike}

-- two stores that answer every item of both maps alike, and agree on every other cell
pub record CallAlike (keys : List ℕ) (b seed₁ seed₂ : ℕ) (cells cells' : List ℕ) : Type 0 where
  pub map₁ : let c = cell_count (length keys) in Alike seed₁ keys (take c cells) (take c cells')
  pub map₂ : let c = cell_count (length keys) in Alike seed₂ (prefix_items b keys) (drop c cells) (drop c cells')
