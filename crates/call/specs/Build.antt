-- Document 01, "Call index": what an accepted build leaves in the call cells.
use Rattle.std.specs.Prelude.{List, ℕ, length, take, drop}
use Rattle.cells.specs.Cells.{cell_count}
use Rattle.items.specs.Items.{key_values, prefix_items, bucket_numbers}
use Rattle.maps.specs.Built.{Filled}

-- one store holds both maps: map 1 the part before cell C(n), map 2 the part from C(n) on; past its named length the
-- store is as it was
pub record CallFilled (keys : List ℕ) (b seed₁ seed₂ : ℕ) (cells cells' : List ℕ) : Type 0 where
  pub map₁ : let c = cell_count (length keys) in Filled seed₁ keys (key_values b keys) (take c cells) (take c cells')
  pub map₂ : let c = cell_count (length keys) in
      Filled seed₂ (prefix_items b keys) (bucket_numbers b keys) (drop c cells) (drop c cells')
