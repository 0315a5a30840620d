-- Document 01, "Neighbour index", and request Six: what an accepted build leaves of a neighbour index.
use Rattle.std.specs.Prelude.{◌≡◌, List, ℕ}
use Rattle.splits.specs.Splits.{left_store, right_store, length_store}
use Rattle.items.specs.Items.{handle_items, handle_splits}
use Rattle.maps.specs.Built.{Filled}
use Rattle.stores.specs.Stores.{Stores}

-- the stores of a neighbour index over a rising list T: map 3 leads from each handle to its split, `left` and `right`
-- hold the bounds of the splits, and `lengths` what len says of them; past their named lengths they are as they were
pub record NeighbourFilled (T : List ℕ) (seed : ℕ) (S S' : Stores) : Type 0 where
  pub handles : Filled seed (handle_items T) (handle_splits T) S.handles S'.handles
  pub left : S'.left ≡ left_store T S.left
  pub right : S'.right ≡ right_store T S.right
  pub lengths : S'.lengths ≡ length_store T S.lengths
