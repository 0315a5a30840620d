-- What only the contracts of inner functions need: what a value of lent stores holds, and that a function leaves the
-- same slices in it.
use Rattle.std.specs.Prelude.{◌≡◌}
use Rattle.stores.specs.Stores as spec
use Rattle.stores.specs.declared.lent.Stores.{Stores}

-- what the slices hold
abbrev pub held : Stores → spec.Stores
held s = spec.lent s.cells.now s.handles.now s.left.now s.right.now s.work.now s.lengths.now

-- the slices are the caller's own still: none was exchanged for another
pub record SameStores (s s' : Stores) : Type 0 where
  pub cells : s'.cells.ghost_name ≡ s.cells.ghost_name
  pub handles : s'.handles.ghost_name ≡ s.handles.ghost_name
  pub left : s'.left.ghost_name ≡ s.left.ghost_name
  pub right : s'.right.ghost_name ≡ s.right.ghost_name
  pub work : s'.work.ghost_name ≡ s.work.ghost_name
  pub lengths : s'.lengths.ghost_name ≡ s.lengths.ghost_name
