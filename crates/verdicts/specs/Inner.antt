-- What only the contracts of inner functions need: what was judged before a build, what its maps leave before a jam is
-- cleared away, and the verdict on them.
use Rattle.std.specs.Prelude.{◌≡◌, Result, Ok, Err, List, ℕ, drop}
use Rattle.refusals.specs.Numbers.{BuildSaid, taken, jammed}
use Rattle.refusals.specs.declared.Jam.{Jam}
use Rattle.tables.specs.Tables.{Table}
use Rattle.stores.specs.Stores.{Stores, sizes_of, cleared_stores}
use Rattle.stores.specs.Judged as before
use Rattle.stores.specs.declared.Sizes.{Sizes}

-- refusals 1 to 4 of a build with the named lengths w do not apply, so the keys are a table
pub record Ready (keys : List ℕ) (b : ℕ) (w : Sizes) (S : Stores) : Type 0 where
  pub judged : before.judged keys b (sizes_of S) w ≡ taken
  pub table : Table keys

-- past the lengths w all stores are as they were
pub record Beyond (w : Sizes) (S S' : Stores) : Type 0 where
  pub cells : drop w.cells S'.cells ≡ drop w.cells S.cells
  pub handles : drop w.handles S'.handles ≡ drop w.handles S.handles
  pub left : drop w.left S'.left ≡ drop w.left S.left
  pub right : drop w.right S'.right ≡ drop w.right S.right
  pub work : drop w.work S'.work ≡ drop w.work S.work
  pub lengths : drop w.lengths S'.lengths ≡ drop w.lengths S.lengths

-- all maps are built; or one is the first that has a jam, and past their named lengths the stores are as they were
unfoldable pub Mapped : (w : Sizes) (Jams : (map size : ℕ) → Type 0) (Jamless : Type 0) (Filled : Stores → Type 0)
    → Stores → Result (Unit {0}) Jam → Stores → Type 0
Mapped w Jams Jamless Filled S (Ok built) S' = Jamless × Filled S'
Mapped w Jams Jamless Filled S (Err j) S' = Jams j.map j.size × Beyond w S S'

-- the verdict: maps that are built are accepted as they stand, and a jam is told and leaves all stores 0 over the
-- lengths w
unfoldable pub Settled : (w : Sizes) → Result (Unit {0}) Jam → Stores → BuildSaid → Stores → Type 0
Settled w (Ok built) S said S' = (said ≡ taken) × (S' ≡ S)
Settled w (Err j) S said S' = (said ≡ jammed j.map j.size) × (S' ≡ cleared_stores w S)
