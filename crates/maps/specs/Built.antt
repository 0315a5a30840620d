-- Document 01, "Static maps" and "Refusal numbers": what a build of one map answers and leaves in lent memory.
use Rattle.std.specs.Prelude.{◌≡◌, List, ℕ, ◌≤◌, ◌<◌, length, get_or, drop, Result, OnOk, IfErr}
use Rattle.cells.specs.Cells.{cell_count, work_count, map_value}
use Rattle.cells.specs.Memory.{cleared}
use Rattle.items.specs.Items.{items_of, values_of}
use Rattle.items.specs.declared.Items.{Items}
use Rattle.jams.specs.Jam.{Touches, touch, Jamless, LargestJam}

-- the lent memory has the named lengths
pub record Room (items cells work : List ℕ) : Type 0 where
  pub for_cells : cell_count (length items) ≤ length cells
  pub for_work : work_count (length items) ≤ length work

-- the cells of an accepted build: each item's value is the wanted one, a cell that no item touches is 0, and the cells
-- from C(t) on are as they were
pub record Filled (seed : ℕ) (items values before after : List ℕ) : Type 0 where
  pub valued : (i : ℕ) → i < length items → map_value after (length items) seed (get_or items i 0) ≡ get_or values i 0
  pub untouched : (c : ℕ) → c < cell_count (length items)
      → ((i : ℕ) → i < length items → Touches (touch seed items) i c → ⊥) → get_or after c 0 ≡ 0
  pub beyond : drop (cell_count (length items)) after ≡ drop (cell_count (length items)) before
  pub long : length after ≡ length before

-- a build of the map from items to values: it accepts, or refuses with the size of the largest jam; the work is cleared
-- either way
pub record Built (seed : ℕ) (items values cells work : List ℕ) (answer : Result (Unit {0}) ℕ)
    (cells' work' : List ℕ) : Type 0 where
  pub accepted : OnOk answer (Jamless seed items × Filled seed items values cells cells')
  pub refused : IfErr answer
      (λ size. LargestJam seed items size × (cells' ≡ cleared (cell_count (length items)) cells))
  pub swept : work' ≡ cleared (work_count (length items)) work

-- the same for the items and values that `which` names of a table T in buckets of b rows
abbrev pub MapBuilt : Items → ℕ → ℕ → List ℕ → List ℕ → List ℕ → Result (Unit {0}) ℕ → List ℕ → List ℕ → Type 0
MapBuilt which b seed T cells work answer cells' work' =
    Built seed (items_of which b T) (values_of which b T) cells work answer cells' work'
