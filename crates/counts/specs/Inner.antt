-- A map that is being built, and what counting its items leaves.
use Rattle.std.specs.Prelude.{◌≡◌, List, ℕ, zero, suc, ◌+◌, ◌*◌, ◌≤◌, length, get_or}
use Rattle.words.specs.Inner.{mixed_hash}
use Rattle.cells.specs.Cells.{cell_of}
use Rattle.items.specs.Inner.{items_in}
use Rattle.counts.specs.declared.map.Map.{Map}
use Rattle.counts.specs.declared.Touched.{Touched}
use Rattle.jams.specs.Inner.Peel.{touchb}
use Rattle.jams.specs.Inner.Work.{CellsHold, Beyond, Peeled, Spread}

-- the hash of item i
abbrev pub hash_of : Map → ℕ → ℕ
hash_of map i = mixed_hash (get_or (items_in map.source) i 0) map.mixed

-- the cell that item i touches in segment j
abbrev pub graph : Map → ℕ → ℕ → ℕ
graph map j i = cell_of map.m j (hash_of map i)

-- three cells as those of any item
abbrev pub cells_of : Touched → ℕ → ℕ → ℕ
cells_of at zero i = at.first
cells_of at (suc zero) i = at.second
cells_of at (suc (suc j)) i = at.third

-- `at` is the three cells of item i
pub record CellsAt (e : ℕ → ℕ → ℕ) (cap i : ℕ) (at : Touched) : Type 0 where
  pub first : at.first ≡ e 0 i
  pub second : at.second ≡ e 1 i
  pub third : at.third ≡ e 2 i
  pub spread : Spread (cells_of at) cap i

-- work a, in which no item is counted, became b, in which the first i are
pub record ItemsCounted (map : Map) (i : ℕ) (a b : List ℕ) : Type 0 where
  pub holds : CellsHold i (3 * map.m) (λ c j. touchb (graph map) j c) b
  pub beyond : Beyond (6 * map.m) a b

-- n of the map's items have their turns, of which q are taken out, and the work is long enough for all of them
pub record AtTurn (map : Map) (work : List ℕ) (q n : ℕ) : Type 0 where
  pub long : 6 * map.m + 2 * map.t ≤ length work
  pub peeled : Peeled (graph map) map.t (3 * map.m) work q n
