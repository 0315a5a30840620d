-- What filling leaves.
use Rattle.std.specs.Prelude.{List, ℕ, ◌*◌, get_or, set}
use Rattle.items.specs.Inner.{values_in}
use Rattle.jams.specs.Inner.Work.{Beyond, turn_item, turn_cell}
use Rattle.jams.specs.Inner.Fill.{fix, Valued, Clean}
use Rattle.counts.specs.Inner.{graph}
use Rattle.counts.specs.declared.map.Map.{Map}

-- the wanted value of item i
abbrev pub wanted : Map → ℕ → ℕ
wanted map i = get_or (values_in map.source) i 0

-- the cells with the value of turn p's item set by a store at that turn's cell
abbrev pub fixed : Map → List ℕ → List ℕ → ℕ → List ℕ
fixed map work cells p =
    let i = turn_item (3 * map.m) map.t work p in
    let c = turn_cell (3 * map.m) map.t work p in
    set cells c (fix (graph map) cells i c (wanted map i))

-- cells a became b, in which each item has its value
pub record FilledAll (map : Map) (a b : List ℕ) : Type 0 where
  pub valued : Valued (graph map) map.t (wanted map) b
  pub clean : Clean (graph map) map.t (3 * map.m) b
  pub beyond : Beyond (3 * map.m) a b
