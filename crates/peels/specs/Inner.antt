-- What peeling leaves.
use Rattle.std.specs.Prelude.{List, ℕ, ◌+◌, ◌*◌}
use Rattle.jams.specs.Inner.Work.{Beyond, AllSeen}
use Rattle.counts.specs.Inner.{AtTurn}
use Rattle.counts.specs.declared.map.Map.{Map}

-- work a became b, in which n items have their turns, of which q are taken out, and no other is left alone at a cell
pub record Queued (map : Map) (a b : List ℕ) (q n : ℕ) : Type 0 where
  pub turn : AtTurn map b q n
  pub seen : AllSeen (3 * map.m) b
  pub beyond : Beyond (6 * map.m + 2 * map.t) a b
