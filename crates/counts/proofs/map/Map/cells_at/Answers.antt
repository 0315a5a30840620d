-- `counts::map::Map::cells_at` meets its contract: one cell of the hash in each segment. Assumes nothing.
use Rattle.counts.specs.Inner.{hash_of}
use Rattle.counts.proofs.Finding.{cells_found}
use Rattle.counts.proofs.map.Map.cells_at.Goals as goal

pub returns : goal.returns
returns c =
    let map = c.args.self.now in
    cells_found map.m (hash_of map) c.args.i c.hash_at-h.result _ map.fits c.hash_at-h.ensures
    c.cell_from.ensures.0 c.cell_from-2.ensures.0 c.cell_from-3.ensures.0
