-- `slim::build_maps` meets its contract: what was judged has room for both maps. Assumes nothing.
use Rattle.slim.proofs.Building.{offsets_buildable, storable_delimiters}
use Rattle.slim.proofs.build_maps.Goals as goal

pub build_offsets-requires : goal.build_offsets-requires
build_offsets-requires c = offsets_buildable c.requires

pub build_stores-requires : goal.build_stores-requires
build_stores-requires c = storable_delimiters c.requires c.build_offsets.auto.work
