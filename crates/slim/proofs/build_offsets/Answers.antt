-- `slim::build_offsets` meets its contract: it builds the map of the offsets. Assumes nothing.
use Rattle.items.specs.Items.{items_of, values_of}
use Rattle.slim.proofs.build_offsets.Goals as goal

pub build-requires : goal.build-requires
unfolding items_of
build-requires c = c.requires.1

pub returns : goal.returns
unfolding items_of values_of
returns c = c.build.ensures
