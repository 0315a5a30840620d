-- `call::build::build_prefixes` meets its contract: it builds map 2 in the part from cell C(n) on. Assumes nothing.
use Rattle.items.specs.Items.{items_of, values_of}
use Rattle.call.proofs.Joining.{prefixes_built, prefix_room}
use Rattle.call.proofs.build.build_prefixes.Goals as goal

pub build-requires : goal.build-requires
unfolding items_of
build-requires c = prefix_room c.requires c.cell_count-c.ensures.0

pub returns : goal.returns
unfolding items_of values_of
returns c = prefixes_built c.requires c.cell_count-c.ensures.0 c.build.ensures
