-- `call::build::build_keys` meets its contract: it builds map 1 of the table. Assumes nothing.
use native.Mathlib.Omega.{arith}
use Rattle.items.specs.Items.{items_of, values_of}
use Rattle.call.proofs.build.build_keys.Goals as goal

pub build-requires : goal.build-requires
unfolding items_of
build-requires c =
    let P = c.requires in record { for_cells = omega (arith, P.cells_long); for_work = P.work_long }

pub returns : goal.returns
unfolding items_of values_of
returns c = c.build.ensures
