-- `neighbour::build::build_stores` meets its contract: the bounds and the lengths are written, and map 3 is built over
-- the bounds. Assumes nothing.
use Rattle.std.proofs.Common.{refl}
use Rattle.tables.proofs.Delimiting.{delimiters_table}
use Rattle.items.specs.Items.{items_of, values_of}
use Rattle.neighbour.proofs.Storing.{handles_source, handles_room}
use Rattle.neighbour.proofs.build.build_stores.Goals as goal

pub build_bounds-requires : goal.build_bounds-requires
build_bounds-requires c =
    let r = c.requires in
    let rows = c.args.rows.now in
    record {
      table = delimiters_table rows.b rows.keys.now r.bucketed.some r.table;
      left_room = r.left_long;
      right_room = r.right_long;
    }

pub invariant_of-source : goal.invariant_of-source
invariant_of-source c =
    let b = c.build_bounds.ensures in
    record { sorted = λ other. absurd (other refl); bounded = λ is. handles_source c.requires b.left_is b.right_is }

pub build-requires : goal.build-requires
unfolding items_of
build-requires c = handles_room c.requires

pub returns : goal.returns
unfolding items_of values_of
returns c =
    let b = c.build_bounds.ensures in
    record { map₃ = c.build.ensures; lefts = b.left_is; rights = b.right_is; lens = c.build_lengths.ensures }
