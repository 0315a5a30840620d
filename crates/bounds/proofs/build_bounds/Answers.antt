-- `bounds::build_bounds` meets its contract: the two passes write the splits' entries, and entry 0 comes last. Assumes
-- nothing.
use native.Mathlib.Omega.{arith}
use Rattle.std.proofs.Common.{◌∙◌, sym, length}
use Rattle.tables.specs.Inner.{listing}
use Rattle.splits.specs.Splits.{left_entry, right_entry}
use Rattle.splits.proofs.Parents.{left_root, right_root}
use Rattle.splits.proofs.Stores.{wrote_first}
use Rattle.bounds.proofs.build_bounds.Goals as goal

pub returns-clause-left_is : goal.returns-clause-left_is
returns-clause-left_is c =
    let T = listing c.args.rows.now in
    wrote_first c.args.rows.now.count (length T) (left_entry T) c.args.left.now c.fill_left.new.left
    c.root_of-r.result (omega arith) (omega arith) (omega arith) c.fill_left.auto.left
    (c.root_of-r.ensures.0 ∙ sym (left_root T)) c.fill_left.ensures

pub returns-clause-right_is : goal.returns-clause-right_is
returns-clause-right_is c =
    let T = listing c.args.rows.now in
    wrote_first c.args.rows.now.count (length T) (right_entry T) c.args.right.now c.fill_right.new.right 0
    (omega arith) (omega arith) (omega arith) c.fill_right.auto.right (sym (right_root T)) c.fill_right.ensures
