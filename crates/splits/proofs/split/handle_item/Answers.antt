-- `splits::split::handle_item` meets its contract: the parent's length is below the split's, so the range has a
-- 2-fattest number. Assumes nothing.
use mathlib.Core.Path.{◌∙◌}
use native.Mathlib.Omega.{arith}
use Rattle.tables.specs.Inner.{listing}
use Rattle.splits.proofs.Rows.{len_lt}
use Rattle.splits.proofs.Parents.{parent_shorter}
use Rattle.splits.proofs.Handles.{handle_by}
use Rattle.splits.proofs.split.handle_item.Goals as goal

pub fattest-f-requires : goal.fattest-f-requires
fattest-f-requires c =
    let s = c.before.before.before.before.before in
    let T = listing s.args.rows.now in
    let split = s.requires.0.rising.split in
    let table = s.requires.0.rising.table in
    omega (
      arith,
      parent_shorter T table s.args.m split.pos split.small s.requires.1,
      len_lt T table s.args.m split.pos split.small,
    )

pub prefix_item-requires : goal.prefix_item-requires
prefix_item-requires c =
    let s = c.before.before.before.before.before.before.before in
    let split = s.requires.0.rising.split in
    omega (
      arith,
      c.fattest-f.ensures.within,
      len_lt (listing s.args.rows.now) s.requires.0.rising.table s.args.m split.pos
          split.small,
    )

pub returns : goal.returns
returns c =
    let s = c.before.before.before.before.before.before.before.before in
    let split = s.requires.0.rising.split in
    let f = c.fattest-f in
    let F =
    rw (c.from.ensures, c.from-2.ensures, c.parent_len-q.ensures, c.len_at-l.ensures) at
    f.ensures in
    rw c.at.ensures at c.prefix_item.ensures
    ∙ handle_by (listing s.args.rows.now) s.requires.0.rising.table s.args.m split.pos
    split.small s.requires.1 f.result F
