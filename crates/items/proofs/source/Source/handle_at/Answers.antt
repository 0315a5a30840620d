-- `items::source::Source::handle_at` meets its contract: entry 0 of `left` is the root, so the split is the item's. Assumes nothing.
use native.Mathlib.Omega.{arith}
use Rattle.items.proofs.Handling.{delimiters_few, split_beside_told, split_bounded}
use Rattle.items.proofs.source.Source.handle_at.Goals as goal

pub split_at-requires : goal.split_at-requires
split_at-requires c =
    let a = c.args.self.now in
    let few = delimiters_few a.rows.b a.rows.keys.now a.left.now a.right.now c.requires.0 in
    (omega arith, omega arith)

pub handle_item-requires : goal.handle_item-requires
handle_item-requires c =
    let a = c.args.self.now in
    rw (c.split_at.ensures, split_beside_told a.rows.b a.rows.keys.now a.left.now a.right.now c.requires.0 c.args.i c.requires.1)
    (split_bounded a.rows.b a.rows.keys.now a.left.now a.right.now c.requires.0 c.args.i c.requires.1)

pub returns : goal.returns
returns c =
    let a = c.args.self.now in
    rw (c.split_at.ensures, split_beside_told a.rows.b a.rows.keys.now a.left.now a.right.now c.requires.0 c.args.i c.requires.1)
    at c.handle_item.ensures
