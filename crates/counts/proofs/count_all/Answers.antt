-- `counts::count_all` meets its contract: each turn counts one more item. Assumes nothing.
use Rattle.std.proofs.Common.{arith}
use Rattle.jams.proofs.Puts.{touch_below}
use Rattle.counts.proofs.Finding.{put_as}
use Rattle.counts.proofs.Counting.{counted_none, counted_few, counted_more}
use Rattle.counts.proofs.count_all.Goals as goal

pub loop-i-init : goal.loop-i-init
loop-i-init c = counted_none c.args.map.now c.args.work.now c.requires

pub put_item-requires : goal.put_item-requires
put_item-requires c =
    let found = c.cells_at-at.ensures in
    let few = c.args.map.now.few in (
      found.spread,
      omega arith,
      λ k h. counted_few c.loop-i.invariant k (touch_below k found.spread h) (omega arith),
    )

pub loop-i-preserved : goal.loop-i-preserved
loop-i-preserved c = counted_more c.loop-i.invariant (put_as c.cells_at-at.ensures c.put_item.ensures)
