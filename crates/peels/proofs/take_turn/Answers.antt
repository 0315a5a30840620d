-- `peels::take_turn` meets its contract: the item of turn q is taken out, and then only its own cells can hold one that
-- is alone and has no turn. Assumes nothing.
use Rattle.std.proofs.Common.{sym, ◌∙◌, arith}
use Rattle.jams.proofs.Puts.{touch_below}
use Rattle.counts.proofs.Finding.{touches_as, put_as}
use Rattle.jams.proofs.Peeling.{turn_counted, taken_seen}
use Rattle.peels.proofs.Trying.{item_out, cell_tried, try_at, seen_three}
use Rattle.peels.proofs.take_turn.Goals as goal

pub take_item-requires : goal.take_item-requires
take_item-requires c =
    let found = rw c.from.ensures at c.cells_at-at.ensures in (
      found.spread,
      omega (arith, c.requires.0.long),
      λ k h. turn_counted c.requires.0.peeled c.requires.2 k (touch_below k found.spread h) (touches_as found h),
    )

pub try_cell-n1-requires : goal.try_cell-n1-requires
try_cell-n1-requires c =
    let found = rw c.from.ensures at c.cells_at-at.ensures in
    let out = item_out c.requires.0 c.requires.2 found c.take_item.ensures c.take_item.auto.work in
    let spread = found.spread in
    try_at c.cells_at-at.result.first out (omega arith)

pub try_cell-n2-requires : goal.try_cell-n2-requires
try_cell-n2-requires c =
    let found = rw c.from.ensures at c.cells_at-at.ensures in
    let out = item_out c.requires.0 c.requires.2 found c.take_item.ensures c.take_item.auto.work in
    let one = cell_tried out c.try_cell-n1.ensures c.try_cell-n1.auto.work in
    let spread = found.spread in
    try_at c.cells_at-at.result.second one (omega arith)

pub try_cell-requires : goal.try_cell-requires
try_cell-requires c =
    let found = rw c.from.ensures at c.cells_at-at.ensures in
    let out = item_out c.requires.0 c.requires.2 found c.take_item.ensures c.take_item.auto.work in
    let one = cell_tried out c.try_cell-n1.ensures c.try_cell-n1.auto.work in
    let two = cell_tried one c.try_cell-n2.ensures c.try_cell-n2.auto.work in
    let spread = found.spread in
    try_at c.cells_at-at.result.third two (omega arith)

pub returns : goal.returns
returns c =
    let found = rw c.from.ensures at c.cells_at-at.ensures in
    let put = put_as found c.take_item.ensures in
    let first = c.try_cell-n1.ensures in
    let second = c.try_cell-n2.ensures in
    let third = c.try_cell.ensures in
    let out = item_out c.requires.0 c.requires.2 found c.take_item.ensures c.take_item.auto.work in
    let one = cell_tried out first c.try_cell-n1.auto.work in
    let two = cell_tried one second c.try_cell-n2.auto.work in
    record {
      turn = cell_tried two third c.try_cell.auto.work;
      seen = seen_three found first second third
          (λ k l h. taken_seen c.requires.0.peeled c.requires.2 put k l h (c.requires.1 k l));
      beyond = λ k l.
          third.beyond k (omega arith) ∙ second.beyond k (omega arith) ∙ first.beyond k (omega arith)
          ∙ sym (put.rest k (omega arith));
    }
