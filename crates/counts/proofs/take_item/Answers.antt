-- `counts::take_item` meets its contract: put in again at its three cells, the item is where it was. Assumes nothing.
use Rattle.jams.proofs.Puts.{puts}
use Rattle.counts.proofs.take_item.Goals as goal

pub returns : goal.returns
returns c = puts c.requires.0 c.take_out-3.ensures c.take_out-2.ensures c.take_out.ensures
