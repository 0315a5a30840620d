-- `counts::put_item` meets its contract: the item is put in at its three cells. Assumes nothing.
use Rattle.jams.proofs.Puts.{puts}
use Rattle.counts.proofs.put_item.Goals as goal

pub returns : goal.returns
returns c = puts c.requires.0 c.put_in.ensures c.put_in-2.ensures c.put_in-3.ensures
