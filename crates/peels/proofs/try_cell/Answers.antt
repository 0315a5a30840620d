-- `peels::try_cell` meets its contract: where the cell has one item left with no turn, the two stores are those of the
-- law `tried_turn`. Assumes nothing.
use Rattle.jams.proofs.Peeling.{tried_turn}
use Rattle.peels.proofs.try_cell.Goals as goal

pub returns : goal.returns
returns c =
    let free = rw c.from.ensures at c.if-work-y-ne0.false in
    rw c.from.ensures (tried_turn c.args.c c.requires c.if-work-c-ne1.false free)
