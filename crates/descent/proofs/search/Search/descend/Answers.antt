-- `descent::search::Search::descend` meets its contract. The loop's invariant: what is left of the walk from here, with the probes
-- made, is the walk from the root. The measure is what is left of 64 turns. Assumes nothing.
use Rattle.std.proofs.Common.{arith}
use Rattle.descent.proofs.Steps.{going_end}
use Rattle.descent.proofs.search.Search.descend.Goals as goal

pub returns : goal.returns
returns c = going_end c.loop-at.invariant (omega arith)
