-- `places::walk_splits` meets its contract: the walk's tests in its order, and where x has the root's string the end of
-- the probes. Assumes nothing.
use Rattle.std.proofs.Common.{◌∙◌, arith}
use Rattle.std.proofs.lemmas.Grind.{common_steps}
use Rattle.walks.specs.Walk.{walk, store_walk}
use Rattle.places.specs.Said.{said_by_neighbour, told, walk_says}
use Rattle.places.proofs.Telling.{says_walk}
use Rattle.places.proofs.walk_splits.Goals as goal

pub returns-then-root-eq0 : goal.returns-then-root-eq0
unfolding said_by_neighbour told walk_says store_walk walk
returns-then-root-eq0 c = grind (arith, common_steps)

pub returns-then-agrees : goal.returns-then-agrees
returns-then-agrees c =
    c.decide.ensures
    ∙ says_walk _ _ _ _ _ _ _ (omega arith) (cc) (omega arith) (omega arith) (omega arith) (cc) c.descend-d.ensures (cc) (cc)

pub returns : goal.returns
unfolding told walk_says store_walk walk
returns c = grind (arith, common_steps)
