use Rattle.std.proofs.Common.{◌+◌, ◌-◌}
use Rattle.tables.specs.Inner.{listing}
use Rattle.descent.specs.Inner.{handle_value, lens_in}
use Rattle.descent.proofs.Steps.{Going}
use Rattle.descent.proofs.search.Search.descend.Given as goal

abbrev pub invariant-loop-at : goal.invariant-loop-at
invariant-loop-at l =
    Going (listing l.self.rows) (lens_in l.self) l.x (handle_value l.self l.x) l.root l.at.node l.at.lower (l.at.last + 1) l.probes

abbrev pub decreases-loop-at : goal.decreases-loop-at
decreases-loop-at l = 64 - l.probes
