use Rattle.std.proofs.Common.{◌<◌, ◌≤◌}
use Rattle.tables.specs.Inner.{listing}
use Rattle.splits.specs.Splits.{left}
use Rattle.bounds.proofs.jump_left.Given as goal

-- j is one of the split's rows before it, so no jump passes the first of them
abbrev pub invariant-loop-j : goal.invariant-loop-j
invariant-loop-j l = (l.j < l.m) × (left (listing l.rows) l.m ≤ l.j)

abbrev pub decreases-loop-j : goal.decreases-loop-j
decreases-loop-j l = l.j
