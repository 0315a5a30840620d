use Rattle.std.proofs.Common.{◌<◌, ◌≤◌, ◌-◌}
use Rattle.tables.specs.Inner.{listing}
use Rattle.splits.specs.Splits.{right}
use Rattle.bounds.proofs.jump_right.Given as goal

-- j is one of the split's rows after it or the row after the last of them, so no jump passes it
abbrev pub invariant-loop-j : goal.invariant-loop-j
invariant-loop-j l = (l.m < l.j) × (l.j ≤ right (listing l.rows) l.m)

abbrev pub decreases-loop-j : goal.decreases-loop-j
decreases-loop-j l = l.rows.count - l.j
