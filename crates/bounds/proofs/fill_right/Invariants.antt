use Rattle.std.proofs.Common.{◌≤◌}
use Rattle.tables.specs.Inner.{listing}
use Rattle.splits.specs.Splits.{right_entry}
use Rattle.splits.specs.Inner.{Wrote}
use Rattle.bounds.proofs.fill_right.Given as goal

abbrev pub invariant-loop-m : goal.invariant-loop-m
invariant-loop-m l = record {
  some : 1 ≤ l.m;
  wrote : Wrote l.m l.rows.count (right_entry (listing l.rows)) l.initial.right l.right;
}
