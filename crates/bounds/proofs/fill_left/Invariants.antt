use Rattle.tables.specs.Inner.{listing}
use Rattle.splits.specs.Splits.{left_entry}
use Rattle.splits.specs.Inner.{Wrote}
use Rattle.bounds.proofs.fill_left.Given as goal

abbrev pub invariant-loop-m : goal.invariant-loop-m
invariant-loop-m l = Wrote 1 l.m (left_entry (listing l.rows)) l.initial.left l.left
