use Rattle.tables.specs.Inner.{listing}
use Rattle.splits.specs.Splits.{length_entry}
use Rattle.splits.specs.Inner.{Wrote}
use Rattle.lengths.proofs.build_lengths.Given as goal

abbrev pub invariant-loop-m : goal.invariant-loop-m
invariant-loop-m l = Wrote 1 l.m (length_entry (listing l.rows)) l.initial.lengths l.lengths
