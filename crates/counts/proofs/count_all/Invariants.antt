use Rattle.counts.specs.Inner.{ItemsCounted}
use Rattle.counts.proofs.count_all.Given as goal

abbrev pub invariant-loop-i : goal.invariant-loop-i
invariant-loop-i l = ItemsCounted l.map l.i l.initial.work l.work
