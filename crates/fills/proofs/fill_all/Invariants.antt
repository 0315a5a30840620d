use Rattle.fills.proofs.Filling.{FilledFrom}
use Rattle.fills.proofs.fill_all.Given as goal

abbrev pub invariant-loop-p : goal.invariant-loop-p
invariant-loop-p l = FilledFrom l.map l.work l.p l.initial.cells l.cells
