-- The contract of the lines passed.
use Rattle.std.proofs.Common.{Some}
use Rattle.lines.specs.Lines.{line, Lined}
use Rattle.lists.proofs.lines_end.Given as goal

abbrev pub invariant-loop-k : goal.invariant-loop-k
invariant-loop-k l = Lined l.most (line l.kind l.tag) l._k l.s l.i (Some l.at)
