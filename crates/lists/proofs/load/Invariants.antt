-- The contract of the k lines loaded.
use mathlib.Core.List.{map}
use Rattle.std.proofs.Common.{Some}
use Rattle.lines.specs.Lines.{line, Loads}
use Rattle.lists.proofs.load.Given as goal

abbrev pub invariant-loop-k : goal.invariant-loop-k
invariant-loop-k g l =
    Loads l.limit (line l.kind l.tag) l.k l.s l.i (map g.T.Word.value l.initial.out)
    (map g.T.Word.value l.out) (Some l.at)
