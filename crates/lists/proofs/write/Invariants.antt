-- All lines fit, the lines so far are put, and `at` is the place after them.
use Prim.Native.Nat.{◌≤◌, ◌+◌}
use mathlib.Core.List.{map}
use lib.ListN.{length, take}
use Rattle.std.proofs.Common.{Some}
use Rattle.digits.specs.Texts.{Writes}
use Rattle.lines.specs.Lines.{lines}
use Rattle.lists.proofs.write.Given as goal

abbrev pub invariant-loop-x : goal.invariant-loop-x
invariant-loop-x g l =
    (l.i + length (lines l.kind l.tag (map g.T.Word.value l.xs)) ≤ length l.initial.out)
    × Writes (lines l.kind l.tag (take l.x-index (map g.T.Word.value l.xs))) l.initial.out l.i l.out (Some l.at)
