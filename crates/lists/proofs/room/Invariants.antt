-- `left` is what the lines so far leave of the room.
use Prim.Native.Nat.{◌+◌}
use mathlib.Core.List.{map}
use mathlib.Core.Path.{◌≡◌}
use lib.ListN.{length, take}
use Rattle.lines.specs.Lines.{lines}
use Rattle.lists.proofs.room.Given as goal

abbrev pub invariant-loop-x : goal.invariant-loop-x
invariant-loop-x g l =
    l.left + length (lines l.kind l.tag (take l.x-index (map g.T.Word.value l.xs))) ≡ l.room
